-- A turn of the store between its two marks, whatever it is about.
use Rattle.std.proofs.Common.{◌≡◌, zero, suc, ◌+◌, ◌-◌, ◌^◌, ◌<◌, ◌++◌, cond, eqb, eqb-true, leb, map, min, Option, ⊎_elim, ℕ, ◌≤◌, ◌⊎◌, inl, inr, Bool, true, false, List, [], ◌∷◌, length, Some, None, sym, refl, ap, ◌∙◌, subst, arith}
use Rattle.std.specs.Prelude.{Err, IsTrue, Result, drop}
use native.Mathlib.Decide.{dec_le}
use Rattle.std.proofs.lemmas.Bool.{leb-false}
use Rattle.std.proofs.lemmas.List.{append_assoc, length-append, map-append}
use Rattle.ufs_disk.specs.Disk.{IsWhole, State}
use Rattle.ufs_disk.specs.Moments.{Moments, all}
use Rattle.ufs_model.specs.declared.data.Entry.{Entry}
use Rattle.ufs_hand_laws.specs.Owned.{Has, one, times}
use Rattle.ufs_hand_laws.specs.Parts.{Cells, Stretch}
use Rattle.ufs_hand_laws.proofs.Owning.{has_append, none_some, same_some}
use Rattle.ufs_store.specs.Refusals.{IsTold, fault_in, stop_after}
use Rattle.ufs_store.specs.State.{StoreState, geometry_of_store}
use Rattle.ufs_store.specs.declared.fault.StoreFault.{StoreFault}
use Rattle.ufs_store.specs.declared.fault.StoreFault.TheVariants as refusal
use Rattle.ufs_store_steps.specs.Cells.{cells_of}
use Rattle.ufs_promise_laws.specs.Parts.{Parts}
use Rattle.ufs_joint.specs.Cells.{Start, StoreCell, View, store_since}
use Rattle.ufs_joint.specs.Disks.{cell_of, states_behind}
use Rattle.ufs_joint.specs.Faults.{IsStopSince}
use Rattle.ufs_joint.specs.FileHands.{IsAsBegun, LeavesStore, WentOn}
use Rattle.ufs_promise_laws.specs.Known.{Known}
use Rattle.ufs_joint.specs.Known.{Knows}
use Rattle.ufs_joint.specs.Turns.{AreFaultsTold, begun_at, rested, turn_begun}
use Rattle.ufs_joint.proofs.Disks.{drop_behind, store_as_cell}
use Rattle.ufs_turns.specs.HeldStore.{AreRepeated, IsPassed, IsStoreIn, begun_in, begun_view, counted_in, state_in, states_in}
use Rattle.ufs_turns.specs.Told.{fault_told, told_list}
use Rattle.ufs_turns.proofs.Repeated.{ends_mapped, ends_so, goes_on_so}

drop_within : {A : Type 0} (n : ℕ) (xs ys : List A) → n ≤ length xs → drop n (xs ++ ys) ≡ drop n xs ++ ys
drop_within zero xs ys low = refl
drop_within (suc n) [] ys low = absurd (omega (arith, low))
drop_within (suc n) (x ∷ xs) ys low = drop_within n xs ys (omega (arith, low))

-- ---- faults

-- The faults that a call told are new.
told_once : (n fault : ℕ) → times n (fault ∷ []) ≤ 1
told_once n fault = by (eqb n fault)
  where
    by : (b : Bool) → one b + 0 ≤ 1
    by true = omega arith
    by false = omega arith

told_is : (n fault : ℕ) → 1 ≤ times n (fault ∷ []) → n ≡ fault
told_is n fault l = by (eqb n fault) refl l
  where
    by : (b : Bool) → eqb n fault ≡ b → 1 ≤ one b + 0 → n ≡ fault
    by true is l = eqb-true n fault is
    by false is l = absurd (omega (arith, l))

-- The store stopped where it had before, or by the call that is told.
module _ (was left : StoreCell) where
  abbrev StopsBy : Option ℕ → Type 0
  StopsBy told = (n : ℕ) → left.stop ≡ Some n → (was.stop ≡ Some n) ⊎ (told ≡ Some n)

  stop_now : (m n : ℕ) → IsTold was.faults left.faults (Some m) → m ≡ n → IsStopSince was.faults left.faults n
  stop_now m n cause same = record { rose = by (dec_le (2 ^ 64 - 1) m); counted = (let b = cause.number in omega (arith, b, same)); within = (let a = cause.rose in let b = cause.number in omega (arith, a, b, same)) }
    where
      by : Dec (2 ^ 64 - 1 ≤ m) → (was.faults < n) ⊎ (n ≡ 2 ^ 64 - 1)
      by (yes l) = inr (let a = cause.rose in let b = cause.number in omega (arith, a, b, l, same))
      by (no l) = inl (let a = cause.rose in let b = cause.number in omega (arith, a, b, l, same))

  faults_told : (told : Option ℕ) → IsTold was.faults left.faults told → ((n : ℕ) → was.stop ≡ Some n → left.stop ≡ Some n) → StopsBy told → AreFaultsTold was left (told_list (fault_told told))
  faults_told None cause stops halts = record {
    rise = omega (arith, cause);
    once = λ n. omega arith;
    new = λ n l. absurd (omega (arith, l));
    stopped = stops;
    halts = λ n is. ⊎_elim (λ had. inl had) (λ none. absurd (none_some n none)) (halts n is);
  }
  faults_told (Some m) cause stops halts = by (leb (2 ^ 64 - 1) m) refl
    where
      rise : min was.faults (2 ^ 64 - 1) ≤ left.faults
      rise = let a = cause.rose in omega (arith, a)

      halts_now : (n : ℕ) → left.stop ≡ Some n → (was.stop ≡ Some n) ⊎ IsStopSince was.faults left.faults n
      halts_now n is = ⊎_elim (λ had. inl had) (λ (told : Some m ≡ Some n). inr (stop_now m n cause (same_some m n told))) (halts n is)

      by : (b : Bool) → leb (2 ^ 64 - 1) m ≡ b → AreFaultsTold was left (told_list (cond b None (Some m)))
      by true is = record { rise = rise; once = λ n. omega arith; new = λ n l. absurd (omega (arith, l)); stopped = stops; halts = halts_now }
      by false is = record { rise = rise; once = λ n. told_once n m; new = new_one; stopped = stops; halts = halts_now }
        where
          below : m < 2 ^ 64 - 1
          below = leb-false (2 ^ 64 - 1) m is

          new_one : (n : ℕ) → 1 ≤ times n (m ∷ []) → (was.faults < n) × (n ≤ left.faults) × (n < 2 ^ 64 - 1)
          new_one n l = let a = told_is n m l in let b = cause.rose in let c = cause.number in let d = below in (omega (arith, a, b, c, d), omega (arith, a, c), omega (arith, a, d))

-- So it is where it stopped behind the call as `stop_after` says, or stayed.
pub stop_from : (before told : Option ℕ) (n : ℕ) → stop_after before told ≡ Some n → (before ≡ Some n) ⊎ (told ≡ Some n)
stop_from None told n is = inr is
stop_from (Some fault) told n is = inl is

-- A fault that is told is the one by which the call failed.
told_in : (o : Option ℕ) (n : ℕ) → fault_told o ≡ Some n → o ≡ Some n
told_in None n is = absurd (none_some n is)
told_in (Some m) n is = by (leb (2 ^ 64 - 1) m) is
  where
    by : (b : Bool) → cond b None (Some m) ≡ Some n → Some m ≡ Some n
    by true none = absurd (none_some n none)
    by false some = some

-- The store stopped at the fault that a commit tells: one that had stopped before tells none.
pub stop_told : {A : Type 0} (before behind : Option ℕ) (r : Result A StoreFault) (n : ℕ) → behind ≡ stop_after before (fault_in r) → ((fault : ℕ) → before ≡ Some fault → r ≡ Err (refusal.Stopped fault)) → fault_told (fault_in r) ≡ Some n → behind ≡ Some n
stop_told None behind r n halts halted told = halts ∙ told_in (fault_in r) n told
stop_told {A} (Some fault) behind r n halts halted told = absurd (none_some n (sym (ap (λ (q : Result A StoreFault). fault_told (fault_in q)) (halted fault refl)) ∙ told))

-- Of a disk that keeps its moments each state that it passed is noted.
all_noted : (keeps : Bool) → IsTrue keeps → (xs : List Cells) → cond keeps xs [] ≡ xs
all_noted keeps kept xs = ap (λ (b : Bool). cond b xs []) kept

-- ---- between the marks

module _ (k : Start) (origin : Moments) (visible keeps : Bool) (n : ℕ) (v w : View) (s t : StoreState) (knows : Knows k n v) (home : IsStoreIn k origin visible keeps v s) (begun : w ≡ begun_view v n) where
  -- the store's cell before the turn
  abbrev c : StoreCell
  c = cell_of home.stamp home.past s

  -- as it begins
  abbrev was : StoreCell
  was = begun_at n (cell_of home.stamp home.past s)

  abbrev past : List Stretch
  past = rested n (cell_of home.stamp home.past s) ∷ home.past

  abbrev left : StoreCell
  left = cell_of n (rested n (cell_of home.stamp home.past s) ∷ home.past) t

  abbrev u : View
  u = turn_begun n (cell_of home.stamp home.past s) v

  abbrev passed : List Cells
  passed = cond keeps (states_behind (begun_at n (cell_of home.stamp home.past s)).counted t) []

  pub begun_is : w ≡ u
  begun_is = begun ∙ ap (λ (cs : List (Unit {0} × StoreCell)). begun_in cs v n) home.has

  module _ (whole_before : IsTrue visible → IsWhole s.sectors s.moments.state) (whole_behind : IsTrue visible → IsWhole t.sectors t.moments.state) (geometry : geometry_of_store t ≡ geometry_of_store s) (sectors : t.sectors ≡ s.sectors) where
    pub before_is : k.is_visible ≡ true → s ≡ store_since s.moments.earlier was
    before_is seen = sym (store_as_cell n past s (whole_before (home.sees seen)))

    pub behind_is : k.is_visible ≡ true → t ≡ store_since t.moments.earlier left
    behind_is seen = sym (store_as_cell n past t (whole_behind (home.sees seen)))

    pub left_so : (told : Option ℕ) → IsTold s.faults t.faults told → ((n : ℕ) → s.stop ≡ Some n → t.stop ≡ Some n) → ((n : ℕ) → t.stop ≡ Some n → (s.stop ≡ Some n) ⊎ (told ≡ Some n)) → LeavesStore keeps k.is_visible was left s.moments.earlier t.moments.earlier passed (told_list (fault_told told))
    left_so told cause stops halts = record {
      told_so = faults_told was left told cause stops halts;
      went = λ seen. (λ i. cond keeps (states_behind (length (all (before_is seen i).moments)) (behind_is seen i)) []);
      geometry = geometry;
      sectors = sectors;
      stamp = refl;
      past = refl;
    }

    -- as the turn begins, of a visible disk
    pub as_begun : (seen : k.is_visible ≡ true) → (history : List Entry) × (p : Parts) × (known : Known) × IsAsBegun u was k.tree history p known
    as_begun seen =
        let d = knows.disk seen tt c (subst (Has (tt, c)) (sym home.has) (inl refl)) in
        let n = d.knows in (
          knows.history,
          d.parts,
          d.known,
          record {
            cells = record { files = d.cells.files; names = d.cells.names };
            knows = record { files = n.files; born = n.born; named = n.named; names = n.names; files_told = n.files_told; names_told = n.names_told };
            kept = d.kept;
          },
        )

    pub went : k.is_visible ≡ true → WentOn (store_since s.moments.earlier was) (store_since t.moments.earlier left) → WentOn s t
    went seen on = (on.0, ap (λ (q : StoreState). all q.moments) (behind_is seen) ∙ on.1 ∙ ap (λ (q : StoreState). all q.moments ++ on.0) (sym (before_is seen)))

  abbrev first : ℕ
  first = counted_in k.view.store

  abbrev ran : ℕ → Stretch
  ran m = record { states = cond keeps (states_behind (length (all s.moments)) t) []; from = n; to = m }

  -- the store's cell is the store again, behind what the turn passed
  pub store_then : (m : ℕ) (z : View) → z.store ≡ (tt, cell_of n (record { states = cond keeps (states_behind (length (all s.moments)) t) []; from = n; to = m } ∷ rested n (cell_of home.stamp home.past s) ∷ home.past) t) ∷ [] → geometry_of_store t ≡ geometry_of_store s → t.sectors ≡ s.sectors → (k.is_visible ≡ true → IsTrue keeps → WentOn s t)
      → IsStoreIn k origin visible keeps z t
  store_then m z has_store geometry sectors on = record {
    stamp = n;
    past = ran m ∷ past;
    has = has_store;
    sees = home.sees;
    formed = geometry ∙ home.formed;
    size = sectors ∙ home.size;
    grown = λ seen kept. (let a = home.grown seen kept in let b = on seen kept in (a.0 ++ b.0, b.1 ∙ ap (λ (q : List State). q ++ b.0) a.1 ∙ append_assoc (all origin) a.0 b.0));
    since = λ seen kept. (let a = home.since seen kept in let b = ap length (on seen kept).1 in let d = length-append (all s.moments) (on seen kept).0 in omega (arith, a, b, d));
    covers = covers;
    passes = passes;
  }
    where
      parts : (seen : k.is_visible ≡ true) (kept : IsTrue keeps) → states_behind first t ≡ map (cells_of s.sectors) (drop first (all s.moments)) ++ map (cells_of s.sectors) (on seen kept).0
      parts seen kept =
          (λ i. map (cells_of (sectors i)) (drop first ((on seen kept).1 i))) ∙ ap (map (cells_of s.sectors)) (drop_within first (all s.moments) (on seen kept).0 (home.since seen kept))
          ∙ map-append (cells_of s.sectors) (drop first (all s.moments)) (on seen kept).0

      ran_has : (seen : k.is_visible ≡ true) (kept : IsTrue keeps) → map (cells_of s.sectors) (on seen kept).0 ≡ cond keeps (states_behind (length (all s.moments)) t) []
      ran_has seen kept = sym (all_noted keeps kept (states_behind (length (all s.moments)) t) ∙ (λ i. map (cells_of (sectors i)) (drop (length (all s.moments)) ((on seen kept).1 i))) ∙ ap (map (cells_of s.sectors)) (drop_behind (all s.moments) (on seen kept).0))

      passes : k.is_visible ≡ true → IsTrue keeps → AreRepeated (state_in k.view.store ++ states_behind (counted_in k.view.store) t) (states_in (ran m ∷ past) ++ cells_of t.sectors t.moments.state ∷ [])
      passes seen kept =
          let new = map (cells_of s.sectors) (on seen kept).0 in
          let ends = ends_mapped (cells_of s.sectors) (on seen kept).0 s.moments.state t.moments.state (ends_so s.moments.earlier t.moments.earlier (on seen kept).0 s.moments.state t.moments.state (on seen kept).1) in
          let its : AreRepeated ((state_in k.view.store ++ states_behind first s) ++ new) (((states_in home.past ++ cells_of s.sectors s.moments.state ∷ []) ++ new) ++ cells_of s.sectors t.moments.state ∷ []) =
          goes_on_so (state_in k.view.store ++ states_behind first s) (states_in home.past) new (cells_of s.sectors s.moments.state) (cells_of s.sectors t.moments.state) (home.passes seen kept) ends in
          let ran_so : ((states_in home.past ++ cells_of s.sectors s.moments.state ∷ []) ++ new) ++ cells_of s.sectors t.moments.state ∷ [] ≡ states_in (ran m ∷ past) ++ cells_of t.sectors t.moments.state ∷ [] =
          λ i. ((states_in home.past ++ cells_of s.sectors s.moments.state ∷ []) ++ ran_has seen kept i) ++ cells_of (sym sectors i) t.moments.state ∷ [] in
          let parts_so : (state_in k.view.store ++ states_behind first s) ++ new ≡ state_in k.view.store ++ states_behind first t =
          append_assoc (state_in k.view.store) (states_behind first s) new ∙ ap (λ (q : List Cells). state_in k.view.store ++ q) (sym (parts seen kept)) in
          subst (λ (x : List Cells × List Cells). AreRepeated x.0 x.1) (λ i. (parts_so i, ran_so i)) its

      covers : k.is_visible ≡ true → IsTrue keeps → (x : Cells) → Has x (states_behind (counted_in k.view.store) t) → (x ≡ cells_of t.sectors t.moments.state) ⊎ IsPassed x (ran m ∷ past)
      covers seen kept x has = inr (⊎_elim old_ones new_ones (has_append x (map (cells_of s.sectors) (drop first (all s.moments))) (map (cells_of s.sectors) (on seen kept).0) (subst (Has x) (parts seen kept) has)))
        where
          new_ones : Has x (map (cells_of s.sectors) (on seen kept).0) → IsPassed x (ran m ∷ past)
          new_ones h = (ran m, inl refl, subst (Has x) (ran_has seen kept) h)

          old_of : (x ≡ cells_of s.sectors s.moments.state) ⊎ IsPassed x home.past → IsPassed x (ran m ∷ past)
          old_of (inl is) = (rested n (cell_of home.stamp home.past s), inr (inl refl), inl is)
          old_of (inr p) = (p.0, inr (inr p.1), p.2)

          old_ones : Has x (map (cells_of s.sectors) (drop first (all s.moments))) → IsPassed x (ran m ∷ past)
          old_ones h = old_of (home.covers seen kept x h)
