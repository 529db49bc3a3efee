-- The disk was called: the hand's store goes on by a turn.
use Rattle.std.proofs.lemmas.List.{length-append}
use Rattle.std.proofs.Common.{◌≡◌, ◌⊎◌, ℕ, ◌+◌, ◌-◌, ◌≤◌, Bool, true, false, eqb, eq-eqb, eqb-true, List, [], ◌∷◌, ◌++◌, length, Option, Some, None, unwrap_or, sym, refl, ap, ◌∙◌, subst, inl, inr, ⊎_elim, arith}
use Rattle.std.specs.Ordering.{nat_cmp}
use Rattle.std.specs.FinMap as fin
use Rattle.ufs_model.specs.History.{IsLegal, tree_after}
use Rattle.ufs_model.specs.Laws.{KeepsTrees}
use Rattle.ufs_model.specs.PosixTree.{PosixTree, Paths}
use Rattle.ufs_model.specs.declared.data.Entry.{Entry}
use Rattle.ufs_model.specs.declared.data.Op.{Op}
use Rattle.ufs_hand_laws.specs.Acknowledged.{ExplainedShow}
use Rattle.ufs_crash_laws.specs.Changes.{changes_of}
use Rattle.ufs_hand_laws.specs.ByImages.{by_images}
use Rattle.ufs_hand_laws.specs.Marks.{value_after, IsSingle, IsTurn, AreAnswers, RemakesOn, MayRemake, IsBeginningKnown, HasChanges}
use Rattle.ufs_hand_laws.specs.Owned.{one, Has, count, each, times, weigh}
use Rattle.ufs_hand_laws.specs.Parts.{Cells, FilePart, NamesPart, Shortage, Start, StorePart, Stretch, View, committed}
use Rattle.ufs_hand_laws.specs.Shown.{ExplainsImages, ShowsImages}
use Rattle.ufs_hand_laws.specs.Visible.{IsDiskVisible}
use Rattle.ufs_hand_laws.proofs.Happening.Staying.{answers_stay, store_remakes, same_file, blocks_stay, numbers_stay, same_parts_keep, same_parts_know, times_append}
use Rattle.ufs_hand_laws.proofs.Owning.{has_append, append_has}
use Rattle.ufs_hand.specs.Session.{IsEvent}
use Rattle.ufs_one_hand.specs.Drawn.{MayPass, fault_met, faults_met, store_passed, passed_view, turned, turned_view}
use Rattle.ufs_one_hand.specs.OneHand.{AreNamesAt, HasSession, IsCovered, IsCoveredIn, IsFileAt, IsStampedIn, IsStoreAt, faults_in, in_store, passed_in, stamp_in, state_in}
use Rattle.ufs_one_hand.proofs.Bare.{disk_kept}
use Rattle.ufs_one_hand.proofs.Showing.{explained_shows}
use Rattle.ufs_one_hand.proofs.Tickets.{begun_is, known_tickets, whole_is}

-- The calls that failed have numbers that no call had before: that of a read, and that at which the store stopped, where it
-- hadn't.
pub record AreNewFaults (read before stop : Option ℕ) (old : List ℕ) : Type 0 where
  pub kept : (n : ℕ) → before ≡ Some n → stop ≡ Some n
  pub stopped : (n : ℕ) → before ≡ None → stop ≡ Some n → times n old ≡ 0
  pub failed : (n : ℕ) → read ≡ Some n → times n old ≡ 0
  pub apart : (n : ℕ) → read ≡ Some n → times n (fault_met before stop) ≡ 0

-- a number that isn't there is there once then
once_more : (m n : ℕ) (old : List ℕ) → times m old ≡ 0 → times n old ≤ 1 → times n (m ∷ old) ≤ 1
once_more m n old none once = by (eqb n m) refl
  where
    by : (b : Bool) → eqb n m ≡ b → one b + times n old ≤ 1
    by true is = let z : times n old ≡ times m old = ap (λ x. times x old) (eqb-true n m is) in omega (arith, z, none)
    by false is = omega (arith, once)

met_once : (before stop : Option ℕ) (old : List ℕ) → ((n : ℕ) → before ≡ None → stop ≡ Some n → times n old ≡ 0) → (n : ℕ) → times n old ≤ 1 → times n (fault_met before stop ++ old) ≤ 1
met_once None None old new n once = once
met_once None (Some m) old new n once = once_more m n old (new m refl refl) once
met_once (Some a) None old new n once = once
met_once (Some a) (Some m) old new n once = once

faults_once : (read before stop : Option ℕ) (old : List ℕ) → AreNewFaults read before stop old → (n : ℕ) → times n old ≤ 1 → times n (faults_met read before stop ++ old) ≤ 1
faults_once None before stop old new n once = met_once before stop old new.stopped n once
faults_once (Some m) before stop old new n once =
    once_more m n (fault_met before stop ++ old) (let a = times_append m (fault_met before stop) old in let b = new.apart m refl in let d = new.failed m refl in omega (arith, a, b, d)) (met_once before stop old new.stopped n once)

some_same : (m n : ℕ) → Some m ≡ Some n → n ≡ m
some_same m n e = cc

first_told : (m n : ℕ) (rest : List ℕ) → Some m ≡ Some n → 1 ≤ times n (m ∷ rest)
first_told m n rest is = let e : one (eqb n m) ≡ 1 = ap one (eq-eqb n m (some_same m n is)) in omega (arith, e)

met_told : (before stop : Option ℕ) (old : List ℕ) (n : ℕ) → before ≡ None → stop ≡ Some n → 1 ≤ times n (fault_met before stop ++ old)
met_told None None old n a b = cc
met_told None (Some m) old n a b = first_told m n old b
met_told (Some x) stop old n a b = cc

pub fault_told : (read before stop : Option ℕ) (old : List ℕ) (n : ℕ) → before ≡ None → stop ≡ Some n → 1 ≤ times n (faults_met read before stop ++ old)
fault_told None before stop old n a b = met_told before stop old n a b
fault_told (Some m) before stop old n a b = let i = met_told before stop old n a b in omega (arith, i)

pub read_told : (read before stop : Option ℕ) (old : List ℕ) (n : ℕ) → read ≡ Some n → 1 ≤ times n (faults_met read before stop ++ old)
read_told None before stop old n a = cc
read_told (Some m) before stop old n a = first_told m n (fault_met before stop ++ old) a

-- ---- the store's part

pub store_there : (k : Start) (history : List Entry) (asked : Option (ℕ × Op)) (v : View) (h : HasSession k history asked v) → Has (tt, h.store) v.store
store_there k history asked v h = subst (Has {A = Unit {0} × StorePart} (tt, h.store)) (sym h.has_store) (inl refl)

pub one_part : (s t : StorePart) → Has {A = Unit {0} × StorePart} (tt, s) ((tt, t) ∷ []) → s ≡ t
one_part s t has = ⊎_elim (λ (e : (tt, s) ≡ (tt, t)). ap (λ (z : Unit {0} × StorePart). z.1) e) (λ none. absurd none) has

-- what is covered depends on the numbers alone
pub same_covered : (k : Start) (j : List Entry) (s t : StorePart) → t.files ≡ s.files → t.names ≡ s.names → IsCovered k j s → IsCovered k j t
same_covered k j s t files names covered = record {
  files = λ f. let a = covered.files f in let b = ap (λ (m : fin.FinMap nat_cmp ℕ). unwrap_or (fin.get m f) 0) files in omega arith;
  names = λ n made synced born. let a = covered.names n made synced born in omega arith;
  made = let a = covered.made in omega arith;
}

-- a session with other files, names and store that are of the same history
pub with_parts : (k : Start) (history : List Entry) (asked : Option (ℕ × Op)) (v : View) → HasSession k history asked v
    → (files : List (ℕ × FilePart)) → ((f : ℕ) → count eqb f files ≡ count eqb f v.files) → ((f : ℕ) (p : FilePart) → Has (f, p) files → IsFileAt (tree_after k.tree history) f p × (p.changes ≡ changes_of f k.tree history))
    → (names : List (Unit {0} × NamesPart)) (p : NamesPart) → names ≡ (tt, p) ∷ [] → AreNamesAt k.tree history (tree_after k.tree history) p
    → (t : StorePart) (faults : List ℕ) (stop : Option ℕ) (shortages : List Shortage) (n : ℕ) → IsStoreAt stop t
    → HasSession k history asked (record v { files = files; names = names; store = (tt, t) ∷ []; seen = n; faults = faults; stop = stop; shortages = shortages })
with_parts k history asked v h files counts files_at names p has_names names_at t faults stop shortages n at = record {
  tree = h.tree;
  legal = h.legal;
  start = h.start;
  all_clients = h.all_clients;
  all_asked = h.all_asked;
  clients = h.clients;
  theirs = h.theirs;
  one_file = λ f. let c = counts f in let o = h.one_file f in omega (arith, c, o);
  files = λ f q has. (files_at f q has).0;
  changes = λ f q has. (files_at f q has).1;
  pools = h.pools;
  names = p;
  has_names = has_names;
  names_at = names_at;
  store = t;
  has_store = refl;
  store_at = at;
}

-- with another part of the store alone
pub with_store_session : (k : Start) (history : List Entry) (asked : Option (ℕ × Op)) (v : View) → HasSession k history asked v → (t : StorePart) (faults : List ℕ) (stop : Option ℕ) (shortages : List Shortage) (n : ℕ) → IsStoreAt stop t
    → HasSession k history asked (record v { store = (tt, t) ∷ []; seen = n; faults = faults; stop = stop; shortages = shortages })
with_store_session k history asked v h = with_parts k history asked v h v.files (λ f. refl) (λ f p has. (h.files f p has, h.changes f p has)) v.names h.names h.has_names h.names_at

-- the store's part goes on by a turn, with whatever numbers
pub turned_at : (stop : Option ℕ) (s : StorePart) → IsStoreAt stop s → (n : ℕ) (states : List Cells) (files : fin.FinMap nat_cmp ℕ) (names : ℕ) → IsStoreAt stop (record (turned n states s) { files = files; names = names })
turned_at stop s at n states files names = record {
  extents = at.extents;
  dirs = at.dirs;
  unassigned = at.unassigned;
  stop = at.stop;
  single = at.single;
}

-- a store that keeps its stretches, and has the old state in a stretch or still, has stamped what it had
pub stays_stamped : (s t : StorePart) (x : Cells) → (s.state ≡ t.state) ⊎ ((y : Stretch) × Has y t.past × Has s.state y.states) → ((y : Stretch) → Has y s.past → Has y t.past)
    → (x ≡ s.state) ⊎ ((y : Stretch) × Has y s.past × Has x y.states) → (x ≡ t.state) ⊎ ((y : Stretch) × Has y t.past × Has x y.states)
stays_stamped s t x now past is = ⊎_elim
    (λ (e : x ≡ s.state). ⊎_elim (λ (z : s.state ≡ t.state). inl (e ∙ z)) (λ (z : (y : Stretch) × Has y t.past × Has s.state y.states). inr (z.0, z.1, subst (λ (w : Cells). Has w z.0.states) (sym e) z.2)) now)
    (λ (z : (y : Stretch) × Has y s.past × Has x y.states). inr (z.0, past z.0 z.1, z.2)) is

-- ---- turns

-- A turn of the disk, by what it shows of each history that the hand may know. No part is lent to the next.
pub is_turn : (k : Start) (n : ℕ) (v : View) (s t : StorePart) (p : NamesPart) (through : List Cells) → (t.state ≡ s.state) ⊎ Has t.state through
    → t ≡ record (turned n through s) { state = t.state; files = t.files; names = t.names; faults = t.faults; shortages = t.shortages; stop = t.stop }
    → (IsDiskVisible k → (h : List Entry) → IsBeginningKnown k v s.mark n h → (x : Cells) → Has x through → ShowsImages k.tree h (committed s) s.names None x)
    → (IsDiskVisible k → (h : List Entry) → IsBeginningKnown k v n n h → HasChanges k v p h → ShowsImages k.tree h (committed s) s.names s.paths s.state → ShowsImages k.tree h (committed t) t.names None t.state) → IsTurn by_images k n v s t p
is_turn k n v s t p through last is inside end = record {
  through = through;
  last = last;
  mark = ap (λ (z : StorePart). z.mark) is;
  past = ap (λ (z : StorePart). z.past) is;
  lent = λ g m a. absurd (subst (Has (g, m)) (ap (λ (z : StorePart). z.lent) is) a);
  lent_names = let none = ap (λ (z : StorePart). z.lent_names) is in omega (arith, none);
  inside = λ visible h known had shows x has. inside visible h known x has;
  end = λ visible h known has shows.
      subst (λ (o : Option Paths). ShowsImages k.tree h (committed t) t.names o t.state) (sym (ap (λ (z : StorePart). z.paths) is)) (end visible h known has shows);
}

-- what is shown is shown without the paths
shows_on : (start : PosixTree) (h : List Entry) (files : ℕ → ℕ) (names : ℕ) (paths : Option Paths) (cells : Cells) → ShowsImages start h files names paths cells → ShowsImages start h files names None cells
shows_on start h files names paths cells shows image is = let o = shows image is in (
  o.0,
  o.1,
  record { shown_names = o.2.shown_names; shown_files = o.2.shown_files; most_names = o.2.most_names; most_files = o.2.most_files; shown = o.2.shown; placed = λ p e. let none : None ≡ Some p = e in cc },
)

-- ---- a turn begins

module _ (k : Start) (history : List Entry) (asked : Option (ℕ × Op)) (v : View) (h : HasSession k history asked v) where
  bare_files : (g : ℕ) (y : FilePart) → Has (g, y) v.files → y.blocks ≡ []
  bare_files g y has = (h.files g y has).blocks

  module _ (n : ℕ) where
    abbrev t1 : StorePart
    t1 = turned n [] h.store

    abbrev begun : View
    begun = record v { store = (tt, t1) ∷ []; seen = n }

    is_begun : begun ≡ turned_view v n
    is_begun = ap (λ (ss : List (Unit {0} × StorePart)). record v { store = each (λ _ s. turned n [] s) ss; seen = n }) (sym h.has_store)

    begins_here : IsSingle v → (p : NamesPart) → RemakesOn by_images k n v begun h.store t1 p p
    begins_here single p = record {
      kept = blocks_stay v begun h.store t1 p p (same_parts_keep v begun (same_file v single)) (λ g bs e. e) (λ g bs a. a) (λ kept. kept);
      rise = numbers_stay v begun h.store t1 p p (λ g. refl) refl (same_parts_know v begun (same_file v single)) refl refl;
      disk = λ visible. disk_kept k h.start v begun h.store t1 bare_files;
      shown = inr (is_turn k n v h.store t1 p [] (inl refl) refl (λ visible g known x has. absurd has) (λ visible g known has shows. shows_on k.tree g (committed h.store) h.store.names h.store.paths h.store.state shows));
      answers = answers_stay v begun h.store t1 refl refl refl refl refl refl;
    }

    remakes : MayRemake by_images k n v (turned_view v n)
    remakes = subst (MayRemake by_images k n v) is_begun (store_remakes by_images k n v h.store t1 v.faults v.stop v.shortages h.has_store refl (λ single p there. begins_here single p))

    pub turned_session : HasSession k history asked (turned_view v n)
    turned_session = subst (HasSession k history asked) is_begun (with_store_session k history asked v h t1 v.faults v.stop v.shortages n (turned_at v.stop h.store h.store_at n [] h.store.files h.store.names))

    pub turned_covered : (j : List Entry) → IsCoveredIn k j v → IsCoveredIn k j (turned_view v n)
    turned_covered j covered = subst (IsCoveredIn k j) is_begun (λ s has. subst (IsCovered k j) (sym (one_part s t1 has)) (same_covered k j h.store t1 refl refl (covered h.store (store_there k history asked v h))))

    pub turned_stamped : (x : Cells) → IsStampedIn v.store x → IsStampedIn (turned_view v n).store x
    turned_stamped x is = subst (λ (w : View). IsStampedIn w.store x) is_begun (stays_stamped h.store t1 x (inl refl) (λ y a. inr a) (subst (λ (ss : List (Unit {0} × StorePart)). IsStampedIn ss x) h.has_store is))

    pub turned_passed : passed_in (turned_view v n) ≡ passed_in v
    turned_passed = ap passed_in (sym is_begun) ∙ nothing (weigh (λ x. length x.states - 2) h.store.past) ∙ sym (ap (in_store 0 (λ s. weigh (λ x. length x.states - 2) s.past)) h.has_store)
      where
        nothing : (m : ℕ) → 0 + m ≡ m
        nothing m = omega arith

    pub turned_stamp : stamp_in (turned_view v n) ≡ n
    turned_stamp = ap stamp_in (sym is_begun)

    pub turned_state : state_in (turned_view v n) ≡ state_in v
    turned_state = ap state_in (sym is_begun) ∙ sym (ap (in_store [] (λ s. s.state)) h.has_store)

    pub turned_faults : faults_in (turned_view v n) ≡ faults_in v
    turned_faults = ap faults_in (sym is_begun) ∙ sym (ap (in_store [] (λ s. s.faults)) h.has_store)

  pub may_turn : IsEvent k v (turned_view v)
  may_turn = inr (inr remakes)

-- ---- the disk was called

module _ (k : Start) (history : List Entry) (asked : Option (ℕ × Op)) (v : View) (h : HasSession k history asked v)
    (failed stop : Option ℕ) (states : List Cells) (state : Cells) (shortages : List Shortage) (new : AreNewFaults failed v.stop stop (faults_in v)) (n : ℕ) where
  abbrev passed : StorePart
  passed = store_passed n failed stop states state shortages v.stop h.store

  abbrev with_passed : View
  with_passed = record v { store = (tt, passed) ∷ []; seen = n; faults = faults_met failed v.stop stop ++ v.faults; stop = stop; shortages = shortages ++ v.shortages }

  is_passed : with_passed ≡ passed_view failed stop states state shortages v n
  is_passed = λ j. passed_view failed stop states state shortages (record v { store = sym h.has_store j }) n

  faults_there : faults_in v ≡ h.store.faults
  faults_there = ap (in_store [] (λ s. s.faults)) h.has_store

  pub new_there : AreNewFaults failed v.stop stop h.store.faults
  new_there = subst (AreNewFaults failed v.stop stop) faults_there new

  pub passed_session : HasSession k history asked (passed_view failed stop states state shortages v n)
  passed_session = subst (HasSession k history asked) is_passed (with_store_session k history asked v h passed (faults_met failed v.stop stop ++ v.faults) stop (shortages ++ v.shortages) n (record {
    extents = h.store_at.extents;
    dirs = h.store_at.dirs;
    unassigned = h.store_at.unassigned;
    stop = refl;
    single = λ m. faults_once failed v.stop stop h.store.faults new_there m (h.store_at.single m);
  }))

  pub passed_covered : (j : List Entry) → IsCoveredIn k j v → IsCoveredIn k j (passed_view failed stop states state shortages v n)
  passed_covered j covered = subst (IsCoveredIn k j) is_passed
      (λ s has. subst (IsCovered k j) (sym (one_part s passed has)) (same_covered k j h.store passed refl refl (covered h.store (store_there k history asked v h))))

  -- the states that it has stamped, and how many they are
  abbrev newest : Stretch
  newest = record { states = h.store.state ∷ (states ++ state ∷ []); from = h.store.mark; to = n }

  pub passed_stamped : (x : Cells) → IsStampedIn v.store x ⊎ (Has x states ⊎ (x ≡ state)) → IsStampedIn (passed_view failed stop states state shortages v n).store x
  passed_stamped x is = subst (λ (w : View). IsStampedIn w.store x) is_passed (⊎_elim
      (λ (old : IsStampedIn v.store x). stays_stamped h.store passed x (inr (newest, inl refl, inl refl)) (λ y a. inr a) (subst (λ (ss : List (Unit {0} × StorePart)). IsStampedIn ss x) h.has_store old))
      (λ (new : Has x states ⊎ (x ≡ state)). ⊎_elim (λ a. inr (newest, inl refl, inr (append_has x states (state ∷ []) (inl a)))) inl new) is)

  pub passed_more : passed_in (passed_view failed stop states state shortages v n) ≡ passed_in v + length states
  passed_more =
      ap passed_in (sym is_passed)
      ∙ (let l = length-append states (state ∷ []) in let w : ℕ = weigh (λ (x : Stretch). length x.states - 2) h.store.past in omega (arith, l))
      ∙ ap (λ (m : ℕ). m + length states) (sym (ap (in_store 0 (λ s. weigh (λ x. length x.states - 2) s.past)) h.has_store))

  pub passed_stamp : stamp_in (passed_view failed stop states state shortages v n) ≡ n
  passed_stamp = ap stamp_in (sym is_passed)

  pub passed_faults : faults_in (passed_view failed stop states state shortages v n) ≡ faults_met failed v.stop stop ++ faults_in v
  passed_faults = ap faults_in (sym is_passed) ∙ ap (λ (fs : List ℕ). faults_met failed v.stop stop ++ fs) (sym faults_there)

-- The hand may say so, where what a crash leaves is explained.
module _ (keeps : KeepsTrees) (law : ExplainedShow) (k : Start) (history : List Entry) (asked : Option (ℕ × Op)) (v : View) (failed stop : Option ℕ) (states : List Cells) (state : Cells) (shortages : List Shortage)
    (m : MayPass k history asked states state v) (new : AreNewFaults failed v.stop stop (faults_in v)) where
  abbrev h : HasSession k history asked v
  h = m.session

  abbrev t0 : ℕ → StorePart
  t0 = passed k history asked v h failed stop states state shortages new

  abbrev with_store : ℕ → View
  with_store = with_passed k history asked v h failed stop states state shortages new

  is : (n : ℕ) → with_store n ≡ passed_view failed stop states state shortages v n
  is = is_passed k history asked v h failed stop states state shortages new

  answers : (n : ℕ) → AreAnswers v (with_store n) h.store (t0 n)
  answers n = record {
    single = λ one m. faults_once failed v.stop stop h.store.faults (new_there k history asked v h failed stop states state shortages new n) m (one m);
    faults = λ m. let a = times_append m (faults_met failed v.stop stop) v.faults in let b = times_append m (faults_met failed v.stop stop) h.store.faults in omega (arith, a, b);
    stopped = λ m e. new.kept m (sym h.store_at.stop ∙ e);
    stops = λ m e. inr e;
    short = λ x a. append_has x shortages h.store.shortages (inr a);
    shortages = λ x a. ⊎_elim (λ l. inr (append_has x shortages h.store.shortages (inl l))) inl (has_append x shortages v.shortages a);
  }

  covered : IsCovered k history h.store
  covered = m.covered h.store (store_there k history asked v h)

  stamped : h.store.mark ≡ length history
  stamped = sym (ap (in_store 0 (λ s. s.mark)) h.has_store) ∙ m.fresh

  -- a state that is explained shows the history behind which the disk was stamped
  shown : (from n : ℕ) (g : List Entry) (x : Cells) → ExplainsImages k.tree history x → (b : IsBeginningKnown k v from n g) → length history ≤ from → ShowsImages k.tree g (committed h.store) h.store.names None x
  shown from n g x explained b late = subst (λ (z : List Entry). ShowsImages k.tree z (committed h.store) h.store.names None x) (sym (begun_is k history asked v h from n g b late))
      (explained_shows keeps k h.start history h.store x law covered (subst (IsLegal k.tree) (whole_is k history asked v h from n g b) b.legal) explained)

  on_the_way : IsDiskVisible k → (x : Cells) → Has x (states ++ state ∷ []) → ExplainsImages k.tree history x
  on_the_way visible x has = ⊎_elim (m.passed visible x) (λ y. ⊎_elim (λ (e : x ≡ state). subst (ExplainsImages k.tree history) (sym e) (m.explained visible)) (λ none. absurd none) y) (has_append x states (state ∷ []) has)

  module _ (n : ℕ) (single : IsSingle v) (p : NamesPart) (there : p ≡ value_after v.names p) where
    file_is : (g : ℕ) (x y : FilePart) → Has (g, x) v.files → Has (g, y) v.files → x ≡ y
    file_is = same_file v single

    passes_here : RemakesOn by_images k n v (with_store n) h.store (t0 n) p p
    passes_here = record {
      kept = blocks_stay v (with_store n) h.store (t0 n) p p (same_parts_keep v (with_store n) file_is) (λ g bs e. e) (λ g bs a. a) (λ kept. kept);
      rise = numbers_stay v (with_store n) h.store (t0 n) p p (λ g. refl) refl (same_parts_know v (with_store n) file_is) refl refl;
      disk = λ visible. disk_kept k h.start v (with_store n) h.store (t0 n) (bare_files k history asked v h);
      shown = inr (is_turn k n v h.store (t0 n) p (states ++ state ∷ []) (inr (append_has state states (state ∷ []) (inr (inl refl)))) refl
          (λ visible g b x has. shown h.store.mark n g x (on_the_way visible x has) b (let e = stamped in omega arith))
          (λ visible g b has shows. shown n n g state (m.explained visible) b (late n g b)));
      answers = answers n;
    }
      where
        late : (n : ℕ) (g : List Entry) → IsBeginningKnown k v n n g → length history ≤ n
        late n g b = let t = known_tickets k history asked v h n n g b in omega arith

  passes : (n : ℕ) → MayRemake by_images k n v (passed_view failed stop states state shortages v n)
  passes n = subst (MayRemake by_images k n v) (is n) (store_remakes by_images k n v h.store (t0 n) (faults_met failed v.stop stop ++ v.faults) stop (shortages ++ v.shortages) h.has_store refl (passes_here n))

  pub may_pass : IsEvent k v (passed_view failed stop states state shortages v)
  may_pass = inr (inr passes)

  pub state_passed : (n : ℕ) → state_in (passed_view failed stop states state shortages v n) ≡ state
  state_passed n = ap state_in (sym (is n))
