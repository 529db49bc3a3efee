-- A turn in which the blocks come back that the names dropped, or can't.
use Rattle.std.proofs.Common.{◌≡◌, ◌≤◌, ◌++◌, ◌||◌, ℕ, Bool, true, false, cond, None, Option, List, [], ◌∷◌, inl, inr, sym, refl, ap, ◌∙◌, subst, arith}
use Rattle.std.specs.Prelude.{IsTrue}
use Rattle.std.specs.FinSet as set
use Rattle.ufs_bitmap.specs.Blocks.{BlockSet}
use Rattle.ufs_bitmap.specs.Space.{Space}
use Rattle.ufs_bitmap.specs.Taking.{has}
use Rattle.ufs_bitmap.proofs.TakingLemmas.{has-append}
use Rattle.ufs_disk.specs.Disk.{IsWhole}
use Rattle.ufs_disk.specs.Moments.{LeavesOnly, Moments}
use Rattle.ufs_extent.specs.Runs.{blocks_of}
use Rattle.ufs_file_commits.specs.State.{DurableState, IsNoted}
use Rattle.ufs_layout.specs.Areas.{first_of_data}
use Rattle.ufs_ledger.specs.Ledger.{Ledger}
use Rattle.ufs_hand_laws.specs.Owned.{Has, each}
use Rattle.ufs_hand_laws.specs.Parts.{Cells, Stretch}
use Rattle.ufs_store.specs.Blocks.{AreApart, AreInside}
use Rattle.ufs_store.specs.Ledgers.{HasLedger, IsLeftByAny, beginning_next, checkpointed}
use Rattle.ufs_store.specs.Refusals.{stop_after}
use Rattle.ufs_store.specs.State.{StoreState, geometry_of_store}
use Rattle.ufs_names_commit.specs.Laws.{KeepsItsBlocks}
use Rattle.ufs_promise_laws.specs.Parts.{TheNames, Unassigned}
use Rattle.ufs_joint.specs.Cells.{NamesCell, Start, StoreCell, View, store_since}
use Rattle.ufs_joint.specs.Checkpoints.{CheckpointsGoOn, MakesCheckpoint}
use Rattle.ufs_joint.specs.Disks.{cell_of, states_behind}
use Rattle.ufs_joint.specs.FileHands.{WentOn}
use Rattle.ufs_joint.specs.Known.{Knows}
use Rattle.ufs_joint.specs.Reclaims.{HasCheckpoint, IsReclaimHand, ReclaimFailuresMayEnd, ReclaimsMayEnd, reclaimed_turn, unreclaimed_turn}
use Rattle.ufs_joint.specs.Turns.{MayEndTurn, begun_at, rested, turn_begun}
use Rattle.ufs_turns.specs.AllLent.{LendsAll, reclaiming_turn, without_dropped}
use Rattle.ufs_turns.specs.HeldStore.{IsStoreIn, begun_view, ended_view}
use Rattle.ufs_turns.specs.Lent.{HasRun, IsBeside}
use Rattle.ufs_turns.specs.Syncs.{HasMade}
use Rattle.ufs_turns.specs.Told.{fault_told, told_list}
use Rattle.ufs_turns.proofs.Emptying as emptying
use Rattle.ufs_turns.proofs.Syncing.{file_sound}
use Rattle.ufs_turns.proofs.Turning as turning

-- ---- what the hand knows of the dropped blocks

module _ (k : Start) (n : ℕ) (v : View) (knows : Knows k n v) (names : NamesCell) (lends : LendsAll names v) where
  pub here : Has (tt, names) v.names
  here = subst (Has (tt, names)) (sym lends.names_are) (inl refl)

  in_parts : (b : ℕ) → set.contains names.dropped b ≡ true → set.contains knows.parts.dropped b ≡ true
  in_parts b is = ap (λ (d : BlockSet). set.contains d b) (knows.around.cells.names tt names here).dropped ∙ is

  -- none of them is unassigned
  pub dropped_apart : (was : StoreCell) → v.store ≡ (tt, was) ∷ [] → AreApart names.dropped was.unassigned.free
  dropped_apart was store b is = by (set.contains was.unassigned.free b) refl
    where
      by : (x : Bool) → set.contains was.unassigned.free b ≡ x → set.contains was.unassigned.free b ≡ false
      by false e = e
      by true e = (let clash = knows.around.server.apart TheNames Unassigned b (inr (inl (in_parts b is))) (knows.unassigned tt was (subst (Has (tt, was)) (sym store) (inl refl)) b e) in absurd cc)

  -- and all of them are of the data area
  pub dropped_inside : (space : Space) → space.first ≡ first_of_data k.geometry → space.blocks ≡ k.geometry.blocks → AreInside space names.dropped
  dropped_inside space first blocks b is =
      (let here = knows.around.server.inside TheNames b (inr (inl (in_parts b is))) in let from = here.from in let under = here.under in (omega (arith, first, from), omega (arith, blocks, under)))

-- ---- the store once it took them back

abbrev pub given_back : StoreState → BlockSet → StoreState
given_back t dropped = record t { unassigned = record (t.unassigned) { free = set.union t.unassigned.free dropped } }

pub ran_on : (told : Option ℕ) (epochs commits : ℕ) (s t z : StoreState) (dropped : BlockSet) → z ≡ given_back t dropped → HasRun told epochs commits s t → HasRun told epochs commits s z
ran_on told epochs commits s t z dropped back ran = subst (HasRun told epochs commits s) (sym back) (record {
  count = ran.count;
  raised = record { epoch = ran.raised.epoch; epoch_most = ran.raised.epoch_most; number = ran.raised.number; number_most = ran.raised.number_most };
})

-- ---- what is committed keeps its blocks

-- The file has still each block that it has on the disk.
kept : (f : DurableState) → IsNoted f → f.log.committed ≡ f.log.noted → KeepsItsBlocks f
kept f noted committed b is =
    let own : has (blocks_of f.file.extents) b ≡ true = ap (λ runs. has (blocks_of runs) b) (sym noted.runs ∙ sym (ap (λ log. log.runs) committed)) ∙ is in
    has-append (blocks_of f.file.extents) (blocks_of f.dropped) b ∙ ap (λ (v : Bool). v || has (blocks_of f.dropped) b) own

-- ---- between the marks

module _ (k : Start) (origin : Moments) (visible keeps : Bool) (n : ℕ) (v w : View) (s t : StoreState) (knows : Knows k n v) (home : IsStoreIn k origin visible keeps v s) (begun : w ≡ begun_view v n) where
  abbrev was : StoreCell
  was = begun_at n (cell_of home.stamp home.past s)

  abbrev past : List Stretch
  past = rested n (cell_of home.stamp home.past s) ∷ home.past

  abbrev left : StoreCell
  left = cell_of n (rested n (cell_of home.stamp home.past s) ∷ home.past) t

  abbrev u : View
  u = turn_begun n (cell_of home.stamp home.past s) v

  abbrev passed : List Cells
  passed = cond keeps (states_behind (begun_at n (cell_of home.stamp home.past s)).counted t) []

  begun_is : w ≡ u
  begun_is = turning.begun_is k origin visible keeps n v w s t knows home begun

  module _ (names : NamesCell) (lends : LendsAll names v) (whole_before : IsTrue visible → IsWhole s.sectors s.moments.state) (whole_behind : IsTrue visible → IsWhole t.sectors t.moments.state) where
    hand : IsReclaimHand k.is_visible u names was
    hand = record {
      names_are = lends.names_are;
      store = refl;
      files = lends.files;
      each = lends.live;
      stands = λ file c has. kept c.value (file_sound k n v knows file c has (lends.files.number file c has)).noted (lends.committed file c has);
      noted = lends.noted;
      fresh = lends.fresh;
      changed = λ seen. (knows.names_changed seen tt names (here k n v knows names lends), knows.names_known seen tt names (here k n v knows names lends));
      files_changed = λ seen file c has. knows.changed seen file c has;
    }

    -- where it fails
    module _ (told : Option ℕ) (has : HasMade visible keeps s t told) where
      makes : MakesCheckpoint keeps k.is_visible was left passed (told_list (fault_told told))
      makes = emptying.makes k origin visible keeps n v w s t knows home begun whole_before whole_behind told has

      turn_stays : unreclaimed_turn u names left passed (told_list (fault_told told)) ≡ reclaiming_turn keeps false (fault_told told) t u
      turn_stays = λ i. record { files = v.files; names = each (λ _ x. cond false (without_dropped x) x) (sym lends.names_are i); store = left; passed = passed; picks = []; told = told_list (fault_told told) }

      pub failure_ends : ReclaimFailuresMayEnd k.geometry → MayEndTurn k.geometry k.is_visible w (reclaiming_turn keeps false (fault_told told) t w)
      failure_ends law =
          subst (λ (q : View). MayEndTurn k.geometry k.is_visible q (reclaiming_turn keeps false (fault_told told) t q)) (sym begun_is)
          (subst (MayEndTurn k.geometry k.is_visible u) turn_stays (law keeps k.is_visible u names was left passed (told_list (fault_told told)) home.formed hand makes))

    -- where it passes
    module _ (has : HasMade visible keeps s t None) (going : s.stop ≡ None) (made : IsTrue visible → (l : Ledger) → HasLedger s l → HasLedger t (checkpointed s l)) (z : StoreState) (back : z ≡ given_back t names.dropped) where
      both : (seen : k.is_visible ≡ true) → ◌≡◌ {A = StoreState × StoreState} (s, t) (store_since s.moments.earlier was, store_since t.moments.earlier left)
      both seen = λ i. (turning.before_is k origin visible keeps n v w s t knows home begun whole_before whole_behind has.geometry has.sectors seen i, turning.behind_is k origin visible keeps n v w s t knows home begun whole_before whole_behind has.geometry has.sectors seen i)

      gives : HasCheckpoint keeps k.is_visible was left passed
      gives = record {
        earlier = s.moments.earlier;
        later = t.moments.earlier;
        going = going;
        made = λ seen. subst (λ (q : StoreState × StoreState). (l : Ledger) → HasLedger q.0 l → HasLedger q.1 (checkpointed q.0 l)) (both seen) (made (home.sees seen));
        crash = λ seen. subst (λ (q : StoreState × StoreState). (l : Ledger) → HasLedger q.0 l → LeavesOnly keeps (IsLeftByAny q.0.sectors (l ∷ beginning_next q.0 l ∷ [])) q.0.moments q.1.moments) (both seen) (has.crash (home.sees seen));
        unassigned = has.unassigned;
        left_so = turning.left_so k origin visible keeps n v w s t knows home begun whole_before whole_behind has.geometry has.sectors None has.cause (λ n is. has.stop ∙ ap (λ (q : Option ℕ). stop_after q None) is) (λ n is. turning.stop_from s.stop None n (sym has.stop ∙ is));
      }

      turn_is : reclaimed_turn u names left passed ≡ reclaiming_turn keeps true None z u
      turn_is = λ i. record {
        files = v.files;
        names = each (λ _ x. cond true (without_dropped x) x) (sym lends.names_are i);
        store = cell_of n past (sym back i);
        passed = cond keeps (states_behind (begun_at n (cell_of home.stamp home.past s)).counted (sym back i)) [];
        picks = [];
        told = [];
      }

      pub passing_ends : ReclaimsMayEnd k.geometry → MayEndTurn k.geometry k.is_visible w (reclaiming_turn keeps true None z w)
      passing_ends law =
          subst (λ (q : View). MayEndTurn k.geometry k.is_visible q (reclaiming_turn keeps true None z q)) (sym begun_is)
          (subst (MayEndTurn k.geometry k.is_visible u) turn_is (law keeps k.is_visible u names was left passed home.formed hand gives))

      pub geometry_on : geometry_of_store z ≡ geometry_of_store s
      geometry_on = ap geometry_of_store back ∙ has.geometry

      pub sectors_on : z.sectors ≡ s.sectors
      sectors_on = ap (λ (q : StoreState). q.sectors) back ∙ has.sectors

      pub went_on : CheckpointsGoOn k.geometry → k.is_visible ≡ true → IsTrue keeps → WentOn s z
      went_on law seen kept = subst (WentOn s) (sym back) (emptying.went_on k origin visible keeps n v w s t knows home begun whole_before whole_behind None has law seen kept)

  -- ---- what the hand has then

  module _ (done : Bool) (told : Option ℕ) (z : StoreState) (m : ℕ) (y : View) (ended : y ≡ ended_view (reclaiming_turn keeps done told z w) w m) where
    ended_is : y ≡ ended_view (reclaiming_turn keeps done told z u) u m
    ended_is = ended ∙ ap (λ (q : View). ended_view (reclaiming_turn keeps done told z q) q m) begun_is

    pub faults_then : y.faults ≡ told_list told ++ v.faults
    faults_then = ap (λ (q : View). q.faults) ended_is

    pub stop_then : y.stop ≡ z.stop
    stop_then = ap (λ (q : View). q.stop) ended_is

    pub files_then : y.files ≡ v.files
    files_then = ap (λ (q : View). q.files) ended_is

    pub names_then : (cell : NamesCell) → v.names ≡ (tt, cell) ∷ [] → y.names ≡ (tt, cond done (without_dropped cell) cell) ∷ []
    names_then cell is = ap (λ (q : View). q.names) ended_is ∙ ap (each (λ _ x. cond done (without_dropped x) x)) is

    pub store_then : geometry_of_store z ≡ geometry_of_store s → z.sectors ≡ s.sectors → (k.is_visible ≡ true → IsTrue keeps → WentOn s z) → IsStoreIn k origin visible keeps y z
    store_then geometry sectors on = turning.store_then k origin visible keeps n v w s z knows home begun m y (ap (λ (q : View). q.store) ended_is) geometry sectors on

    pub beside_then : v.seen ≤ n → w.seen ≤ m → IsBeside v y
    beside_then a b = record {
      clients = ap (λ (q : View). q.clients) ended_is;
      asked = ap (λ (q : View). q.asked) ended_is;
      pools = ap (λ (q : View). q.pools) ended_is;
      seen = (let e = ap (λ (q : View). q.seen) ended_is in let f = ap (λ (q : View). q.seen) begun_is in omega (arith, e, f, a, b));
    }
