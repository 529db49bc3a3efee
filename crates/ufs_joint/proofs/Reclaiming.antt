-- A turn of the store in which what the names dropped was given back may end, and one in which that failed.
use Rattle.std.proofs.Common.{◌≡◌, ℕ, ◌≤◌, ◌⊎◌, inl, inr, ⊎_elim, Bool, true, false, cond, ◌||◌, eqb, leb, le-leb, List, [], ◌∷◌, Option, Some, None, is_some, sym, refl, ap, ◌∙◌, subst, arith}
use Rattle.std.specs.Prelude.{IsTrue, IsSome}
use native.Mathlib.Decide.{dec_le}
use Rattle.std.specs.FinMap as fin
use Rattle.std.specs.FinSet as setof
use Rattle.ufs_bitmap.specs.Blocks.{BlockSet}
use Rattle.ufs_bitmap.specs.Space.{Space}
use Rattle.ufs_disk.specs.Disk.{Leaves}
use Rattle.ufs_disk.specs.Moments.{Passes}
use Rattle.ufs_file.specs.Hand.{FileState}
use Rattle.ufs_files.specs.Files.{Files}
use Rattle.ufs_layout.specs.declared.geometry.Geometry.{Geometry}
use Rattle.ufs_ledger.specs.Laws.{BeginningIsKept}
use Rattle.ufs_model.specs.History.{tree_after}
use Rattle.ufs_model.specs.PosixTree.{PosixTree}
use Rattle.ufs_model.specs.declared.data.Entry.{Entry}
use Rattle.ufs_model.proofs.Facts.Lookups.{same_some}
use Rattle.ufs_names.specs.NamesPart.{NamesPart}
use Rattle.ufs_promise_laws.specs.FileRequests.{with_free}
use Rattle.ufs_promise_laws.proofs.Sound.{sound_by_free_blocks}
use Rattle.ufs_hand_laws.specs.Owned.{Has, count, find}
use Rattle.ufs_hand_laws.specs.Parts.{Cells, only_one}
use Rattle.ufs_hand_laws.proofs.Keys.{alike, itself}
use Rattle.ufs_hand_laws.proofs.Owning.{find_has, has_count, has_find}
use Rattle.ufs_store.specs.State.{StoreState, geometry_of_store}
use Rattle.ufs_promise_laws.specs.AlwaysLaws.{CheckpointsAreExplained}
use Rattle.ufs_promise_laws.specs.Known.{IsDiskKept, IsKeptGoing, IsMore, Known}
use Rattle.ufs_promise_laws.specs.Laws.{EmptiedIsStored, MovesBlocks}
use Rattle.ufs_promise_laws.specs.OnDisk.{IsExplainedBetween, IsExplainedImage}
use Rattle.ufs_promise_laws.specs.Parts.{Commits, Parts, TheNames, ThePool, Unassigned, durable_in}
use Rattle.ufs_promise_laws.specs.Sound.{IsSoundServer}
use Rattle.ufs_promise_laws.specs.Stored.{ArePartsOf}
use Rattle.ufs_names_commit.specs.Laws.{DroppedIsReclaimedKept, HasNothingTaken, IsBeside, KeepsItsBlocks, ReclaimedIsSound, with_reclaimed}
use Rattle.ufs_joint.proofs.Passing.{each_passed, none_passed}
use Rattle.ufs_joint.proofs.Forgetting.{less_is_kept}
use Rattle.ufs_joint.proofs.Pools.{pools_stay}
use Rattle.ufs_joint.specs.Cells.{FileCell, NamesCell, StoreCell, View, store_of, store_since}
use Rattle.ufs_joint.specs.Checkpoints.{HasBegunAnew, MakesCheckpoint}
use Rattle.ufs_joint.specs.FileHands.{IsAsBegun, WentOn}
use Rattle.ufs_joint.specs.NoneLost.{IsDropped, IsFree, IsHad, OfDir, OfFile, OfPool}
use Rattle.ufs_joint.specs.Reclaims.{HasCheckpoint, IsReclaimHand, ReclaimFailuresMayEnd, ReclaimsGoOn, ReclaimsMayEnd, reclaimed_turn, unreclaimed_turn}
use Rattle.ufs_joint.specs.Turns.{AreFaultsTold, EndsOnDisk, MayEndTurn, Turn, known_by}
use Rattle.ufs_joint.specs.Whole.{GoOnBy, HasCells, HasNamesCell, KnowsCells, birth_known, changes_known, file_changes_at, no_blocks}
use Rattle.ufs_joint.proofs.Blocks.{in_union, not_in, or_cases, union_left, union_right}
use Rattle.ufs_joint.proofs.Checkpointing as checkpoints
use Rattle.ufs_joint.proofs.Kept.{kept_going, since_kept}
use Rattle.ufs_joint.proofs.OneFile.{durable_is}
use Rattle.ufs_joint.proofs.StillDraws.{still_goes}
use Rattle.std.proofs.lemmas.List.{append-nil}

-- ---- the hand

module _ (visible : Bool) (v : View) (names : NamesCell) (was : StoreCell) (hand : IsReclaimHand visible v names was) where
  has_names : Has (tt, names) v.names
  has_names = subst (Has (tt, names)) (sym hand.names_are) (inl refl)

  only_names : (u : Unit {0}) (c : NamesCell) → Has (u, c) v.names → c ≡ names
  only_names u c has = by (subst (Has (u, c)) hand.names_are has)
    where
      by : Has {A = Unit {0} × NamesCell} (u, c) ((tt, names) ∷ []) → c ≡ names
      by (inl is) = ap (λ (q : Unit {0} × NamesCell). q.1) is
      by (inr is) = absurd is

  its : (p : Parts) → HasCells v p → HasNamesCell p names
  its p cells = cells.names tt names has_names

  -- the files stay, and the names are these then
  goes_with : (p next : Parts) (c : NamesCell) → HasCells v p → HasNamesCell next c → next.files ≡ p.files → next.commits ≡ p.commits → GoOnBy v.files v.files ((tt, c) ∷ []) p next
  goes_with p next c cells has files commits = record {
    files_by = λ file. ap (λ (fs : Files). fin.get fs file) files ∙ (still_goes v p hand.files cells).files_by file;
    commits_by = λ file. ap (λ (cs : Commits). fin.get cs file) commits ∙ (still_goes v p hand.files cells).commits_by file;
    names_by = λ u x is. by u x is;
    names_stay = λ none. absurd cc;
  }
    where
      by : (u : Unit {0}) (x : NamesCell) → Has {A = Unit {0} × NamesCell} (u, x) ((tt, c) ∷ []) → HasNamesCell next x
      by u x (inl is) = subst (HasNamesCell next) (sym (ap (λ (q : Unit {0} × NamesCell). q.1) is)) has
      by u x (inr is) = absurd is

  -- each file of the parts is one of the hand's
  nothing_taken : (p : Parts) (tree : PosixTree) → HasCells v p → ArePartsOf p tree → HasNothingTaken p
  nothing_taken p tree cells parts = record { names = ap (λ (n : NamesPart). n.tree.noted) (its p cells).names ∙ hand.noted; fresh = (its p cells).fresh ∙ hand.fresh; files = stands }
    where
      stands : (file : ℕ) (s : FileState) → fin.get p.files file ≡ Some s → KeepsItsBlocks (durable_in p.commits s)
      stands file s at =
          let it = parts.files file s at in
          let bytes = ap (λ q. is_some (fin.get tree.bytes q)) (sym it.0) ∙ ap is_some it.1.has in
          let live : IsSome (fin.get names.value.held file) = subst (λ (n : NamesPart). is_some (fin.get n.held file) ≡ true) (its p cells).names (parts.names.told file ∙ bytes) in
          let c = hand.each file live in
          let cell = cells.files file c.0 c.1 in
          let same : s ≡ c.0.value.file = same_some s c.0.value.file (sym at ∙ cell.file_is) in
          subst KeepsItsBlocks (sym (ap (durable_in p.commits) same ∙ durable_is p file c.0 (hand.files.number file c.0 c.1) cell)) (hand.stands file c.0 c.1)

  -- no more is known, where the names know what they knew
  module _ (start : PosixTree) (history : List Entry) (known : Known) (knows : KnowsCells start history v known) where
    files_less : (file : ℕ) → cond (leb 1 (count eqb file v.files)) (changes_known start history file (find eqb file v.files)) (known.files file) ≤ known.files file
    files_less file = by (dec_le 1 (count eqb file v.files))
      where
        by : Dec (1 ≤ count eqb file v.files) → cond (leb 1 (count eqb file v.files)) (changes_known start history file (find eqb file v.files)) (known.files file) ≤ known.files file
        by (yes l) =
            let c = has_count eqb itself alike file v.files l in
            let found = has_find eqb itself alike file c.0 v.files (hand.files.once file) c.1 in
            let is : cond (leb 1 (count eqb file v.files)) (changes_known start history file (find eqb file v.files)) (known.files file) ≡ file_changes_at start history file c.0.known =
            (λ i. cond (le-leb 1 (count eqb file v.files) l i) (changes_known start history file (found i)) (known.files file)) in
            let low = knows.files file c.0 c.1 in
            omega (arith, is, low)
        by (no l) =
            let none : count eqb file v.files ≡ 0 = omega (arith, l) in
            let is : cond (leb 1 (count eqb file v.files)) (changes_known start history file (find eqb file v.files)) (known.files file) ≡ known.files file =
            ap (λ k. cond (leb 1 k) (changes_known start history file (find eqb file v.files)) (known.files file)) none in
            omega (arith, is)

    born_less : (file : ℕ) → (setof.contains names.named file || (known.born file || birth_known start history (find eqb file v.files))) ≡ true → known.born file ≡ true
    born_less file is = ⊎_elim
        (λ told. knows.named file tt names has_names told)
        (λ rest. ⊎_elim (λ q. q) (λ q. by (find eqb file v.files) refl q) (or_cases (known.born file) (birth_known start history (find eqb file v.files)) rest))
        (or_cases (setof.contains names.named file) (known.born file || birth_known start history (find eqb file v.files)) is)
      where
        by : (c : Option FileCell) → find eqb file v.files ≡ c → birth_known start history c ≡ true → known.born file ≡ true
        by None at born = absurd cc
        by (Some c) at born = knows.born file c (find_has eqb itself alike file c v.files at) born

-- ---- it was given back

module _ (g : Geometry) (reclaims : DroppedIsReclaimedKept g) (sounds : ReclaimedIsSound) (explains : CheckpointsAreExplained g)
    (keeps visible : Bool) (v : View) (names : NamesCell) (was mid : StoreCell) (passed : List Cells) (form : geometry_of_store (store_of was) ≡ g) (hand : IsReclaimHand visible v names was) (gives : HasCheckpoint keeps visible was mid passed) where
  abbrev t : Turn
  t = reclaimed_turn v names mid passed

  abbrev done : NamesCell
  done = record names { dropped = no_blocks }

  abbrev next : Parts → Parts
  next p = record p { dropped = no_blocks }

  abbrev old : StoreState
  old = store_since gives.earlier was

  abbrev new : StoreState
  new = store_since gives.later mid

  abbrev given : BlockSet → BlockSet
  given d = setof.union mid.unassigned.free d

  same_free : (b : ℕ) → setof.contains mid.unassigned.free b ≡ setof.contains was.unassigned.free b
  same_free b = ap (λ (s : Space). setof.contains s.free b) gives.unassigned

  -- the dropped ones go through the pool to the unassigned ones
  moves : (p : Parts) → IsSoundServer g was.unassigned.free p → MovesBlocks (setof.union p.pool p.dropped) mid.unassigned.free p.pool (given p.dropped)
  moves p sound = record {
    pool = λ b is. inl (union_left p.pool p.dropped b is);
    store = λ b is. ⊎_elim (λ x. inr x) (λ x. inl (union_right p.pool p.dropped b x)) (in_union mid.unassigned.free p.dropped b is);
    apart = λ b is. not_in (given p.dropped) b (λ there. ⊎_elim (λ x. free b is (sym (same_free b) ∙ x)) (λ x. gone b is x) (in_union mid.unassigned.free p.dropped b there));
  }
    where
      free : (b : ℕ) → setof.contains p.pool b ≡ true → setof.contains was.unassigned.free b ≡ true → ⊥
      free b is there = (let clash = sound.apart ThePool Unassigned b is there in absurd cc)

      gone : (b : ℕ) → setof.contains p.pool b ≡ true → setof.contains p.dropped b ≡ true → ⊥
      gone b is there = (let clash = sound.apart ThePool TheNames b is (inr (inl there)) in absurd cc)

  done_there : (p : Parts) → HasCells v p → HasNamesCell (next p) done
  done_there p cells = let h = its visible v names was hand p cells in record { names = h.names; fresh = h.fresh; dropped = refl }

  server_by : (p : Parts) → HasCells v p → IsSoundServer g was.unassigned.free p → IsSoundServer g (given names.dropped) (next p)
  server_by p cells sound =
      let h = its visible v names was hand p cells in
      let pooled = subst (λ (s : Space). IsSoundServer g s.free (with_reclaimed p)) (sym gives.unassigned) (sounds g was.unassigned.free p (h.fresh ∙ hand.fresh) sound) in
      subst (λ (d : BlockSet). IsSoundServer g (given d) (next p)) h.dropped (sound_by_free_blocks g mid.unassigned.free (with_reclaimed p) p.pool (given p.dropped) (moves p sound) pooled)

  none_lost_by : (p : Parts) → HasCells v p → (b : ℕ) → IsHad p was.unassigned.free b → IsHad (next p) (given names.dropped) b
  none_lost_by p cells b (OfFile file owns) = OfFile file (record { hand = owns.hand; here = owns.here; held = owns.held })
  none_lost_by p cells b (OfPool is) = OfPool is
  none_lost_by p cells b (IsFree is) = IsFree (union_left mid.unassigned.free names.dropped b (same_free b ∙ is))
  none_lost_by p cells b (IsDropped is) = IsFree (union_right mid.unassigned.free names.dropped b (subst (λ (d : BlockSet). setof.contains d b ≡ true) (its visible v names was hand p cells).dropped is))
  none_lost_by p cells b (OfDir dir is) = OfDir dir is

  module _ (seen : visible ≡ true) (start : PosixTree) (history : List Entry) (p : Parts) (known : Known) (begun : IsAsBegun v was start history p known) where
    kept : IsKeptGoing old start history p known
    kept = kept_going old start history p known gives.going (since_kept was [] gives.earlier start history p known begun.kept)

    between : IsExplainedBetween keeps was.sectors start history old.moments new.moments
    between = explains keeps old old.moments new.moments kept.going.ledger start history kept.going.counts (kept.going.formed ∙ form) kept.going.has.superblock_is kept.going.stored.kept (gives.crash seen kept.going.ledger kept.going.has)

    passes : IsTrue keeps → Passes (Leaves (IsExplainedImage was.sectors start history)) old.moments new.moments
    passes = between.between

    less : IsMore (known_by start history t known) known
    less = record {
      names = begun.knows.names tt names (has_names visible v names was hand);
      files = files_less visible v names was hand start history known begun.knows;
      born = born_less visible v names was hand start history known begun.knows;
    }

    beside : IsBeside g old new
    beside = record { old_form = form; new_form = gives.left_so.geometry ∙ form; unassigned = gives.unassigned }

    -- with what was dropped in the pool, and then unassigned
    reclaimed : IsSoundServer g was.unassigned.free p → IsKeptGoing new start history (with_reclaimed p) known
    reclaimed sound = reclaims old new start history p known beside (nothing_taken visible v names was hand p (tree_after start history) begun.cells kept.going.stored.parts) sound (gives.made seen) kept

    given_kept : IsSoundServer g was.unassigned.free p → IsDiskKept (with_free (given names.dropped) new) start history (next p) known
    given_kept sound = subst (λ (d : BlockSet). IsDiskKept (with_free (given d) new) start history (next p) known) (its visible v names was hand p begun.cells).dropped
        (pools_stay new start history (with_reclaimed p) known p.pool (given p.dropped) (moves p sound) (inl (reclaimed sound)))

    ends : IsSoundServer g was.unassigned.free p → EndsOnDisk was t next start history p known
    ends sound = record {
      kept = less_is_kept (store_of t.store) start history (next p) (known_by start history t known) known less (since_kept t.store gives.later [] start history (next p) known (given_kept sound));
      passed = each_passed keeps visible was mid gives.earlier gives.later passed [] gives.left_so seen start history passes;
      picked = λ pick none. absurd none;
    }

  pub went_on : visible ≡ true → IsTrue keeps → (start : PosixTree) (history : List Entry) (p : Parts) (known : Known) → IsAsBegun v was start history p known → WentOn (store_since gives.earlier was) (store_since gives.later mid)
  went_on seen kept start history p known begun = (let is = passes seen start history p known begun kept in (is.inside, is.whole))

  faults_told : AreFaultsTold was t.store []
  faults_told = (let told = gives.left_so.told_so in record { rise = told.rise; once = told.once; new = told.new; stopped = told.stopped; halts = told.halts })

  pub may_end : MayEndTurn g visible v t
  may_end = record {
    was = was;
    has_store = hand.store;
    stamp = gives.left_so.stamp;
    past = gives.left_so.past;
    sectors = gives.left_so.sectors;
    formed = gives.left_so.geometry;
    told = faults_told;
    lent = λ seen file c has. (hand.files_changed seen file c has).0;
    lent_names = λ seen u c has. let x = ap (λ (q : NamesCell). q.changed) (only_names visible v names was hand u c has) in let y = (hand.changed seen).0 in omega (arith, x, y);
    same_files = λ file. refl;
    same_names = λ u. sym (ap (count only_one u) hand.names_are);
    files = λ file c has. (c, has, refl, λ seen. (hand.files_changed seen file c has).1);
    names = λ u c has. by u c has;
    next = next;
    goes = λ p cells. goes_with visible v names was hand p (next p) done cells (done_there p cells) refl refl;
    pool = λ p cells. refl;
    read = λ pick none. absurd none;
    once = tt;
    away = λ file place c has absent. record { before = c; has = has; absent = absent; unpicked = λ pick none e at. absurd none };
    parts = λ tree p cells _ are. record { names = are.names; files = are.files; inodes = are.inodes; here = are.here };
    none_lost = λ p cells numbered b had. none_lost_by p cells b had;
    server = λ p cells numbered sound. server_by p cells sound;
    disk = λ seen start history p known around. ends seen start history p known (record { cells = around.cells; knows = around.knows; kept = around.kept }) around.server;
  }
    where
      by : (u : Unit {0}) (c : NamesCell) → Has {A = Unit {0} × NamesCell} (u, c) ((tt, done) ∷ []) → (before : NamesCell) × Has (u, before) v.names × (c.changed ≡ before.changed) × (visible ≡ true → c.known ≤ was.stamp)
      by u c (inl is) = (
        names,
        has_names visible v names was hand,
        ap (λ (q : Unit {0} × NamesCell). q.1.changed) is,
        λ seen. (let x = ap (λ (q : Unit {0} × NamesCell). q.1.known) is in let y = (hand.changed seen).1 in omega (arith, x, y)),
      )
      by u c (inr is) = absurd is

pub reclaims_may_end : (g : Geometry) → DroppedIsReclaimedKept g → ReclaimedIsSound → CheckpointsAreExplained g → ReclaimsMayEnd g
reclaims_may_end g reclaims sounds explains keeps visible v names was mid passed form hand gives = may_end g reclaims sounds explains keeps visible v names was mid passed form hand gives

pub reclaims_go_on : (g : Geometry) → DroppedIsReclaimedKept g → ReclaimedIsSound → CheckpointsAreExplained g → ReclaimsGoOn g
reclaims_go_on g reclaims sounds explains keeps visible v names was mid passed form hand gives = went_on g reclaims sounds explains keeps visible v names was mid passed form hand gives

-- ---- that failed

module _ (g : Geometry) (begins : BeginningIsKept g) (empties : EmptiedIsStored g) (explains : CheckpointsAreExplained g)
    (keeps visible : Bool) (v : View) (names : NamesCell) (was left : StoreCell) (passed : List Cells) (told : List ℕ) (form : geometry_of_store (store_of was) ≡ g) (hand : IsReclaimHand visible v names was) (makes : MakesCheckpoint keeps visible was left passed told) where
  abbrev kept_turn : Turn
  kept_turn = unreclaimed_turn v names left passed told

  abbrev before : StoreState
  before = store_since makes.earlier was

  abbrev after : StoreState
  after = store_since makes.later left

  module _ (seen : visible ≡ true) (start : PosixTree) (history : List Entry) (p : Parts) (known : Known) (begun : IsAsBegun v was start history p known) where
    was_kept : IsDiskKept before start history p known
    was_kept = since_kept was [] makes.earlier start history p known begun.kept

    no_more : IsMore (known_by start history kept_turn known) known
    no_more = record {
      names = begun.knows.names tt names (has_names visible v names was hand);
      files = files_less visible v names was hand start history known begun.knows;
      born = born_less visible v names was hand start history known begun.knows;
    }

    module _ (going : was.stop ≡ None) where
      still_going : IsKeptGoing before start history p known
      still_going = kept_going before start history p known going was_kept

      stretch : IsExplainedBetween keeps was.sectors start history before.moments after.moments
      stretch = explains keeps before before.moments after.moments still_going.going.ledger start history still_going.going.counts (still_going.going.formed ∙ form) still_going.going.has.superblock_is still_going.going.stored.kept
          (makes.crash seen still_going.going.ledger still_going.going.has)

      states : IsTrue keeps → Passes (Leaves (IsExplainedImage was.sectors start history)) before.moments after.moments
      states = stretch.between

    failed_ends : (after ≡ before) ⊎ ((was.stop ≡ None) × HasBegunAnew before after) → EndsOnDisk was kept_turn (λ q. q) start history p known
    failed_ends (inr x) = record {
      kept = less_is_kept (store_of left) start history p (known_by start history kept_turn known) known no_more
          (since_kept left makes.later [] start history p known (checkpoints.goes_on g begins empties before after start history p known form makes.left_so.geometry makes.unassigned (still_going x.0) x.1));
      passed = each_passed keeps visible was left makes.earlier makes.later passed told makes.left_so seen start history (states x.0);
      picked = λ pick never. absurd never;
    }
    failed_ends (inl same) = record {
      kept = less_is_kept (store_of left) start history p (known_by start history kept_turn known) known no_more (since_kept left makes.later [] start history p known (subst (λ (s : StoreState). IsDiskKept s start history p known) (sym same) was_kept));
      passed = λ cells has. absurd (subst (Has cells) none has);
      picked = λ pick never. absurd never;
    }
      where
        none : passed ≡ []
        none = none_passed keeps visible was left makes.earlier makes.later passed told makes.left_so seen same

  pub failure_may_end : MayEndTurn g visible v kept_turn
  failure_may_end = record {
    was = was;
    has_store = hand.store;
    stamp = makes.left_so.stamp;
    past = makes.left_so.past;
    sectors = makes.left_so.sectors;
    formed = makes.left_so.geometry;
    told = makes.left_so.told_so;
    lent = λ seen file c has. (hand.files_changed seen file c has).0;
    lent_names = λ seen u c has. let x = ap (λ (q : NamesCell). q.changed) (only_names visible v names was hand u c has) in let y = (hand.changed seen).0 in omega (arith, x, y);
    same_files = λ file. refl;
    same_names = λ u. sym (ap (count only_one u) hand.names_are);
    files = λ file c has. (c, has, refl, λ seen. (hand.files_changed seen file c has).1);
    names = λ u c has. by u c has;
    next = λ p. p;
    goes = λ p cells. goes_with visible v names was hand p p names cells (its visible v names was hand p cells) refl refl;
    pool = λ p cells. refl;
    read = λ pick none. absurd none;
    once = tt;
    away = λ file place c has absent. record { before = c; has = has; absent = absent; unpicked = λ pick none e at. absurd none };
    parts = λ tree p cells _ are. are;
    none_lost = λ p cells numbered b had. subst (λ (q : BlockSet). IsHad p q b) (sym makes.unassigned) had;
    server = λ p cells numbered sound. subst (λ (q : BlockSet). IsSoundServer g q p) (sym makes.unassigned) sound;
    disk = λ seen start history p known around. failed_ends seen start history p known (record { cells = around.cells; knows = around.knows; kept = around.kept }) (makes.made seen);
  }
    where
      by : (u : Unit {0}) (c : NamesCell) → Has {A = Unit {0} × NamesCell} (u, c) ((tt, names) ∷ []) → (b : NamesCell) × Has (u, b) v.names × (c.changed ≡ b.changed) × (visible ≡ true → c.known ≤ was.stamp)
      by u c (inl is) = (
        names,
        has_names visible v names was hand,
        ap (λ (q : Unit {0} × NamesCell). q.1.changed) is,
        λ seen. (let x = ap (λ (q : Unit {0} × NamesCell). q.1.known) is in let y = (hand.changed seen).1 in omega (arith, x, y)),
      )
      by u c (inr is) = absurd is

pub reclaim_failures_may_end : (g : Geometry) → BeginningIsKept g → EmptiedIsStored g → CheckpointsAreExplained g → ReclaimFailuresMayEnd g
reclaim_failures_may_end g begins empties explains keeps visible v names was left passed told form hand makes = failure_may_end g begins empties explains keeps visible v names was left passed told form hand makes
