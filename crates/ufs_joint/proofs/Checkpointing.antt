-- A turn of the store in which a checkpoint was made may end.
use Rattle.std.proofs.Common.{◌≡◌, ℕ, ◌+◌, ◌≤◌, ◌⊎◌, inl, inr, Bool, true, cond, eqb, leb, List, [], ◌∷◌, Option, None, sym, refl, ap, ◌∙◌, subst, arith}
use Rattle.std.specs.Prelude.{IsTrue, IsSome}
use Rattle.std.proofs.lemmas.List.{append-nil}
use Rattle.std.specs.FinMap as fin
use Rattle.ufs_bitmap.specs.Blocks.{BlockSet}
use Rattle.ufs_disk.specs.Disk.{Leaves}
use Rattle.ufs_disk.specs.Moments.{Passes, all, reads}
use Rattle.ufs_image.specs.Images.{block_at}
use Rattle.ufs_layout.specs.Superblock.{geometry_of}
use Rattle.ufs_layout.specs.declared.geometry.Geometry.{Geometry}
use Rattle.ufs_ledger.specs.Changes.{home_of}
use Rattle.ufs_ledger.specs.Kept.{Counts, IsLedgerKept}
use Rattle.ufs_ledger.specs.Laws.{BeginningIsKept}
use Rattle.ufs_ledger.specs.Ledger.{IsLedgerOf, Ledger}
use Rattle.ufs_model.specs.History.{tree_after}
use Rattle.ufs_model.specs.PosixTree.{PosixTree}
use Rattle.ufs_model.specs.declared.data.Entry.{Entry}
use Rattle.ufs_hand_laws.specs.Owned.{Has, count}
use Rattle.ufs_hand_laws.specs.Parts.{Cells, only_one}
use Rattle.ufs_store.specs.Ledgers.{HasAny, HasLedger, beginning_next, checkpointed}
use Rattle.ufs_store.specs.State.{StoreState, geometry_of_store, next_superblock}
use Rattle.ufs_promise_laws.specs.AlwaysLaws.{CheckpointsAreExplained}
use Rattle.ufs_promise_laws.specs.Laws.{EmptiedIsStored}
use Rattle.ufs_promise_laws.specs.OnDisk.{AreReadable, IsExplainedBetween, IsExplainedImage}
use Rattle.ufs_promise_laws.specs.Parts.{Parts}
use Rattle.ufs_promise_laws.specs.Sound.{IsSoundServer}
use Rattle.ufs_promise_laws.specs.Stored.{IsStored}
use Rattle.ufs_promise_laws.proofs.Reading.{begun_readable, stored_readable}
use Rattle.ufs_joint.specs.Cells.{FileCell, NamesCell, StoreCell, View, store_of, store_since}
use Rattle.ufs_joint.specs.Checkpoints.{CheckpointsGoOn, CheckpointsMayEnd, HasBegunAnew, IsBareHand, MakesCheckpoint, checkpoint_turn}
use Rattle.ufs_joint.specs.FileHands.{IsAsBegun, WentOn}
use Rattle.ufs_promise_laws.specs.Known.{IsDiskKept, IsKeptGoing, IsKeptStopped, IsMore, Known}
use Rattle.ufs_joint.specs.NoneLost.{IsHad}
use Rattle.ufs_joint.specs.Turns.{EndsOnDisk, MayEndTurn, Turn, known_by}
use Rattle.ufs_joint.specs.Whole.{HasCells}
use Rattle.ufs_joint.proofs.FileTurns.{or_none}
use Rattle.ufs_joint.proofs.Passing.{each_passed, none_passed}
use Rattle.ufs_joint.proofs.Kept.{kept_going, since_kept}
use Rattle.ufs_joint.proofs.Forgetting.{less_is_kept}

-- ---- the disk keeps what it kept

module _ (g : Geometry) (begins : BeginningIsKept g) (empties : EmptiedIsStored g) (old new : StoreState) (start : PosixTree) (history : List Entry) (p : Parts) (known : Known) (form : geometry_of_store old ≡ g) (same : geometry_of_store new ≡ geometry_of_store old)
    (free : new.unassigned.free ≡ old.unassigned.free) (kept : IsKeptGoing old start history p known) where
  abbrev l : Ledger
  l = kept.going.ledger

  abbrev k : Counts
  k = kept.going.counts

  has_form : geometry_of l.superblock ≡ g
  has_form = kept.going.formed ∙ form

  next_form : geometry_of (next_superblock old) ≡ g
  next_form = ap geometry_of (sym kept.going.has.superblock_is) ∙ has_form

  made : HasLedger new (checkpointed old l) → IsKeptGoing new start history p known
  made has = record {
    going = record {
      ledger = checkpointed old l;
      counts = k;
      has = has;
      formed = has.by.geometry;
      stored = subst (λ (u : BlockSet). IsStored (checkpointed old l) u start history k p) (sym free) (empties l old.unassigned.free start history k p (next_superblock old) (block_at (home_of l (reads old.moments))) has_form next_form kept.going.stored);
    };
    covers = kept.covers;
    numbered = kept.numbered;
  }

  stops : IsSome new.stop → (m : Ledger) → geometry_of m.superblock ≡ g → IsLedgerOf new.sectors new.moments.state m → IsLedgerKept m start history k k → AreReadable m (tree_after start history) p → IsKeptStopped new start history p known
  stops stopped m its has is_kept clean = record {
    stopped = record {
      stopped = stopped;
      ledger = m;
      now = k;
      maybe = k;
      has = has;
      formed = its ∙ sym form ∙ sym same;
      tree = kept.going.stored.tree;
      legal = kept.going.stored.legal;
      kept = is_kept;
      parts = kept.going.stored.parts;
      clean = clean;
    };
    now = kept.covers;
    maybe = kept.covers;
  }

  readable : AreReadable l (tree_after start history) p
  readable = stored_readable l old.unassigned.free start history k p kept.going.stored

  failed : IsSome new.stop → HasAny new (l ∷ beginning_next old l ∷ []) → IsKeptStopped new start history p known
  failed stopped (inl is) = stops stopped l has_form is kept.going.stored.kept readable
  failed stopped (inr (inl is)) =
      stops stopped (beginning_next old l) has_form is (begins l (next_superblock old) (block_at (home_of l (reads old.moments))) start history k k has_form next_form kept.going.stored.kept)
      (begun_readable l (beginning_next old l).maybe (block_at (home_of l (reads old.moments))) (tree_after start history) p readable)
  failed stopped (inr (inr none)) = absurd none

  pub goes_on : HasBegunAnew old new → IsDiskKept new start history p known
  goes_on (inl done) = inl (made (done l kept.going.has))
  goes_on (inr told) = inr (failed told.0 (told.1 l kept.going.has))

-- ---- the turn

abbrev pub by_files : {A : Type 0} → Option A → ℕ → List (ℕ × FileCell) → Option A
by_files had file xs = cond (leb 1 (count eqb file xs + 0)) None had

pub same_le : (n : ℕ) → n ≤ n
same_le n = omega arith

module _ (g : Geometry) (begins : BeginningIsKept g) (empties : EmptiedIsStored g) (explains : CheckpointsAreExplained g) (keeps visible : Bool) (v : View) (was left : StoreCell) (passed : List Cells) (told : List ℕ)
    (form : geometry_of_store (store_of was) ≡ g) (hand : IsBareHand v was) (makes : MakesCheckpoint keeps visible was left passed told) where
  abbrev t : Turn
  t = checkpoint_turn left passed told

  abbrev old : StoreState
  old = store_since makes.earlier was

  abbrev new : StoreState
  new = store_since makes.later left

  module _ (seen : visible ≡ true) (start : PosixTree) (history : List Entry) (p : Parts) (known : Known) (begun : IsAsBegun v was start history p known) where
    was_kept : IsDiskKept old start history p known
    was_kept = since_kept was [] makes.earlier start history p known begun.kept

    -- no more is known
    less : IsMore (known_by start history t known) known
    less = record { names = same_le known.names; files = λ file. same_le (known.files file); born = λ file is. sym (or_none (known.born file)) ∙ is }

    module _ (going : was.stop ≡ None) where
      kept : IsKeptGoing old start history p known
      kept = kept_going old start history p known going was_kept

      between : IsExplainedBetween keeps was.sectors start history old.moments new.moments
      between = explains keeps old old.moments new.moments kept.going.ledger start history kept.going.counts (kept.going.formed ∙ form) kept.going.has.superblock_is kept.going.stored.kept (makes.crash seen kept.going.ledger kept.going.has)

      passes : IsTrue keeps → Passes (Leaves (IsExplainedImage was.sectors start history)) old.moments new.moments
      passes = between.between

      after : HasBegunAnew old new → IsDiskKept new start history p known
      after anew = goes_on g begins empties old new start history p known form makes.left_so.geometry makes.unassigned kept anew

    ends : (new ≡ old) ⊎ ((was.stop ≡ None) × HasBegunAnew old new) → EndsOnDisk was t (λ q. q) start history p known
    ends (inr anew) = record {
      kept = less_is_kept (store_of left) start history p (known_by start history t known) known less (since_kept left makes.later [] start history p known (after anew.0 anew.1));
      picked = λ pick never. absurd never;
      passed = each_passed keeps visible was left makes.earlier makes.later passed told makes.left_so seen start history (passes anew.0);
    }
    ends (inl same) = record {
      kept = less_is_kept (store_of left) start history p (known_by start history t known) known less (since_kept left makes.later [] start history p known (subst (λ (s : StoreState). IsDiskKept s start history p known) (sym same) was_kept));
      picked = λ pick never. absurd never;
      passed = λ cells has. absurd (subst (Has cells) none has);
    }
      where
        none : passed ≡ []
        none = none_passed keeps visible was left makes.earlier makes.later passed told makes.left_so seen same

    went_by : (new ≡ old) ⊎ ((was.stop ≡ None) × HasBegunAnew old new) → IsTrue keeps → WentOn old new
    went_by (inl same) keeping = ([], ap (λ (q : StoreState). all q.moments) same ∙ sym (append-nil (all old.moments)))
    went_by (inr told) keeping = (let is = passes told.0 keeping in (is.inside, is.whole))

  pub went_on : visible ≡ true → IsTrue keeps → (start : PosixTree) (history : List Entry) (p : Parts) (known : Known) → IsAsBegun v was start history p known → WentOn (store_since makes.earlier was) (store_since makes.later left)
  went_on seen kept start history p known begun = went_by seen start history p known begun (makes.made seen) kept

  no_file : (file : ℕ) (c : FileCell) → Has (file, c) v.files → ⊥
  no_file file c has = subst (Has (file, c)) hand.files has

  no_names : (u : Unit {0}) (c : NamesCell) → Has (u, c) v.names → ⊥
  no_names u c has = subst (Has (u, c)) hand.names has

  pub may_end : MayEndTurn g visible v t
  may_end = record {
    was = was;
    has_store = hand.store;
    stamp = makes.left_so.stamp;
    past = makes.left_so.past;
    sectors = makes.left_so.sectors;
    formed = makes.left_so.geometry;
    told = makes.left_so.told_so;
    lent = λ seen file c has. absurd (no_file file c has);
    lent_names = λ seen u c has. absurd (no_names u c has);
    same_files = λ file. sym (ap (count eqb file) hand.files);
    same_names = λ u. sym (ap (count only_one u) hand.names);
    files = λ file c has. absurd has;
    names = λ u c has. absurd has;
    next = λ p. p;
    goes = λ p cells. record {
      files_by = λ file. sym (ap (λ (xs : List (ℕ × FileCell)). by_files (fin.get p.files file) file xs) hand.files);
      commits_by = λ file. sym (ap (λ (xs : List (ℕ × FileCell)). by_files (fin.get p.commits file) file xs) hand.files);
      names_by = λ u c has. absurd has;
      names_stay = λ _. (refl, refl, refl);
    };
    pool = λ p cells. refl;
    read = λ pick none. absurd none;
    once = tt;
    away = λ file place c has absent. absurd has;
    parts = λ tree p cells _ are. are;
    none_lost = λ p cells numbered b had. subst (λ (q : BlockSet). IsHad p q b) (sym makes.unassigned) had;
    server = λ p cells numbered sound. subst (λ (q : BlockSet). IsSoundServer g q p) (sym makes.unassigned) sound;
    disk = λ seen start history p known around. ends seen start history p known (record { cells = around.cells; knows = around.knows; kept = around.kept }) (makes.made seen);
  }

pub checkpoints_may_end : (g : Geometry) → BeginningIsKept g → EmptiedIsStored g → CheckpointsAreExplained g → CheckpointsMayEnd g
checkpoints_may_end g begins empties explains keeps visible v was left passed told form hand makes = may_end g begins empties explains keeps visible v was left passed told form hand makes

pub checkpoints_go_on : (g : Geometry) → BeginningIsKept g → EmptiedIsStored g → CheckpointsAreExplained g → CheckpointsGoOn g
checkpoints_go_on g begins empties explains keeps visible v was left passed told form hand makes = went_on g begins empties explains keeps visible v was left passed told form hand makes
