-- A turn of the store in which the commit of a file failed may end.
use Rattle.std.proofs.Common.{◌≡◌, ◌≢◌, ℕ, ◌≤◌, ◌⊎◌, inl, inr, Bool, true, false, cond, ◌||◌, eqb, ne_eqb, leb, List, [], ◌∷◌, Option, Some, None, sym, refl, ap, ◌∙◌, subst, arith}
use Rattle.std.specs.Prelude.{IsTrue}
use Rattle.std.proofs.lemmas.List.{append-nil}
use Rattle.std.specs.FinMap as fin
use Rattle.std.specs.List.{slice_get}
use Rattle.ufs_bitmap.specs.Blocks.{BlockSet}
use Rattle.ufs_disk.specs.Disk.{Leaves}
use Rattle.ufs_disk.specs.Moments.{Passes, all}
use Rattle.ufs_hand_laws.proofs.Keys.{itself}
use Rattle.ufs_files.proofs.MapLemmas.{one_or_apart}
use Rattle.ufs_layout.specs.declared.geometry.Geometry.{Geometry}
use Rattle.ufs_model.specs.PosixTree.{PosixTree}
use Rattle.ufs_model.specs.declared.data.Entry.{Entry}
use Rattle.ufs_promise_laws.specs.Syncs.{HasFailed, HasWritten, LeavesStages}
use Rattle.ufs_hand_laws.specs.Owned.{Has, count, find}
use Rattle.ufs_hand_laws.specs.Parts.{Cells, only_one}
use Rattle.ufs_store.specs.State.{StoreState, geometry_of_store}
use Rattle.ufs_promise_laws.specs.OnDisk.{IsExplainedBetween, IsExplainedImage}
use Rattle.ufs_promise_laws.specs.Parts.{Parts, durable_in}
use Rattle.ufs_promise_laws.specs.Sound.{IsSoundServer}
use Rattle.ufs_joint.specs.Cells.{FileCell, StoreCell, View, store_of, store_since}
use Rattle.ufs_joint.specs.FileHands.{FailsFile, FileFailuresGoOn, FileFailuresMayEnd, IsAsBegun, IsSyncHand, WentOn, failed_turn}
use Rattle.ufs_promise_laws.specs.Known.{IsDiskKept, IsKeptGoing, IsMore, Known}
use Rattle.ufs_joint.specs.NoneLost.{IsHad}
use Rattle.ufs_joint.specs.Turns.{EndsOnDisk, MayEndTurn, Turn, known_by}
use Rattle.ufs_joint.specs.Whole.{HasCells, HasFileCell, birth_known, changes_known, file_changes_at}
use Rattle.ufs_joint.proofs.FileTurns.{or_none}
use Rattle.ufs_joint.proofs.Passing.{each_passed, none_passed}
use Rattle.ufs_joint.proofs.Kept.{kept_going, since_kept}
use Rattle.ufs_joint.specs.Files.{FailedFilesStayKept, FilesAreExplained, IsBornHere, WrittenFilesStayKept}
use Rattle.ufs_joint.proofs.Forgetting.{less_is_kept}
use Rattle.ufs_joint.proofs.OneFile.{durable_is, none_here, one_here, only_here, same_file_goes}

module _ (fails_known : FailedFilesStayKept) (g : Geometry) (writes_known : WrittenFilesStayKept g) (explains : FilesAreExplained g)
    (keeps visible : Bool) (v : View) (file : ℕ) (cell : FileCell) (was left : StoreCell) (passed : List Cells) (told : List ℕ) (form : geometry_of_store (store_of was) ≡ g) (hand : IsSyncHand visible v file cell was) (fails : FailsFile keeps visible was left cell.value passed told) where
  abbrev t : Turn
  t = failed_turn file cell left passed told

  has_file : Has (file, cell) v.files
  has_file = subst (Has (file, cell)) (sym hand.files) (inl refl)

  only_file : (other : ℕ) (c : FileCell) → Has (other, c) v.files → (other ≡ file) × (c ≡ cell)
  only_file other c has = only_here file other cell c (subst (Has (other, c)) hand.files has)

  -- ---- whole parts

  module _ (p : Parts) (cells : HasCells v p) where
    its : HasFileCell p file cell
    its = cells.files file cell has_file

    here : fin.get p.files cell.value.file.file ≡ Some cell.value.file
    here = ap (fin.get p.files) hand.number ∙ its.file_is

    durable : durable_in p.commits cell.value.file ≡ cell.value
    durable = durable_is p file cell hand.number its

    -- ---- the disk

    module _ (seen : visible ≡ true) (start : PosixTree) (history : List Entry) (known : Known) (around : IsAsBegun v was start history p known) where
      abbrev old : StoreState
      old = store_since fails.earlier was

      abbrev new : StoreState
      new = store_since fails.later left

      was_kept : IsDiskKept old start history p known
      was_kept = since_kept was [] fails.earlier start history p known around.kept

      birth_is : known.born file ≡ true
      birth_is = around.knows.born file cell has_file hand.born

      born : IsBornHere p known cell.value.file
      born = record { here = here; born = ap known.born hand.number ∙ birth_is }

      -- no more is known than was
      less : IsMore (known_by start history t known) known
      less = record { names = omega arith; files = λ other. files_at other (one_or_apart other file); born = λ other. born_at other (one_or_apart other file) }
        where
          files_at : (other : ℕ) → (other ≡ file) ⊎ (other ≢ file) → cond (leb 1 (count eqb other t.files)) (changes_known start history other (find eqb other t.files)) (known.files other) ≤ known.files other
          files_at other (inl is) =
              let a = one_here file other is cell in
              let b : eqb other file ≡ true = ap (eqb other) (sym is) ∙ itself other in
              let c : cond (leb 1 (count eqb other t.files)) (changes_known start history other (find eqb other t.files)) (known.files other) ≡ file_changes_at start history other cell.known =
              (λ i. cond (leb 1 (a i)) (changes_known start history other (cond (b i) (Some cell) None)) (known.files other)) in
              let d = subst (λ (m : ℕ). file_changes_at start history m cell.known ≤ known.files m) (sym is) (around.knows.files file cell has_file) in
              omega (arith, c, d)
          files_at other (inr not) =
              let a = none_here file other not cell in
              let c : cond (leb 1 (count eqb other t.files)) (changes_known start history other (find eqb other t.files)) (known.files other) ≡ known.files other = (λ i. cond (leb 1 (a i)) (changes_known start history other (find eqb other t.files)) (known.files other)) in
              omega (arith, c)

          born_at : (other : ℕ) → (other ≡ file) ⊎ (other ≢ file) → (known.born other || birth_known start history (find eqb other t.files)) ≡ true → known.born other ≡ true
          born_at other (inl is) born = ap known.born is ∙ birth_is
          born_at other (inr not) born =
              let a : find eqb other t.files ≡ None = ap (λ b. cond b (Some cell) None) (ne_eqb other file not) in
              sym (or_none (known.born other)) ∙ ap (λ (x : Option FileCell). known.born other || birth_known start history x) (sym a) ∙ born

      -- the store went on until it failed
      module _ (going : was.stop ≡ None) where
        kept : IsKeptGoing old start history p known
        kept = kept_going old start history p known going was_kept

        after : HasWritten old new cell.value ⊎ HasFailed old new cell.value → IsDiskKept new start history p known
        after (inl told) = inl (writes_known old new start history p known cell.value.file form born (subst (HasWritten old new) (sym durable) told) kept)
        after (inr told) = inr (fails_known old new start history p known cell.value.file born fails.fits (subst (HasFailed old new) (sym durable) told) kept)

        between : IsExplainedBetween keeps was.sectors start history old.moments new.moments
        between = explains keeps old new start history p known cell.value.file form born fails.fits (subst (LeavesStages keeps old new) (sym durable) (fails.stages seen)) kept

        passes : IsTrue keeps → Passes (Leaves (IsExplainedImage was.sectors start history)) old.moments new.moments
        passes = between.between

        ended : HasWritten old new cell.value ⊎ HasFailed old new cell.value → EndsOnDisk was t (λ q. q) start history p known
        ended tried = record {
          kept = less_is_kept (store_of left) start history p (known_by start history t known) known less (since_kept left fails.later [] start history p known (after tried));
          picked = λ pick never. absurd never;
          passed = each_passed keeps visible was left fails.earlier fails.later passed told fails.left_so seen start history passes;
        }

      ends : (new ≡ old) ⊎ ((was.stop ≡ None) × (HasWritten old new cell.value ⊎ HasFailed old new cell.value)) → EndsOnDisk was t (λ q. q) start history p known
      ends (inr told) = ended told.0 told.1
      ends (inl same) = record {
        kept = less_is_kept (store_of left) start history p (known_by start history t known) known less (since_kept left fails.later [] start history p known (subst (λ (s : StoreState). IsDiskKept s start history p known) (sym same) was_kept));
        passed = λ cells has. absurd (subst (Has cells) none has);
        picked = λ pick never. absurd never;
      }
        where
          none : passed ≡ []
          none = none_passed keeps visible was left fails.earlier fails.later passed told fails.left_so seen same

      went_by : (new ≡ old) ⊎ ((was.stop ≡ None) × (HasWritten old new cell.value ⊎ HasFailed old new cell.value)) → IsTrue keeps → WentOn old new
      went_by (inl same) keeping = ([], ap (λ (q : StoreState). all q.moments) same ∙ sym (append-nil (all old.moments)))
      went_by (inr told) keeping = (let is = passes told.0 keeping in (is.inside, is.whole))

  pub went_on : visible ≡ true → IsTrue keeps → (start : PosixTree) (history : List Entry) (p : Parts) (known : Known) → IsAsBegun v was start history p known → WentOn (store_since fails.earlier was) (store_since fails.later left)
  went_on seen kept start history p known begun = went_by p begun.cells seen start history known begun (fails.failed seen) kept

  pub may_end : MayEndTurn g visible v t
  may_end = record {
    was = was;
    has_store = hand.store;
    stamp = fails.left_so.stamp;
    past = fails.left_so.past;
    sectors = fails.left_so.sectors;
    formed = fails.left_so.geometry;
    told = fails.left_so.told_so;
    lent = λ seen other c has. let x = ap (λ (q : FileCell). q.changed) (only_file other c has).1 in let y = hand.changed seen in omega (arith, x, y);
    lent_names = λ _ u c has. absurd (subst (Has (u, c)) hand.names has);
    same_files = λ other. sym (ap (count eqb other) hand.files);
    same_names = λ u. sym (ap (count only_one u) hand.names);
    files = λ other c has. by other c has;
    names = λ u c has. absurd has;
    next = λ p. p;
    goes = λ p cells. same_file_goes v.files file cell cell p.pool p hand.files hand.number (its p cells);
    pool = λ p cells. refl;
    read = λ pick none. absurd none;
    once = tt;
    away = λ other place c has absent. record {
      before = cell;
      has = subst (λ q. Has (q, cell) v.files) (sym (same_cell other c has).0) has_file;
      absent = ap (λ (q : FileCell). slice_get q.value.file.content.there place) (sym (same_cell other c has).1) ∙ absent;
      unpicked = λ pick none e at. absurd none;
    };
    parts = λ tree p cells _ are. are;
    none_lost = λ p cells numbered b had. subst (λ (q : BlockSet). IsHad p q b) (sym fails.unfreed) had;
    server = λ p cells numbered sound. subst (λ (q : BlockSet). IsSoundServer g q p) (sym fails.unfreed) sound;
    disk = λ seen start history p known around. ends p around.cells seen start history known (record { cells = around.cells; knows = around.knows; kept = around.kept }) (fails.failed seen);
  }
    where
      same_cell : (other : ℕ) (c : FileCell) → Has (other, c) t.files → (other ≡ file) × (c ≡ cell)
      same_cell other c = only_here file other cell c

      by : (other : ℕ) (c : FileCell) → Has (other, c) t.files → (before : FileCell) × Has (other, before) v.files × (c.changed ≡ before.changed) × (visible ≡ true → c.known ≤ was.stamp)
      by other c (inl is) = (
        cell,
        subst (λ q. Has (q, cell) v.files) (sym (ap (λ (q : ℕ × FileCell). q.0) is)) has_file,
        ap (λ (q : ℕ × FileCell). q.1.changed) is,
        λ seen. (let x = ap (λ (q : ℕ × FileCell). q.1.known) is in let y = hand.known seen in omega (arith, x, y)),
      )
      by other c (inr is) = absurd is

pub file_failures_may_end : FailedFilesStayKept → (g : Geometry) → WrittenFilesStayKept g → FilesAreExplained g → FileFailuresMayEnd g
file_failures_may_end fails_known g writes_known explains keeps visible v file cell was left passed told form hand fails = may_end fails_known g writes_known explains keeps visible v file cell was left passed told form hand fails

pub file_failures_go_on : FailedFilesStayKept → (g : Geometry) → WrittenFilesStayKept g → FilesAreExplained g → FileFailuresGoOn g
file_failures_go_on fails_known g writes_known explains keeps visible v file cell was left passed told form hand fails = went_on fails_known g writes_known explains keeps visible v file cell was left passed told form hand fails
