-- A turn of the store in which a file was committed may end.
use Rattle.std.proofs.Common.{◌≡◌, ◌≢◌, ℕ, ◌≤◌, ◌⊎◌, inl, inr, Bool, true, false, cond, ◌||◌, eqb, ne_eqb, leb, List, [], ◌∷◌, length, Option, Some, None, sym, refl, ap, ◌∙◌, subst, arith}
use Rattle.std.specs.Prelude.{IsTrue, ◌==◌, if◌then◌else◌}
use Rattle.std.proofs.lemmas.Bool.Decides.{nat_tests}
use Rattle.std.specs.FinMap as fin
use Rattle.std.specs.List.{slice_get}
use Rattle.std.specs.FinSet as set
use Rattle.ufs_bitmap.specs.Blocks.{BlockSet}
use Rattle.ufs_bitmap.specs.Taking.{has, set_of}
use Rattle.ufs_disk.specs.Disk.{Leaves}
use Rattle.ufs_disk.specs.Moments.{Passes}
use Rattle.ufs_hand_laws.proofs.Keys.{itself}
use Rattle.ufs_file_commits.specs.State.{DurableState, blocks_held, file_committed}
use Rattle.ufs_files.specs.Files.{AreNumbered}
use Rattle.ufs_files.proofs.MapLemmas.{one_or_apart}
use Rattle.ufs_layout.specs.declared.geometry.Geometry.{Geometry}
use Rattle.ufs_model.specs.History.{tree_after}
use Rattle.ufs_model.specs.PosixTree.{PosixTree}
use Rattle.ufs_model.specs.declared.data.Entry.{Entry}
use Rattle.ufs_promise_laws.specs.Syncs.{HasSynced, LeavesStages}
use Rattle.ufs_promise_laws.proofs.Sound.{sound_by_syncs}
use Rattle.ufs_crash_laws.specs.Changes.{changes_of}
use Rattle.ufs_hand_laws.specs.Owned.{Has, count, find}
use Rattle.ufs_hand_laws.specs.Parts.{Cells, only_one}
use Rattle.ufs_store.specs.State.{StoreState, geometry_of_store}
use Rattle.ufs_promise_laws.specs.OnDisk.{IsExplainedBetween, IsExplainedImage}
use Rattle.ufs_promise_laws.specs.Parts.{Parts, durable_in, with_file}
use Rattle.ufs_promise_laws.specs.Sound.{IsSoundServer}
use Rattle.ufs_promise_laws.specs.Stored.{ArePartsOf}
use Rattle.ufs_promise_laws.proofs.FileEntries.{parts_now}
use Rattle.ufs_promise_laws.proofs.Whole.{cleaned_stays}
use Rattle.ufs_joint.specs.Cells.{FileCell, StoreCell, View, store_of, store_since}
use Rattle.ufs_joint.specs.FileHands.{CommitsFile, FileCommitsGoOn, FileCommitsMayEnd, IsAsBegun, IsSyncHand, WentOn, committed_turn}
use Rattle.ufs_promise_laws.specs.Known.{IsDiskKept, IsKeptGoing, IsMore, Known, with_file_known}
use Rattle.ufs_joint.specs.Sound.{IsExplainedState}
use Rattle.ufs_joint.specs.Turns.{EndsOnDisk, MayEndTurn, Turn, known_by}
use Rattle.ufs_joint.specs.Whole.{HasCells, HasFileCell, birth_known, changes_known, file_changes_at}
use Rattle.ufs_joint.proofs.Passing.{each_passed}
use Rattle.ufs_joint.proofs.Kept.{kept_going, since_kept}
use Rattle.ufs_joint.specs.Files.{FilesAreExplained, FilesAreKnown, IsBornHere}
use Rattle.ufs_joint.proofs.Forgetting.{less_is_kept}
use Rattle.ufs_ledger.specs.Laws.{raised}
use Rattle.ufs_joint.specs.NoneLost.{IsHad}
use Rattle.ufs_joint.proofs.NoneLost.{commit_keeps, file_keeps}
use Rattle.ufs_joint.proofs.OneFile.{durable_is, none_here, one_file_goes, one_here}
use Rattle.ufs_joint.proofs.Takes.{fewer_changes}

pub or_none : (a : Bool) → (a || false) ≡ a
or_none true = refl
or_none false = refl

-- what is raised at one number
raised_here : (files : ℕ → ℕ) (file n other : ℕ) → other ≡ file → raised files file n other ≡ n
raised_here files file n other same = let e : (other == file) ≡ true = grind (arith, nat_tests, same) in ap (λ (b : Bool). if b then n else files other) e

raised_else : (files : ℕ → ℕ) (file n other : ℕ) → other ≢ file → raised files file n other ≡ files other
raised_else files file n other not = let e : (other == file) ≡ false = ne_eqb other file not in ap (λ (b : Bool). if b then n else files other) e

module _ (syncs : FilesAreKnown) (g : Geometry) (explains : FilesAreExplained g)
    (keeps visible : Bool) (v : View) (file : ℕ) (cell : FileCell) (was left : StoreCell) (passed : List Cells) (form : geometry_of_store (store_of was) ≡ g) (hand : IsSyncHand visible v file cell was) (commits : CommitsFile keeps visible was left cell.value passed) where
  abbrev t : Turn
  t = committed_turn file cell was left passed

  abbrev done : FileCell
  done = record cell { value = file_committed cell.value; known = was.stamp }

  abbrev go : Parts → Parts
  go p = with_file (file_committed cell.value) p.pool p

  has_file : Has (file, cell) v.files
  has_file = subst (Has (file, cell)) (sym hand.files) (inl refl)

  only_file : (other : ℕ) (c : FileCell) → Has (other, c) v.files → (other ≡ file) × (c ≡ cell)
  only_file other c has = by (subst (Has (other, c)) hand.files has)
    where
      by : Has {A = ℕ × FileCell} (other, c) ((file, cell) ∷ []) → (other ≡ file) × (c ≡ cell)
      by (inl is) = (ap (λ (q : ℕ × FileCell). q.0) is, ap (λ (q : ℕ × FileCell). q.1) is)
      by (inr is) = absurd is

  -- ---- whole parts

  module _ (p : Parts) (cells : HasCells v p) where
    its : HasFileCell p file cell
    its = cells.files file cell has_file

    here : fin.get p.files cell.value.file.file ≡ Some cell.value.file
    here = ap (fin.get p.files) hand.number ∙ its.file_is

    durable : durable_in p.commits cell.value.file ≡ cell.value
    durable = durable_is p file cell hand.number its

    parts_by : (tree : PosixTree) → ArePartsOf p tree → ArePartsOf (go p) tree
    parts_by tree parts = parts_now p cell.value.file (file_committed cell.value) p.pool here refl refl tree tree parts parts.names (cleaned_stays cell.value.file tree (parts.files cell.value.file.file cell.value.file here).1) (λ n not. refl)

    server_by : AreNumbered p.files → IsSoundServer g was.unassigned.free p → IsSoundServer g left.unassigned.free (go p)
    server_by numbered sound = subst (λ (q : BlockSet). IsSoundServer g q (go p)) (sym commits.freed)
        (subst (λ (x : DurableState). IsSoundServer g (set.union was.unassigned.free (set_of x.dropped)) (with_file (file_committed x) p.pool p)) durable
        (sound_by_syncs g was.unassigned.free p cell.value.file numbered here sound))

    -- the blocks that it dropped are unassigned now
    lost_none : AreNumbered p.files → (b : ℕ) → IsHad p was.unassigned.free b → IsHad (go p) left.unassigned.free b
    lost_none numbered b had = subst (λ (q : BlockSet). IsHad (go p) q b) (sym commits.freed)
        (file_keeps p cell.value.file (file_committed cell.value) p.pool was.unassigned.free (set.union was.unassigned.free (set_of cell.value.dropped)) here refl numbered b
        (subst (λ (x : DurableState). (has (blocks_held x) b ≡ true) ⊎ ((set.contains p.pool b ≡ true) ⊎ (set.contains was.unassigned.free b ≡ true))
        → (has (blocks_held (file_committed cell.value)) b ≡ true) ⊎ ((set.contains p.pool b ≡ true) ⊎ (set.contains (set.union was.unassigned.free (set_of cell.value.dropped)) b ≡ true))) (sym durable) (commit_keeps cell.value p.pool was.unassigned.free b)) had)

    -- ---- the disk

    module _ (seen : visible ≡ true) (start : PosixTree) (history : List Entry) (known : Known) (around : IsAsBegun v was start history p known) where
      abbrev old : StoreState
      old = store_since commits.earlier was

      abbrev new : StoreState
      new = store_since commits.later left

      kept : IsKeptGoing old start history p known
      kept = kept_going old start history p known commits.going (since_kept was [] commits.earlier start history p known around.kept)

      birth_is : known.born file ≡ true
      birth_is = around.knows.born file cell has_file hand.born

      born : IsBornHere p known cell.value.file
      born = record { here = here; born = ap known.born hand.number ∙ birth_is }

      told : HasSynced old new (durable_in p.commits cell.value.file)
      told = subst (HasSynced old new) (sym durable) (commits.synced seen)

      abbrev so_many : ℕ
      so_many = length (changes_of cell.value.file.file start history)

      after : IsKeptGoing new start history (go p) (with_file_known cell.value.file.file so_many known)
      after = subst (λ (x : DurableState). IsKeptGoing new start history (with_file (file_committed x) p.pool p) (with_file_known cell.value.file.file so_many known)) durable
          (syncs old new start history p known cell.value.file born commits.fits told kept)

      -- no more is known than that
      less : IsMore (known_by start history t known) (with_file_known cell.value.file.file so_many known)
      less = record { names = omega arith; files = λ other. covered other (one_or_apart other file); born = λ other. births other (one_or_apart other file) }
        where
          covered : (other : ℕ) → (other ≡ file) ⊎ (other ≢ file) → cond (leb 1 (count eqb other t.files)) (changes_known start history other (find eqb other t.files)) (known.files other) ≤ raised known.files cell.value.file.file so_many other
          covered other (inl is) =
              let a = one_here file other is done in
              let b : eqb other file ≡ true = ap (eqb other) (sym is) ∙ itself other in
              let c : cond (leb 1 (count eqb other t.files)) (changes_known start history other (find eqb other t.files)) (known.files other) ≡ file_changes_at start history other was.stamp =
              (λ i. cond (leb 1 (a i)) (changes_known start history other (cond (b i) (Some done) None)) (known.files other)) in
              let d = fewer_changes other start history was.stamp in
              let same : other ≡ cell.value.file.file = is ∙ sym hand.number in
              let x : length (changes_of other start history) ≡ so_many = ap (λ q. length (changes_of q start history)) same in
              let y : raised known.files cell.value.file.file so_many other ≡ so_many = raised_here known.files cell.value.file.file so_many other same in
              omega (arith, c, d, x, y)
          covered other (inr not) =
              let a = none_here file other not done in
              let c : cond (leb 1 (count eqb other t.files)) (changes_known start history other (find eqb other t.files)) (known.files other) ≡ known.files other = (λ i. cond (leb 1 (a i)) (changes_known start history other (find eqb other t.files)) (known.files other)) in
              let y : raised known.files cell.value.file.file so_many other ≡ known.files other = raised_else known.files cell.value.file.file so_many other (λ e. not (e ∙ hand.number)) in
              omega (arith, c, y)

          births : (other : ℕ) → (other ≡ file) ⊎ (other ≢ file) → (known.born other || birth_known start history (find eqb other t.files)) ≡ true → known.born other ≡ true
          births other (inl is) born = ap known.born is ∙ birth_is
          births other (inr not) born =
              let a : find eqb other t.files ≡ None = ap (λ b. cond b (Some done) None) (ne_eqb other file not) in
              sym (or_none (known.born other)) ∙ ap (λ (x : Option FileCell). known.born other || birth_known start history x) (sym a) ∙ born

      now_kept : IsDiskKept new start history (go p) (known_by start history t known)
      now_kept = less_is_kept new start history (go p) (known_by start history t known) (with_file_known cell.value.file.file so_many known) less (inl after)

      between : IsExplainedBetween keeps was.sectors start history old.moments new.moments
      between = explains keeps old new start history p known cell.value.file form born commits.fits (subst (LeavesStages keeps old new) (sym durable) (commits.stages seen)) kept

      passes : IsTrue keeps → Passes (Leaves (IsExplainedImage was.sectors start history)) old.moments new.moments
      passes = between.between

      ends : EndsOnDisk was t go start history p known
      ends = record {
        kept = since_kept left commits.later [] start history (go p) (known_by start history t known) now_kept;
        passed = passed_states;
        picked = λ pick none. absurd none;
      }
        where
          passed_states : (cells : Cells) → Has cells passed → IsExplainedState was.sectors start history cells
          passed_states = each_passed keeps visible was left commits.earlier commits.later passed [] commits.left_so seen start history passes

  pub may_end : MayEndTurn g visible v t
  may_end = record {
    was = was;
    has_store = hand.store;
    stamp = commits.left_so.stamp;
    past = commits.left_so.past;
    sectors = commits.left_so.sectors;
    formed = commits.left_so.geometry;
    told = commits.left_so.told_so;
    lent = λ seen other c has. let x = ap (λ (q : FileCell). q.changed) (only_file other c has).1 in let y = hand.changed seen in omega (arith, x, y);
    lent_names = λ _ u c has. absurd (subst (Has (u, c)) hand.names has);
    same_files = λ other. sym (ap (count eqb other) hand.files);
    same_names = λ u. sym (ap (count only_one u) hand.names);
    files = λ other c has. by other c has;
    names = λ u c has. absurd has;
    next = go;
    goes = λ p cells. one_file_goes v.files file cell done p.pool p hand.files hand.number;
    pool = λ p cells. refl;
    read = λ pick none. absurd none;
    once = tt;
    away = λ other place c has absent. record {
      before = cell;
      has = subst (λ q. Has (q, cell) v.files) (sym (done_is other c has).0) has_file;
      absent = ap (λ (q : FileCell). slice_get q.value.file.content.there place) (sym (done_is other c has).1) ∙ absent;
      unpicked = λ pick none e at. absurd none;
    };
    parts = λ tree p cells _. parts_by p cells tree;
    none_lost = λ p cells numbered b. lost_none p cells numbered b;
    server = server_by;
    disk = λ seen start history p known around. ends p around.cells seen start history known (record { cells = around.cells; knows = around.knows; kept = around.kept });
  }
    where
      done_is : (other : ℕ) (c : FileCell) → Has (other, c) t.files → (other ≡ file) × (c ≡ done)
      done_is other c (inl is) = (ap (λ (q : ℕ × FileCell). q.0) is, ap (λ (q : ℕ × FileCell). q.1) is)
      done_is other c (inr is) = absurd is

      by : (other : ℕ) (c : FileCell) → Has (other, c) t.files → (before : FileCell) × Has (other, before) v.files × (c.changed ≡ before.changed) × (visible ≡ true → c.known ≤ was.stamp)
      by other c (inl is) = (cell, subst (λ q. Has (q, cell) v.files) (sym (ap (λ (q : ℕ × FileCell). q.0) is)) has_file, ap (λ (q : ℕ × FileCell). q.1.changed) is, λ _. (let x = ap (λ (q : ℕ × FileCell). q.1.known) is in omega (arith, x)))
      by other c (inr is) = absurd is

  pub went_on : visible ≡ true → IsTrue keeps → (start : PosixTree) (history : List Entry) (p : Parts) (known : Known) → IsAsBegun v was start history p known → WentOn (store_since commits.earlier was) (store_since commits.later left)
  went_on seen kept start history p known begun = (let is = passes p begun.cells seen start history known begun kept in (is.inside, is.whole))

pub file_commits_may_end : FilesAreKnown → (g : Geometry) → FilesAreExplained g → FileCommitsMayEnd g
file_commits_may_end syncs g explains keeps visible v file cell was left passed form hand commits = may_end syncs g explains keeps visible v file cell was left passed form hand commits

pub file_commits_go_on : FilesAreKnown → (g : Geometry) → FilesAreExplained g → FileCommitsGoOn g
file_commits_go_on syncs g explains keeps visible v file cell was left passed form hand commits = went_on syncs g explains keeps visible v file cell was left passed form hand commits
