-- The conditions of whole marks are met.
use Rattle.std.proofs.Common.{◌≡◌, ◌⊎◌, inl, inr, ⊎_elim, ℕ, ◌+◌, ◌*◌, ◌≤◌, false, List, [], ◌∷◌, length, Bool, None, ap, sym, refl, ◌∙◌, subst, arith}
use Rattle.std.specs.Prelude.{if◌then◌else◌}
use Rattle.ufs_disk.specs.Disk.{Cell, State}
use Rattle.ufs_disk.specs.Moments.{Moments}
use Rattle.ufs_layout.specs.Areas.{sector_count}
use Rattle.ufs_layout.specs.Superblock.{geometry_of}
use Rattle.ufs_layout.specs.declared.geometry.Geometry.{Geometry}
use Rattle.ufs_layout.specs.declared.records.Committed.{Committed}
use Rattle.ufs_model.specs.FileBytes.{bytes_of}
use Rattle.ufs_model.specs.PosixTree.{Paths}
use Rattle.ufs_model.specs.declared.data.Entry.{Entry}
use Rattle.ufs_crash_laws.specs.FileChanges.{all_changed}
use Rattle.ufs_ledger.specs.Ledger.{IsDataBlock, is_held, with_one, Ledger, IsLedgerOf}
use Rattle.ufs_ledger.specs.Changes.{committing, committed_one, settled, settled_cell, home_cells, beginning, emptied}
use Rattle.ufs_ledger.specs.Kept.{Numbers}
use Rattle.ufs_ledger.proofs.Held.{held_before}
use Rattle.ufs_hand_laws.specs.ByImages.{by_images}
use Rattle.ufs_hand_laws.specs.Commits.{TreesMayGo, IsFileCommitted, AreNamesCommitted}
use Rattle.ufs_hand_laws.specs.DiskBytes.{block_on}
use Rattle.ufs_hand_laws.specs.Events.{MayFail}
use Rattle.ufs_hand_laws.specs.Meets.{MayHaveDone}
use Rattle.ufs_hand_laws.specs.Owned.{Has, times}
use Rattle.ufs_hand_laws.specs.Parts.{Cells, FilePart, NamesPart, StorePart, View, Start, committed}
use Rattle.ufs_hand_laws.specs.Shown.{OpensAs, ShowsImages, SameTreesShow}
use Rattle.ufs_hand_laws.proofs.Commits.{fewer_show}
use Rattle.ufs_hand_laws.proofs.Meets.{file_commits_may, name_commits_may, failures_may, checkpoints_may, file_commits_are_done, name_commits_are_done}
use Rattle.ufs_store_steps.specs.Cells.{cells_of}
use Rattle.ufs_store_steps.specs.Files.{CommitsBytes, CommitsPaths}
use Rattle.ufs_store_steps.specs.Steps.{IsBefore}
use Rattle.ufs_store_steps.specs.Runs.{WentThrough, passed_cells}
use Rattle.ufs_store_steps.specs.Marks.{failure_of, AreBlocksUnheld, CommitRuns, FileCommitsMark, FailedFileCommitsMark, NameCommitsMark, FailedNameCommitsMark, CheckpointsMark, FailedCheckpointsMark}
use Rattle.ufs_store_steps.proofs.Cells.{cells_are_there, only_cells}
use Rattle.ufs_store_steps.proofs.Quiet.{blocks_read, checkpoints, emptied_alike}
use Rattle.ufs_store_steps.proofs.FileSteps.{file_commits_may_go, file_commits_go}
use Rattle.ufs_store_steps.proofs.NameSteps.{name_commits_may_go, name_commits_go}
use Rattle.ufs_store_steps.proofs.Runs.{last_is_passed, checkpoint_runs, file_commit_runs, name_commit_runs}

abbrev pub seen_of : Cell → List ℕ
seen_of c = c.seen

-- A block reads as it did, where nothing is folded in it.
module _ (g : Geometry) (sectors : ℕ) (old new : State) (l m : Ledger) (n : Numbers) (paths : Paths) (one : Cells) (is : IsBefore g sectors old l n paths one) (large : sector_count g ≤ sectors) (now : IsLedgerOf sectors new m) (same : geometry_of m.superblock ≡ g) where
  pub reads_same : (b : ℕ) → IsDataBlock g b → is_held l.now.log b ≡ false → is_held m.now.log b ≡ false → (m.blocks b).seen ≡ (l.blocks b).seen → block_on (cells_of sectors new) b ≡ block_on one b
  reads_same b data' was free alike =
      let room : 8 * b + 8 ≤ sectors = (let under = data'.under in omega (arith, large, under)) in
      blocks_read sectors new m (cells_of sectors new) b (cells_are_there sectors new) now (subst (λ g. IsDataBlock g b) (sym same) data') free room
      ∙ alike ∙ sym (blocks_read sectors old l one b is.told is.ledger (subst (λ g. IsDataBlock g b) (sym is.geometry) data') was room)

-- the state that the disk is in is one of those that it went through, or the one from before
pub ends : (g : Geometry) (sectors : ℕ) (old new : Moments) (passed : List State) (l : Ledger) (n : Numbers) (paths : Paths) (one : Cells) → IsBefore g sectors old.state l n paths one → WentThrough old new passed
    → (cells_of sectors new.state ≡ one) ⊎ Has (cells_of sectors new.state) (passed_cells sectors passed)
ends g sectors old new passed l n paths one is went = ⊎_elim (λ e. inl (e ∙ only_cells sectors old.state one is.told)) (λ h. inr h) (last_is_passed sectors old new passed went)

-- of the last state and of those on the way, so of all that a failure tells
pub each_of : (P : Cells → Type 0) (last : Cells) (through : List Cells) → P last → ((d : Cells) → Has d through → P d) → (d : Cells) → Has d (last ∷ through) → P d
each_of P last through here before d (inl e) = subst P (sym e) here
each_of P last through here before d (inr h) = before d h

-- ---- the trees stay

module _ (shows : SameTreesShow) (k : Start) (s : StorePart) where
  pub same_inside : (d : Cells) → OpensAs s.state d → (h : List Entry) → ShowsImages k.tree h (committed s) s.names s.paths s.state → ShowsImages k.tree h (committed s) s.names None d
  same_inside d alike h old = fewer_show k.tree h (committed s) (committed s) s.names s.names s.paths d (λ f. omega arith) (omega arith) (shows k.tree h (committed s) s.names s.paths s.state d alike old)

  -- a failure behind which they do may be marked
  module _ (g : Geometry) (sectors : ℕ) (new : Moments) (passed : List State) (l : Ledger) (v : View) (fault : ℕ) (unheld : AreBlocksUnheld g k v l.now.log)
      (reads : (b : ℕ) → IsDataBlock g b × (is_held l.now.log b ≡ false) → block_on (cells_of sectors new.state) b ≡ block_on s.state b)
      (last : OpensAs s.state (cells_of sectors new.state)) (between : (d : Cells) → Has d (passed_cells sectors passed) → OpensAs s.state d) where
    pub quiet_failure : v.store ≡ (tt, s) ∷ [] → s.stop ≡ None → times fault s.faults ≡ 0 → MayFail by_images k v s (failure_of fault sectors new passed)
    quiet_failure store running new_fault = record {
      store = store;
      running = running;
      new = new_fault;
      last = inl refl;
      others = λ told b z some. reads b (unheld.others b z some);
      own = λ told f y h place b there out. reads b (unheld.own f y h place b there out);
      inside = λ told h had old d at. same_inside d (each_of (OpensAs s.state) (cells_of sectors new.state) (passed_cells sectors passed) last between d at) h old;
    }

-- ---- a commit

module _ (keeps : Bool) (g : Geometry) (sectors : ℕ) (old new : Moments) (passed : List State) (l : Ledger) (t : Committed) (n : Numbers) (paths : Paths) (s : StorePart) (is : IsBefore g sectors old.state l n paths s.state)
    (run : CommitRuns keeps g sectors old new passed l t) where
  -- with one transaction more nothing is folded where nothing is afterwards
  before_one : (b : ℕ) → is_held (with_one g t l.now).log b ≡ false → is_held l.now.log b ≡ false
  before_one b free = held_before l.now.log t b free

  committed_reads : IsLedgerOf sectors new.state (committed_one t l) → (b : ℕ) → IsDataBlock g b × (is_held (with_one g t l.now).log b ≡ false) → block_on (cells_of sectors new.state) b ≡ block_on s.state b
  committed_reads now b free = reads_same g sectors old.state new.state l (committed_one t l) n paths s.state is run.large now is.geometry b free.0 (before_one b free.1) free.1 refl

  tried_reads : IsLedgerOf sectors new.state l ⊎ IsLedgerOf sectors new.state (committing t (settled l)) → (b : ℕ) → IsDataBlock g b × (is_held (with_one g t l.now).log b ≡ false) → block_on (cells_of sectors new.state) b ≡ block_on s.state b
  tried_reads (inl now) b free = reads_same g sectors old.state new.state l l n paths s.state is run.large now is.geometry b free.0 (before_one b free.1) (before_one b free.1) refl
  tried_reads (inr now) b free = reads_same g sectors old.state new.state l (committing t (settled l)) n paths s.state is run.large now is.geometry b free.0 (before_one b free.1) (before_one b free.1) refl

  module _ (file : ℕ) (bytes : List ℕ) (c : CommitsBytes g (settled l).blocks l.now (with_one g t l.now) n paths file bytes) where
    each_between : (d : Cells) → Has d (passed_cells sectors passed) → TreesMayGo (IsFileCommitted paths file bytes) s.state d
    each_between = file_commit_runs g keeps sectors old new passed l n paths s.state t file bytes run.kept is run.went c run.data' run.crash

    last_between : TreesMayGo (IsFileCommitted paths file bytes) s.state (cells_of sectors new.state)
    last_between = file_commits_may_go g sectors old.state new.state l n paths s.state (cells_of sectors new.state) t file bytes is (cells_are_there sectors new.state) c run.data'.after run.crash.after

  module _ (m : Numbers) (next : Paths) (fresh : ℕ → Bool) (c : CommitsPaths g l.now (with_one g t l.now) n m paths next fresh) where
    each_named : (d : Cells) → Has d (passed_cells sectors passed) → TreesMayGo (AreNamesCommitted fresh paths next) s.state d
    each_named = name_commit_runs g keeps sectors old new passed l n m paths next fresh s.state t run.kept is run.went c run.data' run.crash

    last_named : TreesMayGo (AreNamesCommitted fresh paths next) s.state (cells_of sectors new.state)
    last_named = name_commits_may_go g sectors old.state new.state l n m paths next fresh s.state (cells_of sectors new.state) t is (cells_are_there sectors new.state) c run.data'.after run.crash.after

-- ---- a commit of a file

pub file_commits_mark : (g : Geometry) → FileCommitsMark g
file_commits_mark g keeps sectors old new passed l t n paths k tickets v s file x is run now c its unheld =
    file_commits_may k tickets v file x s paths (passed_cells sectors passed) (cells_of sectors new.state) (record {
      file = its.only;
      store = its.store;
      born = its.born;
      told = its.told;
      lent = its.lent;
      made = its.made;
      bytes = its.bytes;
      last = ends g sectors old new passed l n paths s.state is run.went;
      others = λ told b z some. committed_reads keeps g sectors old new passed l t n paths s is run now b (unheld.others b z some);
      own = λ told place b there out. committed_reads keeps g sectors old new passed l t n paths s is run now b (unheld.own file x (subst (Has {A = ℕ × FilePart} (file, x)) (sym its.only) (inl refl)) place b there out);
      trees = λ told. file_commits_go g sectors old.state new.state l n paths s.state (cells_of sectors new.state) t file x.bytes is (cells_are_there sectors new.state) c run.data'.after now;
      between = λ told d h. each_between keeps g sectors old new passed l t n paths s is run file x.bytes c d h;
    })

pub failed_file_commits_mark : (g : Geometry) → FailedFileCommitsMark g
failed_file_commits_mark g keeps sectors old new passed l t n paths k v s file x fault is run now c its unheld running new_fault =
    failures_may k v s paths (failure_of fault sectors new passed) (record {
      store = its.store;
      running = running;
      new = new_fault;
      told = its.told;
      bytes = λ f y h. ⊎_elim (λ (e : (f, y) ≡ (file, x)). subst (λ (z : ℕ × FilePart). all_changed (bytes_of k.tree.bytes z.0) z.1.changes ≡ z.1.bytes) (sym e) its.bytes) (λ e. absurd e) (subst (Has {A = ℕ × FilePart} (f, y)) its.only h);
      last = inl refl;
      others = λ told b z some. tried_reads keeps g sectors old new passed l t n paths s is run now b (unheld.others b z some);
      own = λ told f y h place b there out. tried_reads keeps g sectors old new passed l t n paths s is run now b (unheld.own f y h place b there out);
      between = λ told d h. done d (on_the_way d h);
    })
  where
    held : Has (file, x) v.files
    held = subst (Has {A = ℕ × FilePart} (file, x)) (sym its.only) (inl refl)

    lent : Has (file, length x.changes) s.lent
    lent = subst (Has {A = ℕ × ℕ} (file, length x.changes)) (sym its.lent) (inl refl)

    on_the_way : (d : Cells) → Has d (cells_of sectors new.state ∷ passed_cells sectors passed) → TreesMayGo (IsFileCommitted paths file x.bytes) s.state d
    on_the_way = each_of (TreesMayGo (IsFileCommitted paths file x.bytes) s.state) (cells_of sectors new.state) (passed_cells sectors passed) (last_between keeps g sectors old new passed l t n paths s is run file x.bytes c)
        (each_between keeps g sectors old new passed l t n paths s is run file x.bytes c)

    done : (d : Cells) → TreesMayGo (IsFileCommitted paths file x.bytes) s.state d → TreesMayGo (MayHaveDone k v s paths) s.state d
    done d go = file_commits_are_done k v s paths file x s.state d held lent its.made go

-- ---- a commit of names

pub name_commits_mark : (g : Geometry) → NameCommitsMark g
name_commits_mark g keeps sectors old new passed l t n m paths fresh k tickets v p s extents dirs born is run now c its tells unheld =
    name_commits_may k tickets v p s paths fresh (record { extents = extents; dirs = dirs; born = born; through = passed_cells sectors passed; state = cells_of sectors new.state }) (record {
      names = its.names;
      store = its.store;
      told = its.told;
      lent = its.lent;
      made = its.made;
      last_names = its.last_names;
      new = its.new;
      fewer = tells.fewer;
      gone = tells.gone;
      dirs = tells.dirs';
      born = tells.born';
      last = ends g sectors old new passed l n paths s.state is run.went;
      others = λ told b z some. committed_reads keeps g sectors old new passed l t n paths s is run now b (unheld.others b z some);
      own = λ told f y h place b there out. committed_reads keeps g sectors old new passed l t n paths s is run now b (unheld.own f y h place b there out);
      trees = λ told. name_commits_go g sectors old.state new.state l n m paths p.paths fresh s.state (cells_of sectors new.state) t is (cells_are_there sectors new.state) c run.data'.after now;
      between = λ told d h. each_named keeps g sectors old new passed l t n paths s is run m p.paths fresh c d h;
    })

pub failed_name_commits_mark : (g : Geometry) → FailedNameCommitsMark g
failed_name_commits_mark g keeps sectors old new passed l t n m paths fresh k v p s fault is run now c its bytes unheld running new_fault =
    failures_may k v s paths (failure_of fault sectors new passed) (record {
      store = its.store;
      running = running;
      new = new_fault;
      told = its.told;
      bytes = bytes;
      last = inl refl;
      others = λ told b z some. tried_reads keeps g sectors old new passed l t n paths s is run now b (unheld.others b z some);
      own = λ told f y h place b there out. tried_reads keeps g sectors old new passed l t n paths s is run now b (unheld.own f y h place b there out);
      between = λ told d h. done d (on_the_way d h);
    })
  where
    held : Has (tt, p) v.names
    held = subst (Has {A = Unit {0} × NamesPart} (tt, p)) (sym its.names) (inl refl)

    on_the_way : (d : Cells) → Has d (cells_of sectors new.state ∷ passed_cells sectors passed) → TreesMayGo (AreNamesCommitted fresh paths p.paths) s.state d
    on_the_way = each_of (TreesMayGo (AreNamesCommitted fresh paths p.paths) s.state) (cells_of sectors new.state) (passed_cells sectors passed) (last_named keeps g sectors old new passed l t n paths s is run m p.paths fresh c)
        (each_named keeps g sectors old new passed l t n paths s is run m p.paths fresh c)

    done : (d : Cells) → TreesMayGo (AreNamesCommitted fresh paths p.paths) s.state d → TreesMayGo (MayHaveDone k v s paths) s.state d
    done d go = name_commits_are_done k v s paths fresh p s.state d held its.lent its.made its.last_names its.new go

-- ---- a checkpoint

-- what is home reads as it did, where nothing is folded in it
home_seen : (home : ℕ → List ℕ) (l : Ledger) (b : ℕ) → is_held l.now.log b ≡ false → (home_cells home l b).seen ≡ (l.blocks b).seen
home_seen home l b free = ap (λ h. seen_of (if h then record { older = []; seen = home b } else settled_cell (l.blocks b))) free

pub checkpoints_mark : SameTreesShow → (g : Geometry) → CheckpointsMark g
checkpoints_mark shows g keeps sectors old new passed l superblock home n paths k v p s dirs blocks freed kept large is went same crash data' now frees unheld =
    checkpoints_may shows k v p s (record { dirs = dirs; blocks = blocks; freed = freed; through = passed_cells sectors passed; state = cells_of sectors new.state }) (record {
      names = frees.names;
      store = frees.store;
      blocks = frees.blocks';
      fewer = frees.fewer;
      apart = frees.apart;
      last = ends g sectors old new passed l n paths s.state is went;
      others = λ told b z some. reads b (unheld.others b z some);
      own = λ told f y h place b there out. reads b (unheld.own f y h place b there out);
      same = λ told. emptied_alike g sectors old.state new.state l n paths s.state (cells_of sectors new.state) superblock home is (cells_are_there sectors new.state) same data'.after now;
      between = λ told d h. checkpoint_runs g keeps sectors old new passed l n paths s.state superblock home kept is went same data' crash d h;
    })
  where
    reads : (b : ℕ) → IsDataBlock g b × (is_held l.now.log b ≡ false) → block_on (cells_of sectors new.state) b ≡ block_on s.state b
    reads b free = reads_same g sectors old.state new.state l (emptied superblock home l) n paths s.state is large now same b free.0 free.1 refl (home_seen home l b free.1)

pub failed_checkpoints_mark : SameTreesShow → (g : Geometry) → FailedCheckpointsMark g
failed_checkpoints_mark shows g keeps sectors old new passed l superblock home n paths k v s fault kept large is went same crash data' now store unheld running new_fault =
    quiet_failure shows k s g sectors new passed l v fault unheld (λ b free. reads b free now)
    (checkpoints g sectors old.state new.state l n paths s.state (cells_of sectors new.state) superblock home is (cells_are_there sectors new.state) same data'.after crash.after)
    (checkpoint_runs g keeps sectors old new passed l n paths s.state superblock home kept is went same data' crash) store running new_fault
  where
    reads : (b : ℕ) → IsDataBlock g b × (is_held l.now.log b ≡ false) → IsLedgerOf sectors new.state l ⊎ IsLedgerOf sectors new.state (beginning superblock home l) → block_on (cells_of sectors new.state) b ≡ block_on s.state b
    reads b free (inl it) = reads_same g sectors old.state new.state l l n paths s.state is large it is.geometry b free.0 free.1 free.1 refl
    reads b free (inr it) = reads_same g sectors old.state new.state l (beginning superblock home l) n paths s.state is large it is.geometry b free.0 free.1 free.1 (home_seen home l b free.1)
