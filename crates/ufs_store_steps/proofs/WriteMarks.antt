-- The conditions of marks of a write, a read and a barrier are met.
use Rattle.std.proofs.Common.{◌≡◌, ◌≢◌, ◌⊎◌, inl, inr, ℕ, ◌+◌, ◌*◌, ◌≤◌, true, false, List, ◌∷◌, Bool, Some, ap, sym, refl, ◌∙◌, subst, arith}
use Rattle.std.specs.Prelude.{slice_get}
use native.Mathlib.Decide.{ℕ_discrete}
use Rattle.ufs_disk.specs.Disk.{State, possible}
use Rattle.ufs_disk.specs.Moments.{Moments, reads}
use Rattle.ufs_disk.proofs.Images.{if_eq, if_ne}
use Rattle.ufs_image.specs.Images.{block_at}
use Rattle.ufs_layout.specs.declared.geometry.Geometry.{Geometry}
use Rattle.ufs_model.specs.PosixTree.{Paths}
use Rattle.ufs_ledger.specs.Ledger.{IsDataBlock, is_held, Ledger, IsLedgerOf}
use Rattle.ufs_ledger.specs.Changes.{settled, rewritten, written, tried}
use Rattle.ufs_ledger.specs.Kept.{Numbers}
use Rattle.ufs_hand_laws.specs.Commits.{TreesGo, TreesMayGo}
use Rattle.ufs_hand_laws.specs.DiskBytes.{block_on, block_in, is_loaded}
use Rattle.ufs_hand_laws.specs.Meets.{AreFilesWrittenBy}
use Rattle.ufs_hand_laws.specs.Owned.{Has}
use Rattle.ufs_hand_laws.specs.Parts.{Cells, FilePart, StorePart, View, Start, uses, committed}
use Rattle.ufs_hand_laws.specs.Shown.{OpensAs, SameTreesShow}
use Rattle.ufs_hand_laws.proofs.Meets.{passages_may, failures_may, writes_are_done}
use Rattle.ufs_store_steps.specs.Cells.{cells_of}
use Rattle.ufs_store_steps.specs.Steps.{IsBefore}
use Rattle.ufs_store_steps.specs.Runs.{passed_cells}
use Rattle.ufs_store_steps.specs.Marks.{failure_of, AreBlocksUnheld}
use Rattle.ufs_store_steps.specs.WriteMarks.{BlockWriteRuns, WritesItsBlock, HasItsBytes, IsInMemory, WritesMark, FailedWritesMark, QuietCallRuns, QuietCallsMark, FailedBarriersMark}
use Rattle.ufs_store_steps.proofs.Cells.{cells_are_there}
use Rattle.ufs_store_steps.proofs.Quiet.{blocks_read, quiet_calls}
use Rattle.ufs_store_steps.proofs.WriteSteps.{writes_go}
use Rattle.ufs_store_steps.proofs.Runs.{may_go, quiet_runs, write_runs}
use Rattle.ufs_store_steps.proofs.Marks.{seen_of, reads_same, ends, each_of, same_inside, quiet_failure}

-- ---- a write

module _ (keeps : Bool) (g : Geometry) (sectors block : ℕ) (bytes : List ℕ) (old new : Moments) (passed : List State) (l : Ledger) (n : Numbers) (paths : Paths) (k : Start) (v : View) (s : StorePart) (is : IsBefore g sectors old.state l n paths s.state)
    (run : BlockWriteRuns keeps g sectors block bytes old new passed l) (its : WritesItsBlock k v s l.now n paths block bytes) (unheld : AreBlocksUnheld g k v l.now.log) where
  inside : 8 * block + 8 ≤ sectors
  inside = let large = run.large in let under = (subst (λ g. IsDataBlock g block) is.geometry run.may.data_block).under in omega (arith, large, under)

  -- the block is none of others
  others_block : (b : ℕ) → uses b v ≡ 0 → b ≢ block
  others_block b none e = let hand = its.hand in let zero' : uses block v ≡ 0 = subst (λ c. uses c v ≡ 0) e none in omega (arith, hand, zero')

  -- each other block reads as it did
  written_else : IsLedgerOf sectors new.state (written block bytes l) → (b : ℕ) → b ≢ block → IsDataBlock g b × (is_held l.now.log b ≡ false) → block_on (cells_of sectors new.state) b ≡ block_on s.state b
  written_else now b ne free = reads_same g sectors old.state new.state l (written block bytes l) n paths s.state is run.large now is.geometry b free.0 free.1 free.1
      (ap seen_of (if_ne b block (record { older = possible (l.blocks b); seen = bytes }) (l.blocks b) ne))

  tried_else : IsLedgerOf sectors new.state (tried block bytes (block_at (reads new) block) l) → (b : ℕ) → b ≢ block → IsDataBlock g b × (is_held l.now.log b ≡ false) → block_on (cells_of sectors new.state) b ≡ block_on s.state b
  tried_else now b ne free = reads_same g sectors old.state new.state l (tried block bytes (block_at (reads new) block) l) n paths s.state is run.large now is.geometry b free.0 free.1 free.1
      (ap seen_of (if_ne b block (record { older = possible (rewritten block bytes l.blocks b); seen = block_at (reads new) block }) (rewritten block bytes l.blocks b) ne ∙ if_ne b block (record { older = possible (l.blocks b); seen = bytes }) (l.blocks b) ne))

  -- and the block as it was written
  written_here : IsLedgerOf sectors new.state (written block bytes l) → is_held l.now.log block ≡ false → block_on (cells_of sectors new.state) block ≡ bytes
  written_here now free = blocks_read sectors new.state (written block bytes l) (cells_of sectors new.state) block (cells_are_there sectors new.state) now run.may.data_block free inside
      ∙ ap seen_of (if_eq block block (record { older = possible (l.blocks block); seen = bytes }) (l.blocks block) refl)

  own_written : IsLedgerOf sectors new.state (written block bytes l) → HasItsBytes v block bytes → (file : ℕ) (x : FilePart) → Has (file, x) v.files → (place b : ℕ) → slice_get x.blocks place ≡ Some b → is_loaded x place ≡ false
      → (block_on (cells_of sectors new.state) b ≡ block_in x.bytes place) ⊎ (block_on (cells_of sectors new.state) b ≡ block_on s.state b)
  own_written now has file x h place b there out = by (ℕ_discrete b block)
    where
      by : Dec (b ≡ block) → (block_on (cells_of sectors new.state) b ≡ block_in x.bytes place) ⊎ (block_on (cells_of sectors new.state) b ≡ block_on s.state b)
      by (no ne) = inr (written_else now b ne (unheld.own file x h place b there out))
      by (yes e) = inl (ap (block_on (cells_of sectors new.state)) e ∙ written_here now (subst (λ c. is_held l.now.log c ≡ false) e (unheld.own file x h place b there out).1) ∙ has file x h place (there ∙ ap Some e) out)

  own_tried : IsLedgerOf sectors new.state (tried block bytes (block_at (reads new) block) l) → IsInMemory v block → (file : ℕ) (x : FilePart) → Has (file, x) v.files → (place b : ℕ) → slice_get x.blocks place ≡ Some b → is_loaded x place ≡ false
      → block_on (cells_of sectors new.state) b ≡ block_on s.state b
  own_tried now memory file x h place b there out =
      tried_else now b (λ e. let in_it = memory file x h place (there ∙ ap Some e) in let both : true ≡ false = sym in_it ∙ out in cc) (unheld.own file x h place b there out)

  trees : TreesGo (AreFilesWrittenBy v s paths) s.state (cells_of sectors new.state)
  trees = writes_go g sectors old.state new.state l n paths s.state (cells_of sectors new.state) block bytes v s is (cells_are_there sectors new.state) run.whole run.used run.may inside its.writes run.images.after

  between : (d : Cells) → Has d (passed_cells sectors passed) → TreesMayGo (AreFilesWrittenBy v s paths) s.state d
  between = write_runs g keeps sectors old new passed l n paths s.state block bytes v s run.kept is run.went run.whole run.used run.may inside its.writes run.images

pub writes_mark : (g : Geometry) → WritesMark g
writes_mark g keeps sectors block bytes old new passed l n paths k v s lent lent_names is run now its has unheld lends =
    passages_may k v s lent lent_names paths (record { through = passed_cells sectors passed; state = cells_of sectors new.state }) (record {
      store = its.store;
      told = its.told;
      lends = lends;
      bytes = its.files;
      last = ends g sectors old new passed l n paths s.state is run.went;
      others = λ told b z some. written_else keeps g sectors block bytes old new passed l n paths k v s is run its unheld now b (others_block keeps g sectors block bytes old new passed l n paths k v s is run its unheld b z) (unheld.others b z some);
      own = λ told. own_written keeps g sectors block bytes old new passed l n paths k v s is run its unheld now has;
      trees = λ told. trees keeps g sectors block bytes old new passed l n paths k v s is run its unheld;
      between = λ told. between keeps g sectors block bytes old new passed l n paths k v s is run its unheld;
    })

pub failed_writes_mark : (g : Geometry) → FailedWritesMark g
failed_writes_mark g keeps sectors block bytes old new passed l n paths k v s fault is run now its memory unheld running new_fault =
    failures_may k v s paths (failure_of fault sectors new passed) (record {
      store = its.store;
      running = running;
      new = new_fault;
      told = its.told;
      bytes = its.files;
      last = inl refl;
      others = λ told b z some. tried_else keeps g sectors block bytes old new passed l n paths k v s is run its unheld now b (others_block keeps g sectors block bytes old new passed l n paths k v s is run its unheld b z) (unheld.others b z some);
      own = λ told. own_tried keeps g sectors block bytes old new passed l n paths k v s is run its unheld now memory;
      between = λ told d h. writes_are_done k v s paths s.state d (on_the_way d h);
    })
  where
    on_the_way : (d : Cells) → Has d (cells_of sectors new.state ∷ passed_cells sectors passed) → TreesMayGo (AreFilesWrittenBy v s paths) s.state d
    on_the_way = each_of (TreesMayGo (AreFilesWrittenBy v s paths) s.state) (cells_of sectors new.state) (passed_cells sectors passed)
        (may_go (AreFilesWrittenBy v s paths) s.state (cells_of sectors new.state) (trees keeps g sectors block bytes old new passed l n paths k v s is run its unheld))
        (between keeps g sectors block bytes old new passed l n paths k v s is run its unheld)

-- ---- a read or a barrier

module _ (keeps : Bool) (g : Geometry) (sectors : ℕ) (old new : Moments) (passed : List State) (l : Ledger) (n : Numbers) (paths : Paths) (s : StorePart) (is : IsBefore g sectors old.state l n paths s.state) (run : QuietCallRuns keeps g sectors old new passed) where
  quiet_reads : IsLedgerOf sectors new.state l ⊎ IsLedgerOf sectors new.state (settled l) → (b : ℕ) → IsDataBlock g b × (is_held l.now.log b ≡ false) → block_on (cells_of sectors new.state) b ≡ block_on s.state b
  quiet_reads (inl now) b free = reads_same g sectors old.state new.state l l n paths s.state is run.large now is.geometry b free.0 free.1 free.1 refl
  quiet_reads (inr now) b free = reads_same g sectors old.state new.state l (settled l) n paths s.state is run.large now is.geometry b free.0 free.1 free.1 refl

  quiet_last : OpensAs s.state (cells_of sectors new.state)
  quiet_last = quiet_calls g sectors old.state new.state l n paths s.state (cells_of sectors new.state) is (cells_are_there sectors new.state) run.images.after

  quiet_between : (d : Cells) → Has d (passed_cells sectors passed) → OpensAs s.state d
  quiet_between = quiet_runs g keeps sectors old new passed l n paths s.state run.kept is run.went run.images

pub quiet_calls_mark : SameTreesShow → (g : Geometry) → QuietCallsMark g
quiet_calls_mark shows g keeps sectors old new passed l n paths k v s lent lent_names is run now store unheld lends = record {
  store = store;
  lends = lends;
  last = ends g sectors old new passed l n paths s.state is run.went;
  others = λ told b z some. quiet_reads keeps g sectors old new passed l n paths s is run now b (unheld.others b z some);
  own = λ told f y h place b there out. inr (quiet_reads keeps g sectors old new passed l n paths s is run now b (unheld.own f y h place b there out));
  inside = λ told h had old_shows d at. same_inside shows k s d (quiet_between keeps g sectors old new passed l n paths s is run d at) h old_shows;
  end = λ told h has old_shows. shows k.tree h (committed s) s.names s.paths s.state (cells_of sectors new.state) (quiet_last keeps g sectors old new passed l n paths s is run) old_shows;
}

pub failed_barriers_mark : SameTreesShow → (g : Geometry) → FailedBarriersMark g
failed_barriers_mark shows g keeps sectors old new passed l n paths k v s fault is run now store unheld running new_fault =
    quiet_failure shows k s g sectors new passed l v fault unheld (quiet_reads keeps g sectors old new passed l n paths s is run (inl now)) (quiet_last keeps g sectors old new passed l n paths s is run)
    (quiet_between keeps g sectors old new passed l n paths s is run) store running new_fault
