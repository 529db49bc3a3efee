-- A file's blocks are written, and its commit lacks memory.
use Rattle.std.proofs.Common.{◌≡◌, ◌≢◌, ℕ, ◌⊎◌, inl, inr, List, [], Some, ap, sym, ◌∙◌, subst}
use Rattle.std.specs.Prelude.{IsSome}
use Rattle.std.specs.FinMap as map
use Rattle.std.proofs.lemmas.List.{append-nil}
use Rattle.ufs_bitmap.specs.Space.{Space}
use Rattle.ufs_disk.specs.Moments.{Moments, reads}
use Rattle.ufs_file.specs.Hand.{FileState}
use Rattle.ufs_files.proofs.MapLemmas.{one_or_apart}
use Rattle.ufs_image.specs.Images.{block_at}
use Rattle.ufs_layout.specs.Superblock.{geometry_of}
use Rattle.ufs_layout.specs.declared.geometry.Geometry.{Geometry}
use Rattle.ufs_ledger.specs.Changes.{home_of}
use Rattle.ufs_ledger.specs.Kept.{Counts}
use Rattle.ufs_ledger.specs.Ledger.{Ledger, Stand, is_held}
use Rattle.ufs_model.specs.FileBytes.{bytes_of}
use Rattle.ufs_model.specs.History.{tree_after}
use Rattle.ufs_model.specs.PosixTree.{PosixTree}
use Rattle.ufs_model.specs.declared.data.Entry.{Entry}
use Rattle.ufs_model.proofs.Facts.Lookups.{same_some}
use Rattle.ufs_file_commits.specs.Committing.{HasTreeBytes, IsFileBy, WritesAreKept}
use Rattle.ufs_file_commits.specs.Others.{StandsBehindWrites}
use Rattle.ufs_file_commits.specs.Standing.{DirtyMayBeWritten, StandsFor, StandsWhileWritten}
use Rattle.ufs_file_commits.specs.State.{DurableState, whole_of}
use Rattle.ufs_file_commits.specs.Writes.{BlockWrite, MayWriteAll, at_moments, with_writes, writes_of}
use Rattle.ufs_file_commits.proofs.Behind.{same_superblock, same_now}
use Rattle.ufs_file_commits.proofs.Wholes.{writes_are_whole}
use Rattle.ufs_store.specs.Ledgers.{HasLedger, checkpointed}
use Rattle.ufs_store.specs.State.{StoreState, geometry_of_store, next_superblock}
use Rattle.ufs_promise_laws.specs.Laws.{EmptiedIsStored}
use Rattle.ufs_promise_laws.specs.OnDisk.{HasNames, IsGoing}
use Rattle.ufs_promise_laws.specs.Parts.{Parts, durable_in}
use Rattle.ufs_promise_laws.specs.Stored.{IsFileStored, IsFileWhole, IsStored, with_born}
use Rattle.ufs_promise_laws.proofs.Alike.{same_stored}
use Rattle.ufs_promise_laws.proofs.FileCommits.{inode_on_disk, other_file_is, writes_born}
use Rattle.ufs_promise_laws.proofs.Whole.{tree_has, tree_may}
use Rattle.ufs_promise_laws.specs.Syncs.{HasWritten, WrittenSyncsGoOn}

module _ (old new : StoreState) (start : PosixTree) (history : List Entry) (p : Parts) (f : FileState) (at : map.get p.files f.file ≡ Some f) (live : IsSome (map.get p.names.held f.file))
    (told : HasWritten old new (durable_in p.commits f)) (names : HasNames old start history p) (empties : EmptiedIsStored (geometry_of_store old)) (writes : WritesAreKept) (dirty : DirtyMayBeWritten) (tree_bytes : HasTreeBytes) (written : StandsWhileWritten) (others : StandsBehindWrites) where
  -- with the tree's bytes
  abbrev bytes : List ℕ
  bytes = bytes_of (tree_after start history).bytes f.file

  abbrev x : DurableState
  x = whole_of (bytes_of (tree_after start history).bytes f.file) (durable_in p.commits f)

  abbrev go : IsGoing old start history p
  go = names.going

  abbrev l : Ledger
  l = names.going.ledger

  abbrev k : Counts
  k = names.going.counts

  abbrev m : Ledger
  m = with_writes (writes_of f) names.going.ledger

  -- what is written is the same, since what is dirty is in memory
  same_writes : writes_of x.file ≡ writes_of f
  same_writes = writes_are_whole f bytes (go.stored.noted f.file f at).written (tree_may (tree_after start history) f.file f (go.stored.parts.files f.file f at))

  whole : IsFileWhole l k.numbers x
  whole = go.stored.each f.file f at

  on_disk : (k.numbers.inode f.file ≡ Some f.inode) × StandsFor l x
  on_disk = inode_on_disk l k.numbers x (names.numbered f.file live) whole.stored

  by_history : IsFileBy x.file start history k
  by_history = record {
    there = on_disk.0;
    alone = λ other is. go.stored.counted.alone f.file other f.inode on_disk.0 is;
    counted = go.stored.counted.made f.file;
    bytes = tree_bytes x.file start history go.stored.tree go.stored.legal (tree_has (tree_after start history) f.file f (go.stored.parts.files f.file f at));
  }

  abbrev whole_at : ℕ → FileState → DurableState
  whole_at file h = whole_of (bytes_of (tree_after start history).bytes file) (durable_in p.commits h)

  stored : (file : ℕ) (h : FileState) → map.get p.files file ≡ Some h → IsFileStored l k.numbers (whole_at file h) → IsFileStored m k.numbers (whole_at file h)
  stored file h here was = by (one_or_apart file f.file)
    where
      other : file ≢ f.file → IsFileStored l k.numbers (whole_at file h) → IsFileStored m k.numbers (whole_at file h)
      other apart (inl both) = inl (both.0, others l x (whole_at file h) (writes_of f) [] whole.noted (other_file_is l old.unassigned.free start history k p f at go.stored file h here apart) (same_writes ∙ sym (append-nil (writes_of f))) both.1)
      other apart (inr both) = inr (
        both.0,
        subst (λ (a : Ledger). StandsFor a (whole_at file h)) (writes_born h.inode (writes_of f) l)
            (others (with_born h.inode l) x (whole_at file h) (writes_of f) [] whole.noted (other_file_is l old.unassigned.free start history k p f at go.stored file h here apart) (same_writes ∙ sym (append-nil (writes_of f))) both.1),
      )

      by : (file ≡ f.file) ⊎ (file ≢ f.file) → IsFileStored m k.numbers (whole_at file h)
      by (inl is) =
          let same : f ≡ h = same_some f h (sym at ∙ ap (map.get p.files) (sym is) ∙ here) in
          let stands = subst (λ (ws : List BlockWrite). StandsFor (with_writes ws l) x) same_writes (written l x whole.noted on_disk.1) in
          subst (IsFileStored m k.numbers) (λ i. whole_at (sym is i) (same i)) (inl (on_disk.0, stands))
      by (inr apart) = other apart was

  now_stored : IsStored m old.unassigned.free start history k p
  now_stored = same_stored l m old.unassigned.free start history k p go.stored (ap geometry_of (same_superblock (writes_of f) l)) (ap (λ (s : Stand). s.catalog) (same_now (writes_of f) l)) (ap (λ (s : Stand). s.dirs) (same_now (writes_of f) l))
      (λ block free. ap (λ (s : Stand). is_held s.log block) (same_now (writes_of f) l) ∙ free) stored
      (writes old l x (writes_of f) [] start history k k go.has whole.noted on_disk.1 whole.own by_history (same_writes ∙ sym (append-nil (writes_of f))) go.stored.kept)

  free : (n : Ledger) → IsStored n old.unassigned.free start history k p → IsStored n new.unassigned.free start history k p
  free n st = subst (λ (u : Space). IsStored n u.free start history k p) (sym told.unfreed) st

  goes : HasLedger new m ⊎ ((between : Moments) × HasLedger new (checkpointed (at_moments between old) m)) → IsGoing new start history p
  goes (inl has) = record { ledger = m; counts = k; has = has; formed = has.by.geometry; stored = free m now_stored }
  goes (inr any) =
      let form : geometry_of m.superblock ≡ geometry_of_store old = ap geometry_of (same_superblock (writes_of f) l) ∙ go.formed in
      record {
        ledger = checkpointed (at_moments any.0 old) m;
        counts = k;
        has = any.1;
        formed = any.1.by.geometry;
        stored = free (checkpointed (at_moments any.0 old) m)
            (empties m old.unassigned.free start history k p (next_superblock (at_moments any.0 old)) (block_at (home_of m (reads any.0))) form (ap geometry_of (sym go.has.superblock_is) ∙ go.formed) now_stored);
      }

  pub goes_on : IsGoing new start history p
  goes_on = goes (told.written l go.has (subst (MayWriteAll l) same_writes (dirty l x whole.noted on_disk.1)))

pub written_syncs_go_on : (g : Geometry) → EmptiedIsStored g → WritesAreKept → DirtyMayBeWritten → HasTreeBytes → StandsWhileWritten → StandsBehindWrites → WrittenSyncsGoOn g
written_syncs_go_on g empties writes dirty tree_bytes written others old new start history p f form at live told names =
    goes_on old new start history p f at live told names (subst EmptiedIsStored (sym form) empties) writes dirty tree_bytes written others
