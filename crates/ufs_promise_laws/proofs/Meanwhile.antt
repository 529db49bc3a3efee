-- What a crash leaves while a file is committed.
use Rattle.std.proofs.Common.{◌≡◌, ◌≢◌, ◌⊎◌, inl, inr, Bool, true, false, List, [], ◌∷◌, Some, ap, sym, ◌∙◌, subst}
use Rattle.std.specs.Prelude.{IsSome, if◌then◌else◌}
use Rattle.std.specs.List.{AllByRecursion}
use Rattle.std.specs.FinMap as map
use Rattle.std.proofs.lemmas.List.{append-nil}
use Rattle.ufs_disk.specs.Moments.{Moments}
use Rattle.ufs_disk.proofs.Runs.{weaker}
use Rattle.ufs_file.specs.Hand.{FileState}
use Rattle.ufs_ilog.specs.Deltas.{IsDelta}
use Rattle.ufs_layout.specs.Superblock.{geometry_of}
use Rattle.ufs_layout.specs.declared.geometry.Geometry.{Geometry}
use Rattle.ufs_layout.specs.declared.records.Committed.{Committed}
use Rattle.ufs_layout.specs.declared.records.LogRecord.{LogRecord}
use Rattle.ufs_ledger.specs.Changes.{committing, settled}
use Rattle.ufs_ledger.specs.Kept.{Counts, IsLedgerKept}
use Rattle.ufs_ledger.specs.Ledger.{IsLeftBy, Ledger}
use Rattle.ufs_model.specs.FileBytes.{bytes_of}
use Rattle.ufs_model.specs.History.{tree_after}
use Rattle.ufs_model.specs.PosixTree.{PosixTree}
use Rattle.ufs_model.specs.declared.data.Entry.{Entry}
use Rattle.ufs_file_commits.specs.Committing.{FilesMayCommitNext, FitsInode, HasToCommit, HasTreeBytes, IsFileBy, StagesAreKept, WritesAreKept}
use Rattle.ufs_file_commits.specs.Stamping.{MayLeaveSynced}
use Rattle.ufs_file_commits.specs.Standing.{DirtyMayBeWritten, StandsFor}
use Rattle.ufs_file_commits.specs.State.{DurableState, whole_of}
use Rattle.ufs_file_commits.specs.Writes.{BlockWrite, MayWriteAll, at_moments, with_writes, writes_of}
use Rattle.ufs_file_commits.proofs.Behind.{same_superblock}
use Rattle.ufs_store.specs.Ledgers.{IsLeftByAny, beginning_next, checkpointed, commit_stages, stages}
use Rattle.ufs_store.specs.State.{StoreState, geometry_of_store, has_room, next_commit, next_superblock}
use Rattle.ufs_store.proofs.Deltas.{delta_of}
use Rattle.ufs_promise_laws.specs.AlwaysLaws.{ImagesAreExplained, IsKeptLedger}
use Rattle.ufs_promise_laws.specs.OnDisk.{HasNames, IsExplainedBetween, IsExplainedImage, IsGoing}
use Rattle.ufs_promise_laws.specs.Parts.{Parts, durable_in}
use Rattle.ufs_promise_laws.specs.Stored.{IsFileWhole}
use Rattle.ufs_promise_laws.proofs.Always.{any_explained}
use Rattle.ufs_promise_laws.specs.Syncs.{FileSyncsAreExplained, FileSyncsMayLeave}
use Rattle.ufs_store.proofs.SameStates.{same_or_other}
use Rattle.ufs_promise_laws.proofs.LiveFiles.{file_by_history, file_on_disk, file_to_commit, same_writes, whole_file}

-- ---- each stage

module _ (g : Geometry) (start : PosixTree) (history : List Entry) (k : Counts) where
  one : (m : Ledger) → geometry_of m.superblock ≡ g → (maybe : Counts) × IsLedgerKept m start history k maybe → IsKeptLedger g start history m
  one m formed kept = record { now = k; maybe = kept.0; formed = formed; kept = kept.1 }

  each_stage : (s : StoreState) (t : Committed) (w : Ledger) (b : Bool) → geometry_of w.superblock ≡ g → geometry_of (next_superblock s) ≡ g
      → AllByRecursion (λ (m : Ledger). (maybe : Counts) × IsLedgerKept m start history k maybe) (if b then commit_stages t w else w ∷ beginning_next s w ∷ commit_stages t (checkpointed s w))
      → AllByRecursion (IsKeptLedger g start history) (if b then commit_stages t w else w ∷ beginning_next s w ∷ commit_stages t (checkpointed s w))
  each_stage s t w true same next kept = (one w same kept.0, (one (committing t (settled w)) same kept.1.0, tt))
  each_stage s t w false same next kept =
      (one w same kept.0, (one (beginning_next s w) same kept.1.0, (one (checkpointed s w) next kept.1.1.0, (one (committing t (settled (checkpointed s w))) next kept.1.1.1.0, tt))))

-- ---- a file

module _ (g : Geometry) (s : StoreState) (start : PosixTree) (history : List Entry) (p : Parts) (f : FileState) (form : geometry_of_store s ≡ g) (at : map.get p.files f.file ≡ Some f) (live : IsSome (map.get p.names.held f.file)) (fits : FitsInode f)
    (names : HasNames s start history p) (writes : WritesAreKept) (staged : StagesAreKept) (may : FilesMayCommitNext) (dirty : DirtyMayBeWritten) (tree_bytes : HasTreeBytes) (each : ImagesAreExplained g) where
  abbrev x : DurableState
  x = durable_in p.commits f

  -- with the tree's bytes
  abbrev w : DurableState
  w = whole_of (bytes_of (tree_after start history).bytes f.file) (durable_in p.commits f)

  same_write : writes_of w.file ≡ writes_of f
  same_write = same_writes s start history p f at live names

  abbrev go : IsGoing s start history p
  go = names.going

  abbrev l : Ledger
  l = names.going.ledger

  abbrev k : Counts
  k = names.going.counts

  whole : IsFileWhole l k.numbers w
  whole = whole_file s start history p f at live names

  on_disk : (k.numbers.inode f.file ≡ Some f.inode) × StandsFor l w
  on_disk = file_on_disk s start history p f at live names

  by_history : IsFileBy w.file start history k
  by_history = file_by_history s start history p f at live names tree_bytes

  can : MayWriteAll l (writes_of f)
  can = subst (MayWriteAll l) same_write (dirty l w whole.noted on_disk.1)

  -- behind the writes
  formed : geometry_of (with_writes (writes_of f) l).superblock ≡ g
  formed = ap geometry_of (same_superblock (writes_of f) l) ∙ go.formed ∙ form

  kept : IsLedgerKept (with_writes (writes_of f) l) start history k k
  kept = writes s l w (writes_of f) [] start history k k go.has whole.noted on_disk.1 whole.own by_history (same_write ∙ sym (append-nil (writes_of f))) go.stored.kept

  to_commit : (records : List LogRecord) → IsDelta x.log.inode x.log.committed x.log.noted records → HasToCommit s records l w
  to_commit = file_to_commit s start history p f at live names fits

  -- of each stage of the commit
  staged_kept : (between : Moments) (records : List LogRecord) → IsDelta x.log.inode x.log.committed x.log.noted records → AllByRecursion (IsKeptLedger g start history) (stages (at_moments between s) records (with_writes (writes_of f) l))
  staged_kept between records delta =
      each_stage g start history k (at_moments between s) (next_commit (at_moments between s) records) (with_writes (writes_of f) l) (has_room (at_moments between s) records) formed
      (ap geometry_of (sym go.has.superblock_is) ∙ go.formed ∙ form)
      (subst (λ (ws : List BlockWrite). AllByRecursion (λ (m : Ledger). (maybe : Counts) × IsLedgerKept m start history k maybe) (stages (at_moments between s) records (with_writes ws l))) same_write
      (staged s between records l w start history k (to_commit records delta) by_history go.stored.tree go.stored.legal go.stored.kept))

  pub may_leave : MayLeaveSynced (IsExplainedImage s.sectors start history) s (durable_in p.commits f)
  may_leave = record {
    ledger = l;
    knows = go.has;
    may = can;
    written = λ image. each s.sectors image (with_writes (writes_of f) l) start history (record { now = k; maybe = k; formed = formed; kept = kept });
    changed = λ not records delta. (may s records l w [] (to_commit records delta), λ between. any_explained g each s.sectors (stages (at_moments between s) records (with_writes (writes_of f) l)) start history (staged_kept between records delta));
  }

-- ---- each moment

pub syncs_explained : (g : Geometry) → FileSyncsMayLeave g → FileSyncsAreExplained g
syncs_explained g leaves keeps old new start history p f form at live fits told names = by (same_or_other (durable_in p.commits f).log.noted (durable_in p.commits f).log.committed)
  where
    may : MayLeaveSynced (IsExplainedImage old.sectors start history) old (durable_in p.commits f)
    may = leaves old start history p f form at live fits names

    by : ((durable_in p.commits f).log.noted ≡ (durable_in p.commits f).log.committed) ⊎ ((durable_in p.commits f).log.noted ≢ (durable_in p.commits f).log.committed) → IsExplainedBetween keeps old.sectors start history old.moments new.moments
    by (inl same) = weaker keeps (IsLeftBy old.sectors (with_writes (writes_of f) may.ledger)) (IsExplainedImage old.sectors start history) may.written old.moments new.moments (told.same same may.ledger may.knows may.may)
    by (inr not) =
        let change = delta_of (durable_in p.commits f).log.inode (durable_in p.commits f).log.committed (durable_in p.commits f).log.noted in
        let staged = may.changed not change.0 change.1 in
        let run = told.changed change.0 change.1 not may.ledger may.knows may.may staged.0 in
        weaker keeps (IsLeftByAny old.sectors (stages (at_moments run.0 old) change.0 (with_writes (writes_of f) may.ledger))) (IsExplainedImage old.sectors start history) (staged.1 run.0) old.moments new.moments run.1
