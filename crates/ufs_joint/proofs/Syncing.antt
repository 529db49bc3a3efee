-- A file is committed, and all its changes are known.
use Rattle.std.proofs.Common.{◌≡◌, ◌≢◌, ℕ, ◌⊎◌, inl, inr, true, false, List, [], Some, length, is_some, ap, sym, ◌∙◌, subst}
use Rattle.std.specs.Prelude.{IsSome}
use Rattle.std.specs.FinMap as map
use Rattle.std.specs.FinSet as set
use Rattle.ufs_bitmap.specs.Blocks.{BlockSet}
use Rattle.ufs_bitmap.specs.Taking.{set_of}
use Rattle.ufs_file.specs.Content.{IsContentOf}
use Rattle.ufs_file.specs.Hand.{FileState}
use Rattle.ufs_ledger.specs.Kept.{Counts}
use Rattle.ufs_ledger.specs.Ledger.{Ledger}
use Rattle.ufs_model.specs.FileBytes.{bytes_of}
use Rattle.ufs_model.specs.History.{tree_after}
use Rattle.ufs_model.specs.PosixTree.{PosixTree}
use Rattle.ufs_model.specs.declared.data.Entry.{Entry}
use Rattle.ufs_crash_laws.specs.Changes.{changes_of}
use Rattle.ufs_file_commits.specs.Committing.{FilesMayCommitNext, FitsInode, all_shown}
use Rattle.ufs_file_commits.specs.Standing.{DirtyMayBeWritten, StandsFor}
use Rattle.ufs_file_commits.specs.State.{DurableState, file_committed, whole_of}
use Rattle.ufs_file_commits.specs.Writes.{MayWriteAll, writes_of}
use Rattle.ufs_file_commits.proofs.Wholes.{writes_are_whole}
use Rattle.ufs_store.specs.Ledgers.{HasLedger}
use Rattle.ufs_store.specs.State.{StoreState}
use Rattle.ufs_store.proofs.Deltas.{delta_of}
use Rattle.ufs_promise_laws.specs.Laws.{FilesAreCommitted, FilesAreSettled}
use Rattle.ufs_promise_laws.specs.OnDisk.{IsGoing}
use Rattle.ufs_promise_laws.specs.Parts.{Parts, durable_in, with_file}
use Rattle.ufs_promise_laws.specs.Stored.{IsFileStored, IsFileWhole, IsStored}
use Rattle.ufs_promise_laws.proofs.Whole.{fits_whole, tree_may}
use Rattle.ufs_promise_laws.specs.Syncs.{HasSynced}
use Rattle.ufs_store.proofs.SameStates.{same_or_other}
use Rattle.ufs_joint.proofs.Born.{has_birth}
use Rattle.ufs_joint.specs.Files.{FilesAreKnown}
use Rattle.ufs_promise_laws.specs.Known.{IsKeptGoing, Known, with_file_known}
use Rattle.ufs_joint.proofs.Covering.{file_covers}

module _ (old new : StoreState) (start : PosixTree) (history : List Entry) (p : Parts) (f : FileState) (at : map.get p.files f.file ≡ Some f) (known : Known) where
  abbrev x : DurableState
  x = durable_in p.commits f

  -- with the tree's bytes
  abbrev bytes : List ℕ
  bytes = bytes_of (tree_after start history).bytes f.file

  abbrev w : DurableState
  w = whole_of (bytes_of (tree_after start history).bytes f.file) (durable_in p.commits f)

  abbrev q : Parts
  q = with_file (file_committed (durable_in p.commits f)) p.pool p

  -- the file stands where it has its inode
  pub stands : (l : Ledger) (k : Counts) → IsSome (k.numbers.inode f.file) → IsFileStored l k.numbers w → StandsFor l w
  stands l k there (inl both) = both.1
  stands l k there (inr both) = (let no : false ≡ true = ap is_some (sym both.0) ∙ there in absurd cc)

  -- all its changes are known then
  abbrev more : Known
  more = with_file_known f.file (length (changes_of f.file start history)) known

  module _ (kept : IsKeptGoing old start history p known) (there : IsSome (kept.going.counts.numbers.inode f.file)) where
    abbrev go : IsGoing old start history p
    go = kept.going

    abbrev k : Counts
    k = kept.going.counts

    may : IsContentOf f.content bytes
    may = tree_may (tree_after start history) f.file f (go.stored.parts.files f.file f at)

    -- what is written is the same, since what is dirty is in memory
    same_writes : writes_of w.file ≡ writes_of f
    same_writes = writes_are_whole f bytes (go.stored.noted f.file f at).written may

    whole : IsFileWhole go.ledger k.numbers w
    whole = go.stored.each f.file f at

    pub may_write : DirtyMayBeWritten → MayWriteAll go.ledger (writes_of f)
    may_write dirty = subst (MayWriteAll go.ledger) same_writes (dirty go.ledger w whole.noted (stands go.ledger k there whole.stored))

    -- a store that has the next ledger goes on by it
    with_ledger : (m : Ledger) → new.unassigned.free ≡ set.union old.unassigned.free (set_of x.dropped) → HasLedger new m → IsStored m (set.union old.unassigned.free (set_of x.dropped)) start history (all_shown f start history k) q
        → IsKeptGoing new start history q more
    with_ledger m freed has_it stored = record {
      going = record { ledger = m; counts = all_shown f start history k; has = has_it; formed = has_it.by.geometry; stored = subst (λ (u : BlockSet). IsStored m u start history (all_shown f start history k) q) (sym freed) stored };
      covers = file_covers start history f k known kept.covers;
      numbered = kept.numbered;
    }

    pub synced : FilesAreCommitted → FilesAreSettled → DirtyMayBeWritten → FilesMayCommitNext → FitsInode f → HasSynced old new x → IsKeptGoing new start history q more
    synced committed settled dirty next fits told = by (same_or_other x.log.noted x.log.committed)
      where
        by : (x.log.noted ≡ x.log.committed) ⊎ (x.log.noted ≢ x.log.committed) → IsKeptGoing new start history q more
        by (inl same) = with_ledger _ told.freed (told.same same go.ledger go.has (may_write dirty)) (settled old go.ledger old.unassigned.free start history k p f go.has at same there go.stored)
        by (inr not) =
            let change = delta_of x.log.inode x.log.committed x.log.noted in
            let goes = next old change.0 go.ledger w [] (record { has = go.has; noted = whole.noted; stands = stands go.ledger k there whole.stored; own = whole.own; fits = fits_whole bytes f may fits; delta = change.1 }) in
            let has_it = told.changed change.0 change.1 not go.ledger go.has (may_write dirty) goes in
            with_ledger _ told.freed has_it.has (committed old has_it.between change.0 go.ledger old.unassigned.free start history k p f go.has at change.1 fits there go.stored)

pub files_known : FilesAreCommitted → FilesAreSettled → DirtyMayBeWritten → FilesMayCommitNext → FilesAreKnown
files_known committed settled may next old new start history p known f born fits told k =
    synced old new start history p f born.here known k (has_birth old start history p known f born k) committed settled may next fits told
