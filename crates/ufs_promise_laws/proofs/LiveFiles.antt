-- A live file of a server whose names stand on the disk, with the bytes that the tree has for it.
use Rattle.std.proofs.Common.{◌≡◌, ℕ, Some}
use Rattle.std.specs.Prelude.{List, IsSome}
use Rattle.std.specs.FinMap as map
use Rattle.ufs_file.specs.Content.{IsContentOf}
use Rattle.ufs_file.specs.Hand.{FileState}
use Rattle.ufs_ilog.specs.Deltas.{IsDelta}
use Rattle.ufs_layout.specs.declared.records.LogRecord.{LogRecord}
use Rattle.ufs_model.specs.FileBytes.{bytes_of}
use Rattle.ufs_model.specs.History.{tree_after}
use Rattle.ufs_model.specs.PosixTree.{PosixTree}
use Rattle.ufs_model.specs.declared.data.Entry.{Entry}
use Rattle.ufs_file_commits.specs.Committing.{FitsInode, HasToCommit, HasTreeBytes, IsFileBy}
use Rattle.ufs_file_commits.specs.Standing.{StandsFor}
use Rattle.ufs_file_commits.specs.State.{DurableState, whole_of}
use Rattle.ufs_file_commits.specs.Writes.{writes_of}
use Rattle.ufs_file_commits.proofs.Wholes.{writes_are_whole}
use Rattle.ufs_store.specs.State.{StoreState}
use Rattle.ufs_promise_laws.specs.OnDisk.{HasNames}
use Rattle.ufs_promise_laws.specs.Parts.{Parts, durable_in}
use Rattle.ufs_promise_laws.specs.Stored.{IsFileWhole}
use Rattle.ufs_promise_laws.proofs.FileCommits.{inode_on_disk}
use Rattle.ufs_promise_laws.proofs.Whole.{fits_whole, tree_has, tree_may}

module _ (s : StoreState) (start : PosixTree) (history : List Entry) (p : Parts) (f : FileState) (at : map.get p.files f.file ≡ Some f) (live : IsSome (map.get p.names.held f.file)) (names : HasNames s start history p) where
  abbrev bytes : List ℕ
  bytes = bytes_of (tree_after start history).bytes f.file

  abbrev x : DurableState
  x = whole_of (bytes_of (tree_after start history).bytes f.file) (durable_in p.commits f)

  pub may_be : IsContentOf f.content bytes
  may_be = tree_may (tree_after start history) f.file f (names.going.stored.parts.files f.file f at)

  -- What is written is the same, since what is dirty is in memory.
  pub same_writes : writes_of x.file ≡ writes_of f
  same_writes = writes_are_whole f bytes (names.going.stored.noted f.file f at).written may_be

  pub whole_file : IsFileWhole names.going.ledger names.going.counts.numbers x
  whole_file = names.going.stored.each f.file f at

  pub file_on_disk : (names.going.counts.numbers.inode f.file ≡ Some f.inode) × StandsFor names.going.ledger x
  file_on_disk = inode_on_disk names.going.ledger names.going.counts.numbers x (names.numbered f.file live) whole_file.stored

  pub file_by_history : HasTreeBytes → IsFileBy x.file start history names.going.counts
  file_by_history tree_bytes = record {
    there = file_on_disk.0;
    alone = λ other is. names.going.stored.counted.alone f.file other f.inode file_on_disk.0 is;
    counted = names.going.stored.counted.made f.file;
    bytes = tree_bytes x.file start history names.going.stored.tree names.going.stored.legal (tree_has (tree_after start history) f.file f (names.going.stored.parts.files f.file f at));
  }

  pub file_to_commit : FitsInode f → (records : List LogRecord) → IsDelta x.log.inode x.log.committed x.log.noted records → HasToCommit s records names.going.ledger x
  file_to_commit fits records delta = record { has = names.going.has; noted = whole_file.noted; stands = file_on_disk.1; own = whole_file.own; fits = fits_whole bytes f may_be fits; delta = delta }
