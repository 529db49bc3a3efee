-- The names are committed.
use Rattle.std.proofs.Common.{◌≡◌, ℕ, ◌⊎◌, inl, inr, Bool, true, false, List, Some, length, ap, sym, refl, ◌∙◌, subst}
use Rattle.std.specs.Prelude.{IsSome, if◌then◌else◌}
use Rattle.ufs_bitmap.specs.Space.{Space}
use Rattle.ufs_bitmap.specs.Taking.{has}
use Rattle.ufs_disk.specs.Moments.{reads}
use Rattle.ufs_disk.proofs.Runs.{weaker}
use Rattle.ufs_image.specs.Catalog.{IsInode}
use Rattle.ufs_image.specs.Images.{block_at}
use Rattle.ufs_layout.specs.Superblock.{geometry_of}
use Rattle.ufs_layout.specs.declared.geometry.Geometry.{Geometry}
use Rattle.ufs_layout.specs.declared.records.LogRecord.{LogRecord}
use Rattle.ufs_ledger.specs.Changes.{MayCommit, home_of}
use Rattle.ufs_ledger.specs.Kept.{Counts}
use Rattle.ufs_ledger.specs.Laws.{LedgersAreSound}
use Rattle.ufs_ledger.specs.Ledger.{CoversDirs, IsDataBlock, Ledger}
use Rattle.ufs_model.specs.PosixTree.{PosixTree}
use Rattle.ufs_model.specs.declared.data.Entry.{Entry}
use Rattle.ufs_promise_laws.specs.ChangeLaws.{AreOlder}
use Rattle.ufs_name_tree.specs.NameTable.{IsNameTable}
use Rattle.ufs_store.specs.Ledgers.{HasAny, HasLedger, IsLeftByAny, MayCommitNext, after_commit, checkpointed, stages, with_room}
use Rattle.ufs_store.specs.State.{StoreState, has_room, next_commit, next_superblock}
use Rattle.ufs_promise_laws.specs.AlwaysLaws.{CommitImagesAreExplained}
use Rattle.ufs_promise_laws.specs.Laws.{EmptiedIsStored, HasNamesToCommit, NamesAreCommitted, NamesAreCommitting, NamesMayCommit, all_named, with_names_committed}
use Rattle.ufs_crash_laws.specs.Changes.{name_changes}
use Rattle.ufs_crash_laws.specs.Laws.{NamesGoByChanges}
use Rattle.ufs_promise_laws.specs.Known.{IsKeptGoing, IsKeptStopped, Known, with_names_known}
use Rattle.ufs_promise_laws.specs.OnDisk.{IsExplainedImage}
use Rattle.ufs_promise_laws.specs.OnDiskLaws.{CommitsStop}
use Rattle.ufs_promise_laws.specs.Parts.{Parts}
use Rattle.ufs_promise_laws.specs.Stored.{IsSpelled, IsStored}
use Rattle.ufs_promise_laws.proofs.Known.{named_covers, named_still, stopped_known}
use Rattle.ufs_promise_laws.proofs.Numbered.{has_inode}
use Rattle.ufs_names_commit.specs.Laws.{IsBeside, NamesAreExplained, NamesMayLeave}
use Rattle.ufs_names_commit.specs.Ready.{HasSpelled}

module _ (g : Geometry) (old new : StoreState) (start : PosixTree) (history : List Entry) (p : Parts) (known : Known) (beside : IsBeside g old new) (h : HasSpelled old start history p known) where
  abbrev l : Ledger
  l = h.ledger

  abbrev k : Counts
  k = h.counts

  abbrev led : HasLedger old l
  led = h.knows

  formed : geometry_of l.superblock ≡ g
  formed = h.formed ∙ beside.old_form

  -- what is stored beside the old store's free blocks is beside the new one's
  moved : (m : Ledger) (c : Counts) (q : Parts) → IsStored m old.unassigned.free start history c q → IsStored m new.unassigned.free start history c q
  moved m c q st = subst (λ (u : Space). IsStored m u.free start history c q) (sym beside.unassigned) st

  next_form : geometry_of (next_superblock old) ≡ g
  next_form = ap geometry_of (sym led.superblock_is) ∙ formed

  emptied_stored : EmptiedIsStored g → IsStored (checkpointed old l) old.unassigned.free start history k p
  emptied_stored empties = empties l old.unassigned.free start history k p (next_superblock old) (block_at (home_of l (reads old.moments))) formed next_form h.stored

  pub waits : EmptiedIsStored g → ((m : Ledger) → HasLedger old m → HasLedger new m ⊎ HasLedger new (checkpointed old m)) → IsKeptGoing new start history p known
  waits empties leaves = by (leaves l led)
    where
      by : HasLedger new l ⊎ HasLedger new (checkpointed old l) → IsKeptGoing new start history p known
      by (inl has) = record { going = record { ledger = l; counts = k; has = has; formed = formed ∙ sym beside.new_form; stored = moved l k p h.stored }; covers = h.covers; numbered = h.numbered }
      by (inr has) = record {
        going = record { ledger = checkpointed old l; counts = k; has = has; formed = next_form ∙ sym beside.new_form; stored = moved (checkpointed old l) k p (emptied_stored empties) };
        covers = h.covers;
        numbered = h.numbered;
      }

  -- ---- with room

  room_formed : (records : List LogRecord) → geometry_of (with_room old records l).superblock ≡ g
  room_formed records = by (has_room old records)
    where
      by : (b : Bool) → geometry_of (if b then l else checkpointed old l).superblock ≡ g
      by true = formed
      by false = next_form

  room_stored : EmptiedIsStored g → (records : List LogRecord) → IsStored (with_room old records l) old.unassigned.free start history k p
  room_stored empties records = by (has_room old records)
    where
      by : (b : Bool) → IsStored (if b then l else checkpointed old l) old.unassigned.free start history k p
      by true = h.stored
      by false = emptied_stored empties

  module _ (records : List LogRecord) (noted : p.names.tree.noted ≡ Some records) (table : IsNameTable p.names.tree) where
    older : AreOlder g l.now.catalog old.journal.number
    older inode ranged = led.older inode (subst (λ x. IsInode x inode) (sym formed) ranged)

    to_commit : HasNamesToCommit g l p old.journal.number records
    to_commit = record { geometry = formed; none = led.by.none; noted = noted; table = table; ready = h.ready; older = older }

    room_to_commit : HasNamesToCommit g (with_room old records l) p old.journal.number records
    room_to_commit = by (has_room old records)
      where
        spelled : (block : ℕ) → IsSpelled l block → IsSpelled (checkpointed old l) block
        spelled block is = record { data_block = subst (λ x. IsDataBlock x block) (formed ∙ sym next_form) is.data_block; spelled = is.spelled; slots = is.slots; unheld = refl }

        by : (b : Bool) → HasNamesToCommit g (if b then l else checkpointed old l) p old.journal.number records
        by true = to_commit
        by false = record { geometry = next_form; none = refl; noted = noted; table = table; ready = λ block fresh. spelled block (h.ready block fresh); older = older }

    module _ (sound : LedgersAreSound) (mays : NamesMayCommit g) where
      covers : CoversDirs g l.now
      covers = subst (λ x. CoversDirs x l.now) formed (sound old.sectors old.moments.state l led.by.none led.by.is).1

      may : MayCommitNext old records l
      may = subst (λ x. MayCommit x (next_commit old records) l.now) (sym beside.old_form) (mays l old.unassigned.free start history k p old.journal.number records to_commit covers led.fits h.stored)

      pub commits : NamesGoByChanges → EmptiedIsStored g → NamesAreCommitted g → ((m : Ledger) → HasLedger old m → MayCommitNext old records m → HasLedger new (after_commit old records m)) → IsKeptGoing new start history (with_names_committed p) (with_names_known p.names (length (name_changes start history)) known)
      commits by empties done commit = record {
        going = record {
          ledger = after_commit old records l;
          counts = all_named start history p.names k;
          has = commit l led may;
          formed = room_formed records ∙ sym beside.new_form;
          stored = moved (after_commit old records l) (all_named start history p.names k) (with_names_committed p)
              (done (with_room old records l) old.unassigned.free start history k p old.journal.number records room_to_commit (room_stored empties records));
        };
        covers = named_covers l old.unassigned.free start history k p known h.stored h.covers by;
        numbered = λ file is live. has_inode p.names file live;
      }

      pub stops : EmptiedIsStored g → NamesAreCommitting g → CommitsStop g → IsSome new.stop → ((m : Ledger) → HasLedger old m → MayCommitNext old records m → HasAny new (stages old records m)) → IsKeptStopped new start history p known
      stops empties meanwhile stop stopped leaves =
          stopped_known new start history p k (all_named start history p.names k) known h.covers (named_still l old.unassigned.free start history k p known h.stored h.covers)
          (stop old new records l start history k (all_named start history p.names k) p beside.new_form formed stopped led (leaves l led may)
          (meanwhile (with_room old records l) old.unassigned.free start history k p old.journal.number records room_to_commit (room_stored empties records)) (moved l k p h.stored))

-- ---- meanwhile

pub names_may_leave : (g : Geometry) → LedgersAreSound → NamesMayCommit g → EmptiedIsStored g → NamesAreCommitting g → CommitImagesAreExplained g → NamesMayLeave g
names_may_leave g sound mays empties meanwhile each s start history p known records same noted table h =
    let beside : IsBeside g s s = record { old_form = same; new_form = same; unassigned = refl } in
    record {
      ledger = h.ledger;
      knows = h.knows;
      may = may g s s start history p known beside h records noted table sound mays;
      allowed = λ image. each s records image h.ledger start history h.counts (all_named start history p.names h.counts) (h.formed ∙ same) h.knows.superblock_is h.stored.kept
          (meanwhile (with_room s records h.ledger) s.unassigned.free start history h.counts p s.journal.number records (room_to_commit g s s start history p known beside h records noted table)
          (room_stored g s s start history p known beside h empties records));
    }

pub names_explained : (g : Geometry) → NamesMayLeave g → NamesAreExplained g
names_explained g leaves keeps s new start history p known records same noted table run h =
    let told = leaves s start history p known records same noted table h in
    weaker keeps (IsLeftByAny s.sectors (stages s records told.ledger)) (IsExplainedImage s.sectors start history) told.allowed s.moments new (run told.ledger told.knows told.may)
