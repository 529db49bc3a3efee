-- A file is written, committed and synced by its client: what the hand that has these parts has after each step.
use Rattle.std.specs.Prelude.{ℕ, suc, ◌<◌, ◌≡◌, eqb, true, false, List, [], ◌∷◌, ◌++◌, length, set, Some, None, slice_get}
use Rattle.std.specs.FinMap as fin
use mathlib.Core.Option.{some}
use lib.ListN.{get_elem?}
use Rattle.ufs_model.specs.FileBytes.{put_at, is_past}
use Rattle.ufs_model.specs.declared.data.Actor.TheVariants.{Primary}
use Rattle.ufs_model.specs.declared.data.Desc.{Desc}
use Rattle.ufs_model.specs.declared.data.Op.TheVariants as op
use Rattle.ufs_model.specs.declared.data.Reply.TheVariants as reply
use Rattle.ufs_crash_laws.specs.declared.data.FileChange.TheVariants as change
use Rattle.ufs_hand_laws.specs.declared.fresh.Fresh.{Fresh}
use Rattle.ufs_hand_laws.specs.Parts.{Cells, ClientPart, AskedPart, FilePart, StorePart, View, Word, Start}
use Rattle.ufs_hand_laws.specs.DiskBytes.{is_loaded}
use Rattle.ufs_hand_laws.specs.Draws.{entry_of, drawn}
use Rattle.ufs_hand_laws.specs.Events.{committed_part, committing, MayCommitFile}
use Rattle.ufs_hand_laws.specs.Explained.{Showing}
use Rattle.ufs_hand_laws.specs.Marks.{asking}
use Rattle.ufs_hand_laws.specs.Sound.{IsSound}

-- The parts of one hand: client 0, one file and the store; and what the client asks to be written where.
pub record Writing : Type 0 where
  pub self : ClientPart
  pub before : AskedPart
  pub file : ℕ
  pub part : FilePart
  pub store : StorePart
  pub seen : ℕ
  pub clock : ℕ
  pub fd : ℕ
  pub at : ℕ
  pub bytes : List ℕ
  -- the states of the disk while the file is committed, and the last of them
  pub through : List Cells
  pub state : Cells

module _ (x : Writing) (tickets : ℕ) where
  abbrev pub writer : View
  writer = record { clients = (0, x.self) ∷ []; asked = (0, x.before) ∷ []; files = (x.file, x.part) ∷ []; pools = []; names = []; store = (tt, x.store) ∷ []; seen = x.seen; clock = x.clock; faults = []; stop = None; shortages = [] }

  abbrev pub write_asked : View
  write_asked = asking tickets 0 (op.Pwrite x.fd x.bytes x.at) x.self.copies x.self writer

  abbrev pub written : Fresh
  written = record { client = 0; seq = length x.self.entries; by = Primary; op = op.Pwrite x.fd x.bytes x.at; reply = reply.Count (length x.bytes) }

  abbrev pub written_part : FilePart
  written_part = record x.part { bytes = put_at x.part.bytes x.at x.bytes; changes = x.part.changes ++ change.Written x.at x.bytes ∷ [] }

  abbrev pub write_drawn : View
  write_drawn = drawn tickets written (record { fds = x.self.fds; files = (x.file, written_part) ∷ []; names = [] }) write_asked

  abbrev pub write_committed : View
  write_committed = committing (suc tickets) x.file written_part x.through x.state x.store write_drawn

  -- the client as it is then
  abbrev pub wrote : ClientPart
  wrote = record x.self { entries = x.self.entries ++ entry_of tickets written ∷ []; asked = None }

  abbrev pub sync_asked : View
  sync_asked = asking (suc tickets) 0 (op.Fsync x.fd) x.self.copies wrote write_committed

  abbrev pub synced : Fresh
  synced = record { client = 0; seq = length wrote.entries; by = Primary; op = op.Fsync x.fd; reply = reply.Done }

  abbrev pub sync_drawn : View
  sync_drawn = drawn (suc tickets) synced (record { fds = x.self.fds; files = (x.file, committed_part written_part) ∷ []; names = [] }) sync_asked

-- The client has a descriptor of the file that may write, and asks nothing yet; the file is born, all its blocks are in
-- memory, and nobody has a lease on it; and the file may be committed by what the disk shows on its way.
pub record CanBeSynced (S : Showing) (k : Start) (tickets : ℕ) (x : Writing) : Type 0 where
  pub idle : x.self.asked ≡ None
  pub room : suc (length x.self.entries) < 65536
  pub desc : Desc
  pub open' : fin.get x.self.fds x.fd ≡ Some desc
  pub leave : desc.write ≡ true
  pub of : desc.file ≡ Some x.file
  pub born : x.part.born ≡ true
  pub no_lease : x.part.leases ≡ []
  pub in_memory : (place b : ℕ) → slice_get x.part.blocks place ≡ Some b → is_loaded x.part place ≡ true
  pub some' : eqb (length x.bytes) 0 ≡ false
  pub fits : is_past x.at x.bytes ≡ false
  pub commit : MayCommitFile S k (suc tickets) (write_drawn x tickets) x.file (written_part x tickets) x.store x.through x.state

-- Each state is sound, to the one with the acknowledged `fsync`.
pub record IsSynced (S : Showing) (k : Start) (word : Word) (views : List View) (i : ℕ) (x : Writing) : Type 0 where
  pub after_ask : IsSound S k word (set views i (write_asked x word.tickets))
  pub after_write : IsSound S k (record { tickets = suc word.tickets; clock = word.clock }) (set views i (write_drawn x word.tickets))
  pub after_commit : IsSound S k (record { tickets = suc word.tickets; clock = word.clock }) (set views i (write_committed x word.tickets))
  pub after_second_ask : IsSound S k (record { tickets = suc word.tickets; clock = word.clock }) (set views i (sync_asked x word.tickets))
  pub after_sync : IsSound S k (record { tickets = suc (suc word.tickets); clock = word.clock }) (set views i (sync_drawn x word.tickets))

abbrev pub WritesAreSynced : Showing → Type 0
WritesAreSynced S = (k : Start) (word : Word) (views : List View) (i : ℕ) (x : Writing) → IsSound S k word views → get_elem? views i ≡ some (writer x word.tickets) → CanBeSynced S k word.tickets x → IsSynced S k word views i x
