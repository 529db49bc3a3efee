-- A lease is granted, the file goes to another hand, its client reads under the lease, drops it, and it is given back.
use Rattle.std.specs.Prelude.{ℕ, suc, ◌<◌, ◌≡◌, true, [], ◌∷◌, ◌++◌, length, Some, None}
use Rattle.std.specs.FinMap as fin
use Rattle.ufs_model.specs.FileBytes.{part}
use Rattle.ufs_model.specs.declared.data.Actor.TheVariants.{Primary}
use Rattle.ufs_model.specs.declared.data.Desc.{Desc}
use Rattle.ufs_model.specs.declared.data.Fact.TheVariants.{Holds}
use Rattle.ufs_model.specs.declared.data.Lease.{Lease}
use Rattle.ufs_model.specs.declared.data.Op.TheVariants as op
use Rattle.ufs_model.specs.declared.data.PartName.TheVariants as name
use Rattle.ufs_model.specs.declared.data.Reply.TheVariants as reply
use Rattle.ufs_hand_laws.specs.declared.fresh.Fresh.{Fresh}
use Rattle.ufs_hand_laws.specs.Parts.{ClientPart, AskedPart, FilePart, View, Word, Start, kept_of, given_of, both_of, spent}
use Rattle.ufs_hand_laws.specs.Draws.{drawn, entry_of}
use Rattle.ufs_hand_laws.specs.Explained.{Showing}
use Rattle.ufs_hand_laws.specs.Leasing.{granting, giving_back}
use Rattle.ufs_hand_laws.specs.Marks.{asking}
use Rattle.ufs_hand_laws.specs.Sound.{IsSound}

-- The parts of one hand, client 0 and file 0; what the client asks to be read where; and until when it has a lease.
pub record Reading : Type 0 where
  pub self : ClientPart
  pub before : AskedPart
  pub file : FilePart
  pub seen : ℕ
  pub clock : ℕ
  pub fd : ℕ
  pub at : ℕ
  pub count : ℕ
  pub until : ℕ

module _ (x : Reading) (tickets : ℕ) where
  abbrev pub server : View
  server = record { clients = (0, x.self) ∷ []; asked = (0, x.before) ∷ []; files = (0, x.file) ∷ []; pools = []; names = []; store = []; seen = x.seen; clock = x.clock; faults = []; stop = None; shortages = [] }

  -- on the whole file
  abbrev pub whole_lease : Lease
  whole_lease = record { client = 0; part = name.File 0; until = x.until; fact = Holds 0 (length x.file.bytes) x.file.bytes }

  abbrev pub lease_granted : View
  lease_granted = granting tickets whole_lease server

  -- the file goes to a hand of its own
  abbrev pub reader : View
  reader = kept_of (name.File 0) lease_granted

  abbrev pub owner : View
  owner = given_of (name.File 0) lease_granted

  abbrev pub holding : ClientPart
  holding = record x.self { copies = x.self.copies ++ whole_lease ∷ [] }

  abbrev pub read_asked : View
  read_asked = asking tickets 0 (op.Pread x.fd x.count x.at) holding.copies holding reader

  abbrev pub read : Fresh
  read = record { client = 0; seq = length x.self.entries; by = Primary; op = op.Pread x.fd x.count x.at; reply = reply.Got (part x.file.bytes x.at x.count) }

  abbrev pub read_drawn : View
  read_drawn = drawn tickets read (record { fds = x.self.fds; files = []; names = [] }) read_asked

  abbrev pub has_read : ClientPart
  has_read = record holding { entries = x.self.entries ++ entry_of tickets read ∷ []; asked = None }

  -- it asks again, and keeps the copies that it had before
  abbrev pub lease_dropped : View
  lease_dropped = asking (suc tickets) 0 (op.Pread x.fd x.count x.at) x.self.copies has_read read_drawn

  abbrev pub met : View
  met = both_of lease_dropped owner

  abbrev pub lease_returned : View
  lease_returned = giving_back (suc tickets) (name.File 0) 0 met

-- The client has a descriptor of the file that may read, asks nothing yet, and has no lease; and the lease lives at the clock.
pub record CanBeLeased (clock : ℕ) (x : Reading) : Type 0 where
  pub idle : x.self.asked ≡ None
  pub room : suc (length x.self.entries) < 65536
  pub no_copies : x.self.copies ≡ []
  pub desc : Desc
  pub open' : fin.get x.self.fds x.fd ≡ Some desc
  pub leave : desc.read ≡ true
  pub of : desc.file ≡ Some 0
  pub live : clock < x.until
  pub ends : x.until < 16777216

-- Each state is sound, to the one in which the file has no lease of the client any more.
pub record IsLeased (S : Showing) (k : Start) (word : Word) (other : View) (x : Reading) : Type 0 where
  pub after_grant : IsSound S k word (lease_granted x word.tickets ∷ other ∷ [])
  pub after_split : IsSound S k word (reader x word.tickets ∷ other ∷ owner x word.tickets ∷ [])
  pub after_ask : IsSound S k word (read_asked x word.tickets ∷ other ∷ owner x word.tickets ∷ [])
  pub after_read : IsSound S k (record { tickets = suc word.tickets; clock = word.clock }) (read_drawn x word.tickets ∷ other ∷ owner x word.tickets ∷ [])
  pub after_drop : IsSound S k (record { tickets = suc word.tickets; clock = word.clock }) (lease_dropped x word.tickets ∷ other ∷ owner x word.tickets ∷ [])
  pub after_join : IsSound S k (record { tickets = suc word.tickets; clock = word.clock }) (met x word.tickets ∷ other ∷ spent ∷ [])
  pub after_return : IsSound S k (record { tickets = suc word.tickets; clock = word.clock }) (lease_returned x word.tickets ∷ other ∷ spent ∷ [])

abbrev pub LeasesAreServed : Showing → Type 0
LeasesAreServed S = (k : Start) (word : Word) (other : View) (x : Reading) → IsSound S k word (server x word.tickets ∷ other ∷ []) → CanBeLeased word.clock x → IsLeased S k word other x
