-- A request on its way, with the hand of the client that asked it.
use Rattle.std.specs.Prelude.{ℕ, ◌≡◌, ◌<◌, ◌⊎◌, Bool, true, [], ◌∷◌, length, Option, Some, refl}
use Rattle.std.specs.FinMap as fin
use Rattle.std.specs.Coded.{Coded, code_by, coded×, coded_bool}
use Rattle.ufs_joint.specs.Cells.{Start, View}
use Rattle.ufs_joint.specs.Codes.{view_code}
use Rattle.ufs_joint.specs.FileHands.{own_desc}
use Rattle.ufs_joint.specs.Servers.{NeedsServer}
use Rattle.ufs_model.specs.Asks.{IsAsk, fd_named, file_in}
use Rattle.ufs_model.specs.Bounds.{IsBounded}
use Rattle.ufs_model.specs.PosixTree.{PosixTree, desc_at}
use Rattle.ufs_model.specs.contracts.data.Ask as ask'
use Rattle.ufs_model.specs.declared.data.Ask.{Ask}
use Rattle.ufs_model.specs.declared.data.Lease.{Lease}
use Rattle.ufs_model.specs.declared.data.Op.{Op}
use Rattle.ufs_model.specs.declared.data.Op.TheVariants as op
use Rattle.ufs_model.specs.declared.data.PartName.TheVariants as part
use Rattle.ufs_hand_laws.specs.Owned.{Has}
use Rattle.ufs_hand_laws.specs.Parts.{ClientPart}
use Rattle.ufs_msg.specs.There.{IsClientThere}

-- what a server sees of a request
pub record Asked : Type 0 where
  pub hand : View
  pub ask : Ask
  pub leases_back : Bool

abbrev pub asked_code : Coded Asked
asked_code = code_by (View × (Ask × Bool)) (coded× view_code (coded× ask'.the_row.coded coded_bool)) (λ a. (a.hand, (a.ask, a.leases_back))) (λ p. record { hand = p.0; ask = p.1.0; leases_back = p.1.1 }) (λ _. refl)

abbrev pub asked_of : View → Ask → Bool → Asked
asked_of hand ask leases_back = record { hand = hand; ask = ask; leases_back = leases_back }

-- The hand has this client's part, and no other.
pub record HasClientAlone (client : ℕ) (self : ClientPart) (v : View) : Type 0 where
  pub clients : v.clients ≡ (client, self) ∷ []
  pub asked : v.asked ≡ []
  pub files : v.files ≡ []
  pub pools : v.pools ≡ []
  pub names : v.names ≡ []
  pub store : v.store ≡ []

-- The lease rests on what the request changes, of this file or of names: its own client drops it before.
abbrev pub RestsOn : Op → Option ℕ → Bool → Lease → Type 0
RestsOn (op.Write fd bytes) file last l = (f : ℕ) × (file ≡ Some f) × (l.part ≡ part.File f)
RestsOn (op.Pwrite fd bytes at) file last l = (f : ℕ) × (file ≡ Some f) × (l.part ≡ part.File f)
RestsOn (op.Trunc fd size) file last l = (f : ℕ) × (file ≡ Some f) × (l.part ≡ part.File f)
RestsOn (op.OpenFile path read write creat excl trunc append) file last l = (trunc ≡ true) × ((f : ℕ) × (l.part ≡ part.File f))
RestsOn (op.Rmdir path) file last l = l.part ≡ part.Names
RestsOn (op.Unlink path) file last l = l.part ≡ part.Names
RestsOn (op.Rename from to) file last l = l.part ≡ part.Names
RestsOn (op.Close fd) file last l = (last ≡ true) × ((l.part ≡ part.Names) ⊎ ((f : ℕ) × (file ≡ Some f) × (l.part ≡ part.File f)))
RestsOn _ file last l = ⊥

-- The hand's client asked this, and has no answer yet.
pub record IsAsked (k : Start) (ask : Ask) (v : View) : Type 0 where
  pub there : IsClientThere k ask.client
  pub self : ClientPart
  pub alone : HasClientAlone ask.client self v
  pub low : ask.client < 16
  pub seq : ask.seq ≡ length self.entries
  pub few : ask.seq < 65536
  pub bounded : IsBounded ask.op
  pub asked : self.asked ≡ Some ask.op
  pub desc : ask.desc ≡ own_desc self.fds (fd_named ask.op)
  -- so are the others that are told, in each tree that has its descriptors
  pub told : (t : PosixTree) → ((fd : ℕ) → fin.get self.fds fd ≡ desc_at t ask.client fd) → IsAsk t ask
  -- and it doesn't answer the request itself
  pub needs : NeedsServer self.fds ask.client ask.op
  pub dropped : (l : Lease) → Has l self.copies → RestsOn ask.op (file_in ask.desc) ask.last l → ⊥
  -- no server grants a lease yet: so it has no copy of any
  pub unleased : self.copies ≡ []
