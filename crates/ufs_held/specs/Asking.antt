-- A client asks a request on a file, and is answered.
use Rattle.std.specs.Prelude.{ℕ, ◌≡◌, ◌≢◌, ◌<◌, true, false, [], ◌∷◌, ◌++◌, length, List, Option, Some, None, Bool}
use Rattle.std.specs.FinMap as fin
use Rattle.ufs_bitmap.specs.Blocks.{BlockSet}
use Rattle.ufs_model.specs.Asks.{fd_named}
use Rattle.ufs_model.specs.FileCalls.{is_on_file}
use Rattle.ufs_model.specs.declared.data.Ask.{Ask}
use Rattle.ufs_model.specs.declared.data.Desc.{Desc}
use Rattle.ufs_model.specs.declared.data.Entry.{Entry}
use Rattle.ufs_model.specs.declared.data.Excuse.{Excuse}
use Rattle.ufs_model.specs.declared.data.Excuse.TheVariants as excuse
use Rattle.ufs_model.specs.declared.data.Reply.{Reply}
use Rattle.ufs_model.specs.declared.data.Reply.TheVariants as reply
use Rattle.ufs_hand_laws.specs.Parts.{ClientPart, OwnFds}
use Rattle.ufs_joint.specs.Cells.{View}
use Rattle.ufs_joint.specs.FileHands.{own_desc}
use Rattle.ufs_joint.specs.Servers.{NeedsServer}

-- The hand has the client and the server's pool, and nothing else.
pub record IsGuest (client : ℕ) (part : ClientPart) (n : ℕ) (pool : BlockSet) (v : View) : Type 0 where
  pub clients : v.clients ≡ (client, part) ∷ []
  pub asked : v.asked ≡ []
  pub files : v.files ≡ []
  pub pools : v.pools ≡ (n, pool) ∷ []
  pub names : v.names ≡ []
  pub store : v.store ≡ []

-- The client asked the request, which is on a descriptor of a file and which it doesn't answer itself, and what is told with it is so.
pub record Asks (part : ClientPart) (ask : Ask) : Type 0 where
  pub low : ask.client < 16
  pub asked : part.asked ≡ Some ask.op
  pub seq : ask.seq ≡ length part.entries
  pub told : ask.desc ≡ own_desc part.fds (fd_named ask.op)
  pub no_fd : ask.fd ≡ 0
  pub not_last : ask.last ≡ false
  pub on_file : is_on_file ask.op ≡ true
  pub needs : NeedsServer part.fds ask.client ask.op

-- It has one more entry, and asks nothing; the descriptor of the request is that, and its others are as they were.
pub record IsAnswered (part : ClientPart) (entry : Entry) (desc : Option Desc) (after : ClientPart) : Type 0 where
  pub fds : OwnFds
  pub is : after ≡ record part { entries = part.entries ++ entry ∷ []; fds = fds; asked = None }
  pub this : (fd : ℕ) (d : Desc) → fd_named entry.op ≡ Some fd → desc ≡ Some d → fin.get fds fd ≡ Some d
  pub others : (fd : ℕ) → fd_named entry.op ≢ Some fd → fin.get fds fd ≡ fin.get part.fds fd

-- the excuse is for what a turn of the store refused: a fault of the device, its stop, or want of memory
abbrev pub is_of_turn : Excuse → Bool
is_of_turn excuse.Memory = true
is_of_turn (excuse.Device fault) = true
is_of_turn (excuse.Stopped fault) = true
is_of_turn _ = false

-- the faults of the device that excuse by it
abbrev pub faults_of : Excuse → List ℕ
faults_of (excuse.Device fault) = fault ∷ []
faults_of _ = []

-- An `fsync` is done, or excused by what its turn refused.
abbrev pub IsSyncReply : Reply → Type 0
IsSyncReply reply.Done = Unit {0}
IsSyncReply (reply.Excused x) = is_of_turn x ≡ true
IsSyncReply _ = ⊥
