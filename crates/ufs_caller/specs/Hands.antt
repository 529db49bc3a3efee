-- What a client's hand has: its part with what it asked, or that alone while its part is away.
use Rattle.std.specs.Prelude.{ℕ, eqb, ◌≡◌, ◌≢◌, ◌≤◌, ◌<◌, List, [], ◌∷◌, ◌++◌, length, Option, Some, None, unwrap_or}
use Rattle.std.specs.FinMap as fin
use Rattle.ufs_fds.specs.Descriptors.{AreInRange, Descs}
use Rattle.ufs_model.specs.Asks.{IsAsk, fd_named, fd_told}
use Rattle.ufs_model.specs.PosixTree.{PosixTree, desc_at}
use Rattle.ufs_model.specs.declared.data.Entry.{Entry}
use Rattle.ufs_model.specs.declared.data.Ask.{Ask}
use Rattle.ufs_model.specs.declared.data.Desc.{Desc}
use Rattle.ufs_model.specs.declared.data.Op.{Op}
use Rattle.ufs_model.specs.declared.data.Op.TheVariants as op
use Rattle.ufs_joint.specs.Cells.{View}
use Rattle.ufs_joint.specs.FileHands.{own_desc}
use Rattle.ufs_joint.specs.Marks.{asking}
use Rattle.ufs_hand_laws.specs.Parts.{AskedPart, ClientPart, OwnFds}
use Rattle.ufs_hand_laws.specs.Owned.{only}
use Rattle.ufs_hand_laws.specs.Whole.{idle_asked, idle_client}

-- The hand has the client's part and what it asked, and no other part.
pub record HasBoth (client : ℕ) (self : ClientPart) (before : AskedPart) (v : View) : Type 0 where
  pub clients : v.clients ≡ (client, self) ∷ []
  pub asked : v.asked ≡ (client, before) ∷ []
  pub files : v.files ≡ []
  pub pools : v.pools ≡ []
  pub names : v.names ≡ []
  pub store : v.store ≡ []

-- The hand has what the client asked, and no other part.
pub record HasAskedAlone (client : ℕ) (before : AskedPart) (v : View) : Type 0 where
  pub clients : v.clients ≡ []
  pub asked : v.asked ≡ (client, before) ∷ []
  pub files : v.files ≡ []
  pub pools : v.pools ≡ []
  pub names : v.names ≡ []
  pub store : v.store ≡ []

-- the part has the table's descriptors
abbrev pub AreSame : OwnFds → Descs → Type 0
AreSame fds table = (fd : ℕ) → fin.get fds fd ≡ fin.get table fd

-- The client's part is at home: it has these entries and the descriptors of the table, which are those of a tree, and
-- nothing that it asked is left, and no copy of a lease.
pub record IsHome (client : ℕ) (entries : List Entry) (table : Descs) (v : View) : Type 0 where
  pub self : ClientPart
  pub before : AskedPart
  pub both : HasBoth client self before v
  pub entries_are : self.entries ≡ entries
  pub same : AreSame self.fds table
  pub idle : self.asked ≡ None
  pub unleased : self.copies ≡ []
  pub tree : PosixTree
  pub of : (fd : ℕ) → fin.get self.fds fd ≡ desc_at tree client fd

-- It is away: it had these entries and descriptors when it asked this.
pub record IsAway (client : ℕ) (entries : List Entry) (table : Descs) (request : Op) (v : View) : Type 0 where
  pub before : AskedPart
  pub alone : HasAskedAlone client before v
  pub entries_are : before.entries ≡ entries
  pub same : AreSame before.fds table
  pub asked : before.asked ≡ Some request

-- ---- what asking leaves

abbrev pub self_in : List (ℕ × ClientPart) → ClientPart
self_in [] = idle_client
self_in (p ∷ ps) = p.1

-- the client asks this
abbrev pub asked_view : ℕ → Op → View → ℕ → View
asked_view client request v tickets = asking tickets client request (self_in v.clients) v

-- the request that was asked last
abbrev pub request_in : List (ℕ × AskedPart) → Op
request_in [] = op.Sync
request_in (p ∷ ps) = unwrap_or p.1.asked op.Sync

-- how many tickets there were then
abbrev pub tickets_in : List (ℕ × AskedPart) → ℕ
tickets_in [] = 0
tickets_in (p ∷ ps) = p.1.tickets

-- the hand after that
pub record IsLeft (client : ℕ) (request : Op) (self : ClientPart) (v : View) : Type 0 where
  pub before : AskedPart
  pub both : HasBoth client (record self { asked = Some request }) before v
  pub entries : before.entries ≡ self.entries
  pub fds : before.fds ≡ self.fds
  pub asked : before.asked ≡ Some request
  pub late : v.seen ≡ before.tickets

-- The request is the next one of the client, which has nothing asked, with what its descriptors tell.
pub record IsAskFor (ask : Ask) (self : ClientPart) : Type 0 where
  pub idle : self.asked ≡ None
  pub seq : ask.seq ≡ length self.entries
  pub desc : ask.desc ≡ own_desc self.fds (fd_named ask.op)
  pub told : (t : PosixTree) → ((fd : ℕ) → fin.get self.fds fd ≡ desc_at t ask.client fd) → IsAsk t ask

-- ---- what comes back

-- The client's part is back with its answer, which is the entry. Its descriptors are some of those that an `open` gives out.
pub record IsBack (before : AskedPart) (entry : Entry) (desc : Option Desc) (v : View) : Type 0 where
  pub self : ClientPart
  pub both : HasBoth entry.client self before v
  pub entries : self.entries ≡ before.entries ++ entry ∷ []
  pub seq : entry.seq ≡ length before.entries
  pub asked : before.asked ≡ Some entry.op
  pub later : before.tickets ≤ entry.ticket
  pub within : entry.ticket < v.seen
  pub idle : self.asked ≡ None
  pub unleased : self.copies ≡ []
  pub others : (n : ℕ) → fd_told entry.op entry.reply ≢ Some n → fin.get self.fds n ≡ fin.get before.fds n
  pub desc_is : desc ≡ own_desc self.fds (fd_told entry.op entry.reply)
  pub ranged : AreInRange self.fds
  pub tree : PosixTree
  pub of : (fd : ℕ) → fin.get self.fds fd ≡ desc_at tree entry.client fd

-- The request that came back is the one that was asked.
pub record IsStillAsked (before : AskedPart) (ask : Ask) : Type 0 where
  pub asked : before.asked ≡ Some ask.op
  pub seq : ask.seq ≡ length before.entries
  pub desc : ask.desc ≡ own_desc before.fds (fd_named ask.op)
  pub told : (t : PosixTree) → ((fd : ℕ) → fin.get before.fds fd ≡ desc_at t ask.client fd) → IsAsk t ask

-- ---- at the start

-- The hand has the client once, which has asked nothing, with what it asked.
pub record IsIdleIn (client : ℕ) (v : View) : Type 0 where
  pub clients : only (eqb client) v.clients ≡ (client, idle_client) ∷ []
  pub asked : only (eqb client) v.asked ≡ (client, idle_asked) ∷ []
