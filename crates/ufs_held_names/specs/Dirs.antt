-- An `fsync` of a directory: the names are committed, and it is acknowledged or excused.
use Rattle.std.specs.Prelude.{ℕ, suc, ◌≡◌, ◌≤◌, ◌<◌, ◌++◌, Bool, true, List, [], ◌∷◌, length, is_some, Option, Some, None}
use Rattle.std.specs.FinMap as fin
use Rattle.ufs_bitmap.specs.Blocks.{BlockSet}
use Rattle.ufs_file.specs.Hand.{IsEntryOf}
use Rattle.ufs_model.specs.Asks.{IsAsk}
use Rattle.ufs_model.specs.History.{is_excused}
use Rattle.ufs_model.specs.PosixTree.{PosixTree, desc_at}
use Rattle.ufs_model.specs.declared.data.Actor.{Actor}
use Rattle.ufs_model.specs.declared.data.Ask.{Ask}
use Rattle.ufs_model.specs.declared.data.Desc.{Desc}
use Rattle.ufs_model.specs.declared.data.Entry.{Entry}
use Rattle.ufs_model.specs.declared.data.Excuse.{Excuse}
use Rattle.ufs_model.specs.declared.data.Excuse.TheVariants as excuse
use Rattle.ufs_model.specs.declared.data.Op.TheVariants as op
use Rattle.ufs_model.specs.declared.data.Reply.{Reply}
use Rattle.ufs_model.specs.declared.data.Reply.TheVariants as reply
use Rattle.ufs_hand_laws.specs.Parts.{ClientPart}
use Rattle.ufs_joint.specs.Cells.{NamesCell, View}
use Rattle.ufs_joint.specs.Servers.{NeedsServer}
use Rattle.ufs_turns.specs.Lent.{AreTold}
use Rattle.ufs_held.specs.Asking.{IsGuest, IsSyncReply, faults_of, is_of_turn}
use Rattle.ufs_held.specs.Stopping.{ExcusesByStop, StopsByReply}
use Rattle.ufs_held_names.specs.HeldNames.{AreCommitted}

-- The client asked for an `fsync` of a directory, and what is told with it is so in each tree that has the client's descriptors.
pub record AsksDir (part : ClientPart) (ask : Ask) : Type 0 where
  pub low : ask.client < 16
  pub asked : part.asked ≡ Some ask.op
  pub seq : ask.seq ≡ length part.entries
  pub fd : ℕ
  pub op_is : ask.op ≡ op.Fsync fd
  pub desc : Desc
  pub named : ask.desc ≡ Some desc
  pub is : fin.get part.fds fd ≡ Some desc
  pub of : desc.file ≡ None
  pub told : (t : PosixTree) → ((n : ℕ) → fin.get part.fds n ≡ desc_at t ask.client n) → IsAsk t ask
  pub needs : NeedsServer part.fds ask.client ask.op

-- The client asked for an `fsync` of a descriptor that it doesn't have.
pub record AsksUnopened (part : ClientPart) (ask : Ask) : Type 0 where
  pub low : ask.client < 16
  pub asked : part.asked ≡ Some ask.op
  pub seq : ask.seq ≡ length part.entries
  pub fd : ℕ
  pub op_is : ask.op ≡ op.Fsync fd
  pub none : fin.get part.fds fd ≡ None
  pub needs : NeedsServer part.fds ask.client ask.op

-- The client has one more entry, and asks nothing; its descriptors stay.
abbrev pub answered : ClientPart → Entry → ClientPart
answered part e = record part { entries = part.entries ++ e ∷ []; asked = None }

-- It may be answered so: all that changed of the names is known as committed, or a turn refused, and the guest was told by which fault, at
-- which the store stopped then.
pub data MayAnswer (visible : Bool) (names : NamesCell) (guest : View) (r : Reply) : Type 0 where
  IsDone : r ≡ reply.Done → (visible ≡ true → names.changed ≤ names.known) → MayAnswer visible names guest r
  IsRefused : (x : Excuse) → r ≡ reply.Excused x → is_of_turn x ≡ true → (rest : List ℕ) → guest.faults ≡ faults_of x ++ rest → ((fault : ℕ) → x ≡ excuse.Stopped fault → guest.stop ≡ Some fault)
      → ((fault : ℕ) → x ≡ excuse.Device fault → guest.stop ≡ Some fault) → MayAnswer visible names guest r

-- The hand has the client, the names and a pool, and nothing else.
pub record IsNamesGuest (client : ℕ) (part : ClientPart) (cell : NamesCell) (n : ℕ) (pool : BlockSet) (v : View) : Type 0 where
  pub clients : v.clients ≡ (client, part) ∷ []
  pub asked : v.asked ≡ []
  pub files : v.files ≡ []
  pub pools : v.pools ≡ (n, pool) ∷ []
  pub names : v.names ≡ (tt, cell) ∷ []
  pub store : v.store ≡ []

-- It was answered with this reply.
pub record IsAnsweredBy (r : Reply) (ask : Ask) (by : Actor) (e : Entry) (before back : View) : Type 0 where
  pub entry : IsEntryOf ask by e.ticket e
  pub replied : e.reply ≡ r
  pub guest : (part : ClientPart) (n : ℕ) (pool : BlockSet) → IsGuest ask.client part n pool before → IsGuest ask.client (answered part e) n pool back
  pub done : r ≡ reply.Done → back.faults ≡ before.faults
  pub used : (x : Excuse) (rest : List ℕ) → r ≡ reply.Excused x → before.faults ≡ faults_of x ++ rest → back.faults ≡ rest
  pub stop : (fault : ℕ) → before.stop ≡ Some fault → back.stop ≡ Some fault
  pub later : before.seen ≤ e.ticket
  pub seen : back.seen ≡ suc e.ticket

-- All that is told of the request.
pub record HasSyncedDir (visible : Bool) (ask : Ask) (by : Actor) (old new : NamesCell) (tells told : Option View) (e : Entry) (before back : View) : Type 0 where
  pub entry : IsEntryOf ask by e.ticket e
  pub replied : IsSyncReply e.reply
  pub guest : (part : ClientPart) (n : ℕ) (pool : BlockSet) → IsGuest ask.client part n pool before → IsGuest ask.client (answered part e) n pool back
  pub names : e.reply ≡ reply.Done → AreCommitted visible old new
  pub kept : is_excused e.reply ≡ true → new ≡ old
  pub faults : back.faults ≡ before.faults
  pub stop : (fault : ℕ) → e.reply ≡ reply.Excused (excuse.Stopped fault) → back.stop ≡ Some fault
  pub free : AreTold tells told (λ had has. has ≡ had)
  pub telling : is_some told ≡ is_some tells
  pub halts : StopsByReply tells told 1 1 e.reply
  pub halted : ExcusesByStop tells e.reply
  pub later : before.seen ≤ e.ticket
  pub seen : back.seen ≡ suc e.ticket
