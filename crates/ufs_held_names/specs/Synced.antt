-- What an `fsync` of a file comes to.
use Rattle.std.specs.Prelude.{ℕ, suc, ◌≡◌, ◌≢◌, ◌≤◌, ◌++◌, ◌⊎◌, Bool, true, is_some, List, Option, Some}
use Rattle.std.specs.FinSet as set
use Rattle.ufs_bitmap.specs.Blocks.{BlockSet}
use Rattle.ufs_bitmap.specs.Taking.{set_of}
use Rattle.ufs_file_commits.specs.State.{file_committed}
use Rattle.ufs_file.specs.Hand.{IsEntryOf}
use Rattle.ufs_model.specs.History.{is_excused}
use Rattle.ufs_model.specs.declared.data.Actor.{Actor}
use Rattle.ufs_model.specs.declared.data.Ask.{Ask}
use Rattle.ufs_model.specs.declared.data.Desc.{Desc}
use Rattle.ufs_model.specs.declared.data.Entry.{Entry}
use Rattle.ufs_model.specs.declared.data.Excuse.{Excuse}
use Rattle.ufs_model.specs.declared.data.Excuse.TheVariants as excuse
use Rattle.ufs_model.specs.declared.data.Reply.TheVariants as reply
use Rattle.ufs_hand_laws.specs.Parts.{ClientPart}
use Rattle.ufs_joint.specs.Cells.{FileCell, NamesCell, View}
use Rattle.ufs_turns.specs.Lent.{AreTold}
use Rattle.ufs_held.specs.Asking.{IsAnswered, IsGuest, IsSyncReply, faults_of}
use Rattle.ufs_held.specs.Stopping.{ExcusesByStop, StopsByReply}
use Rattle.ufs_held_names.specs.HeldNames.{AreCommitted}

-- The guest goes back with one more entry, and its pool.
abbrev pub GoesBack : Ask → ℕ → Entry → Option Desc → View → View → Type 0
GoesBack ask number e d before back = (part : ClientPart) (n : ℕ) (pool : BlockSet) → IsGuest ask.client part n pool before → n ≢ number → (after : ClientPart) × IsAnswered part e d after × IsGuest ask.client after n pool back

-- The request is excused so, and the file is as it was.
pub record IsExcusedBy (cause : Excuse) (ask : Ask) (by : Actor) (was now : FileCell) (e : Entry) (d : Option Desc) (before back : View) : Type 0 where
  pub entry : IsEntryOf ask by e.ticket e
  pub replied : e.reply ≡ reply.Excused cause
  pub desc : d ≡ ask.desc
  pub guest : GoesBack ask was.value.file.file e d before back
  pub same : now ≡ was
  pub faults : (rest : List ℕ) → before.faults ≡ faults_of cause ++ rest → back.faults ≡ rest
  pub stop : (fault : ℕ) → before.stop ≡ Some fault → back.stop ≡ Some fault
  pub later : before.seen ≤ e.ticket
  pub seen : back.seen ≡ suc e.ticket

-- The names were committed before: the file was told its birth, and its commit was tried.
pub record HasTried (visible : Bool) (ask : Ask) (by : Actor) (tells told : Option View) (was now : FileCell) (e : Entry) (d : Option Desc) (before back : View) : Type 0 where
  pub entry : IsEntryOf ask by e.ticket e
  pub replied : IsSyncReply e.reply
  pub desc : d ≡ ask.desc
  pub guest : GoesBack ask was.value.file.file e d before back
  pub committed : e.reply ≡ reply.Done → now.value ≡ file_committed was.value
  pub known : e.reply ≡ reply.Done → visible ≡ true → now.changed ≤ now.known
  pub born : now.born ≡ true
  pub rest : now ≡ record was { value = now.value; known = now.known; born = now.born }
  pub kept : is_excused e.reply ≡ true → now ≡ record was { born = now.born }
  pub faults : back.faults ≡ before.faults
  pub stop : (fault : ℕ) → e.reply ≡ reply.Excused (excuse.Stopped fault) → back.stop ≡ Some fault
  pub freed : e.reply ≡ reply.Done → AreTold tells told (λ had has. has ≡ set.union had (set_of was.value.dropped))
  pub unfreed : is_excused e.reply ≡ true → AreTold tells told (λ had has. has ≡ had)
  pub telling : is_some told ≡ is_some tells
  pub halts : StopsByReply tells told 1 1 e.reply
  pub halted : ExcusesByStop tells e.reply
  pub later : before.seen ≤ e.ticket
  pub seen : back.seen ≡ suc e.ticket

-- All that is told of it.
pub record HasSynced (visible : Bool) (ask : Ask) (by : Actor) (old new : NamesCell) (tells told : Option View) (was now : FileCell) (e : Entry) (d : Option Desc) (before back : View) : Type 0 where
  pub entry : IsEntryOf ask by e.ticket e
  pub replied : IsSyncReply e.reply
  pub desc : d ≡ ask.desc
  pub guest : GoesBack ask was.value.file.file e d before back
  pub names : e.reply ≡ reply.Done → AreCommitted visible old new
  pub committed : e.reply ≡ reply.Done → now.value ≡ file_committed was.value
  pub known : e.reply ≡ reply.Done → visible ≡ true → now.changed ≤ now.known
  pub born : e.reply ≡ reply.Done → now.born ≡ true
  pub rest : now ≡ record was { value = now.value; known = now.known; born = now.born }
  -- the names' commit failed, and all is as it was; or the file's did, which knows its birth then
  pub short : is_excused e.reply ≡ true → ((new ≡ old) × (now ≡ was)) ⊎ (AreCommitted visible old new × (now ≡ record was { born = true }))
  pub faults : back.faults ≡ before.faults
  pub stop : (fault : ℕ) → e.reply ≡ reply.Excused (excuse.Stopped fault) → back.stop ≡ Some fault
  pub freed : e.reply ≡ reply.Done → AreTold tells told (λ had has. has ≡ set.union had (set_of was.value.dropped))
  pub unfreed : is_excused e.reply ≡ true → AreTold tells told (λ had has. has ≡ had)
  pub telling : is_some told ≡ is_some tells
  pub halts : StopsByReply tells told 2 2 e.reply
  pub halted : ExcusesByStop tells e.reply
  pub later : before.seen ≤ e.ticket
  pub seen : back.seen ≡ suc e.ticket
