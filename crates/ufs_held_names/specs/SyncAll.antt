-- A `sync`: the names are committed, and then each file, and it is acknowledged or excused.
use Rattle.std.specs.Prelude.{ℕ, zero, suc, ◌≡◌, ◌≤◌, ◌<◌, ◌+◌, ◌++◌, ◌⊎◌, eqb, Bool, true, IsSome, List, [], ◌∷◌, length, is_some, Option, Some}
use Rattle.std.specs.FinMap as fin
use Rattle.std.specs.FinSet as set
use Rattle.ufs_bitmap.specs.Blocks.{BlockSet}
use Rattle.ufs_bitmap.specs.Taking.{set_of}
use Rattle.ufs_file_commits.specs.State.{file_committed}
use Rattle.ufs_file.specs.Hand.{IsEntryOf}
use Rattle.ufs_model.specs.History.{is_excused}
use Rattle.ufs_model.specs.declared.data.Actor.{Actor}
use Rattle.ufs_model.specs.declared.data.Ask.{Ask}
use Rattle.ufs_model.specs.declared.data.Entry.{Entry}
use Rattle.ufs_model.specs.declared.data.Excuse.{Excuse}
use Rattle.ufs_model.specs.declared.data.Excuse.TheVariants as excuse
use Rattle.ufs_model.specs.declared.data.Op.TheVariants as op
use Rattle.ufs_model.specs.declared.data.Reply.{Reply}
use Rattle.ufs_model.specs.declared.data.Reply.TheVariants as reply
use Rattle.ufs_names.specs.NamesPart.{NamesPart}
use Rattle.ufs_hand_laws.specs.Owned.{Has, count}
use Rattle.ufs_hand_laws.specs.Parts.{ClientPart}
use Rattle.ufs_joint.specs.Cells.{FileCell, NamesCell, View}
use Rattle.ufs_joint.specs.Servers.{NeedsServer}
use Rattle.ufs_turns.specs.Lent.{AreTold}
use Rattle.ufs_held.specs.Asking.{IsGuest, IsSyncReply, faults_of, is_of_turn}
use Rattle.ufs_held.specs.Together.{under_numbers}
use Rattle.ufs_held.specs.Stopping.{ExcusesByStop, StopsByReply}
use Rattle.ufs_held_names.specs.Dirs.{answered}
use Rattle.ufs_held_names.specs.HeldNames.{AreCommitted}

-- The client asked for a `sync`.
pub record AsksSync (part : ClientPart) (ask : Ask) : Type 0 where
  pub low : ask.client < 16
  pub asked : part.asked ≡ Some ask.op
  pub seq : ask.seq ≡ length part.entries
  pub op_is : ask.op ≡ op.Sync
  pub needs : NeedsServer part.fds ask.client ask.op

-- Each live file is among these, and no two of them have one number.
pub record AreAllLive (names : NamesPart) (files : List FileCell) : Type 0 where
  pub live : (file : ℕ) → IsSome (fin.get names.held file) → (c : FileCell) × Has c files × (c.value.file.file ≡ file)
  pub once : (file : ℕ) → count eqb file (under_numbers files) ≤ 1

-- ---- commits of files

-- The file is committed: where the disk is visible, all that changed of it is known as committed, and its birth is known in any case.
pub record IsFileCommitted (visible : Bool) (was now : FileCell) : Type 0 where
  pub value : now.value ≡ file_committed was.value
  pub known : visible ≡ true → now.changed ≤ now.known
  pub born : now.born ≡ true
  pub rest : now ≡ record was { value = now.value; known = now.known; born = now.born }

-- It is as it was, or was told its birth.
abbrev pub IsFileKept : FileCell → FileCell → Type 0
IsFileKept was now = (now ≡ was) ⊎ (now ≡ record was { born = true })

-- The first so many files are committed, and the others are as they were.
abbrev pub AreSynced : Bool → List FileCell → List FileCell → ℕ → Type 0
AreSynced visible [] [] k = Unit {0}
AreSynced visible [] (now ∷ nows) k = ⊥
AreSynced visible (was ∷ olds) [] k = ⊥
AreSynced visible (was ∷ olds) (now ∷ nows) zero = IsFileKept was now × AreSynced visible olds nows zero
AreSynced visible (was ∷ olds) (now ∷ nows) (suc k) = IsFileCommitted visible was now × AreSynced visible olds nows k

-- These blocks, and what the first so many files dropped.
abbrev pub freed_by : ℕ → List FileCell → BlockSet → BlockSet
freed_by zero cells had = had
freed_by (suc k) [] had = had
freed_by (suc k) (c ∷ cs) had = freed_by k cs (set.union had (set_of c.value.dropped))

-- A commit failed, and no other one was tried behind it: that of the names, or that of the file behind so many.
pub data StopsShort (visible : Bool) (old new : NamesCell) (olds nows : List FileCell) (tells told : Option View) : Type 0 where
  AtNames : new ≡ old → nows ≡ olds → AreTold tells told (λ had has. has ≡ had) → StopsShort visible old new olds nows tells told
  AtFile : AreCommitted visible old new → (k : ℕ) → k < length olds → AreSynced visible olds nows k → AreTold tells told (λ had has. has ≡ freed_by k olds had) → StopsShort visible old new olds nows tells told

-- ---- the answer

-- It may be answered so: all that changed of the names and of these files is known as committed, or a turn refused, and the guest was
-- told by which fault, at which the store stopped then.
pub data MayAnswerAll (visible : Bool) (names : NamesCell) (files : List FileCell) (guest : View) (r : Reply) : Type 0 where
  AllDone : r ≡ reply.Done → (visible ≡ true → names.changed ≤ names.known) → ((c : FileCell) → Has c files → visible ≡ true → c.changed ≤ c.known) → MayAnswerAll visible names files guest r
  AllRefused : (x : Excuse) → r ≡ reply.Excused x → is_of_turn x ≡ true → (rest : List ℕ) → guest.faults ≡ faults_of x ++ rest → ((fault : ℕ) → x ≡ excuse.Stopped fault → guest.stop ≡ Some fault)
      → ((fault : ℕ) → x ≡ excuse.Device fault → guest.stop ≡ Some fault) → MayAnswerAll visible names files guest r

-- All that is told of it.
pub record HasSyncedAll (visible : Bool) (ask : Ask) (by : Actor) (old new : NamesCell) (olds nows : List FileCell) (tells told : Option View) (e : Entry) (before back : View) : Type 0 where
  pub entry : IsEntryOf ask by e.ticket e
  pub replied : IsSyncReply e.reply
  pub guest : (part : ClientPart) (n : ℕ) (pool : BlockSet) → IsGuest ask.client part n pool before → IsGuest ask.client (answered part e) n pool back
  pub names : e.reply ≡ reply.Done → AreCommitted visible old new
  pub files : e.reply ≡ reply.Done → AreSynced visible olds nows (length olds)
  pub freed : e.reply ≡ reply.Done → AreTold tells told (λ had has. has ≡ freed_by (length olds) olds had)
  pub short : is_excused e.reply ≡ true → StopsShort visible old new olds nows tells told
  pub faults : back.faults ≡ before.faults
  pub stop : (fault : ℕ) → e.reply ≡ reply.Excused (excuse.Stopped fault) → back.stop ≡ Some fault
  pub telling : is_some told ≡ is_some tells
  pub halts : StopsByReply tells told (1 + length olds) (1 + length olds) e.reply
  pub halted : ExcusesByStop tells e.reply
  pub later : before.seen ≤ e.ticket
  pub seen : back.seen ≡ suc e.ticket
