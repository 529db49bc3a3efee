-- What the primary does with a request on a file that is at it.
use Rattle.std.specs.Prelude.{◌≡◌, ◌≤◌, ◌⊎◌, Bool, true, false, Option, Some, None, is_some}
use Rattle.std.specs.FinSet as set
use Rattle.ufs_bitmap.specs.Blocks.{BlockSet}
use Rattle.ufs_bitmap.specs.Taking.{set_of}
use Rattle.ufs_file_commits.specs.State.{file_committed}
use Rattle.ufs_file.specs.Hand.{IsEntryOf}
use Rattle.ufs_model.specs.History.{is_excused}
use Rattle.ufs_model.specs.declared.data.Actor.TheVariants as actor
use Rattle.ufs_model.specs.declared.data.Ask.{Ask}
use Rattle.ufs_model.specs.declared.data.Desc.{Desc}
use Rattle.ufs_model.specs.declared.data.Entry.{Entry}
use Rattle.ufs_model.specs.declared.data.Reply.TheVariants as reply
use Rattle.ufs_crash_laws.specs.Changes.{asks_commit}
use Rattle.ufs_joint.specs.Cells.{FileCell, NamesCell, View}
use Rattle.ufs_turns.specs.Lent.{AreTold}
use Rattle.ufs_held.specs.Asking.{IsSyncReply}
use Rattle.ufs_held.specs.Stopping.{ExcusesByStop, StopsByReply}
use Rattle.ufs_held_names.specs.HeldNames.{AreCommitted}
use Rattle.ufs_msg.specs.Answers.{Told}
use Rattle.ufs_serving.specs.Serving.{IsServedAt}

-- An `fsync` committed the names, then the file; or the first of these turns was refused, and all is as it was; or the second was, and the
-- file knows its birth. The pool is as it was. Where the store had stopped before, that excuses the request.
pub record IsSyncedHere (visible : Bool) (before after : Option View) (old new : NamesCell) (c d : FileCell) (pool behind : BlockSet) (ask : Ask) (entry : Entry) (desc : Option Desc) : Type 0 where
  pub replied : IsSyncReply entry.reply
  pub names : entry.reply ≡ reply.Done → AreCommitted visible old new
  pub committed : entry.reply ≡ reply.Done → d.value ≡ file_committed c.value
  pub known : entry.reply ≡ reply.Done → visible ≡ true → d.changed ≤ d.known
  pub born : entry.reply ≡ reply.Done → d.born ≡ true
  pub rest : d ≡ record c { value = d.value; known = d.known; born = d.born }
  pub short : is_excused entry.reply ≡ true → ((new ≡ old) × (d ≡ c)) ⊎ (AreCommitted visible old new × (d ≡ record c { born = true }))
  pub freed : entry.reply ≡ reply.Done → AreTold before after (λ had has. has ≡ set.union had (set_of c.value.dropped))
  pub unfreed : is_excused entry.reply ≡ true → AreTold before after (λ had has. has ≡ had)
  pub telling : is_some after ≡ is_some before
  pub halts : StopsByReply before after 2 2 entry.reply
  pub halted : ExcusesByStop before entry.reply
  pub same_pool : behind ≡ pool
  pub same_desc : desc ≡ ask.desc

-- Any other request was applied or excused, and the names are as they were.
pub record IsChangedHere (before after : Option View) (old new : NamesCell) (c d : FileCell) (pool behind : BlockSet) (ask : Ask) (entry : Entry) (desc : Option Desc) : Type 0 where
  pub served : IsServedAt before after c d pool behind ask entry desc
  pub names : new ≡ old
  pub born : d.born ≡ c.born

module _ (visible : Bool) (before after : Option View) (old new : NamesCell) (c d : FileCell) (pool behind : BlockSet) (ask : Ask) (entry : Entry) (desc : Option Desc) where
  abbrev pub IsDoneHere : Bool → Type 0
  IsDoneHere true = IsSyncedHere visible before after old new c d pool behind ask entry desc
  IsDoneHere false = IsChangedHere before after old new c d pool behind ask entry desc

-- The primary answers its entry of the request, and names itself as the file's owner.
pub record IsServedHere (visible : Bool) (before after : Option View) (old new : NamesCell) (c d : FileCell) (pool behind : BlockSet) (ask : Ask) (told : Told) : Type 0 where
  pub of_ask : IsEntryOf ask actor.Primary told.entry.ticket told.entry
  pub done : IsDoneHere visible before after old new c d pool behind ask told.entry told.desc (asks_commit ask.op)
  pub owner : told.owner ≡ Some actor.Primary
  pub lease : told.lease ≡ None
  pub number : d.value.file.file ≡ c.value.file.file
