-- What the primary does with an `fsync` on no file: on a directory, or on a descriptor that isn't there.
use Rattle.std.specs.Prelude.{◌≡◌, Bool, true, is_some, Option, Some, None}
use Rattle.ufs_file.specs.Hand.{IsEntryOf}
use Rattle.ufs_held.specs.Asking.{IsSyncReply}
use Rattle.ufs_held.specs.Stopping.{ExcusesByStop, StopsByReply}
use Rattle.ufs_held_names.specs.HeldNames.{AreCommitted}
use Rattle.ufs_joint.specs.Cells.{NamesCell, View}
use Rattle.ufs_model.specs.History.{is_excused}
use Rattle.ufs_model.specs.declared.data.Actor.TheVariants as actor
use Rattle.ufs_model.specs.declared.data.Ask.{Ask}
use Rattle.ufs_model.specs.declared.data.Desc.{Desc}
use Rattle.ufs_model.specs.declared.data.Errno.TheVariants.{Ebadf}
use Rattle.ufs_model.specs.declared.data.Reply.{Reply}
use Rattle.ufs_model.specs.declared.data.Reply.TheVariants as reply
use Rattle.ufs_msg.specs.Answers.{Told}
use Rattle.ufs_turns.specs.Lent.{AreTold}

-- The names were committed, or the store refused it, and they are as they were. Where the store had stopped before, that excuses the
-- request.
pub record IsDirSynced (visible : Bool) (before after : Option View) (old new : NamesCell) (r : Reply) : Type 0 where
  pub replied : IsSyncReply r
  pub names : r ≡ reply.Done → AreCommitted visible old new
  pub kept : is_excused r ≡ true → new ≡ old
  pub free : AreTold before after (λ had has. has ≡ had)
  pub telling : is_some after ≡ is_some before
  pub halts : StopsByReply before after 1 1 r
  pub halted : ExcusesByStop before r

-- The client has no such descriptor: it is refused, and all is as it was.
pub record IsUnopened (before after : Option View) (old new : NamesCell) (r : Reply) : Type 0 where
  pub refused : r ≡ reply.Refused Ebadf
  pub names : new ≡ old
  pub store : after ≡ before

module _ (visible : Bool) (before after : Option View) (old new : NamesCell) (r : Reply) where
  abbrev pub IsDirDone : Option Desc → Type 0
  IsDirDone None = IsUnopened before after old new r
  IsDirDone (Some d) = IsDirSynced visible before after old new r

-- The primary answers its entry of that; no file has an owner by it.
pub record IsDirServed (visible : Bool) (before after : Option View) (old new : NamesCell) (ask : Ask) (told : Told) : Type 0 where
  pub of_ask : IsEntryOf ask actor.Primary told.entry.ticket told.entry
  pub done : IsDirDone visible before after old new told.entry.reply ask.desc
  pub desc : told.desc ≡ ask.desc
  pub owner : told.owner ≡ None
  pub lease : told.lease ≡ None
