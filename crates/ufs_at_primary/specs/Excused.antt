-- A request that the primary excuses.
use Rattle.std.specs.Prelude.{ℕ, ◌≡◌, ◌⊎◌, IsSome, true, false, None, Some, Option}
use Rattle.ufs_crash_laws.specs.Changes.{asks_commit}
use Rattle.ufs_file.specs.Hand.{IsEntryOf}
use Rattle.ufs_held.specs.Stopping.{ExcusesByStop, Rests}
use Rattle.ufs_joint.specs.Cells.{View}
use Rattle.ufs_model.specs.Asks.{file_in}
use Rattle.ufs_model.specs.declared.data.Actor.TheVariants as actor
use Rattle.ufs_model.specs.declared.data.Ask.{Ask}
use Rattle.ufs_model.specs.declared.data.Excuse.{Excuse}
use Rattle.ufs_model.specs.declared.data.Excuse.TheVariants as excuse
use Rattle.ufs_model.specs.declared.data.Op.TheVariants as op
use Rattle.ufs_model.specs.declared.data.Reply.TheVariants as reply
use Rattle.ufs_msg.specs.Answers.{Told}
use Rattle.ufs_owner.specs.Owners.{Files}
use Rattle.ufs_at_primary.specs.Named.{server_at}

-- One that asks for a commit is a `sync`, or is on a descriptor that is there: so it isn't refused.
abbrev pub IsOpened : Ask → Type 0
IsOpened ask = asks_commit ask.op ≡ true → (ask.op ≡ op.Sync) ⊎ IsSome ask.desc

-- the store has stopped at this fault, or else memory is wanting
abbrev pub excuse_at : Option ℕ → Excuse
excuse_at None = excuse.Memory
excuse_at (Some fault) = excuse.Stopped fault

-- The primary answers its entry of the request, which is excused by want of memory; where it asks for a commit, and the store has stopped,
-- by that. It names the owner of its descriptor's file. Nothing is done to the store.
pub record IsExcusedHere (before after : Option View) (owners : Files) (ask : Ask) (told : Told) : Type 0 where
  pub of_ask : IsEntryOf ask actor.Primary told.entry.ticket told.entry
  pub stop : Option ℕ
  pub replied : told.entry.reply ≡ reply.Excused (excuse_at stop)
  pub plain : asks_commit ask.op ≡ false → stop ≡ None
  pub halted : asks_commit ask.op ≡ true → ExcusesByStop before told.entry.reply
  pub rests : Rests before after None
  pub desc : told.desc ≡ ask.desc
  pub owner : told.owner ≡ server_at owners (file_in ask.desc)
  pub lease : told.lease ≡ None
