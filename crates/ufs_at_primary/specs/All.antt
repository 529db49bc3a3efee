-- What the primary does with a `sync`.
use Rattle.std.specs.Prelude.{ℕ, ◌≡◌, ◌+◌, Bool, true, is_some, List, [], ◌∷◌, length, Option, None}
use Rattle.ufs_file.specs.Hand.{IsEntryOf}
use Rattle.ufs_held.specs.Asking.{IsSyncReply}
use Rattle.ufs_held.specs.Stopping.{ExcusesByStop, StopsByReply}
use Rattle.ufs_held_names.specs.HeldNames.{AreCommitted}
use Rattle.ufs_held_names.specs.SyncAll.{AreSynced, StopsShort, freed_by}
use Rattle.ufs_joint.specs.Cells.{FileCell, NamesCell, View}
use Rattle.ufs_model.specs.History.{is_excused}
use Rattle.ufs_model.specs.declared.data.Actor.TheVariants as actor
use Rattle.ufs_model.specs.declared.data.Ask.{Ask}
use Rattle.ufs_model.specs.declared.data.Reply.TheVariants as reply
use Rattle.ufs_msg.specs.Answers.{Told}
use Rattle.ufs_turns.specs.Lent.{AreTold}

abbrev pub numbers_in : List FileCell → List ℕ
numbers_in [] = []
numbers_in (c ∷ cs) = c.value.file.file ∷ numbers_in cs

-- The names were committed, and then each file; or a commit failed, and no other one was tried behind it. Where the store had stopped
-- before, that excuses the request. The primary answers its entry of it; no file has an owner by it.
pub record IsAllSynced (visible : Bool) (before after : Option View) (old new : NamesCell) (olds nows : List FileCell) (ask : Ask) (told : Told) : Type 0 where
  pub of_ask : IsEntryOf ask actor.Primary told.entry.ticket told.entry
  pub replied : IsSyncReply told.entry.reply
  pub names : told.entry.reply ≡ reply.Done → AreCommitted visible old new
  pub files : told.entry.reply ≡ reply.Done → AreSynced visible olds nows (length olds)
  pub freed : told.entry.reply ≡ reply.Done → AreTold before after (λ had has. has ≡ freed_by (length olds) olds had)
  pub short : is_excused told.entry.reply ≡ true → StopsShort visible old new olds nows before after
  -- the files are in their order still
  pub numbers : numbers_in nows ≡ numbers_in olds
  pub telling : is_some after ≡ is_some before
  pub halts : StopsByReply before after (1 + length olds) (1 + length olds) told.entry.reply
  pub halted : ExcusesByStop before told.entry.reply
  pub desc : told.desc ≡ None
  pub owner : told.owner ≡ None
  pub lease : told.lease ≡ None
