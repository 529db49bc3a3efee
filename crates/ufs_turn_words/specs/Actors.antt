-- Who gets a turn by a schedule word.
use Rattle.ufs_model.specs.declared.data.Actor.{Actor}
use Rattle.ufs_model.specs.declared.data.Actor.TheVariants as actor
use Rattle.ufs_script.specs.declared.lists.ScheduleWord.{ScheduleWord}
use Rattle.ufs_script.specs.declared.lists.ScheduleWord.TheVariants as turn

-- The word gives an actor a turn, and asks for nothing else.
abbrev pub IsTurnAlone : ScheduleWord → Type 0
IsTurnAlone (turn.Client client) = Unit {0}
IsTurnAlone (turn.Worker worker) = Unit {0}
IsTurnAlone turn.Primary = Unit {0}
IsTurnAlone _ = ⊥

-- that actor; the primary for any other word
abbrev pub actor_in : ScheduleWord → Actor
actor_in (turn.Client client) = actor.Client client
actor_in (turn.Worker worker) = actor.Worker worker
actor_in _ = actor.Primary
