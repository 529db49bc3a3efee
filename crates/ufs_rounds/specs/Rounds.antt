-- How a round goes on, turn by turn.
use Rattle.std.specs.Prelude.{◌≡◌, ◌||◌, List}
use Rattle.ufs_joint.specs.Cells.{Start}
use Rattle.ufs_msg.specs.There.{worker_count}
use Rattle.ufs_rounds.specs.Moves.{first_lack}
use Rattle.ufs_rounds.specs.Rest.{HaveHadTurns, IsOnlyHeard, NobodyAsked}
use Rattle.ufs_rounds.specs.Steps.{AreStepsWhere, Step, lack_told, some_moved}
use Rattle.ufs_rounds.specs.Turns.{GlobalState}
use Rattle.ufs_rounds.specs.declared.moves.RoundEnd.{RoundEnd}

module _ {N : Type 0} (k : Start) where
  -- Turns were made of which that is so, none of which asks a new request; and what they did and lacked was noted.
  pub record MakesTurns (so : List Step → Type 0) (s t : GlobalState N) (was is : RoundEnd) : Type 0 where
    pub steps : List Step
    pub lead : AreStepsWhere k IsOnlyHeard steps s t
    pub are : so steps
    pub asked : NobodyAsked s.clients t.clients
    pub moved : is.moved ≡ (was.moved || some_moved steps)
    pub lack : is.lack ≡ first_lack was.lack (lack_told steps)

  -- A round was made, which went so.
  pub record MakesRound (s t : GlobalState N) (end : RoundEnd) : Type 0 where
    pub steps : List Step
    pub lead : AreStepsWhere k IsOnlyHeard steps s t
    pub turns : HaveHadTurns (worker_count k) t.clients steps
    pub asked : NobodyAsked s.clients t.clients
    pub moved : end.moved ≡ some_moved steps
    pub lack : end.lack ≡ lack_told steps
