-- When nothing is under way, and how rounds come to that.
use Rattle.std.specs.Prelude.{ℕ, suc, ◌+◌, ◌*◌, ◌-◌, ◌^◌, ◌≡◌, ◌≤◌, ◌<◌, ◌⊎◌, ◌++◌, false, IfErr, IsSome, List, [], ◌∷◌, length, map, MatchResult, Option, None, Some, Result, Err, slice_get}
use Rattle.ufs_base.specs.declared.lack.Lack.{Lack}
use Rattle.ufs_caller.specs.Callers.{Caller}
use Rattle.ufs_joint.specs.Cells.{Start}
use Rattle.ufs_model.specs.declared.data.Actor.{Actor}
use Rattle.ufs_model.specs.declared.data.Actor.TheVariants as actor
use Rattle.ufs_msg.specs.There.{worker_count}
use Rattle.ufs_owner.specs.Owners.{count_out}
use Rattle.ufs_primary.specs.Primary.{PrimaryState}
use Rattle.ufs_rounds.specs.Moves.{first_lack}
use Rattle.ufs_rounds.specs.Steps.{AreCalls, AreSteps, AreStepsWhere, HadTurn, Step, TurnOf, calls_in, lack_told, moves_in, some_moved, who_in}
use Rattle.ufs_rounds.specs.Turns.{GlobalState}
use Rattle.ufs_rounds.specs.declared.rounds.Unfinished.{Unfinished}
use Rattle.ufs_rounds.specs.declared.rounds.Unfinished.TheVariants as unfinished

-- ---- at rest

-- no client has a request under way
abbrev pub AreIdle : List Caller → Type 0
AreIdle clients = (place : ℕ) (c : Caller) → slice_get clients place ≡ Some c → c.errand ≡ None

-- nor one that is left
abbrev pub AreOver : List Caller → Type 0
AreOver clients = (place : ℕ) (c : Caller) → slice_get clients place ≡ Some c → (c.errand ≡ None) × (c.left ≡ [])

-- this one has neither
abbrev pub IsOverAt : ℕ → List Caller → Type 0
IsOverAt client clients = (c : Caller) → slice_get clients client ≡ Some c → (c.errand ≡ None) × (c.left ≡ [])

-- one has a request under way
pub record IsSomeAsking (clients : List Caller) : Type 0 where
  pub place : ℕ
  pub client : Caller
  pub at : slice_get clients place ≡ Some client
  pub asks : IsSome client.errand

-- No request is under way, and each file is at the primary.
pub record IsAtRest (clients : List Caller) (primary : PrimaryState) : Type 0 where
  pub idle : AreIdle clients
  pub here : count_out primary.stock.home.owners ≡ 0

-- The clients, from this one on, have no request under way.
abbrev pub AreDoneFrom : ℕ → List Caller → Type 0
AreDoneFrom n [] = Unit {0}
AreDoneFrom n (c ∷ clients) = (c.number ≡ n) × (c.errand ≡ None) × AreDoneFrom (suc n) clients

-- ---- who may ask

module _ {N : Type 0} where
  -- A client has the turn only while a request of it is under way.
  abbrev pub IsOnlyHeard : Step → GlobalState N → Type 0
  IsOnlyHeard (TurnOf (actor.Client client) o) s = (c : Caller) → slice_get s.clients client ≡ Some c → IsSome c.errand
  IsOnlyHeard _ s = Unit {0}

  -- No request is under way, each file is at the primary, and the clients before this one have asked all that they were given.
  pub record IsItsTime (client : ℕ) (s : GlobalState N) : Type 0 where
    pub rest : IsAtRest s.clients s.primary
    pub before : (place : ℕ) → place < client → IsOverAt place s.clients

  -- It may ask then, and at no other time.
  abbrev pub IsInOrder : Step → GlobalState N → Type 0
  IsInOrder (TurnOf (actor.Client client) o) s = ((c : Caller) → slice_get s.clients client ≡ Some c → IsSome c.errand) ⊎ IsItsTime client s
  IsInOrder _ s = Unit {0}

-- ---- rounds

-- A client asked no new request; and where it has none under way it is as it was.
pub record HasAskedNone (c d : Caller) : Type 0 where
  pub left : d.left ≡ c.left
  pub still : c.errand ≡ None → d ≡ c

-- None of them did.
abbrev pub NobodyAsked : List Caller → List Caller → Type 0
NobodyAsked old new = (place : ℕ) (d : Caller) → slice_get new place ≡ Some d → (c : Caller) × (slice_get old place ≡ Some c) × HasAskedNone c d

-- None but this one did.
abbrev pub StaysBut : ℕ → List Caller → List Caller → Type 0
StaysBut client old new = (place : ℕ) (d : Caller) → (place ≡ client → ⊥) → slice_get new place ≡ Some d → (c : Caller) × (slice_get old place ≡ Some c) × HasAskedNone c d

-- Each worker had its turn, from 1 on.
abbrev pub WorkersHad : ℕ → List Step → Type 0
WorkersHad workers steps = (worker : ℕ) → 1 ≤ worker → worker ≤ workers → HadTurn (actor.Worker worker) steps

-- So had each of the first clients that has a request under way.
abbrev pub ClientsHad : ℕ → List Caller → List Step → Type 0
ClientsHad count clients steps = (place : ℕ) (c : Caller) → place < count → slice_get clients place ≡ Some c → IsSome c.errand → HadTurn (actor.Client place) steps

-- Each server had its turn, and each of the clients that has a request under way.
pub record HaveHadTurns (workers : ℕ) (clients : List Caller) (steps : List Step) : Type 0 where
  pub workers_had : WorkersHad workers steps
  pub primary_had : HadTurn actor.Primary steps
  pub clients_had : ClientsHad (length clients) clients steps

-- They had, and nobody did anything.
pub record IsQuietRound (workers : ℕ) (clients : List Caller) (steps : List Step) : Type 0 where
  pub turns : HaveHadTurns workers clients steps
  pub quiet : some_moved steps ≡ false

-- In the last two rounds nobody did anything. In one it may be that only letters went which had been kept, and no turn tells that. What
-- lacked is told by the order of a file that lacked something, or by the last round.
pub record EndsQuietly (workers : ℕ) (clients : List Caller) (called : Option Lack) (rounds : List Step) (lack : Option Lack) : Type 0 where
  pub before : List Step
  pub first : List Step
  pub last : List Step
  pub are : rounds ≡ before ++ (first ++ last)
  pub first_quiet : IsQuietRound workers clients first
  pub last_quiet : IsQuietRound workers clients last
  pub told : lack ≡ first_lack called (lack_told last)

-- Rounds go on as long as they may for so many files that are out.
abbrev pub rounds_for : ℕ → ℕ
rounds_for files = 512 + 96 * files

-- Why rounds came to no rest: in the last two nobody did anything, and this was lacking; or nothing was. Or in half as many turns as there
-- may be rounds somebody did something: more than there are steps to do.
abbrev pub IsWhy : (workers files : ℕ) (clients : List Caller) (called : Option Lack) (rounds : List Step) → Unfinished → Type 0
IsWhy workers files clients called rounds (unfinished.Lack what) = EndsQuietly workers clients called rounds (Some what)
IsWhy workers files clients called rounds unfinished.Stuck = EndsQuietly workers clients called rounds None ⊎ (rounds_for files ≤ 2 * moves_in rounds + 2)

module _ {N : Type 0} (k : Start) where
  -- Files are called to the primary by rising number, until as many were found elsewhere as the table tells.
  pub record HasCalled (s t : GlobalState N) (lack : Option Lack) : Type 0 where
    pub calls : List Step
    pub are : AreCalls 0 calls
    pub steps : AreStepsWhere k IsOnlyHeard calls s t
    pub all : (calls_in calls ≡ count_out s.primary.stock.home.owners) ⊎ (length calls ≡ 2 ^ 32 - 1)
    pub lacks : lack ≡ lack_told calls

  -- That was done, and rounds were made. They ended so.
  pub record HasSettled (s t : GlobalState N) (result : Result (Unit {0}) Unfinished) : Type 0 where
    pub called : GlobalState N
    pub lack : Option Lack
    pub calls : HasCalled s called lack
    pub rounds : List Step
    pub steps : AreStepsWhere k IsOnlyHeard rounds called t
    pub why : IfErr result (IsWhy (worker_count k) (count_out s.primary.stock.home.owners) t.clients lack rounds)

  -- Steps were made to the end, or until rounds came to no rest. Each client in order asked what it had left, each request once nothing else
  -- was under way.
  pub record GoesOn (s t : GlobalState N) (result : Result (Unit {0}) Unfinished) : Type 0 where
    pub more : List Step
    pub then : GlobalState N
    pub steps : AreStepsWhere k IsInOrder more s then
    pub ends : MatchResult result (λ _. t ≡ then) (λ why. HasSettled then t (Err why))

  -- Each of these actors had its turn, in order.
  pub record HaveTurns (actors : List Actor) (s t : GlobalState N) : Type 0 where
    pub turns : List Step
    pub are : map who_in turns ≡ map {B = Option Actor} Some actors
    pub steps : AreSteps k turns s t

  -- So had those of the schedule, before anything else was done.
  pub record IsPlayed (schedule : List Actor) (s t : GlobalState N) (result : Result (Unit {0}) Unfinished) : Type 0 where
    pub then : GlobalState N
    pub turns : HaveTurns schedule s then
    pub goes : GoesOn then t result
