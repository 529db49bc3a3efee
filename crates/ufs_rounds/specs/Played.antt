-- What is known of a session that was played by turns and has ended, by what its clients were given to ask.
use Rattle.std.specs.Prelude.{ℕ, ◌≡◌, ◌↔◌, Bool, IfSome, List, length, Ok, Err, Result, Some, OnOk, true}
use Rattle.ufs_base.specs.declared.memory.Memory.{Memory}
use Rattle.ufs_client.specs.Played.{IsMerged}
use Rattle.ufs_disk.specs.Moments.{Moments, reads}
use Rattle.ufs_brink.specs.Closes.{closing_fault}
use Rattle.ufs_brink.specs.declared.closing.CloseFault.{CloseFault}
use Rattle.ufs_brink.specs.declared.closing.CloseFault.TheVariants as cause
use Rattle.ufs_gathered.specs.Ended.{AnswerAll, AnswerFirst}
use Rattle.ufs_gathered.specs.Finished.{ClosesBy, HasFinished}
use Rattle.ufs_hand_laws.specs.Owned.{Has}
use Rattle.ufs_joint.specs.Cells.{Start, View}
use Rattle.ufs_model.specs.History.{IsComplete, IsInOrder, joined}
use Rattle.ufs_model.specs.declared.data.Actor.{Actor}
use Rattle.ufs_model.specs.declared.data.Entry.{Entry}
use Rattle.ufs_model.specs.declared.data.Op.{Op}
use Rattle.ufs_msg.specs.There.{MayHaveServed}
use Rattle.ufs_store.specs.Refusals.{IsTold}
use Rattle.ufs_store.specs.State.{StoreState}
use Rattle.ufs_told.specs.Told.{AreFaultsTold}
use Rattle.ufs_primary.specs.OfTurns.{stop_in, tally_in}
use Rattle.ufs_rounds.specs.Faults.{counts_in}
use Rattle.ufs_rounds.specs.Rest.{IsPlayed}
use Rattle.ufs_rounds.specs.Scripts.{lists_of}
use Rattle.ufs_rounds.specs.Turns.{GlobalState}

-- The session was finished so, with these transcripts, one of each script: each answers the requests of its client's script, in order, and
-- so does the one history of which they are. Each entry is by its client or by a server that is there.
pub record HasPlayed (k : Start) (origin : Moments) (keeps : Bool) (scripts : List (List Op)) (tickets : ℕ) (lists : List (List Entry)) (bytes : Result ℕ Memory) (sectors faults : ℕ) (now : Moments) (ended : Result (Unit {0}) CloseFault) : Type 0 where
  pub finished : HasFinished k origin keeps tickets lists bytes sectors faults now ended
  pub each : length lists ≡ length scripts
  pub made : (e : Entry) → Has e finished.session.history → MayHaveServed k e.client e.by
  pub first : AnswerFirst scripts lists
  pub ordered : IsInOrder scripts finished.session.history
  pub all : AnswerAll scripts lists
  pub complete : IsComplete scripts finished.session.history

-- The store was so before the end, which tells that it has stopped where it had, and else one fault of the device at most: by that alone
-- the count goes on. Where it ended well, over a visible disk, the store's epoch and next commit number rose by no more than the commits of
-- all files and of the names and a recovery raise them.
pub record IsEndOf (k : Start) (faults : ℕ) (now : Moments) (ended : Result (Unit {0}) CloseFault) (before : View) : Type 0 where
  pub stopped : (fault : ℕ) → (ended ≡ Err (cause.Stopped fault)) ↔ (stop_in before.store ≡ Some fault)
  pub counted : IsTold (tally_in before.store).faults faults (closing_fault ended)
  pub raised : k.is_visible ≡ true → OnOk ended (ClosesBy (tally_in before.store).epoch (tally_in before.store).number k.geometry.inodes (reads now))

-- Before the end the store was so that the entries of this history tell what it counted from the first cell to that one; and so it ended.
pub record TellsToEnd (k : Start) (s : StoreState) (first : View) (history : List Entry) (faults : ℕ) (now : Moments) (ended : Result (Unit {0}) CloseFault) : Type 0 where
  pub before : View
  pub ends : IsEndOf k faults now ended before
  pub told : AreFaultsTold (counts_in s first.store) (counts_in s before.store) history

-- It was played to the end from this state on, first by the schedule, and these were the transcripts then. So it ended.
pub record IsPlayedOut {N : Type 0} (k : Start) (schedule : List Actor) (s : GlobalState N) (lists : List (List Entry)) (faults : ℕ) (now : Moments) (ended : Result (Unit {0}) CloseFault) : Type 0 where
  pub last : GlobalState N
  pub played : IsPlayed k schedule s last (Ok tt)
  pub are : lists ≡ lists_of last.clients
  pub end : IfSome last.store (IsEndOf k faults now ended)

-- The history is the transcripts, one behind the other.
abbrev pub AreInTurn : List (List Entry) → Type 0
AreInTurn lists = IsMerged lists (joined lists)
