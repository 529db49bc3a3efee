-- What it means that a script was served over a disk, and what is written then.
use Rattle.std.specs.Prelude.{ℕ, ◌≡◌, ◌⊎◌, ◌++◌, Bool, List, length, Result, Err}
use Rattle.ufs_client.specs.Own.{AreServedFrom}
use Rattle.ufs_brink.specs.Begins.{BeginsWith, HasNothingOpen}
use Rattle.ufs_model.specs.PosixTree.{PosixTree}
use Rattle.ufs_model.specs.History.{IsLegal, IsInOrder, IsComplete, joined}
use Rattle.ufs_model.specs.declared.data.Entry.{Entry}
use Rattle.ufs_engine.specs.Plays.{IsEndFault, MayPlay}
use Rattle.ufs_engine.specs.declared.playing.PlayFault.{PlayFault}
use Rattle.ufs_engine.specs.declared.playing.PlayFault.TheVariants as ended
use Rattle.ufs_script.specs.Output.{lines_of, output_of}
use Rattle.ufs_script.specs.declared.script.Script.{Script}
use Rattle.ufs_print.specs.Printed.{trace_part}
use Rattle.ufs_command.specs.Seen.{Formatting}

-- ---- histories

-- The history is of a script's first requests: one tree, which begins as this one and is served by one thread, gives its
-- replies, or they are excuses that fit; and it has requests of each client, the first of them, each once in its order. A client
-- answers itself what its descriptors tell, and the primary server the others.
pub record IsBegunOf (start : PosixTree) (script : Script) (history : List Entry) : Type 0 where
  pub legal : IsLegal start history
  pub ordered : IsInOrder script.clients history
  pub servers : AreServedFrom start history

-- The history is the script's: it has each request.
pub record IsHistoryOf (start : PosixTree) (script : Script) (history : List Entry) : Type 0 where
  pub legal : IsLegal start history
  pub ordered : IsInOrder script.clients history
  pub servers : AreServedFrom start history
  pub complete : IsComplete script.clients history

-- the reply lines of the script's clients, client by client
abbrev pub replies_text : Script → List Entry → List ℕ
replies_text script history = output_of (length script.clients) history

-- what a session prints: the reply lines, and behind them the trace of the same history, where one is asked for
abbrev pub session_text : Bool → Script → List Entry → List ℕ
session_text trace script history = replies_text script history ++ trace_part trace history

-- ---- over a disk

-- A session that begins with the tree of the disk's image is this. Of a disk that isn't visible, or that isn't
-- proper, it begins with some tree in which nothing is open.
pub record IsFromDisk (d : Formatting) (Is : PosixTree → Type 0) : Type 0 where
  pub any : (start : PosixTree) × HasNothingOpen start × Is start
  -- the image stands for a tree,
  pub opened : MayPlay d.visible d.sectors d.state → (start : PosixTree) × BeginsWith d.sectors d.image start
  -- and with this one
  pub begun : MayPlay d.visible d.sectors d.state → (start : PosixTree) → BeginsWith d.sectors d.image start → Is start

-- The transcripts, one after another, are a history of a script's first requests.
abbrev pub IsCutSessionOf : Formatting → Script → List (List Entry) → Type 0
IsCutSessionOf d script told = IsFromDisk d (λ start. IsBegunOf start script (joined told))

-- They are a history of the script, and their lines are those of its replies.
pub record IsSessionOf (d : Formatting) (script : Script) (told : List (List Entry)) : Type 0 where
  pub history_is : IsFromDisk d (λ start. IsHistoryOf start script (joined told))
  pub lines : lines_of (joined told) ≡ replies_text script (joined told)

-- ---- faults of the disk

-- A session ended so, by the disk's count of faults and by those that the replies tell.
abbrev pub EndsSession : Formatting → List (List Entry) → Result (Unit {0}) PlayFault → Type 0
EndsSession d told result = IsEndFault d.before d.now (joined told) result

-- The session's end tells this fault: one of the closing, or the one at which the store stopped.
abbrev pub TellsEnd : Formatting → List (List Entry) → ℕ → Type 0
TellsEnd d told fault = EndsSession d told (Err (ended.Device fault)) ⊎ EndsSession d told (Err (ended.Stopped fault))
