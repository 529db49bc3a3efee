-- The file calls look at no byte of a file: all but the bytes that they pass on depends on sizes alone.
use Rattle.std.specs.Prelude.{ℕ, ◌≡◌, ◌⊎◌, List, ◌++◌, length, map, Some}
use Rattle.std.specs.FinMap as fin
use Rattle.ufs_model.specs.PosixTree.{PosixTree, IsTree}
use Rattle.ufs_model.specs.Refusals.{refusal}
use Rattle.ufs_model.specs.Posix.{posix}
use Rattle.ufs_model.specs.Excuses.{ExcuseFits}
use Rattle.ufs_model.specs.History.{IsReplyTo, goes_on, tree_after, IsLegalFrom, IsLegal, IsInOrder, IsComplete}
use Rattle.ufs_model.specs.Touched.{touched_parts}
use Rattle.ufs_model.specs.Asks.{IsAsk}
use Rattle.ufs_model.specs.FileCalls.{Step, file_step, file_refusal}
use Rattle.ufs_model.specs.declared.data.Op.{Op}
use Rattle.ufs_model.specs.declared.data.Ask.{Ask}
use Rattle.ufs_model.specs.declared.data.Desc.{Desc}
use Rattle.ufs_model.specs.declared.data.Entry.{Entry}
use Rattle.ufs_model.specs.declared.data.Excuse.{Excuse}
use Rattle.ufs_model.specs.declared.data.Reply.{Reply}
use Rattle.ufs_model.specs.declared.data.Reply.TheVariants.{Got}
use Rattle.ufs_bytes_laws.specs.Alike.{AreAlike, AreRepliesAlike, size_in}
use Rattle.ufs_bytes_laws.specs.Redrawn.{redrawn, redrawn_all, blanked}

-- ---- which trees are alike

abbrev pub EachIsLikeItself : Type 0
EachIsLikeItself = (t : PosixTree) → AreAlike t t

abbrev pub AlikeEitherWay : Type 0
AlikeEitherWay = (t u : PosixTree) → AreAlike t u → AreAlike u t

abbrev pub AlikeThrough : Type 0
AlikeThrough = (t u v : PosixTree) → AreAlike t u → AreAlike u v → AreAlike t v

-- other bytes for a file's, as many
abbrev pub OtherBytesAreAlike : Type 0
OtherBytesAreAlike = (t : PosixTree) (file : ℕ) (bytes : List ℕ) → size_in t.bytes file ≡ Some (length bytes)
    → AreAlike t (record t { bytes = fin.insert t.bytes file bytes })

abbrev pub AlikeTrees : Type 0
AlikeTrees = (t u : PosixTree) → AreAlike t u → IsTree t → IsTree u

-- ---- one request

abbrev pub RefusalsAreSame : Type 0
RefusalsAreSame = (t u : PosixTree) (client : ℕ) (request : Op) → AreAlike t u → refusal t client request ≡ refusal u client request

-- the trees after it are alike, and the replies too
pub record AreStepsAlike (t u : PosixTree) (client : ℕ) (request : Op) : Type 0 where
  pub tree : AreAlike (posix t client request).0 (posix u client request).0
  pub reply : AreRepliesAlike (posix t client request).1 (posix u client request).1

abbrev pub StepsAreAlike : Type 0
StepsAreAlike = (t u : PosixTree) (client : ℕ) (request : Op) → AreAlike t u → AreStepsAlike t u client request

-- both replies give bytes, as many
pub record GiveAsMany (a b : Reply) : Type 0 where
  pub left : List ℕ
  pub right : List ℕ
  pub is_left : a ≡ Got left
  pub is_right : b ≡ Got right
  pub count : length left ≡ length right

-- replies that are alike are the same, or give as many bytes
abbrev pub RepliesDifferInBytes : Type 0
RepliesDifferInBytes = (a b : Reply) → AreRepliesAlike a b → (a ≡ b) ⊎ GiveAsMany a b

abbrev pub ExcusesAreAlike : Type 0
ExcusesAreAlike = (t u : PosixTree) (client : ℕ) (request : Op) (x : Excuse) → AreAlike t u → ExcuseFits t client request x → ExcuseFits u client request x

-- what comes to a server with a request
abbrev pub AsksAreAlike : Type 0
AsksAreAlike = (t u : PosixTree) (ask : Ask) → AreAlike t u → IsAsk t ask → IsAsk u ask

-- the parts of a tree that it touches
abbrev pub TouchedPartsAreSame : Type 0
TouchedPartsAreSame = (t u : PosixTree) (client : ℕ) (request : Op) → AreAlike t u → touched_parts t client request ≡ touched_parts u client request

-- ---- one request on a file's descriptor, by the file's bytes alone

pub record AreFileStepsAlike (a b : Step) : Type 0 where
  pub reply : AreRepliesAlike a.reply b.reply
  pub size : length a.bytes ≡ length b.bytes
  pub desc : a.desc ≡ b.desc

abbrev pub FileStepsAreAlike : Type 0
FileStepsAreAlike = (a b : List ℕ) (d : Desc) (request : Op) → length a ≡ length b → AreFileStepsAlike (file_step a d request) (file_step b d request)

abbrev pub FileRefusalsAreSame : Type 0
FileRefusalsAreSame = (a b : List ℕ) (d : Desc) (request : Op) → length a ≡ length b → file_refusal a d request ≡ file_refusal b d request

-- ---- histories

-- an entry that one tree gives is given by the other, with its own reply
abbrev pub EntriesAreReplies : Type 0
EntriesAreReplies = (t u : PosixTree) (entry : Entry) → AreAlike t u → IsReplyTo t entry → IsReplyTo u (redrawn u entry)

-- which is the same but for the bytes that it gives
abbrev pub EntriesAreAlike : Type 0
EntriesAreAlike = (t u : PosixTree) (entry : Entry) → AreAlike t u → IsReplyTo t entry → blanked entry ≡ blanked (redrawn u entry)

abbrev pub GoesOnAlike : Type 0
GoesOnAlike = (t u : PosixTree) (entry : Entry) → AreAlike t u → AreAlike (goes_on t entry) (goes_on u (redrawn u entry))

-- the same of the entries of a history
abbrev pub HistoriesAreLegal : Type 0
HistoriesAreLegal = (ticket : ℕ) (t u : PosixTree) (history : List Entry) → AreAlike t u → IsLegalFrom ticket t history → IsLegalFrom ticket u (redrawn_all u history)

abbrev pub HistoriesAreAlike : Type 0
HistoriesAreAlike = (ticket : ℕ) (t u : PosixTree) (history : List Entry) → AreAlike t u → IsLegalFrom ticket t history → map blanked history ≡ map blanked (redrawn_all u history)

abbrev pub HistoriesEndAlike : Type 0
HistoriesEndAlike = (t u : PosixTree) (history : List Entry) → AreAlike t u → AreAlike (tree_after t history) (tree_after u (redrawn_all u history))

-- with each fault of a device told once
abbrev pub WholeHistoriesAreLegal : Type 0
WholeHistoriesAreLegal = (t u : PosixTree) (history : List Entry) → AreAlike t u → IsLegal t history → IsLegal u (redrawn_all u history)

-- ---- what is told again

-- told again from its own tree a history is as it was
abbrev pub RetellsBack : Type 0
RetellsBack = (ticket : ℕ) (t u : PosixTree) (history : List Entry) → IsLegalFrom ticket t history → redrawn_all t (redrawn_all u history) ≡ history

-- entries behind others are told from the tree after those
abbrev pub RetellsInTurn : Type 0
RetellsInTurn = (u : PosixTree) (before later : List Entry) → redrawn_all u (before ++ later) ≡ redrawn_all u before ++ redrawn_all (tree_after u (redrawn_all u before)) later

-- it answers the same requests in their order
abbrev pub OrderIsKept : Type 0
OrderIsKept = (u : PosixTree) (clients : List (List Op)) (history : List Entry) → IsInOrder clients history → IsInOrder clients (redrawn_all u history)

abbrev pub AllIsAnswered : Type 0
AllIsAnswered = (u : PosixTree) (clients : List (List Op)) (history : List Entry) → IsComplete clients history → IsComplete clients (redrawn_all u history)
