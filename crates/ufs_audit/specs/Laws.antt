-- A legal text is that of a legal history.
use Rattle.std.specs.Prelude.{ℕ, ◌≡◌, ◌<◌, ◌^◌, ◌↔◌, List, [], ◌∷◌, ◌++◌, length, map}
use Rattle.std.specs.List.{AllByRecursion, flat_map}
use Rattle.ufs_model.specs.PosixTree.{PosixTree}
use Rattle.ufs_model.specs.History.{IsLegal, IsInOrder, IsComplete}
use Rattle.ufs_model.specs.declared.data.Op.{Op}
use Rattle.ufs_model.specs.declared.data.Actor.{Actor}
use Rattle.ufs_model.specs.declared.data.Entry.{Entry}
use Rattle.ufs_model.specs.declared.data.Excuse.{Excuse}
use Rattle.ufs_model.specs.declared.data.Reply.TheVariants as reply
use Rattle.ufs_script.specs.Output.{reply_text, output_of, trace_text}
use Rattle.ufs_lines.specs.Trace.{IsActor, IsExcuse}
use Rattle.ufs_lines.specs.Replies.{FitsReply}
use Rattle.ufs_audit.specs.Audit.{IsLine, IsLegalText, IsLegalTo, IsAny, IsAnswered, AreAnswers, text_of}

-- a history of so many entries that is legal, in the clients' order and complete
pub record IsHistory (start : PosixTree) (clients : List (List Op)) (entries : ℕ) (history : List Entry) : Type 0 where
  pub long : length history ≡ entries
  pub legal : IsLegal start history
  pub ordered : IsInOrder clients history
  pub complete : IsComplete clients history

-- the entries, each with those that sent its request on
abbrev pub Transcript : Type 0
Transcript = List (Entry × List Actor)

abbrev pub entries_in : Transcript → List Entry
entries_in transcript = map (λ (p : Entry × List Actor). p.0) transcript

-- a line of the trace for each entry
abbrev pub traces_of : Transcript → List ℕ
traces_of [] = []
traces_of (p ∷ transcript) = trace_text p.0 p.1 ++ traces_of transcript

-- what is printed of a history: the lines of the replies, client by client, and then those of the trace
abbrev pub printed_of : List (List Op) → Transcript → List ℕ
printed_of clients transcript = output_of (length clients) (entries_in transcript) ++ traces_of transcript

-- Its numbers are those of its types, and no name that it lists has a byte 10.
pub record FitsEntry (p : Entry × List Actor) : Type 0 where
  pub client : p.0.client < 2 ^ 8
  pub seq : p.0.seq < 2 ^ 32
  pub by : IsActor p.0.by
  pub via : AllByRecursion IsActor p.1
  pub reply_fits : FitsReply p.0.reply
  pub excuse_fits : (x : Excuse) → p.0.reply ≡ reply.Excused x → IsExcuse x
  pub line : IsLine (reply_text p.0.reply)

-- A legal text is what is printed of a history that is legal, in order and complete.
abbrev pub LegalTextsArePrinted : Type 0
LegalTextsArePrinted = (start : PosixTree) (clients : List (List Op)) (entries : ℕ) (text : List ℕ) → IsLegalText start clients entries text
    → (transcript : Transcript) × IsHistory start clients entries (entries_in transcript) × (text ≡ printed_of clients transcript)

-- And what is printed of such a history is a legal text.
abbrev pub PrintedTextsAreLegal : Type 0
PrintedTextsAreLegal = (start : PosixTree) (clients : List (List Op)) (entries : ℕ) (transcript : Transcript)
    → entries < 2 ^ 64 → IsHistory start clients entries (entries_in transcript) → AllByRecursion FitsEntry transcript → IsLegalText start clients entries (printed_of clients transcript)

-- ---- the front of a text

-- so many entries that are legal and in the clients' order, each with its line among those of the replies
pub record IsFront (start : PosixTree) (clients : List (List Op)) (answers : List (List (List ℕ))) (entries : ℕ) (history : List Entry) : Type 0 where
  pub long : length history ≡ entries
  pub legal : IsLegal start history
  pub ordered : IsInOrder clients history
  pub answered : AllByRecursion (IsAnswered answers) history

-- a line of a reply for each request, and then the lines of the trace that are printed of a history, whatever follows
abbrev pub front_of : List (List (List ℕ)) → Transcript → List ℕ → List ℕ
front_of answers transcript more = flat_map text_of answers ++ (traces_of transcript ++ more)

-- A text that is legal through so many lines of its trace begins with what is printed of a history of so many entries.
abbrev pub LegalFrontsArePrinted : Type 0
LegalFrontsArePrinted = (start : PosixTree) (clients : List (List Op)) (entries : ℕ) (text : List ℕ) → IsLegalTo start clients IsAny entries text
    → (answers : List (List (List ℕ))) × (transcript : Transcript) × (more : List ℕ) × AreAnswers clients answers × IsFront start clients answers entries (entries_in transcript)
    × (text ≡ front_of answers transcript more)

-- And one that begins so is legal through these lines.
abbrev pub PrintedFrontsAreLegal : Type 0
PrintedFrontsAreLegal = (start : PosixTree) (clients : List (List Op)) (entries : ℕ) (answers : List (List (List ℕ))) (transcript : Transcript) (more : List ℕ)
    → entries < 2 ^ 64 → AreAnswers clients answers → IsFront start clients answers entries (entries_in transcript) → AllByRecursion FitsEntry transcript
    → IsLegalTo start clients IsAny entries (front_of answers transcript more)
