-- What the parts of an audit read.
use Rattle.std.specs.Prelude.{ℕ, ◌≡◌, ◌≢◌, ◌<◌, ◌≤◌, ◌+◌, ◌∷◌, ◌⊎◌, List, [], ◌++◌, length, Option, Some, None, Bool, true, false, Ok}
use Rattle.std.specs.Io.KnownBytes.{Consumes, IsAtEnd}
use Rattle.ufs_model.specs.PosixTree.{PosixTree}
use Rattle.ufs_model.specs.declared.data.Op.{Op}
use Rattle.ufs_audit.specs.Audit.{IsLine, IsEnded, AreAnswersOf, AreAnswers, LacksAnswers, IsVerdict, text_of}
use Rattle.ufs_model.specs.declared.data.Entry.{Entry}
use Rattle.ufs_model.specs.History.{IsComplete}
use Rattle.ufs_audit.specs.Following.{Stands, IsTraceVerdict}
use Rattle.ufs_audit.specs.declared.verdict.Verdict.{Verdict}
use Rattle.ufs_audit.specs.declared.verdict.Verdict.TheVariants as verdict
use Rattle.ufs_audit.specs.declared.verdict.Wrong.TheVariants as wrong
use Rattle.ufs_audit.specs.Sources.{Gives, IsBlank, AreBlanks, IsOpen, IsClosed}
use Rattle.ufs_script.specs.Script.{script_of, max_script}
use Rattle.ufs_script.specs.declared.script.Script.{Script}
use Rattle.std.specs.List.{flat_map}
use Rattle.ufs_audit.specs.declared.fault.TextFault.{TextFault}
use Rattle.ufs_audit.specs.declared.fault.TextFault.TheVariants as text_fault
use Rattle.ufs_audit.specs.declared.fault.AuditFault.{AuditFault}
use Rattle.ufs_audit.specs.declared.fault.AuditFault.TheVariants as fault

-- ---- lines of a source

-- the source has no more
abbrev pub IsLast : Option (List ℕ) → List ℕ → Type 0
IsLast new ahead = IsAtEnd new × (ahead ≡ [])

-- what stood at the front was moved behind the line: through the first line end, or all
abbrev pub Moved : List ℕ → List ℕ → List ℕ → List ℕ → Bool → Type 0
Moved ahead ahead' line line' true = (piece : List ℕ) × IsEnded piece × (line' ≡ line ++ piece) × (ahead ≡ piece ++ ahead')
Moved ahead ahead' line line' false = IsLine ahead × (line' ≡ line ++ ahead) × (ahead' ≡ [])

-- a piece was read, or the source is at its end
abbrev pub Refilled : Option (List ℕ) → Option (List ℕ) → List ℕ → Bool → Type 0
Refilled old new piece true = Consumes old new piece × (piece ≢ [])
Refilled old new piece false = Consumes old new piece × (piece ≡ []) × IsAtEnd new

-- more was read where nothing was left, and something is left then, or the source is at its end
abbrev pub Filled : Option (List ℕ) → Option (List ℕ) → List ℕ → List ℕ → Bool → Type 0
Filled old new ahead ahead' true = Gives old new ahead ahead' [] × (ahead' ≢ [])
Filled old new ahead ahead' false = Gives old new ahead ahead' [] × IsLast new ahead'

-- A line with its end, or what the source has at its end, or more than so many bytes.
pub record NextLine (old new : Option (List ℕ)) (ahead ahead' : List ℕ) (most : ℕ) (line : List ℕ) : Type 0 where
  pub gives : Gives old new ahead ahead' line
  pub stops : IsEnded line ⊎ (IsLine line × IsAtEnd new × (ahead' ≡ [])) ⊎ (IsLine line × (most < length line))

-- ---- the script at the front

-- no blank stands first
abbrev pub NoBlankFirst : List ℕ → Type 0
NoBlankFirst [] = Unit {0}
NoBlankFirst (b ∷ rest) = IsBlank b → ⊥

-- what stands behind the blanks at the front
pub record IsFrontCut (text rest : List ℕ) : Type 0 where
  pub blanks : List ℕ
  pub are : AreBlanks blanks
  pub is : text ≡ blanks ++ rest
  pub starts : NoBlankFirst rest

-- How far a script is read: through its line `end`, or to the source's end, or past its greatest length.
abbrev pub Stops : Option (List ℕ) → List ℕ → List ℕ → Bool → Type 0
Stops new ahead head true = IsClosed head
Stops new ahead head false = IsOpen head × (IsLast new ahead ⊎ (max_script < length head))

-- what was read of the source, and what was read besides; whether the line `end` is there
pub record HasHead (old new : Option (List ℕ)) (ahead head : List ℕ) (closed : Bool) : Type 0 where
  pub taken : Consumes old new (head ++ ahead)
  pub stops : Stops new ahead head closed

-- the script of what was read
pub record HasScriptHead (old new : Option (List ℕ)) (ahead : List ℕ) (script : Script) (closed : Bool) : Type 0 where
  pub head : List ℕ
  pub has : HasHead old new ahead head closed
  pub short : length head ≤ max_script
  pub read : script_of head ≡ Ok script

-- ---- a text with a greatest length

-- this was read, and so many bytes are still left to read
pub record Reads (old new : Option (List ℕ)) (ahead ahead' : List ℕ) (room room' : ℕ) (text : List ℕ) : Type 0 where
  pub gives : Gives old new ahead ahead' text
  pub counted : room' + length text ≡ room

-- more was read than there may be
abbrev pub Passes : Option (List ℕ) → Option (List ℕ) → List ℕ → List ℕ → ℕ → Type 0
Passes old new ahead ahead' room = (text : List ℕ) × Gives old new ahead ahead' text × (room < length text)

-- a line of the text, with its end where it isn't the last one
pub record TextLine (old new : Option (List ℕ)) (ahead ahead' : List ℕ) (room room' : ℕ) (line : List ℕ) : Type 0 where
  pub reads : Reads old new ahead ahead' room room' line
  pub stops : IsEnded line ⊎ (IsLine line × IsLast new ahead')

-- It holds of the text however it goes on, or the source has no more and it holds of the text.
abbrev pub Settles : Option (List ℕ) → List ℕ → (List ℕ → Type 0) → List ℕ → Type 0
Settles new ahead P text = ((future : List ℕ) → P (text ++ future)) ⊎ (IsLast new ahead × P text)

-- ---- the lines of replies

-- no lines of a client's replies begin the text
abbrev pub LacksOwn : ℕ → List Op → List ℕ → Type 0
LacksOwn client requests text = (lines : List (List ℕ)) (more : List ℕ) → AreAnswersOf client requests lines → text ≡ text_of lines ++ more → ⊥

-- a line of a reply for each request of a client, or they aren't there
abbrev pub OwnAnswers : Option (List ℕ) → Option (List ℕ) → List ℕ → List ℕ → ℕ → ℕ → ℕ → List Op → Option (List (List ℕ)) → Type 0
OwnAnswers old new ahead ahead' room room' client requests (Some lines) =
    Reads old new ahead ahead' room room' (text_of lines) × AreAnswersOf client requests lines
OwnAnswers old new ahead ahead' room room' client requests None =
    (text : List ℕ) × Reads old new ahead ahead' room room' text × Settles new ahead' (LacksOwn client requests) text

-- the same of all clients
abbrev pub AllAnswers : Option (List ℕ) → Option (List ℕ) → List ℕ → List ℕ → ℕ → ℕ → List (List Op) → Option (List (List (List ℕ))) → Type 0
AllAnswers old new ahead ahead' room room' clients (Some answers) =
    Reads old new ahead ahead' room room' (flat_map text_of answers) × AreAnswers clients answers
AllAnswers old new ahead ahead' room room' clients None =
    (text : List ℕ) × Reads old new ahead ahead' room room' text × Settles new ahead' (LacksAnswers clients) text

-- ---- the trace

-- the verdict on the trace, of which this was read
abbrev pub TraceVerdict : PosixTree → List (List Op) → List (List (List ℕ)) → Option (List ℕ) → Option (List ℕ) → List ℕ → List ℕ → ℕ → ℕ → Verdict → Type 0
TraceVerdict start clients answers old new ahead ahead' room room' verdict =
    (text : List ℕ) × Reads old new ahead ahead' room room' text × Settles new ahead' (λ text. IsTraceVerdict start clients answers text verdict) text

-- the verdict at the end of a trace, behind which this line without its end stands
abbrev pub IsEndOf : List (List Op) → List Entry → ℕ → List ℕ → Verdict → Type 0
IsEndOf clients history ticket line (verdict.Legal entries) = (entries ≡ ticket) × (line ≡ []) × IsComplete clients history
IsEndOf clients history ticket line (verdict.Illegal t cause) = (t ≡ ticket) × (cause ≡ wrong.Text) × (line ≡ [] → IsComplete clients history → ⊥)

-- behind this line, which has no end, the text has no more
abbrev pub EndVerdict : List (List Op) → PosixTree → List ℕ → List ℕ → ℕ → List ℕ → Verdict → Type 0
EndVerdict clients tree counts faults ticket line v = (start : PosixTree) (history : List Entry) → Stands start clients history tree counts faults → IsEndOf clients history ticket line v

-- ---- the text

-- the verdict on the text, of which this was read
abbrev pub SoFarVerdict : PosixTree → List (List Op) → Option (List ℕ) → Option (List ℕ) → List ℕ → List ℕ → ℕ → ℕ → Verdict → Type 0
SoFarVerdict start clients old new ahead ahead' room room' verdict =
    (text : List ℕ) × Reads old new ahead ahead' room room' text × Settles new ahead' (λ text. IsVerdict start clients text verdict) text

-- what is left was read
abbrev pub ReadsRest : Option (List ℕ) → Option (List ℕ) → List ℕ → List ℕ → ℕ → ℕ → Type 0
ReadsRest old new ahead ahead' room room' = (text : List ℕ) × Reads old new ahead ahead' room room' text × IsLast new ahead'

-- the verdict on all that was left
abbrev pub TextVerdict : PosixTree → List (List Op) → Option (List ℕ) → Option (List ℕ) → List ℕ → List ℕ → ℕ → Verdict → Type 0
TextVerdict start clients old new ahead ahead' room verdict =
    (text : List ℕ) × Gives old new ahead ahead' text × IsLast new ahead' × (length text ≤ room) × IsVerdict start clients text verdict

abbrev pub fault_of : TextFault → AuditFault
fault_of text_fault.TooLong = fault.TextTooLong
fault_of text_fault.Source = fault.Source
fault_of (text_fault.Lack lack) = fault.Lack lack
