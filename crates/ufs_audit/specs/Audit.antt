-- Which texts are printed of a legal history, and where the others go wrong first.
use Rattle.std.specs.Prelude.{ℕ, ◌+◌, ◌≡◌, ◌≢◌, ◌⊎◌, zero, suc, List, [], ◌∷◌, ◌++◌, Option, Some, None, length, unwrap_or, slice_get}
use Rattle.std.specs.List.{AllByRecursion, flat_map}
use Rattle.ufs_model.specs.PosixTree.{PosixTree}
use Rattle.ufs_model.specs.Posix.{posix}
use Rattle.ufs_model.specs.History.{TellsNewFault, tree_after, entries_of, requests_of, IsReplyTo, IsComplete}
use Rattle.ufs_model.specs.declared.data.Op.{Op}
use Rattle.ufs_model.specs.declared.data.Entry.{Entry}
use Rattle.ufs_model.specs.declared.data.Excuse.{Excuse}
use Rattle.ufs_model.specs.declared.data.Reply.{Reply}
use Rattle.ufs_model.specs.declared.data.Reply.TheVariants as reply
use Rattle.ufs_script.specs.Output.{line_text}
use Rattle.ufs_lines.specs.Trace.{Tells, IsFree, IsCut, excuse_told}
use Rattle.ufs_lines.specs.Replies.{IsReplyLine}
use Rattle.ufs_lines.specs.declared.told.Told.{Told}
use Rattle.ufs_audit.specs.declared.verdict.Verdict.{Verdict}
use Rattle.ufs_audit.specs.declared.verdict.Verdict.TheVariants as verdict
use Rattle.ufs_audit.specs.declared.verdict.Wrong.{Wrong}
use Rattle.ufs_audit.specs.declared.verdict.Wrong.TheVariants as wrong

-- ---- lines

-- no byte of the line ends it
abbrev pub IsLine : List ℕ → Type 0
IsLine line = IsFree 10 line

-- The text begins with this line, and goes on so.
abbrev pub Begins : List ℕ → List ℕ → List ℕ → Type 0
Begins text line more = IsCut 10 text line more

-- a line with its end
abbrev pub IsEnded : List ℕ → Type 0
IsEnded line = (front : List ℕ) × IsLine front × (line ≡ front ++ 10 ∷ [])

-- lines, one after the other
abbrev pub text_of : List (List ℕ) → List ℕ
text_of lines = flat_map (λ (line : List ℕ). line) lines

-- ---- the answers: a line for each request, client by client

-- a line of a reply for each of the client's requests, in order
pub record AreAnswersOf (client : ℕ) (requests : List Op) (lines : List (List ℕ)) : Type 0 where
  pub ended : AllByRecursion IsEnded lines
  pub each : length lines ≡ length requests
  pub told : (seq : ℕ) (line : List ℕ) → slice_get lines seq ≡ Some line → IsReplyLine client seq line

-- from this client on
abbrev pub AreAnswersFrom : ℕ → List (List Op) → List (List (List ℕ)) → Type 0
AreAnswersFrom client [] [] = Unit {0}
AreAnswersFrom client (requests ∷ clients) (lines ∷ answers) = AreAnswersOf client requests lines × AreAnswersFrom (client + 1) clients answers
AreAnswersFrom client _ _ = ⊥

abbrev pub AreAnswers : List (List Op) → List (List (List ℕ)) → Type 0
AreAnswers clients answers = AreAnswersFrom 0 clients answers

-- the line of a client's request
abbrev pub answer_to : List (List (List ℕ)) → ℕ → ℕ → Option (List ℕ)
answer_to answers client seq = slice_get (unwrap_or (slice_get answers client) []) seq

-- The text has a line for each request, and goes on so.
abbrev pub HasAnswers : List (List Op) → List ℕ → List (List (List ℕ)) → List ℕ → Type 0
HasAnswers clients text answers trace = AreAnswers clients answers × (text ≡ flat_map text_of answers ++ trace)

-- ---- what a line of the trace makes of a history

-- the request is its client's next one
pub record IsNextRequest (clients : List (List Op)) (history : List Entry) (told : Told) (op : Op) : Type 0 where
  pub numbered : told.seq ≡ length (entries_of told.client history)
  pub asked : slice_get (requests_of clients told.client) told.seq ≡ Some op

-- the excuse that is told, or the reply that POSIX gives
abbrev pub reply_with : Option Excuse → Reply → Reply
reply_with (Some x) posix_reply = reply.Excused x
reply_with None posix_reply = posix_reply

-- the entry that the line tells, if it is right
abbrev pub entry_of : ℕ → PosixTree → Told → Op → Entry
entry_of ticket tree told op = record {
  ticket = ticket;
  client = told.client;
  seq = told.seq;
  by = told.by;
  op = op;
  reply = reply_with (excuse_told told.why) (posix tree told.client op).1;
}

-- the reply's line is that of the entry
abbrev pub IsAnswered : List (List (List ℕ)) → Entry → Type 0
IsAnswered answers entry = answer_to answers entry.client entry.seq ≡ Some (line_text entry.client entry.seq entry.reply)

-- a reply of POSIX needs no excuse; an excuse fits, and tells a fault that wasn't told before
abbrev pub IsAllowed : PosixTree → List Entry → Entry → Type 0
IsAllowed tree history entry = IsReplyTo tree entry × TellsNewFault history entry

-- The line tells the entry that follows the history.
pub record IsNextEntry (start : PosixTree) (clients : List (List Op)) (answers : List (List (List ℕ))) (history : List Entry) (line : List ℕ) (told : Told) (op : Op) : Type 0 where
  pub tells : Tells (length history) told line
  pub next : IsNextRequest clients history told op
  pub answered : IsAnswered answers (entry_of (length history) (tree_after start history) told op)
  pub allowed : IsAllowed (tree_after start history) history (entry_of (length history) (tree_after start history) told op)

-- ---- how far a trace is legal

-- From this history on, the next lines of the trace tell entries that follow one another, so many of them, and
-- behind the last the rest of the text and the whole history are so.
abbrev pub Reaches : PosixTree → List (List Op) → List (List (List ℕ)) → (List Entry → List ℕ → Type 0) → ℕ → List Entry → List ℕ → Type 0
Reaches start clients answers Ends zero history trace = Ends history trace
Reaches start clients answers Ends (suc n) history trace =
    (line : List ℕ) × (more : List ℕ) × (told : Told) × (op : Op) × Begins trace line more
    × IsNextEntry start clients answers history line told op
    × Reaches start clients answers Ends n (history ++ entry_of (length history) (tree_after start history) told op ∷ []) more

-- The text is legal through so many lines of its trace, and then so.
abbrev pub IsLegalTo : PosixTree → List (List Op) → (List (List (List ℕ)) → List Entry → List ℕ → Type 0) → ℕ → List ℕ → Type 0
IsLegalTo start clients Ends n text =
    (answers : List (List (List ℕ))) × (trace : List ℕ) × HasAnswers clients text answers trace × Reaches start clients answers (Ends answers) n [] trace

-- whatever follows
abbrev pub IsAny : List (List (List ℕ)) → List Entry → List ℕ → Type 0
IsAny answers history trace = Unit {0}

-- nothing follows, and every request has its entry
abbrev pub IsWhole : List (List Op) → List (List (List ℕ)) → List Entry → List ℕ → Type 0
IsWhole clients answers history trace = (trace ≡ []) × IsComplete clients history

-- The text is that of a legal history of so many entries: a line for each reply, and then a line of the trace for each.
abbrev pub IsLegalText : PosixTree → List (List Op) → ℕ → List ℕ → Type 0
IsLegalText start clients entries text = IsLegalTo start clients (IsWhole clients) entries text

-- ---- what is wrong with the line behind a history

-- no line of the text's tells anything at this ticket
abbrev pub TellsNothing : List Entry → List ℕ → Type 0
TellsNothing history trace = (line more : List ℕ) (told : Told) → Begins trace line more → Tells (length history) told line → ⊥

-- a line tells this
abbrev pub TellsNext : List Entry → List ℕ → Told → Type 0
TellsNext history trace told = (line : List ℕ) × (more : List ℕ) × Begins trace line more × Tells (length history) told line

-- All requests have their entries, and the text goes on.
abbrev pub GoesOn : List (List Op) → List Entry → List ℕ → Type 0
GoesOn clients history trace = IsComplete clients history × (trace ≢ [])

-- The cause stands there, and none before it.
abbrev pub IsWrong : PosixTree → List (List Op) → List (List (List ℕ)) → Wrong → List Entry → List ℕ → Type 0
IsWrong start clients answers wrong.Text history trace = (TellsNothing history trace × (IsWhole clients answers history trace → ⊥)) ⊎ GoesOn clients history trace
IsWrong start clients answers wrong.Order history trace =
    (told : Told) × TellsNext history trace told × (IsComplete clients history → ⊥) × ((op : Op) → IsNextRequest clients history told op → ⊥)
IsWrong start clients answers wrong.Reply history trace =
    (told : Told) × (op : Op) × TellsNext history trace told × IsNextRequest clients history told op
    × (IsAnswered answers (entry_of (length history) (tree_after start history) told op) → ⊥)
IsWrong start clients answers wrong.Excuse history trace =
    (told : Told) × (op : Op) × TellsNext history trace told × IsNextRequest clients history told op
    × IsAnswered answers (entry_of (length history) (tree_after start history) told op)
    × (IsAllowed (tree_after start history) history (entry_of (length history) (tree_after start history) told op) → ⊥)

-- The text doesn't begin with a line of a reply for each request.
abbrev pub LacksAnswers : List (List Op) → List ℕ → Type 0
LacksAnswers clients text = (answers : List (List (List ℕ))) (trace : List ℕ) → HasAnswers clients text answers trace → ⊥

-- ---- the verdict

-- There it ends: the text is no legal history's, and none that is legal through the ticket's line is like it.
pub record IsIllegalAt (start : PosixTree) (clients : List (List Op)) (text : List ℕ) (ticket : ℕ) (cause : Wrong) : Type 0 where
  pub illegal : (entries : ℕ) → IsLegalText start clients entries text → ⊥
  pub ends : IsLegalTo start clients IsAny (ticket + 1) text → ⊥
  -- through the lines before it the text is legal, and there this is wrong; or it lacks replies
  pub stands : IsLegalTo start clients (λ answers. IsWrong start clients answers cause) ticket text
      ⊎ ((ticket ≡ 0) × (cause ≡ wrong.Text) × LacksAnswers clients text)

abbrev pub IsVerdict : PosixTree → List (List Op) → List ℕ → Verdict → Type 0
IsVerdict start clients text (verdict.Legal entries) = IsLegalText start clients entries text
IsVerdict start clients text (verdict.Illegal ticket cause) = IsIllegalAt start clients text ticket cause
