-- The lines of entries, as they are written.
use Rattle.std.specs.Prelude.{ℕ, Bool, true, false, List, [], ◌++◌, flat_map}
use Rattle.ufs_model.specs.declared.data.Entry.{Entry}
use Rattle.ufs_script.specs.Output.{line_text, lines_of, trace_text}
use Rattle.ufs_print.specs.declared.transcripts.LineKind.{LineKind}
use Rattle.ufs_print.specs.declared.transcripts.LineKind.TheVariants as kind

-- the line of an entry: that of its reply, or that of a trace
abbrev pub entry_line : LineKind → Entry → List ℕ
entry_line kind.Reply entry = line_text entry.client entry.seq entry.reply
entry_line kind.Trace entry = trace_text entry []

-- a line for each entry
abbrev pub entry_lines : LineKind → List Entry → List ℕ
entry_lines which history = flat_map (entry_line which) history

-- the trace of a history: a line for each entry, in the history's order; nobody sends a request on
abbrev pub trace_lines : List Entry → List ℕ
trace_lines history = flat_map (λ (entry : Entry). trace_text entry []) history

-- the trace, where one is asked for
abbrev pub trace_part : Bool → List Entry → List ℕ
trace_part true history = trace_lines history
trace_part false history = []

-- what is printed of transcripts, one after the other: the reply lines, and behind them the trace of the history that they are, where one
-- is asked for
abbrev pub session_lines : Bool → List Entry → List ℕ
session_lines trace history = lines_of history ++ trace_part trace history
