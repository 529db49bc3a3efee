-- What a reading of a script took of its source, and what it read.
use Rattle.std.specs.Prelude.{ℕ, ◌+◌, ◌-◌, ◌≡◌, ◌<◌, ◌≤◌, ⊤, ◌⊎◌, List, ◌++◌, length, Option, Some, None, Ok, Err}
use Rattle.std.specs.Io.KnownBytes.{Consumes, IsAtEnd}
use Rattle.ufs_script.specs.Script.{placed_of, script_of, max_script}
use Rattle.ufs_script.specs.declared.script.Script.{Script}
use Rattle.ufs_script.specs.declared.script.PlacedScript.{PlacedScript}
use Rattle.ufs_script.specs.declared.fault.ScriptFault.{ScriptFault}

-- this text was read, to the source's end or past the greatest length
pub record HasRead (old new : Option (List ℕ)) (text : List ℕ) : Type 0 where
  pub taken : Consumes old new text
  pub ended : IsAtEnd new ⊎ (max_script < length text)

-- the bytes of a piece that is read at once
abbrev pub piece : ℕ
piece = 65536

-- It took at most the greatest length of a script and one piece more, where the source is visible.
abbrev pub TakesAtMost : Option (List ℕ) → Option (List ℕ) → Type 0
TakesAtMost None new = ⊤
TakesAtMost (Some before) None = ⊤
TakesAtMost (Some before) (Some now) = length before ≤ length now + (max_script + piece)

-- at most so many reads were made, where the source is visible
abbrev pub MadeAtMost : ℕ → Option ℕ → Option ℕ → Type 0
MadeAtMost count None new = ⊤
MadeAtMost count (Some before) None = ⊤
MadeAtMost count (Some before) (Some now) = now ≤ before + count

-- Each of its reads but one took a byte: so none was made behind the end.
abbrev pub ReadsEachOnce : Option (List ℕ) → Option (List ℕ) → Option ℕ → Option ℕ → Type 0
ReadsEachOnce None new made made' = ⊤
ReadsEachOnce (Some before) None made made' = ⊤
ReadsEachOnce (Some before) (Some now) made made' = MadeAtMost (length before - length now + 1) made made'

-- the source was read to its end or past the greatest length, and its bytes are this script
abbrev pub ReadsScript : Option (List ℕ) → Option (List ℕ) → Script → Type 0
ReadsScript old new script = (text : List ℕ) × HasRead old new text × (script_of text ≡ Ok script)

-- the same, with the places of its schedule
abbrev pub ReadsPlaced : Option (List ℕ) → Option (List ℕ) → PlacedScript → Type 0
ReadsPlaced old new placed = (text : List ℕ) × HasRead old new text × (placed_of text ≡ Ok placed)

-- the same, and its bytes break so
abbrev pub ReadsBreak : Option (List ℕ) → Option (List ℕ) → ScriptFault → Type 0
ReadsBreak old new fault = (text : List ℕ) × HasRead old new text × (script_of text ≡ Err fault)

-- whatever follows a text that is too long, the answer is the same
abbrev pub LongerIsAlike : Type 0
LongerIsAlike = (text more : List ℕ) → max_script < length text → placed_of (text ++ more) ≡ placed_of text
