-- Which scripts `play` takes: those without a schedule.
use Rattle.std.specs.Prelude.{ℕ, ◌≡◌, List, Option, Some, None, Result, Ok, Err}
use Rattle.ufs_script.specs.Reading.{HasRead}
use Rattle.ufs_script.specs.Script.{placed_of}
use Rattle.ufs_script.specs.declared.fault.ScriptFault.{ScriptFault}
use Rattle.ufs_script.specs.declared.fault.ScriptFault.TheVariants as fault
use Rattle.ufs_script.specs.declared.script.PlacedScript.{PlacedScript}
use Rattle.ufs_script.specs.declared.script.Script.{Script}

-- a script, if no line is `schedule`
abbrev pub without : Option ℕ → Script → Result Script ScriptFault
without None script = Ok script
without (Some line) script = Err (fault.NotBuilt line)

abbrev pub unscheduled : Result PlacedScript ScriptFault → Result Script ScriptFault
unscheduled (Ok placed) = without placed.schedule placed.script
unscheduled (Err f) = Err f

-- The script that a text is. A text that is a script with a schedule breaks at the line `schedule`.
abbrev pub unscheduled_of : List ℕ → Result Script ScriptFault
unscheduled_of text = unscheduled (placed_of text)

-- the source was read to its end or past the greatest length of a script, and its bytes are this script
abbrev pub ReadsUnscheduled : Option (List ℕ) → Option (List ℕ) → Script → Type 0
ReadsUnscheduled old new script = (text : List ℕ) × HasRead old new text × (unscheduled_of text ≡ Ok script)

-- the same, and its bytes break so
abbrev pub BreaksUnscheduled : Option (List ℕ) → Option (List ℕ) → ScriptFault → Type 0
BreaksUnscheduled old new fault = (text : List ℕ) × HasRead old new text × (unscheduled_of text ≡ Err fault)
