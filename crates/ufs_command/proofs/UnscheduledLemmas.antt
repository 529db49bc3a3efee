-- What is read of a script with a schedule, and of one without.
use Rattle.std.proofs.Common.{◌≡◌, ◌∙◌, ℕ, List, Option, Some, None, Result, Ok, Err, ap}
use Rattle.ufs_script.specs.Reading.{ReadsBreak, ReadsPlaced}
use Rattle.ufs_script.specs.Script.{placed_of, unplaced}
use Rattle.ufs_script.specs.declared.fault.ScriptFault.{ScriptFault}
use Rattle.ufs_script.specs.declared.fault.ScriptFault.TheVariants as fault
use Rattle.ufs_script.specs.declared.script.PlacedScript.{PlacedScript}
use Rattle.ufs_command.specs.Unscheduled.{BreaksUnscheduled, ReadsUnscheduled, unscheduled, without}

broken_alike : (r : Result PlacedScript ScriptFault) (f : ScriptFault) → unplaced r ≡ Err f → unscheduled r ≡ Err f
broken_alike (Ok placed) f e = cc
broken_alike (Err g) f e = cc

-- a text that is no script is none without a schedule
pub breaks : (old new : Option (List ℕ)) (f : ScriptFault) → ReadsBreak old new f → BreaksUnscheduled old new f
breaks old new f r = (r.0, r.1, broken_alike (placed_of r.0) f r.2)

pub reads : (old new : Option (List ℕ)) (placed : PlacedScript) → ReadsPlaced old new placed → placed.schedule ≡ None → ReadsUnscheduled old new placed.script
reads old new placed r none = (r.0, r.1, ap unscheduled r.2 ∙ ap (λ (o : Option ℕ). without o placed.script) none)

pub refuses : (old new : Option (List ℕ)) (placed : PlacedScript) (line : ℕ) → ReadsPlaced old new placed → placed.schedule ≡ Some line → BreaksUnscheduled old new (fault.NotBuilt line)
refuses old new placed line r some = (r.0, r.1, ap unscheduled r.2 ∙ ap (λ (o : Option ℕ). without o placed.script) some)
