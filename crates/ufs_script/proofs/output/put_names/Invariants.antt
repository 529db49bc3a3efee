use Rattle.std.proofs.Common.{◌≡◌, ◌++◌, take}
use Rattle.ufs_script.specs.Output.{names_text}
use Rattle.ufs_script.proofs.output.put_names.Given as goal

abbrev pub invariant-loop-name : goal.invariant-loop-name
invariant-loop-name l = l.line.items ≡ l.initial.line.items ++ names_text (take l.name-index l.names)
