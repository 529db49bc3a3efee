use Rattle.std.proofs.Common.{◌≡◌}
use Rattle.ufs_script.specs.Output.{output_of}
use Rattle.ufs_plain.proofs.lines.lines.Given as goal

abbrev pub invariant-loop-client : goal.invariant-loop-client
invariant-loop-client l = l.text.items ≡ output_of l.client l.history
