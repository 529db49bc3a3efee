use Rattle.std.proofs.Common.{◌≡◌, ◌++◌, take}
use Rattle.ufs_model.specs.History.{entries_of}
use Rattle.ufs_script.specs.Output.{lines_of}
use Rattle.ufs_plain.proofs.lines.put_client.Given as goal

abbrev pub invariant-loop-entry : goal.invariant-loop-entry
invariant-loop-entry l = l.text.items ≡ l.initial.text.items ++ lines_of (entries_of l.client (take l.entry-index l.history))
