use Rattle.std.proofs.Common.{◌≡◌, ◌++◌, take}
use Rattle.ufs_script.specs.Output.{more_actors}
use Rattle.ufs_script.proofs.output.put_more.Given as goal

abbrev pub invariant-loop-actor : goal.invariant-loop-actor
invariant-loop-actor l = l.line.items ≡ l.initial.line.items ++ more_actors (take l.actor-index l.actors)
