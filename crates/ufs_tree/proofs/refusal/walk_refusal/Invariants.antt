use Rattle.std.proofs.Common.{◌≡◌, take, drop, []}
use Rattle.ufs_model.specs.Walk.{walk_refusal_from}
use Rattle.ufs_tree.proofs.refusal.walk_refusal.Given as goal

-- the walk below the components that were passed
abbrev pub invariant-loop-above : goal.invariant-loop-above
invariant-loop-above l = walk_refusal_from l.nodes [] l.text ≡ walk_refusal_from l.nodes (take l.above l.text) (drop l.above l.text)
