use Rattle.std.proofs.Common.{◌≡◌, ◌++◌, take, flat_map}
use Rattle.ufs_damage.specs.Kinds.{slots_damage}
use Rattle.ufs_damage.proofs.slots.push_slots.Given as goal

abbrev pub invariant-loop-dir : goal.invariant-loop-dir
invariant-loop-dir l = l.list ≡ l.fn.list ++ flat_map (slots_damage l.kind l.findings.forms) (take l.dir-index l.findings.dirs)
