use Rattle.std.proofs.Common.{◌≡◌, ◌++◌, take}
use Rattle.std.specs.List.{filter_map, enumerate_from}
use Rattle.ufs_damage.specs.Kinds.{slot_damage}
use Rattle.ufs_damage.proofs.slots.push_slots_of.Given as goal

abbrev pub invariant-loop-place : goal.invariant-loop-place
invariant-loop-place l = l.list ≡ l.fn.list ++ filter_map (slot_damage l.kind l.forms l.dir) (enumerate_from 0 (take l.place l.slots))
