use Rattle.std.proofs.Common.{◌≡◌, ◌++◌, take}
use Rattle.std.specs.List.{filter_map}
use Rattle.ufs_damage.specs.Kinds.{form_damage, numbered}
use Rattle.ufs_damage.proofs.forms.push_forms.Given as goal

abbrev pub invariant-loop-k : goal.invariant-loop-k
invariant-loop-k l = l.list ≡ l.fn.list ++ filter_map (form_damage l.kind l.geometry) (numbered (take l.k l.forms))
