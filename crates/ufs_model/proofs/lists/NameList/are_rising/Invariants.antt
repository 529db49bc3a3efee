use Rattle.std.proofs.Common.{◌≡◌, ◌-◌, drop}
use Rattle.ufs_model.specs.Order.{names_rise}
use Rattle.ufs_model.proofs.lists.NameList.are_rising.Given as goal

abbrev pub invariant-loop-i : goal.invariant-loop-i
invariant-loop-i l = names_rise l.names ≡ names_rise (drop (l.i - 1) l.names)
