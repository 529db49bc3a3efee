use Rattle.std.proofs.Common.{◌∙◌, arith}
use Rattle.ufs_caller.proofs.room.ClientRoom.make.Goals as goal

pub invariant_of-result : goal.invariant_of-result
invariant_of-result c = record {
  none = c.reserve.ensures.items ∙ c.new-told.ensures.items;
  unhinted = c.in_ok-hints.ensures;
  fits = let o = c.in_ok-reserve.ensures.ok in let l = c.len.ensures in let k = c.args.left.ok.0 in omega (arith, o, l, k);
  few = c.requires.few;
  bounded = c.requires.bounded;
}
