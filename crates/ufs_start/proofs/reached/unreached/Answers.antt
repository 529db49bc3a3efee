use Rattle.std.proofs.Common.{arith}
use Rattle.ufs_start.proofs.Reaching.{one_reached, none_unreached}
use Rattle.ufs_start.proofs.reached.unreached.Goals as goal

pub loop-place-preserved : goal.loop-place-preserved
loop-place-preserved c = one_reached c.args.dirs.now c.args.marks.now c.loop-place.place c.loop-place.invariant (c.is_unreached.ensures.reached c.if-is_unreached.false)

pub returns-clause-none : goal.returns-clause-none
returns-clause-none c = none_unreached c.args.dirs.now c.args.marks.now c.loop-place.place (omega (arith, c.loop-place-test.false)) c.requires.counted c.loop-place.invariant
