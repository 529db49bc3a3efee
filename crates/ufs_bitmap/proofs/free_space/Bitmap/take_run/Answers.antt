use Rattle.std.proofs.Common.{arith}
use Rattle.ufs_bitmap.proofs.MemberLemmas.{after_take}
use Rattle.ufs_bitmap.proofs.free_space.Bitmap.take_run.Goals as goal

pub invariant_of-self : goal.invariant_of-self
invariant_of-self c =
    let after = after_take c.self.inside.free c.take_run.new.self c.take_run.result c.take_run.ensures.taken c.take_run.ensures.same in
    (c.self.invariant.0, omega (arith, c.self.invariant.1, after.0), λ b h. c.self.invariant.2 b (after.1 b h))
