use Rattle.std.proofs.Common.{inl, inr, refl}
use Rattle.ufs_primary.proofs.letters.take_next.Goals as goal

pub returns-in_err-came-clause-next : goal.returns-in_err-came-clause-next
returns-in_err-came-clause-next g c = let t = c.in_err-came.ensures.taken in inl (t.0, t.1, c.from_residual.ensures, refl, c.requires)

pub returns-clause-next : goal.returns-clause-next
returns-clause-next g c = inr (c.in_ok-came.came, c.in_ok-came.ensures.taken, c.read_letter.ensures.done)
