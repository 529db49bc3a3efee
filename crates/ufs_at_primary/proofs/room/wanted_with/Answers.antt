use Rattle.std.proofs.Common.{◌≡◌, true, false, sym, ◌∙◌}
use Rattle.ufs_at_primary.proofs.room.wanted_with.Goals as goal

pub returns-in-Some-clause-none : goal.returns-in-Some-clause-none
returns-in-Some-clause-none g c = λ yes. absurd (let clash : false ≡ true = sym c.if-commits.false ∙ c.commits.ensures ∙ yes in cc)
