use Rattle.std.proofs.Common.{◌∙◌}
use Rattle.ufs_found.proofs.OffLemmas.{shared_in}
use Rattle.ufs_found.proofs.off.is_shared.Goals as goal

pub returns : goal.returns
returns c = c.has_another.ensures ∙ shared_in (λ b. b.now) c.args.f.now c.args.number c.args.numbers.now c.numbered.result.now c.numbered.ensures
