use Rattle.std.proofs.Common.{◌∙◌}
use Rattle.ufs_found.proofs.OffLemmas.{repeated_in}
use Rattle.ufs_found.proofs.off.is_repeated.Goals as goal

pub returns : goal.returns
returns c = c.repeats.ensures ∙ repeated_in (λ b. b.now) c.args.f.now _ _ c.place-at.ensures.value c.place-at.ensures.value c.args.places.now c.between.result.now c.between.ensures
