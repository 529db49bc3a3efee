use Rattle.std.proofs.Common.{ap, ◌∙◌}
use Rattle.ufs_at_primary.specs.OfHome.{come_on}
use Rattle.ufs_primary.proofs.letters.settle.Goals as goal

pub returns-in-Ok-clause-settled : goal.returns-in-Ok-clause-settled
returns-in-Ok-clause-settled g c = (c.in-Ok.ensures.coming, c.in-Ok.ensures.ok ∙ ap (come_on c.args.stock.now.home c.args.parcel) c.in-Ok.ensures.to, c.requires)
