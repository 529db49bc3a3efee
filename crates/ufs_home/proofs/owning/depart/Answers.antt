use Rattle.std.proofs.Common.{ap, refl, ◌∙◌}
use Rattle.ufs_owner.specs.Owners.{Owners}
use Rattle.ufs_home.proofs.Knowing.{gone_now, gone_still}
use Rattle.ufs_home.proofs.owning.depart.Goals as goal

pub returns-in-Going : goal.returns-in-Going
returns-in-Going c = ap (λ (o : Owners). o.files) c.left.ensures ∙ gone_now c.args.owners.now.files c.args.file _ c.in-Going.ensures refl

pub returns-in-Primary : goal.returns-in-Primary
returns-in-Primary c = gone_still c.args.owners.now.files c.args.file _ c.in-Primary.ensures refl

pub returns-in-Worker : goal.returns-in-Worker
returns-in-Worker c = gone_still c.args.owners.now.files c.args.file _ c.in-Worker.ensures refl

pub returns-in-Coming : goal.returns-in-Coming
returns-in-Coming c = gone_still c.args.owners.now.files c.args.file _ c.in-Coming.ensures refl
