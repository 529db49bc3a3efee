use Rattle.std.proofs.Common.{ap, refl, ◌∙◌}
use Rattle.ufs_owner.specs.Owners.{owner_at}
use Rattle.ufs_owner.specs.declared.owner.Owner.{Owner}
use Rattle.ufs_home.specs.Home.{HomeState, called_by}
use Rattle.ufs_home.proofs.Stating.{asks_one, called_home}
use Rattle.ufs_home.proofs.home.Home.call_for.Goals as goal

pub returns-in-Primary-clause-ok : goal.returns-in-Primary-clause-ok
returns-in-Primary-clause-ok g c = ap (λ (o : Owner). called_by o c.args.self.now c.args.file) (c.in-Primary.ensures ∙ ap (λ (h : HomeState). owner_at h.owners c.args.file) c.self.view_is)

pub returns-in-Coming-clause-ok : goal.returns-in-Coming-clause-ok
returns-in-Coming-clause-ok g c = ap (λ (o : Owner). called_by o c.args.self.now c.args.file) (c.in-Coming.ensures ∙ ap (λ (h : HomeState). owner_at h.owners c.args.file) c.self.view_is)

pub recall-requires-clause-there : goal.recall-requires-clause-there
recall-requires-clause-there g c = asks_one c.self.inside.workers g.N.Naming.start c.self.inside.shelf c.self.inside.owners.files c.self.inside.owners.files c.self.inside.boxes.items c.self.inside.boxes.items c.self.invariant c.args.file c.in-Worker.worker _ c.in-Worker.ensures refl

pub invariant_of-self : goal.invariant_of-self
invariant_of-self g c =
    called_home c.self.inside.workers g.N.Naming.start c.self.inside.shelf c.self.inside.owners.files c.recall.new.owners.files c.self.inside.boxes.items c.recall.new.boxes.items c.self.invariant c.args.file c.in-Worker.worker _ c.in-Worker.ensures refl c.args.self.now c.self.view_is (λ h. refl)
    c.recall.result c.recall.ensures.ok c.recall.ensures.err

pub recall-requires-in-Going-clause-there : goal.recall-requires-in-Going-clause-there
recall-requires-in-Going-clause-there g c = asks_one c.self.inside.workers g.N.Naming.start c.self.inside.shelf c.self.inside.owners.files c.self.inside.owners.files c.self.inside.boxes.items c.self.inside.boxes.items c.self.invariant c.args.file c.in-Going.to _ c.in-Going.ensures refl

pub invariant_of-self-in-Going : goal.invariant_of-self-in-Going
invariant_of-self-in-Going g c =
    called_home c.self.inside.workers g.N.Naming.start c.self.inside.shelf c.self.inside.owners.files c.recall-in-Going.new.owners.files c.self.inside.boxes.items c.recall-in-Going.new.boxes.items c.self.invariant c.args.file c.in-Going.to _ c.in-Going.ensures refl c.args.self.now c.self.view_is (λ h. refl)
    c.recall-in-Going.result c.recall-in-Going.ensures.ok c.recall-in-Going.ensures.err
