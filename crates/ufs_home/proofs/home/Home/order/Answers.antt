use Rattle.std.proofs.Common.{◌≤◌, ℕ, refl, sym, subst}
use Rattle.ufs_home.specs.Home.{HomeState, home_of, is_waited}
use Rattle.ufs_home.specs.Moves.{IsMoved}
use Rattle.ufs_home.specs.declared.moved.Moved.TheVariants as moved
use Rattle.ufs_owner.specs.declared.owner.Owner.TheVariants.{Primary, Worker, Going}
use Rattle.ufs_home.proofs.Stating.{asks_one, moved_home, ordered_some}
use Rattle.ufs_home.proofs.home.Home.order.Goals as goal

pub invariant_of-self : goal.invariant_of-self
invariant_of-self g c =
    let h = c.self.invariant in
    moved_home g.N.Naming.start c.self.inside.workers (home_of c.self.inside.shelf c.self.inside.owners.files c.self.inside.boxes.items) (home_of c.order_here.new.shelf c.order_here.new.owners.files c.order_here.new.boxes.items) c.args.file c.args.to c.order_here.result c.self.invariant (subst (λ (n : ℕ). c.args.to ≤ n) (sym h.all) c.requires.there)
    (ordered_some Primary (is_waited c.self.inside.owners.files c.args.file) c.args.to c.order_here.result c.order_here.ensures.answer) c.order_here.ensures.moved

pub order_out-requires-clause-there : goal.order_out-requires-clause-there
order_out-requires-clause-there g c = asks_one c.self.inside.workers g.N.Naming.start c.self.inside.shelf c.self.inside.owners.files c.self.inside.owners.files c.self.inside.boxes.items c.self.inside.boxes.items c.self.invariant c.args.file c.in-Worker.worker _ c.in-Worker.ensures refl

pub invariant_of-self-in-Worker : goal.invariant_of-self-in-Worker
invariant_of-self-in-Worker g c =
    let h = c.self.invariant in
    moved_home g.N.Naming.start c.self.inside.workers (home_of c.self.inside.shelf c.self.inside.owners.files c.self.inside.boxes.items) (home_of c.self.inside.shelf c.order_out.new.owners.files c.order_out.new.boxes.items) c.args.file c.args.to c.order_out.result c.self.invariant (subst (λ (n : ℕ). c.args.to ≤ n) (sym h.all) c.requires.there)
    (ordered_some (Worker c.in-Worker.worker) (is_waited c.self.inside.owners.files c.args.file) c.args.to c.order_out.result c.order_out.ensures.answer) (c.order_out.ensures.moved c.self.inside.shelf)

pub order_out-requires-in-Going-clause-there : goal.order_out-requires-in-Going-clause-there
order_out-requires-in-Going-clause-there g c = asks_one c.self.inside.workers g.N.Naming.start c.self.inside.shelf c.self.inside.owners.files c.self.inside.owners.files c.self.inside.boxes.items c.self.inside.boxes.items c.self.invariant c.args.file c.in-Going.worker _ c.in-Going.ensures refl

pub invariant_of-self-in-Going : goal.invariant_of-self-in-Going
invariant_of-self-in-Going g c =
    let h = c.self.invariant in
    moved_home g.N.Naming.start c.self.inside.workers (home_of c.self.inside.shelf c.self.inside.owners.files c.self.inside.boxes.items) (home_of c.self.inside.shelf c.order_out-in-Going.new.owners.files c.order_out-in-Going.new.boxes.items) c.args.file c.args.to c.order_out-in-Going.result c.self.invariant (subst (λ (n : ℕ). c.args.to ≤ n) (sym h.all) c.requires.there)
    (ordered_some (Going c.in-Going.worker) (is_waited c.self.inside.owners.files c.args.file) c.args.to c.order_out-in-Going.result c.order_out-in-Going.ensures.answer) (c.order_out-in-Going.ensures.moved c.self.inside.shelf)

pub invariant_of-self-in-Coming : goal.invariant_of-self-in-Coming
invariant_of-self-in-Coming g c =
    let h = c.self.invariant in
    moved_home g.N.Naming.start c.self.inside.workers (home_of c.self.inside.shelf c.self.inside.owners.files c.self.inside.boxes.items) (home_of c.self.inside.shelf c.renote.new.self.files c.self.inside.boxes.items) c.args.file c.args.to moved.Renoted c.self.invariant (subst (λ (n : ℕ). c.args.to ≤ n) (sym h.all) c.requires.there)
    (λ e. absurd cc) (λ i. home_of c.self.inside.shelf (c.renote.ensures i).files c.self.inside.boxes.items)

pub returns-in-Worker-clause-moved : goal.returns-in-Worker-clause-moved
returns-in-Worker-clause-moved g c =
    subst (λ (h : HomeState). IsMoved h (home_of c.self.inside.shelf c.order_out.new.owners.files c.order_out.new.boxes.items) c.args.file c.args.to c.order_out.result) c.self.view_is (c.order_out.ensures.moved c.self.inside.shelf)

pub returns-in-Going-clause-moved : goal.returns-in-Going-clause-moved
returns-in-Going-clause-moved g c =
    subst (λ (h : HomeState). IsMoved h (home_of c.self.inside.shelf c.order_out-in-Going.new.owners.files c.order_out-in-Going.new.boxes.items) c.args.file c.args.to c.order_out-in-Going.result) c.self.view_is (c.order_out-in-Going.ensures.moved c.self.inside.shelf)
