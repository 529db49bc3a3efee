use Rattle.std.proofs.Common.{ap, sym, ◌∙◌, refl, subst, IsTrue, arith}
use Rattle.ufs_owner.specs.declared.owner.Owner.TheVariants.{Worker}
use Rattle.ufs_owner.specs.Owners.{standing_at, owner_at, is_going}
use Rattle.ufs_owner.proofs.KeptLemmas.{known_at, out_one, with_one}
use Rattle.ufs_owner.proofs.StepLemmas.{counts_stay}
use Rattle.ufs_owner.proofs.table.OwnerTable.left.Goals as goal

pub invariant_of-self : goal.invariant_of-self
invariant_of-self c =
    let view = ap (λ o. o.files) c.self.view_is in
    let was = known_at c.self.inside.records.files c.args.file is_going refl (subst (λ m. IsTrue (is_going (owner_at m c.args.file))) (sym view) c.requires) in
    let going = sym was.2 ∙ ap (λ m. owner_at m c.args.file) view ∙ sym c.in-Going.ensures in
    counts_stay c.self.inside.records c.self.inside.spare c.self.inside.out c.self.inside.workers c.self.invariant c.args.file c.set_owner.new.self was.0 was.1
    (record (standing_at c.self.inside.records.files c.args.file) { owner = Worker c.in-Going.to; note = 0 })
    (ap out_one going) (λ w. ap (with_one w) going) c.set_owner.ensures.files (omega (arith, c.set_owner.ensures.room, c.self.invariant.room))
