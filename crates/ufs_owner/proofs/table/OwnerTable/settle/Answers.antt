use Rattle.std.proofs.Common.{ap, sym, ◌∙◌, refl, subst, IsTrue, arith}
use Rattle.ufs_owner.specs.declared.owner.Owner.TheVariants.{Primary}
use Rattle.ufs_owner.specs.declared.owner.Standing.{Standing}
use Rattle.ufs_owner.specs.Owners.{Owners, standing_at, owner_at, is_coming, with_owner}
use Rattle.ufs_owner.proofs.KeptLemmas.{known_at, out_some, standing_after, known_put}
use Rattle.ufs_owner.proofs.StepLemmas.{kept_settled, coming_counts}
use Rattle.ufs_owner.proofs.table.OwnerTable.settle.Goals as goal

pub overflow_sub-self : goal.overflow_sub-self
overflow_sub-self c =
    let view = ap (λ o. o.files) c.self.view_is in
    let was = known_at c.self.inside.records.files c.args.file is_coming refl (subst (λ m. IsTrue (is_coming (owner_at m c.args.file))) (sym view) c.requires) in
    let coming : IsTrue (is_coming was.0.owner) = subst (λ o. IsTrue (is_coming o)) was.2 (subst (λ m. IsTrue (is_coming (owner_at m c.args.file))) (sym view) c.requires) in
    omega (arith, coming_counts was.0.owner coming, out_some c.self.inside.records c.self.inside.spare c.self.inside.out c.self.inside.workers c.self.invariant c.args.file was.0 was.1)

pub forget_unknown-requires : goal.forget_unknown-requires
forget_unknown-requires c = known_put c.self.inside.records.files c.set_owner.new.self.files c.args.file _ c.set_owner.ensures.files

pub invariant_of-self : goal.invariant_of-self
invariant_of-self c =
    let view = ap (λ o. o.files) c.self.view_is in
    let was = known_at c.self.inside.records.files c.args.file is_coming refl (subst (λ m. IsTrue (is_coming (owner_at m c.args.file))) (sym view) c.requires) in
    let coming : IsTrue (is_coming was.0.owner) = subst (λ o. IsTrue (is_coming o)) was.2 (subst (λ m. IsTrue (is_coming (owner_at m c.args.file))) (sym view) c.requires) in
    let next : Standing = record (standing_at c.self.inside.records.files c.args.file) { owner = Primary; note = 0 } in
    kept_settled c.self.inside.records c.self.inside.spare c.self.inside.out c.self.inside.workers c.self.invariant c.args.file c.forget_unknown.new.self was.0 was.1 coming next refl
    (c.forget_unknown.ensures.files ∙ standing_after c.self.inside.records.files c.set_owner.new.self.files c.args.file next c.set_owner.ensures.files)
    (omega (arith, c.set_owner.ensures.room, c.forget_unknown.ensures.room, c.self.invariant.room))

pub returns-clause-files : goal.returns-clause-files
returns-clause-files c =
    let next : Standing = record (standing_at c.self.inside.records.files c.args.file) { owner = Primary; note = 0 } in
    ap (λ files. record { files = files; spare = c.self.inside.spare })
    (c.forget_unknown.ensures.files ∙ standing_after c.self.inside.records.files c.set_owner.new.self.files c.args.file next c.set_owner.ensures.files)
    ∙ ap (λ (o : Owners). record { files = with_owner o.files c.args.file Primary 0; spare = o.spare }) c.self.view_is
