use Rattle.std.proofs.Common.{ap, sym, ◌∙◌, refl, subst, IsTrue, arith, ◌≡◌, cond, true}
use Rattle.std.specs.FinMap as map
use Rattle.ufs_owner.specs.declared.owner.Standing.{Standing}
use Rattle.ufs_owner.specs.Owners.{standing_at, owner_at, is_coming, is_known, has_none}
use Rattle.ufs_owner.proofs.KeptLemmas.{known_at, out_one, with_one}
use Rattle.ufs_owner.proofs.StepLemmas.{counts_stay, coming_known}
use Rattle.ufs_owner.proofs.table.OwnerTable.renote.Goals as goal

pub invariant_of-self : goal.invariant_of-self
invariant_of-self c =
    let view = ap (λ o. o.files) c.self.view_is in
    let was = known_at c.self.inside.records.files c.args.file is_coming refl (subst (λ m. IsTrue (is_coming (owner_at m c.args.file))) (sym view) c.requires) in
    let same : was.0.owner ≡ c.owner_of-owner.result = sym was.2 ∙ ap (λ m. owner_at m c.args.file) view ∙ sym c.owner_of-owner.ensures in
    let next : Standing = record (standing_at c.self.inside.records.files c.args.file) { owner = c.owner_of-owner.result; note = c.args.to } in
    let coming : IsTrue (is_coming c.owner_of-owner.result) = subst (λ o. IsTrue (is_coming o)) (sym c.owner_of-owner.ensures) c.requires in
    let known : is_known next ≡ true = coming_known next.owner (has_none next.waiting) coming in
    counts_stay c.self.inside.records c.self.inside.spare c.self.inside.out c.self.inside.workers c.self.invariant c.args.file c.set_owner.new.self was.0 was.1 next
    (ap out_one same) (λ w. ap (with_one w) same)
    (c.set_owner.ensures.files ∙ sym (ap (λ t. cond t (map.insert c.self.inside.records.files c.args.file next) (map.remove c.self.inside.records.files c.args.file)) known))
    (omega (arith, c.set_owner.ensures.room, c.self.invariant.room))
