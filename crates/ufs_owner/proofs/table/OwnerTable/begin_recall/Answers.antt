use Rattle.std.proofs.Common.{ap, sym, ◌∙◌, refl, subst, IsTrue, arith, ◌≡◌, ◌<◌}
use Rattle.ufs_owner.specs.declared.owner.Owner.TheVariants.{Coming}
use Rattle.ufs_owner.specs.declared.owner.Standing.{Standing}
use Rattle.ufs_owner.specs.Owners.{standing_at, owner_at, is_out, recalled}
use Rattle.ufs_owner.proofs.KeptLemmas.{known_at}
use Rattle.ufs_owner.proofs.StepLemmas.{some_recalled, kept_recalled}
use Rattle.ufs_owner.proofs.table.OwnerTable.begin_recall.Goals as goal

pub take_one-requires : goal.take_one-requires
take_one-requires c =
    let view = ap (λ o. o.files) c.self.view_is in
    let out : IsTrue (is_out (owner_at c.self.inside.records.files c.args.file)) = subst (λ m. IsTrue (is_out (owner_at m c.args.file))) (sym view) c.requires in
    let was = known_at c.self.inside.records.files c.args.file is_out refl out in
    let goes : IsTrue (is_out was.0.owner) = subst (λ o. IsTrue (is_out o)) was.2 out in
    let came : recalled was.0.owner ≡ Coming c.worker_of-from.result = ap recalled (sym was.2 ∙ ap (λ m. owner_at m c.args.file) view ∙ sym c.owner_of.ensures) ∙ c.worker_of-from.ensures in
    let low : c.worker_of-from.result < 256 = c.worker_of-from.type_inv in
    some_recalled c.self.inside.records c.self.inside.spare c.self.inside.out c.self.inside.workers c.self.invariant c.args.file c.self.inside.records c.worker_of-from.result low was.0 was.1 goes came

pub invariant_of-self : goal.invariant_of-self
invariant_of-self c =
    let view = ap (λ o. o.files) c.self.view_is in
    let out : IsTrue (is_out (owner_at c.self.inside.records.files c.args.file)) = subst (λ m. IsTrue (is_out (owner_at m c.args.file))) (sym view) c.requires in
    let was = known_at c.self.inside.records.files c.args.file is_out refl out in
    let goes : IsTrue (is_out was.0.owner) = subst (λ o. IsTrue (is_out o)) was.2 out in
    let came : recalled was.0.owner ≡ Coming c.worker_of-from.result = ap recalled (sym was.2 ∙ ap (λ m. owner_at m c.args.file) view ∙ sym c.owner_of.ensures) ∙ c.worker_of-from.ensures in
    let low : c.worker_of-from.result < 256 = c.worker_of-from.type_inv in
    let next : Standing = record (standing_at c.self.inside.records.files c.args.file) { owner = Coming c.worker_of-from.result; note = c.args.to } in
    kept_recalled c.self.inside.records c.self.inside.spare c.self.inside.out c.self.inside.workers c.self.invariant c.args.file c.set_owner.new.self c.worker_of-from.result low was.0 was.1 goes came next refl
    c.set_owner.ensures.files (omega (arith, c.set_owner.ensures.room, c.self.invariant.room)) c.take_one.new.workers c.take_one.ensures
