use Rattle.std.proofs.Common.{ap, ◌∙◌, arith, ◌<◌, List, ℕ}
use Rattle.ufs_owner.specs.declared.owner.Owner.TheVariants.{Going}
use Rattle.std.specs.FinMap as map
use Rattle.ufs_owner.specs.Owners.{owner_at, waiting_at}
use Rattle.ufs_owner.proofs.KeptLemmas.{with_le_out}
use Rattle.ufs_owner.proofs.StepLemmas.{kept_sent, unknown_at}
use Rattle.ufs_owner.proofs.table.OwnerTable.send.Goals as goal

pub add_one-requires : goal.add_one-requires
add_one-requires c =
    let spare = ap (λ o. o.spare) c.self.view_is in
    omega (arith, with_le_out c.self.inside.records c.self.inside.spare c.self.inside.out c.self.inside.workers c.self.invariant c.args.to c.ranges.to.fits, c.self.invariant.in_range, spare, c.in_ok-reserve.ensures.ok)

pub insert-requires-clause-absent : goal.insert-requires-clause-absent
insert-requires-clause-absent c =
    let view = ap (λ o. o.files) c.self.view_is ∙ c.in_ok-reserve.ensures.files in
    unknown_at c.self.inside.records c.self.inside.spare c.self.inside.out c.self.inside.workers c.self.invariant c.args.file
    (ap (λ m. owner_at m c.args.file) view ∙ c.requires.here) (ap (λ m. waiting_at m c.args.file) view ∙ c.requires.nobody)

pub invariant_of-self : goal.invariant_of-self
invariant_of-self c =
    let view = ap (λ o. o.files) c.self.view_is ∙ c.in_ok-reserve.ensures.files in
    let spare = ap (λ o. o.spare) c.self.view_is in
    let some : 0 < c.self.inside.spare = omega (arith, spare, c.in_ok-reserve.ensures.ok) in
    let none = unknown_at c.self.inside.records c.self.inside.spare c.self.inside.out c.self.inside.workers c.self.invariant c.args.file (ap (λ m. owner_at m c.args.file) view ∙ c.requires.here) (ap (λ m. waiting_at m c.args.file) view ∙ c.requires.nobody) in
    kept_sent c.self.inside.records c.self.inside.spare c.self.inside.out c.self.inside.workers c.self.invariant c.args.file c.insert.new.self c.args.to c.ranges.to.fits none some
    (c.insert.ensures.files ∙ ap (λ (xs : List ℕ). map.insert c.self.inside.records.files c.args.file (record { owner = Going c.args.to; note = 0; waiting = xs })) c.new.ensures)
    (omega (arith, c.insert.ensures.room, c.self.invariant.room)) c.add_one.new.workers c.add_one.ensures
