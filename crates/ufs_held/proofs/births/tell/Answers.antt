use Rattle.std.proofs.Common.{ℕ, ap, inl, inr, ◌∙◌}
use Rattle.ufs_joint.specs.Cells.{View}
use Rattle.ufs_held.specs.Births.{told_in}
use Rattle.ufs_held.proofs.births.tell.Goals as goal

pub mark-requires-clause-may : goal.mark-requires-clause-may
mark-requires-clause-may g c =
    let v = c.args.hand.now in
    let s = c.requires.names in
    inr (inr (inr (inl (record { names = s.0; has = s.1; is = c.requires.leaves ∙ (λ i n. told_in (s.1 i) v) }))))

pub returns-clause-cells : goal.returns-clause-cells
returns-clause-cells g c = c.mark.ensures.cells ∙ ap (λ (f : ℕ → View). f c.mark.result) c.requires.leaves

pub returns-clause-knows : goal.returns-clause-knows
returns-clause-knows g c = c.mark.ensures.knows
