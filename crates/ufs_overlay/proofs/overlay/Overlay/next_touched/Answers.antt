use Rattle.std.proofs.Common.{◌≤◌, ◌*◌, inl, inr, arith}
use Rattle.std.proofs.lemmas.Bool.{cases_lt}
use Rattle.ufs_overlay.specs.Lists.{lists_of}
use Rattle.ufs_overlay.proofs.ListLemmas.{none_beyond}
use Rattle.ufs_overlay.proofs.overlay.Overlay.next_touched.Goals as goal

pub returns-else-sector-self-clause-none : goal.returns-else-sector-self-clause-none
returns-else-sector-self-clause-none c k from =
    let past : 8 * c.args.self.now.geometry.blocks ≤ c.in_ok-sector.sector = c.if-sector-self.false in
    elim (cases_lt k c.in_ok-sector.sector) [
      | inl under ↦ c.in_ok-sector.ensures.least k from under
      | inr behind ↦ none_beyond c.args.self.now.geometry k (lists_of c.args.self.now.lists k) c.args.self.now.limits (c.args.self.now.each_of_its_sector k) (omega (arith, past, behind))
    ]
