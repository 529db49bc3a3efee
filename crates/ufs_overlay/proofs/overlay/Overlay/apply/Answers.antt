use Rattle.std.proofs.Common.{ap, ◌∙◌, false}
use Rattle.ufs_overlay.specs.Lists.{lists_of}
use Rattle.ufs_overlay.specs.Steps.{stepped_all}
use Rattle.ufs_overlay.proofs.SectorFold.{fold_at}
use Rattle.ufs_overlay.proofs.ListLemmas.{forms_of}
use Rattle.ufs_overlay.proofs.overlay.Overlay.apply.Goals as goal

pub step_all-requires-clause-form : goal.step_all-requires-clause-form
step_all-requires-clause-form c = rw c.at.ensures (forms_of c.args.self.now.geometry c.args.sector (lists_of c.args.self.now.lists c.args.sector) (c.args.self.now.each_of_its_sector c.args.sector))

pub returns : goal.returns
returns c added image has home =
    c.step_all.ensures ∙ (λ i. stepped_all 0 false (c.at.ensures i) (home i)) ∙ (λ i. stepped_all 0 false (has.each c.args.sector i) (image c.args.sector)) ∙ fold_at c.args.self.now.geometry c.args.sector added 0 false image has.rising
