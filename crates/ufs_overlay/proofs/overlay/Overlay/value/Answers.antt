use Rattle.std.proofs.Common.{◌≡◌, ◌/◌, ap, ◌∙◌, false}
use Rattle.std.proofs.lemmas.List.{append-nil}
use Rattle.ufs_disk.specs.Disk.{bytes_from}
use Rattle.ufs_disk.specs.Moments.{reads}
use Rattle.ufs_overlay.specs.Lists.{lists_of}
use Rattle.ufs_overlay.specs.Steps.{stepped_all}
use Rattle.ufs_overlay.proofs.SectorFold.{fold_at}
use Rattle.ufs_overlay.proofs.ListLemmas.{forms_of}
use Rattle.ufs_overlay.proofs.overlay.Overlay.value.Goals as goal

pub step_all-requires-clause-form : goal.step_all-requires-clause-form
step_all-requires-clause-form g c = rw c.at.ensures (forms_of c.args.self.now.geometry c.args.sector (lists_of c.args.self.now.lists c.args.sector) (c.args.self.now.each_of_its_sector c.args.sector))

pub returns-clause-value : goal.returns-clause-value
returns-clause-value g c visible added has =
    let home = reads (g.D.Disk.moments c.args.disk.now) in
    let read : c.read.new.buf ≡ home c.args.sector = c.in_ok-read.ensures.bytes visible ∙ ap (λ n. bytes_from home c.args.sector (n / 512)) c.requires.sized ∙ append-nil (home c.args.sector) in
    c.step_all.ensures ∙ (λ i. stepped_all 0 false (c.at.ensures i) (read i)) ∙ (λ i. stepped_all 0 false (has.each c.args.sector i) (home c.args.sector)) ∙ fold_at c.args.self.now.geometry c.args.sector added 0 false home has.rising
