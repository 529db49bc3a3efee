use Rattle.std.proofs.Common.{◌≡◌, ℕ, sym, ◌∙◌, subst}
use Rattle.std.proofs.lemmas.Result.{err_from_is_err_and}
use Rattle.ufs_base.specs.Images.{Image}
use Rattle.ufs_disk.specs.Moments.{reads}
use Rattle.ufs_damage.specs.Findings.{AreFindingsOf}
use Rattle.ufs_metadata.specs.Faults.{HasFaultCause}
use Rattle.ufs_metadata.specs.Folded.{IsFolded}
use Rattle.ufs_metadata.proofs.Quiet.{read_more}
use Rattle.ufs_volume.specs.Volumes.{folded_image, volume_in}
use Rattle.ufs_volume.proofs.Folds.{is_folded}
use Rattle.ufs_opening.proofs.Why.{why_volume, why_damage}
use Rattle.ufs_opening.proofs.opening.open.Goals as goal

pub returns-in_err-volume-clause-refused : goal.returns-in_err-volume-clause-refused
returns-in_err-volume-clause-refused g c visible =
    let p = err_from_is_err_and c.from_residual.result c.from_residual.ensures.1 in
    rw (p.1, p.2) (why_volume (g.D.Disk.size c.args.disk.now) (reads (g.D.Disk.moments c.args.disk.now)) c.in_err-volume.field-0.0 (c.in_err-volume.ensures.refused visible))

pub returns-in-Err-clause-refused : goal.returns-in-Err-clause-refused
returns-in-Err-clause-refused g c visible =
    let v = c.in_ok-volume.volume in
    let disk = reads (g.D.Disk.moments c.args.disk.now) in
    let content : reads (g.D.Disk.moments c.read_volume.new.disk) ≡ disk = (c.read_volume.ensures.read_only visible).content in
    let shown = is_folded v disk (c.in_ok-volume.ensures.added visible) in
    let found : AreFindingsOf v.superblock.geometry (folded_image v disk) c.in_ok-findings.findings = c.in_ok-findings.ensures.found visible (folded_image v disk) (subst (λ (d : Image). IsFolded v.overlay d (folded_image v disk)) (sym content) shown) in
    why_damage (g.D.Disk.size c.args.disk.now) disk (volume_in v disk) (c.in_ok-volume.ensures.taken visible) c.in-Err.fault (c.in-Err.ensures.refused (folded_image v disk) found)

pub returns-in-Err-clause-cause : goal.returns-in-Err-clause-cause
returns-in-Err-clause-cause g c =
    subst (λ (n : ℕ). HasFaultCause (g.D.Disk.faults c.args.disk.now) n c.in-Err.fault) (sym (c.in_ok-findings.ensures.passed ∙ c.in_ok-volume.ensures.passed)) (c.in-Err.ensures.calm (g.D.Disk.faults c.args.disk.now))

pub returns-in-Ok-clause-found : goal.returns-in-Ok-clause-found
returns-in-Ok-clause-found g c visible =
    let v = c.in_ok-volume.volume in
    let disk = reads (g.D.Disk.moments c.args.disk.now) in
    let content : reads (g.D.Disk.moments c.read_volume.new.disk) ≡ disk = (c.read_volume.ensures.read_only visible).content in
    let shown = is_folded v disk (c.in_ok-volume.ensures.added visible) in
    c.in_ok-findings.ensures.found visible (folded_image v disk) (subst (λ (d : Image). IsFolded v.overlay d (folded_image v disk)) (sym content) shown)

pub returns-in-Ok-clause-whole : goal.returns-in-Ok-clause-whole
returns-in-Ok-clause-whole g c visible =
    c.in-Ok.ensures.whole (folded_image c.in_ok-volume.volume (reads (g.D.Disk.moments c.args.disk.now))) (returns-in-Ok-clause-found g c visible)

pub returns-in_err-findings-clause-read_only : goal.returns-in_err-findings-clause-read_only
returns-in_err-findings-clause-read_only g c visible = read_more g.D.Disk.keeps (g.D.Disk.moments c.args.disk.now) (g.D.Disk.moments c.read_volume.new.disk) (g.D.Disk.moments c.read_findings.new.disk) (c.read_volume.ensures.read_only visible) (c.read_findings.ensures.read_only visible)

pub returns-in-Err-clause-read_only : goal.returns-in-Err-clause-read_only
returns-in-Err-clause-read_only g c visible = read_more g.D.Disk.keeps (g.D.Disk.moments c.args.disk.now) (g.D.Disk.moments c.read_volume.new.disk) (g.D.Disk.moments c.read_findings.new.disk) (c.read_volume.ensures.read_only visible) (c.read_findings.ensures.read_only visible)

pub returns-in-Ok-clause-read_only : goal.returns-in-Ok-clause-read_only
returns-in-Ok-clause-read_only g c visible = read_more g.D.Disk.keeps (g.D.Disk.moments c.args.disk.now) (g.D.Disk.moments c.read_volume.new.disk) (g.D.Disk.moments c.read_findings.new.disk) (c.read_volume.ensures.read_only visible) (c.read_findings.ensures.read_only visible)
