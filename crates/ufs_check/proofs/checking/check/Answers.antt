use Rattle.std.proofs.Common.{◌≡◌, List, Ok, sym, subst}
use Rattle.std.proofs.lemmas.Result.{err_from_is_err_and, IfErr-weaker, IfOk-weaker}
use Rattle.ufs_base.specs.Images.{Image}
use Rattle.ufs_disk.specs.Moments.{reads}
use Rattle.ufs_image.specs.Damage.{Damage, damage}
use Rattle.ufs_image.specs.Opens.{damage_list}
use Rattle.ufs_metadata.specs.Faults.{BlamesNone, IsOutside, IsWhyNot}
use Rattle.ufs_metadata.specs.Folded.{IsFolded}
use Rattle.ufs_metadata.proofs.Outside.{outside_blames, why_outside}
use Rattle.ufs_metadata.proofs.Quiet.{read_more}
use Rattle.ufs_volume.specs.Volumes.{folded_image, volume_in}
use Rattle.ufs_volume.proofs.Folds.{is_folded}
use Rattle.ufs_check.proofs.Listed.{why_volume, listed}
use Rattle.ufs_check.proofs.checking.check.Goals as goal

pub returns-in_err-volume-clause-refused : goal.returns-in_err-volume-clause-refused
returns-in_err-volume-clause-refused g c visible =
    let p = err_from_is_err_and c.from_residual.result c.from_residual.ensures.1 in
    rw (p.1, p.2) (why_volume (g.D.Disk.size c.args.disk.now) (reads (g.D.Disk.moments c.args.disk.now)) c.in_err-volume.field-0.0 (c.in_err-volume.ensures.refused visible))

pub returns-clause-list : goal.returns-clause-list
returns-clause-list g c visible =
    let v = c.in_ok-volume.volume in
    let sectors = g.D.Disk.size c.args.disk.now in
    let disk = reads (g.D.Disk.moments c.args.disk.now) in
    let content : reads (g.D.Disk.moments c.read_volume.new.disk) ≡ disk = (c.read_volume.ensures.read_only visible).content in
    let image = folded_image v disk in
    IfOk-weaker c.check_volume.result (λ (l : List Damage). l ≡ damage v.superblock.superblock.clean v.superblock.geometry image) (λ (l : List Damage). damage_list sectors disk ≡ Ok l)
    (λ l is. listed sectors disk (volume_in v disk) l (c.in_ok-volume.ensures.taken visible) is)
    (c.check_volume.ensures.list visible image (subst (λ (d : Image). IsFolded v.overlay d image) (sym content) (is_folded v disk (c.in_ok-volume.ensures.added visible))))

pub returns-clause-refused : goal.returns-clause-refused
returns-clause-refused g c visible =
    let given = damage_list (g.D.Disk.size c.args.disk.now) (reads (g.D.Disk.moments c.args.disk.now)) in
    IfErr-weaker c.check_volume.result IsOutside (IsWhyNot given) (why_outside given) c.check_volume.ensures.outside

pub returns-clause-blames_none : goal.returns-clause-blames_none
returns-clause-blames_none g c = IfErr-weaker c.check_volume.result IsOutside BlamesNone outside_blames c.check_volume.ensures.outside

pub returns-clause-read_only : goal.returns-clause-read_only
returns-clause-read_only g c visible =
    read_more g.D.Disk.keeps (g.D.Disk.moments c.args.disk.now) (g.D.Disk.moments c.read_volume.new.disk) (g.D.Disk.moments c.check_volume.new.disk) (c.read_volume.ensures.read_only visible) (c.check_volume.ensures.read_only visible)
