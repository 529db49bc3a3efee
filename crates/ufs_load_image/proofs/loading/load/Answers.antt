use Rattle.std.proofs.Common.{◌≡◌, Some, map, ap, sym, ◌∙◌, subst}
use Rattle.ufs_base.specs.Images.{Image}
use Rattle.ufs_disk.specs.Moments.{reads}
use Rattle.ufs_layout.specs.Areas.{all_inodes}
use Rattle.ufs_image.specs.Images.{inode_at, form_at}
use Rattle.ufs_image.specs.Catalog.{IsCatalogOf, catalog_at}
use Rattle.ufs_image.specs.Sound.{IsSoundCatalog}
use Rattle.ufs_image.proofs.Holders.{inode_in}
use Rattle.ufs_image.proofs.Journals.{map-same}
use Rattle.ufs_damage.specs.Findings.{AreFindingsOf, CatalogRead}
use Rattle.ufs_volume.specs.Volumes.{committed_in, folded_image, highest_number}
use Rattle.ufs_volume.specs.declared.volume.FoldedVolume.{FoldedVolume}
use Rattle.ufs_load_image.specs.Loaded.{is_free_block}
use Rattle.ufs_load_image.proofs.loading.load.Goals as goal

pub returns-in-Ok-clause-found : goal.returns-in-Ok-clause-found
returns-in-Ok-clause-found g c visible =
    let v = c.in_ok-opened.opened.volume in
    let disk = reads (g.D.Disk.moments c.args.disk.now) in
    subst (λ (x : FoldedVolume). AreFindingsOf x.superblock.geometry (folded_image x disk) c.in-Ok.loaded.findings) (sym c.in-Ok.ensures.volume)
    (subst (AreFindingsOf v.superblock.geometry (folded_image v disk)) (sym c.in-Ok.ensures.findings) (c.in_ok-opened.ensures.found visible))

pub returns-in-Ok-clause-catalog : goal.returns-in-Ok-clause-catalog
returns-in-Ok-clause-catalog g c visible =
    let disk = reads (g.D.Disk.moments c.args.disk.now) in
    subst (λ (x : FoldedVolume). IsCatalogOf x.superblock.geometry (folded_image x disk) (catalog_at x.superblock.geometry (folded_image x disk))) (sym c.in-Ok.ensures.volume)
    (c.in-Ok.ensures.catalog (folded_image c.in_ok-opened.opened.volume disk) (c.in_ok-opened.ensures.whole visible))

pub returns-in-Ok-clause-free : goal.returns-in-Ok-clause-free
returns-in-Ok-clause-free g c visible b =
    let disk = reads (g.D.Disk.moments c.args.disk.now) in
    c.in-Ok.ensures.free (folded_image c.in_ok-opened.opened.volume disk) (c.in_ok-opened.ensures.found visible) b
    ∙ ap (λ (x : FoldedVolume). is_free_block x.superblock.geometry (folded_image x disk) b) (sym c.in-Ok.ensures.volume)

pub returns-in-Ok-clause-free_of : goal.returns-in-Ok-clause-free_of
returns-in-Ok-clause-free_of g c image found b =
    let was : AreFindingsOf c.in_ok-opened.opened.volume.superblock.geometry image c.in_ok-opened.opened.findings =
    subst (λ (x : FoldedVolume). AreFindingsOf x.superblock.geometry image c.in_ok-opened.opened.findings) c.in-Ok.ensures.volume
    (subst (AreFindingsOf c.in-Ok.loaded.volume.superblock.geometry image) c.in-Ok.ensures.findings found) in
    c.in-Ok.ensures.free image was b ∙ ap (λ (x : FoldedVolume). is_free_block x.superblock.geometry image b) (sym c.in-Ok.ensures.volume)

pub returns-in-Ok-clause-highest : goal.returns-in-Ok-clause-highest
returns-in-Ok-clause-highest g c visible =
    let disk = reads (g.D.Disk.moments c.args.disk.now) in
    subst (λ (x : FoldedVolume). x.highest ≡ highest_number (committed_in x disk)) (sym c.in-Ok.ensures.volume) (c.in_ok-opened.ensures.highest visible)

pub returns-in-Ok-clause-forms : goal.returns-in-Ok-clause-forms
returns-in-Ok-clause-forms g c visible =
    let v = c.in_ok-opened.opened.volume in
    let disk = reads (g.D.Disk.moments c.args.disk.now) in
    let image : Image = folded_image v disk in
    let is : IsCatalogOf v.superblock.geometry image (catalog_at v.superblock.geometry image) = c.in-Ok.ensures.catalog image (c.in_ok-opened.ensures.whole visible) in
    ap (λ (f : CatalogRead). f.forms) c.in-Ok.ensures.findings ∙ (c.in_ok-opened.ensures.found visible).forms
    ∙ map-same (inode_at v.superblock.geometry image) (λ inode. Some (form_at v.superblock.geometry image inode)) (all_inodes v.superblock.geometry) (λ inode there. is.forms inode (inode_in v.superblock.geometry inode there))
    ∙ ap (λ (x : FoldedVolume). map (λ inode. Some (form_at x.superblock.geometry (folded_image x disk) inode)) (all_inodes x.superblock.geometry)) (sym c.in-Ok.ensures.volume)

pub returns-in-Ok-clause-sound : goal.returns-in-Ok-clause-sound
returns-in-Ok-clause-sound g c visible =
    let disk = reads (g.D.Disk.moments c.args.disk.now) in
    subst (λ (x : FoldedVolume). IsSoundCatalog x.superblock.geometry (catalog_at x.superblock.geometry (folded_image x disk))) (sym c.in-Ok.ensures.volume)
    (c.in-Ok.ensures.sound (folded_image c.in_ok-opened.opened.volume disk) (c.in_ok-opened.ensures.whole visible))
