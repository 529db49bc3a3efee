use Rattle.std.proofs.Common.{◌≡◌, ◌<◌, ℕ, List, Option, length, map, ap, sym, ◌∙◌, subst, arith}
use Rattle.std.specs.Prelude.{nat_le, nat_lt, ◌*◌}
use Rattle.std.proofs.lemmas.Bool.{and_parts, ltb-true}
use Rattle.std.proofs.lemmas.Result.{err_from_is_err_and}
use Rattle.ufs_base.specs.Images.{Image}
use Rattle.ufs_disk.specs.Moments.{reads}
use Rattle.ufs_disk.proofs.Images.{seen_is_image}
use Rattle.ufs_layout.specs.Areas.{first_of_data, sector_count}
use Rattle.ufs_layout.specs.InodeForm.{InodeForm}
use Rattle.ufs_image.specs.Catalog.{catalog_at}
use Rattle.ufs_image.specs.Sound.{IsSoundCatalog}
use Rattle.ufs_image.specs.Volume.{Volume}
use Rattle.ufs_image.proofs.Blamed.{undamaged}
use Rattle.ufs_image.proofs.Whole.{whole_read}
use Rattle.ufs_volume.specs.Volumes.{committed_in, folded_image, volume_in}
use Rattle.ufs_volume.proofs.Folds.{can_fold, is_folded}
use Rattle.ufs_walk.specs.Walked.{AreInodes, entry_of, pairs_of}
use Rattle.ufs_walk.specs.declared.places.PathAt.{PathAt}
use Rattle.ufs_opening.specs.Heads.{heads_of}
use Rattle.ufs_opening.specs.Heads as heads
use Rattle.ufs_opening.specs.Shown.{AreReadable, IsOpened}
use Rattle.ufs_opening.specs.declared.opened.Opened.{Opened}
use Rattle.ufs_opening.proofs.Lengths.{file_sized, folded_sized}
use Rattle.ufs_opening.proofs.Trees.{has_heads, heads_by, head_keys, place_keys, rising_same, unseen_heads}
use Rattle.ufs_opening.proofs.tree.heads_in.Goals as goal

readable : (o : Opened) (sectors : ℕ) (disk : Image) (forms : List (Option InodeForm)) → forms ≡ o.findings.forms → IsOpened o sectors disk → ((s : ℕ) → s < sector_count o.volume.superblock.geometry → length (disk s) ≡ 512)
    → IsSoundCatalog o.volume.superblock.geometry (catalog_at o.volume.superblock.geometry (folded_image o.volume disk)) → AreReadable o.volume.superblock.geometry (folded_image o.volume disk) forms
readable o sectors disk forms same is long sound =
    let geometry = o.volume.superblock.geometry in
    let image = folded_image o.volume disk in
    let read = whole_read geometry image (undamaged geometry image is.whole) in
    record {
      forms_are = same ∙ is.found.forms;
      on_form = read.forms;
      inside = read.extents;
      sized = file_sized geometry image (λ s within.
          folded_sized geometry s within (committed_in o.volume disk) disk (can_fold sectors o.volume disk is.taken)
          (long s (ltb-true s (sector_count geometry) (and_parts (nat_le (8 * first_of_data geometry) s) (nat_lt s (sector_count geometry)) within).1))) sound;
    }

pub returns-in_err-heads-clause-outside : goal.returns-in_err-heads-clause-outside
returns-in_err-heads-clause-outside g c visible sectors is =
    let o = c.args.opened.now in
    let disk = reads (g.D.Disk.moments c.args.disk.now) in
    let image = folded_image o.volume disk in
    let long : (s : ℕ) → s < sector_count o.volume.superblock.geometry → length (disk s) ≡ 512 = λ s less. ((g.met.D.Disk.whole visible c.args.disk.now).within s (omega (arith, less, c.requires.large)) _ (seen_is_image (g.D.Disk.moments c.args.disk.now).state s)).sized in
    let sound = c.damage_law.ensures.sound image (catalog_at o.volume.superblock.geometry image) (c.damage_law.ensures.catalog image is.whole) is.whole in
    let all : AreInodes o.volume.superblock.geometry (pairs_of c.deref.result.now) = subst (λ (ps : List PathAt). AreInodes o.volume.superblock.geometry (pairs_of ps)) (sym c.deref.ensures.value) (c.in_ok-places.ensures.inodes image is.found is.whole) in
    let p = err_from_is_err_and c.from_residual-in_err-heads.result c.from_residual-in_err-heads.ensures.1 in
    rw (p.1, p.2) (c.in_err-heads.ensures.outside visible image (is_folded o.volume disk is.added) (readable o sectors disk c.forms-forms.result.now c.forms-forms.ensures is long sound) all)

pub returns-clause-rising : goal.returns-clause-rising
returns-clause-rising g c =
    rising_same (heads.pairs_of c.in_ok-heads.heads.items) (pairs_of c.in_ok-places.places.items)
    (head_keys c.in_ok-heads.heads.items ∙ c.in_ok-heads.ensures.paths ∙ ap (map (λ (p : PathAt). p.path.items)) c.deref.ensures.value ∙ sym (place_keys c.in_ok-places.places.items))
    ∙ c.in_ok-places.ensures.rising

pub returns-clause-heads : goal.returns-clause-heads
returns-clause-heads g c sectors opened =
    heads_by g.D.Disk.visible sectors (reads (g.D.Disk.moments c.args.disk.now)) c.args.most c.in_ok-heads.heads.items (λ visible.
    let is = opened visible in
    let o = c.args.opened.now in
    let disk = reads (g.D.Disk.moments c.args.disk.now) in
    let image = folded_image o.volume disk in
    let v : Volume = volume_in o.volume disk in
    let long : (s : ℕ) → s < sector_count o.volume.superblock.geometry → length (disk s) ≡ 512 = λ s less. ((g.met.D.Disk.whole visible c.args.disk.now).within s (omega (arith, less, c.requires.large)) _ (seen_is_image (g.D.Disk.moments c.args.disk.now).state s)).sized in
    let sound = c.damage_law.ensures.sound image (catalog_at o.volume.superblock.geometry image) (c.damage_law.ensures.catalog image is.whole) is.whole in
    let all : AreInodes o.volume.superblock.geometry (pairs_of c.deref.result.now) = subst (λ (ps : List PathAt). AreInodes o.volume.superblock.geometry (pairs_of ps)) (sym c.deref.ensures.value) (c.in_ok-places.ensures.inodes image is.found is.whole) in
    has_heads sectors disk v c.in_ok-places.places.items is.taken is.whole sound.root (c.in_ok-places.ensures.places image is.found is.whole) c.args.most c.in_ok-heads.heads.items c.in_ok-places.ensures.rising
    (c.in_ok-heads.ensures.heads visible image (is_folded o.volume disk is.added) (readable o sectors disk c.forms-forms.result.now c.forms-forms.ensures is long sound) all
    ∙ ap (λ (ps : List PathAt). heads_of c.args.most (map (entry_of o.volume.superblock.geometry image) (pairs_of ps))) c.deref.ensures.value))
    (unseen_heads sectors (reads (g.D.Disk.moments c.args.disk.now)) c.args.most c.in_ok-heads.heads.items (returns-clause-rising g c) c.in_ok-heads.ensures.shape)
