-- What a commit leaves.
use Rattle.std.proofs.Common.{◌≡◌, ℕ, ◌*◌, ◌-◌, ◌<◌, List, replicate, Bool, true, false, Some, map, ap, sym, refl, ◌∙◌, subst, arith}
use Rattle.std.specs.Prelude.{◌==◌, if◌then◌else◌, IsTrue}
use Rattle.std.specs.List.{slice_get}
use Rattle.std.proofs.lemmas.Bool.Decides.{nat_tests}
use Rattle.ufs_layout.specs.Words.{pieces}
use Rattle.ufs_layout.specs.Areas.{is_inode_number, sectors_of_block}
use Rattle.ufs_layout.specs.DentryForm.{dentry_of, free_slot}
use Rattle.ufs_image.specs.Formatted.{empty_sector}
use Rattle.ufs_base.specs.Images.{Image}
use Rattle.ufs_image.specs.Nodes.{blocks_of}
use Rattle.ufs_image.specs.Fold.{after_delta, with_committed}
use Rattle.ufs_layout.specs.declared.geometry.Geometry.{Geometry}
use Rattle.ufs_layout.specs.declared.inode.Extent.{Extent}
use Rattle.ufs_image.specs.Catalog.{Catalog, HasBlock, HasDirBlocks, IsCatalogOf}
use Rattle.ufs_image.specs.Nodes.{read_block}
use Rattle.ufs_image.specs.Sound.{IsSoundCatalog}
use Rattle.ufs_image.specs.Walks.{inode_of}
use Rattle.ufs_image.specs.Agree.{IsOfBlock}
use Rattle.ufs_image.specs.Folding.{Spells, FitsCommitted, file_commit, with_form, with_committed_in, is_newer_in}
use Rattle.ufs_image.specs.Changes.{MayBecome}
use Rattle.ufs_image.proofs.Lists.{flat_map-same}
use Rattle.ufs_image.proofs.Empty.{from_range}
use Rattle.ufs_image.proofs.Steps.{committed_step}
use Rattle.ufs_image.proofs.Changed.{spells_catalog, file_sound, file_walks, kinds}

pub free_block : (image : Image) (block : ℕ) → ((sector : ℕ) → IsOfBlock block sector → image sector ≡ empty_sector) → read_block image block ≡ map Some (replicate 64 free_slot)
free_block image block zeros =
    flat_map-same (λ s. map dentry_of (pieces 8 64 (image s))) (λ s. map dentry_of (pieces 8 64 empty_sector)) (sectors_of_block block)
    (λ s is. let at = from_range (8 * block) 8 s is in ap (λ bytes. map dentry_of (pieces 8 64 bytes)) (zeros s (record { slot = s - 8 * block; in_block = omega (arith, at.0, at.1); same = omega (arith, at.0) })))

module _ (g : Geometry) (these : ℕ → Bool) (image : Image) (c : Catalog) (number inode size keep : ℕ) (extents : List Extent) (is : Spells g true these image c)
    (dirs : HasDirBlocks g c these) (sound : IsSoundCatalog g c)
    (newer : (c.forms inode).number < number) (fits : FitsCommitted (file_commit number inode size keep extents)) (may : MayBecome g c inode (after_delta (c.forms inode) number 1 size keep extents)) where
  abbrev new : Catalog
  new = with_form inode (after_delta (c.forms inode) number 1 size keep extents) c

  catalog_is : with_committed_in g (file_commit number inode size keep extents) c ≡ new
  catalog_is =
      let from = may.in_range.from_one in
      let most = may.in_range.within in
      let ranged : is_inode_number g inode ≡ true = grind (arith, nat_tests, from, most) in
      let later : is_newer_in number c inode ≡ true = grind (arith, nat_tests, newer) in
      λ i. if ranged i then (if later i then new else c) else c

  spelled : Spells g true these (with_committed g (file_commit number inode size keep extents) image) new
  spelled = subst (Spells g true these (with_committed g (file_commit number inode size keep extents) image)) catalog_is (committed_step g true these image c (file_commit number inode size keep extents) is fits)

  -- the directories are as before
  same_block : (i place block : ℕ) → HasBlock g new i place block → (new.forms i).kind ≡ 2 → IsTrue (these block)
  same_block i place block has dir = by (i == inode) refl
    where
      was : (c.forms i).kind ≡ 2
      was = sym (kinds g c inode (after_delta (c.forms inode) number 1 size keep extents) sound may i) ∙ dir

      by : (b : Bool) → (i == inode) ≡ b → IsTrue (these block)
      by true e = let same : i ≡ inode = grind (arith, nat_tests, e) in let file : 1 ≡ 2 = sym may.was_file ∙ ap (λ k. (c.forms k).kind) (sym same) ∙ was in absurd (omega (arith, file))
      by false e = dirs block (record { inode = i; place = place; has = record { in_range = has.in_range; there = ap (λ b. slice_get (blocks_of (if b then after_delta (c.forms inode) number 1 size keep extents else c.forms i)) place) (sym e) ∙ has.there }; dir = was })

  same_dirs : HasDirBlocks g new these
  same_dirs block is_dir = same_block is_dir.inode is_dir.place block is_dir.has is_dir.dir

  pub file_committed : Spells g true these (with_committed g (file_commit number inode size keep extents) image) (with_form inode (after_delta (c.forms inode) number 1 size keep extents) c)
      × IsCatalogOf g (with_committed g (file_commit number inode size keep extents) image) (with_form inode (after_delta (c.forms inode) number 1 size keep extents) c)
      × IsSoundCatalog g (with_form inode (after_delta (c.forms inode) number 1 size keep extents) c)
      × ((names : List (List ℕ)) → inode_of (with_form inode (after_delta (c.forms inode) number 1 size keep extents) c) names ≡ inode_of c names)
  file_committed = (
    spelled,
    spells_catalog g these (with_committed g (file_commit number inode size keep extents) image) new spelled same_dirs,
    file_sound g c inode (after_delta (c.forms inode) number 1 size keep extents) sound may,
    file_walks g c inode (after_delta (c.forms inode) number 1 size keep extents) sound may,
  )
