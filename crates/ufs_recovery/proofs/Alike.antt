-- Images that are the same from the inode table on say the same.
use Rattle.std.proofs.Common.{◌≡◌, ℕ, ◌*◌, ◌≤◌, inl, List, map, Option, unwrap_or, ap, sym, ◌∙◌, arith}
use Rattle.std.specs.Prelude.{not, ◌&&◌}
use Rattle.std.specs.List.{list_any, filter_map, slice_get}
use Rattle.ufs_base.specs.Choices.{some_if}
use Rattle.ufs_base.specs.Images.{Image}
use Rattle.ufs_layout.specs.Areas.{first_of_inodes, first_of_data, sector_of_inode, all_inodes}
use Rattle.ufs_layout.specs.DentryForm.{free_slot}
use Rattle.ufs_layout.specs.InodeForm.{InodeForm, inode_of, free_inode, is_used}
use Rattle.ufs_layout.specs.declared.geometry.Geometry.{Geometry}
use Rattle.ufs_image.specs.Catalog.{HasBlock, catalog_at}
use Rattle.ufs_image.specs.Images.{inode_at, form_at}
use Rattle.ufs_image.specs.Nodes.{blocks_of, is_bad_form, leaves_data, sound_nodes}
use Rattle.ufs_image.specs.Sound.{IsSoundCatalog}
use Rattle.ufs_image.specs.Walks.{inode_of as met_by}
use Rattle.ufs_image.proofs.Blocks.{read_same}
use Rattle.ufs_recovery.specs.Recovered.{HasNoOrphans}
use Rattle.ufs_recovery.proofs.Home.{block_low}
use Rattle.ufs_recovery.proofs.Pruned.{Prunes, pruned_walks}

-- From the inode table on they are the same.
abbrev pub AgreeBehind : Geometry → Image → Image → Type 0
AgreeBehind g image mix = (sector : ℕ) → 8 * first_of_inodes g ≤ sector → mix sector ≡ image sector

module _ (g : Geometry) (image mix : Image) (agree : AgreeBehind g image mix) where
  pub inode_alike : (k : ℕ) → inode_at g mix k ≡ inode_at g image k
  inode_alike k = ap inode_of (agree (sector_of_inode g k) (omega arith))

  pub form_alike : (k : ℕ) → form_at g mix k ≡ form_at g image k
  form_alike k = ap (λ o. unwrap_or o (free_inode 0)) (inode_alike k)

  pub nodes_alike : sound_nodes g mix ≡ sound_nodes g image
  nodes_alike = λ i. filter_map (λ k.
      let o : Option InodeForm = inode_alike k i in
      some_if (not (is_bad_form k o) && (not (not (is_bad_form k o) && list_any (leaves_data g) (unwrap_or o (free_inode 0)).extents) && is_used (unwrap_or o (free_inode 0)))) (k, unwrap_or o (free_inode 0))) (all_inodes g)

  module _ (sound : IsSoundCatalog g (catalog_at g image)) (some : 1 ≤ g.inodes) where
    low : (k p b : ℕ) → HasBlock g (catalog_at g mix) k p b → first_of_data g ≤ b
    low k p b has = block_low g (catalog_at g image) sound k p b has.in_range (ap (λ (f : InodeForm). slice_get (blocks_of f) p) (sym (form_alike k)) ∙ has.there)

    keeps_all : Prunes g (catalog_at g image) (catalog_at g mix)
    keeps_all = record {
      slots = λ k p b has dir. ap (map (λ o. unwrap_or o free_slot)) (sym (read_same image mix b (λ s of. let from = low k p b has in let at = of.same in sym (agree s (omega (arith, from, at))))));
      each = λ k ranged. inl (form_alike k);
      named = λ dir place x has now. ap (λ (f : InodeForm). f.kind) (form_alike x.inode);
    }

    pub walks_alike : (names : List (List ℕ)) → met_by (catalog_at g mix) names ≡ met_by (catalog_at g image) names
    walks_alike = pruned_walks g (catalog_at g image) (catalog_at g mix) sound some keeps_all

    pub orphans_alike : HasNoOrphans g image → HasNoOrphans g mix
    orphans_alike none k ranged used =
        let is = none k ranged (λ free. used (ap (λ (f : InodeForm). f.kind) (form_alike k) ∙ free)) in
        record { names = is.names; met = walks_alike is.names ∙ is.met }
