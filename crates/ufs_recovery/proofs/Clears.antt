-- An image in which inodes that no walk meets are cleared.
use Rattle.std.proofs.Common.{◌≡◌, ℕ, zero, suc, ◌+◌, ◌-◌, ◌*◌, ◌<◌, ◌≤◌, ◌⊎◌, inl, inr, List, [], ◌∷◌, length, map, Option, Some, None, unwrap_or, ap, sym, ◌∙◌, subst, arith}
use Rattle.std.specs.Prelude.{flat_map}
use Rattle.std.specs.List.{slice_get, range_with_len}
use Rattle.ufs_base.specs.Images.{Image}
use Rattle.ufs_layout.specs.Areas.{sector_of_inode, first_of_inodes, first_of_journal, first_of_data}
use Rattle.ufs_layout.specs.InodeForm.{InodeForm, inode_of, free_inode}
use Rattle.ufs_layout.specs.DentryForm.{DentryForm, free_slot}
use Rattle.ufs_layout.specs.Superblock.{geometry_of}
use Rattle.ufs_layout.specs.declared.geometry.Geometry.{Geometry}
use Rattle.ufs_layout.specs.declared.inode.Extent.{Extent}
use Rattle.ufs_layout.specs.declared.superblock.Super.{Super}
use Rattle.ufs_image.specs.Agree.{IsOfBlock, IsOfJournal}
use Rattle.ufs_image.specs.Catalog.{Catalog, IsInode, HasBlock, IsCatalogOf, catalog_at}
use Rattle.ufs_image.specs.Changes.{IsUnreached}
use Rattle.ufs_image.specs.Images.{inode_at, form_at}
use Rattle.ufs_image.specs.Nodes.{blocks_of, read_block}
use Rattle.ufs_image.specs.Opens.{opens}
use Rattle.ufs_image.specs.Sound.{IsSoundCatalog, HasDentry}
use Rattle.ufs_image.specs.Walks.{inode_of as met_by, node_of}
use Rattle.ufs_image.proofs.Blocks.{read_same}
use Rattle.ufs_image.proofs.Depth.{root_in_range}
use Rattle.ufs_image.proofs.Found.{reached}
use Rattle.ufs_image.proofs.OneTree.{alike_tree, node_same}
use Rattle.ufs_recovery.specs.Cleared.{cleared, Numbers, IsClearedAt, IsMixedCleared}
use Rattle.ufs_recovery.specs.Home.{IsAtHome}
use Rattle.ufs_recovery.specs.Orphans.{AreUnreached}
use Rattle.ufs_recovery.proofs.Home.{is_geometry, stays_home, block_low}
use Rattle.ufs_recovery.proofs.Pruned.{HasNoBlocks, Prunes, reached_same, pruned_sound, pruned_walks, had_block}

pub get_short : {X : Type 0} (xs : List X) (p : ℕ) (x : X) → slice_get xs p ≡ Some x → p < length xs
get_short [] p x is = let no = is in cc
get_short (y ∷ xs) zero x is = omega arith
get_short (y ∷ xs) (suc p) x is = let rest = get_short xs p x is in omega (arith, rest)

module _ (sectors : ℕ) (superblock : Super) (image : Image) (home : IsAtHome sectors superblock image) (kind : ℕ) (numbers : Numbers) (sized : length numbers ≡ (geometry_of superblock).inodes)
    (unreached : AreUnreached (catalog_at (geometry_of superblock) image) numbers) (mix : Image) (mixed : IsMixedCleared (geometry_of superblock) kind numbers image mix) where
  abbrev g : Geometry
  g = geometry_of superblock

  abbrev c : Catalog
  c = catalog_at (geometry_of superblock) image

  abbrev d : Catalog
  d = catalog_at (geometry_of superblock) mix

  some : 1 ≤ (geometry_of superblock).inodes
  some = let least = (is_geometry sectors superblock image home).0.least_inodes in omega (arith, least)

  sound : IsSoundCatalog (geometry_of superblock) (catalog_at (geometry_of superblock) image)
  sound = home.is.sound

  -- what lies off the inode table stands
  pub off_table : (sector : ℕ) → (sector < 8 * first_of_inodes (geometry_of superblock)) ⊎ (8 * first_of_journal (geometry_of superblock) ≤ sector) → mix sector ≡ image sector
  off_table sector off = by (mixed sector)
    where
      by : (mix sector ≡ image sector) ⊎ IsClearedAt (geometry_of superblock) kind numbers sector (mix sector) → mix sector ≡ image sector
      by (inl e) = e
      by (inr cl) =
          let there = cl.there in
          let short = get_short numbers cl.place (Some cl.number) cl.chosen in
          elim off [
            | inl low ↦ absurd (omega (arith, there, low))
            | inr high ↦ absurd (omega (arith, there, high, short, sized))
          ]

  first : mix 0 ≡ image 0
  first = off_table 0 (inl (omega arith))

  block_same : (block sector : ℕ) → first_of_data (geometry_of superblock) ≤ block → IsOfBlock block sector → image sector ≡ mix sector
  block_same block sector from of = let at = of.same in sym (off_table sector (inr (omega (arith, from, at))))

  -- An inode is as before, or it is cleared.
  pub each_form : (k : ℕ) → IsInode (geometry_of superblock) k → (inode_at (geometry_of superblock) mix k ≡ inode_at (geometry_of superblock) image k) ⊎ ((number : ℕ) × (slice_get numbers (k - 1) ≡ Some (Some number)) × (inode_at (geometry_of superblock) mix k ≡ Some (cleared kind number)))
  each_form k ranged = by (mixed (sector_of_inode (geometry_of superblock) k))
    where
      by : (mix (sector_of_inode (geometry_of superblock) k) ≡ image (sector_of_inode (geometry_of superblock) k)) ⊎ IsClearedAt (geometry_of superblock) kind numbers (sector_of_inode (geometry_of superblock) k) (mix (sector_of_inode (geometry_of superblock) k))
          → (inode_at (geometry_of superblock) mix k ≡ inode_at (geometry_of superblock) image k) ⊎ ((number : ℕ) × (slice_get numbers (k - 1) ≡ Some (Some number)) × (inode_at (geometry_of superblock) mix k ≡ Some (cleared kind number)))
      by (inl e) = inl (ap inode_of e)
      by (inr cl) =
          let there = cl.there in
          let at : cl.place ≡ k - 1 = omega (arith, there) in
          inr (cl.number, subst (λ p. slice_get numbers p ≡ Some (Some cl.number)) at cl.chosen, cl.form)

  one_up : (k : ℕ) → IsInode (geometry_of superblock) k → k - 1 + 1 ≡ k
  one_up k ranged = let from = ranged.from_one in omega (arith, from)

  pub each_pruned : (k : ℕ) → IsInode (geometry_of superblock) k → (form_at (geometry_of superblock) mix k ≡ form_at (geometry_of superblock) image k) ⊎ (IsUnreached (catalog_at (geometry_of superblock) image) k × HasNoBlocks (form_at (geometry_of superblock) mix k))
  each_pruned k ranged = by (each_form k ranged)
    where
      by : (inode_at (geometry_of superblock) mix k ≡ inode_at (geometry_of superblock) image k) ⊎ ((number : ℕ) × (slice_get numbers (k - 1) ≡ Some (Some number)) × (inode_at (geometry_of superblock) mix k ≡ Some (cleared kind number)))
          → (form_at (geometry_of superblock) mix k ≡ form_at (geometry_of superblock) image k) ⊎ (IsUnreached (catalog_at (geometry_of superblock) image) k × HasNoBlocks (form_at (geometry_of superblock) mix k))
      by (inl e) = inl (ap (λ o. unwrap_or o (free_inode 0)) e)
      by (inr cl) =
          let form : form_at (geometry_of superblock) mix k ≡ cleared kind cl.0 = ap (λ o. unwrap_or o (free_inode 0)) cl.2 in
          inr (
            subst (IsUnreached (catalog_at (geometry_of superblock) image)) (one_up k ranged) (unreached (k - 1) cl.0 cl.1).0,
            record { extents = ap (λ (f : InodeForm). f.extents) form; size = ap (λ (f : InodeForm). f.size) form },
          )

  -- Each keeps its commit number.
  pub each_number : (k : ℕ) → IsInode (geometry_of superblock) k → (form_at (geometry_of superblock) mix k).number ≡ (form_at (geometry_of superblock) image k).number
  each_number k ranged = by (each_form k ranged)
    where
      by : (inode_at (geometry_of superblock) mix k ≡ inode_at (geometry_of superblock) image k) ⊎ ((number : ℕ) × (slice_get numbers (k - 1) ≡ Some (Some number)) × (inode_at (geometry_of superblock) mix k ≡ Some (cleared kind number)))
          → (form_at (geometry_of superblock) mix k).number ≡ (form_at (geometry_of superblock) image k).number
      by (inl e) = ap (λ o. (unwrap_or o (free_inode 0)).number) e
      by (inr cl) = ap (λ o. (unwrap_or o (free_inode 0)).number) cl.2 ∙ (unreached (k - 1) cl.0 cl.1).1 ∙ ap (λ n. (form_at (geometry_of superblock) image n).number) (one_up k ranged)

  spelled_forms : (k : ℕ) → IsInode (geometry_of superblock) k → inode_at (geometry_of superblock) mix k ≡ Some (form_at (geometry_of superblock) mix k)
  spelled_forms k ranged = by (each_form k ranged)
    where
      again : (o : Option InodeForm) (f : InodeForm) → o ≡ Some f → o ≡ Some (unwrap_or o (free_inode 0))
      again o f e = e ∙ ap (λ p. Some (unwrap_or p (free_inode 0))) (sym e)

      by : (inode_at (geometry_of superblock) mix k ≡ inode_at (geometry_of superblock) image k) ⊎ ((number : ℕ) × (slice_get numbers (k - 1) ≡ Some (Some number)) × (inode_at (geometry_of superblock) mix k ≡ Some (cleared kind number)))
          → inode_at (geometry_of superblock) mix k ≡ Some (form_at (geometry_of superblock) mix k)
      by (inl e) = again (inode_at (geometry_of superblock) mix k) (form_at (geometry_of superblock) image k) (e ∙ home.is.catalog.forms k ranged)
      by (inr cl) = again (inode_at (geometry_of superblock) mix k) (cleared kind cl.0) cl.2

  -- a block that is held now was held before
  low : (k p b : ℕ) → HasBlock (geometry_of superblock) (catalog_at (geometry_of superblock) mix) k p b → first_of_data (geometry_of superblock) ≤ b
  low k p b has = by (each_pruned k has.in_range)
    where
      by : (form_at (geometry_of superblock) mix k ≡ form_at (geometry_of superblock) image k) ⊎ (IsUnreached (catalog_at (geometry_of superblock) image) k × HasNoBlocks (form_at (geometry_of superblock) mix k)) → first_of_data (geometry_of superblock) ≤ b
      by (inl e) = block_low (geometry_of superblock) (catalog_at (geometry_of superblock) image) sound k p b has.in_range (ap (λ (f : InodeForm). slice_get (blocks_of f) p) (sym e) ∙ has.there)
      by (inr bare) = let no : None ≡ Some b = sym (ap (λ es. slice_get (flat_map (λ (e : Extent). range_with_len e.start e.length) es) p) bare.1.extents) ∙ has.there in absurd cc

  slots_same : (b : ℕ) → first_of_data (geometry_of superblock) ≤ b → read_block mix b ≡ read_block image b
  slots_same b from = sym (read_same image mix b (λ s of. block_same b s from of))

  module _ (named : (dir place : ℕ) (x : DentryForm) → HasDentry (geometry_of superblock) (catalog_at (geometry_of superblock) image) dir place x → HasDentry (geometry_of superblock) (catalog_at (geometry_of superblock) mix) dir place x
      → (form_at (geometry_of superblock) mix x.inode).kind ≡ (form_at (geometry_of superblock) image x.inode).kind) where
    pub prunes : Prunes (geometry_of superblock) (catalog_at (geometry_of superblock) image) (catalog_at (geometry_of superblock) mix)
    prunes = record {
      slots = λ k p b has dir. ap (map (λ o. unwrap_or o free_slot)) (slots_same b (low k p b has));
      each = each_pruned;
      named = named;
    }

    now_sound : IsSoundCatalog (geometry_of superblock) (catalog_at (geometry_of superblock) mix)
    now_sound = pruned_sound (geometry_of superblock) (catalog_at (geometry_of superblock) image) (catalog_at (geometry_of superblock) mix) sound some prunes

    pub now_walks : (names : List (List ℕ)) → met_by (catalog_at (geometry_of superblock) mix) names ≡ met_by (catalog_at (geometry_of superblock) image) names
    now_walks = pruned_walks (geometry_of superblock) (catalog_at (geometry_of superblock) image) (catalog_at (geometry_of superblock) mix) sound some prunes

    spelled : IsCatalogOf (geometry_of superblock) mix (catalog_at (geometry_of superblock) mix)
    spelled = record {
      forms = spelled_forms;
      slots = λ b in_dir.
          let was = had_block (geometry_of superblock) (catalog_at (geometry_of superblock) image) (catalog_at (geometry_of superblock) mix) sound some prunes in_dir.inode in_dir.place b in_dir.has in
          let from = low in_dir.inode in_dir.place b in_dir.has in
          slots_same b from
          ∙ home.is.catalog.slots b (record { inode = in_dir.inode; place = in_dir.place; has = was.0; dir = ap (λ (f : InodeForm). f.kind) (sym was.1) ∙ in_dir.dir })
          ∙ ap (λ os. map {B = Option DentryForm} Some (map (λ o. unwrap_or o free_slot) os)) (sym (slots_same b from));
    }

    journal : (sector : ℕ) → IsOfJournal (geometry_of superblock) sector → mix sector ≡ image sector
    journal sector of = let from = of.from in off_table sector (inr from)

    pub now_home : IsAtHome sectors superblock mix
    now_home = stays_home sectors superblock image home mix first journal (catalog_at (geometry_of superblock) mix) spelled now_sound

    nodes : (names : List (List ℕ)) (i : ℕ) → met_by (catalog_at (geometry_of superblock) image) names ≡ Some i → node_of image (catalog_at (geometry_of superblock) image) i ≡ node_of mix (catalog_at (geometry_of superblock) mix) i
    nodes names i met =
        let ranged = (reached (geometry_of superblock) (catalog_at (geometry_of superblock) image) sound 1 names i (root_in_range (geometry_of superblock) (catalog_at (geometry_of superblock) image) sound some) met).0 in
        let same : form_at (geometry_of superblock) mix i ≡ form_at (geometry_of superblock) image i = reached_same (geometry_of superblock) (catalog_at (geometry_of superblock) image) (catalog_at (geometry_of superblock) mix) sound some prunes i (record { names = names; met = met }) in
        node_same image mix (catalog_at (geometry_of superblock) image) i (λ s of. block_same of.block s (block_low (geometry_of superblock) (catalog_at (geometry_of superblock) image) sound i of.place of.block ranged of.there) of.of_block)
        ∙ sym (ap (λ form. node_of mix (record (catalog_at (geometry_of superblock) image) { forms = λ _. form }) i) same)

    pub now_tree : opens sectors mix ≡ opens sectors image
    now_tree = alike_tree sectors image mix (record { superblock = superblock; geometry = geometry_of superblock; image = image }) (record { superblock = superblock; geometry = geometry_of superblock; image = mix })
        (catalog_at (geometry_of superblock) image) (catalog_at (geometry_of superblock) mix) home.is now_home.is now_walks nodes
