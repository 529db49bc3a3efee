-- An undamaged image has a catalog.
use Rattle.std.proofs.Common.{◌≡◌, ℕ, ◌+◌, inl, inr, List, [], ◌∷◌, false, Option, Some, None, map, unwrap_or, ap, sym, refl, ◌∙◌}
use Rattle.std.specs.Prelude.{flat_map, filter, ◌==◌, ◌&&◌, not}
use Rattle.ufs_base.specs.Choices.{some_if}
use Rattle.ufs_layout.specs.Areas.{all_inodes}
use Rattle.ufs_layout.specs.InodeForm.{InodeForm, free_inode}
use Rattle.ufs_layout.specs.DentryForm.{DentryForm, free_slot}
use Rattle.ufs_base.specs.Images.{Image}
use Rattle.ufs_image.specs.Images.{inode_at, form_at}
use Rattle.ufs_image.specs.Nodes.{Node, is_bad_form, sound_node, sound_nodes, blocks_of, ReadSlot, Dir, slots_of, dirs_of}
use Rattle.ufs_image.specs.Damage.{BadDentry, is_bad_dentry}
use Rattle.ufs_layout.specs.declared.geometry.Geometry.{Geometry}
use Rattle.ufs_image.specs.Catalog.{IsInode, HasBlock, IsCatalogOf, catalog_at}
use Rattle.ufs_image.specs.Nodes.{read_block}
use Rattle.ufs_image.proofs.Lists.{IsIn, in_flat_map, in_filter, in_map, in_filter_map, in_enumerated}
use Rattle.ufs_image.proofs.Listed.{place_of_in, in_at_place}
use Rattle.ufs_image.proofs.Empty.{map_empty, filter_empty, flat_map_empty}
use Rattle.ufs_image.proofs.Holders.{AreRead, in_inodes}

all_some : {X : Type 0} (d : X) (os : List (Option X)) → ((o : Option X) → IsIn o os → (x : X) × (o ≡ Some x)) → os ≡ map Some (map (λ o. unwrap_or o d) os)
all_some d [] each = refl
all_some {X} d (o ∷ os) each = let head = each o (inl refl) in let at : o ≡ Some (unwrap_or o d) = head.1 ∙ ap (λ p. Some (unwrap_or p d)) (sym head.1) in let rest = all_some d os (λ p is. each p (inr is)) in λ i. at i ∷ rest i

-- a slot that isn't bad is spelled
spelled_slot : (k : ℕ) (o : Option DentryForm) → is_bad_dentry (k, o) ≡ false → (d : DentryForm) × (o ≡ Some d)
spelled_slot k None e = let no = e in cc
spelled_slot k (Some d) e = (d, refl)

module _ (g : Geometry) (image : Image) (read : AreRead g image) where
  read_form : (inode : ℕ) → IsInode g inode → inode_at g image inode ≡ Some (form_at g image inode)
  read_form inode in_range = by (inode_at g image inode) (read.forms inode in_range)
    where
      by : (o : Option InodeForm) → is_bad_form inode o ≡ false → o ≡ Some (unwrap_or o (free_inode 0))
      by None e = let no = e in cc
      by (Some form) e = refl

  node_of_dir : (inode : ℕ) → IsInode g inode → (form_at g image inode).kind ≡ 2 → IsIn {X = Node} (inode, form_at g image inode) (sound_nodes g image)
  node_of_dir inode in_range dir = in_filter_map (sound_node g image) (all_inodes g) inode (inode, form_at g image inode) (in_inodes g inode in_range)
      (λ i. some_if (not (read.forms inode in_range i) && (not (read.extents inode in_range i) && not (dir i == 0))) (inode, form_at g image inode))

  pub catalog_there : flat_map (λ (d : Dir). map (λ (s : ReadSlot). BadDentry d.inode s.0) (filter is_bad_dentry d.slots)) (dirs_of image (sound_nodes g image)) ≡ [] → IsCatalogOf g image (catalog_at g image)
  catalog_there none = record { forms = read_form; slots = λ block dir. all_some free_slot (read_block image block) (λ o there. spelled dir.inode dir.place block dir.has dir.dir o there) }
    where
      slot_list : ℕ → List (Option DentryForm)
      slot_list inode = flat_map (read_block image) (blocks_of (form_at g image inode))

      spelled : (inode place block : ℕ) → HasBlock g (catalog_at g image) inode place block → (form_at g image inode).kind ≡ 2 → (o : Option DentryForm) → IsIn o (read_block image block) → (d : DentryForm) × (o ≡ Some d)
      spelled inode place block has dir o there =
          let within : IsIn o (flat_map (read_block image) (blocks_of (form_at g image inode))) = in_flat_map (read_block image) (blocks_of (form_at g image inode)) block o (in_at_place block (blocks_of (form_at g image inode)) place has.there) there in
          let at = place_of_in o (flat_map (read_block image) (blocks_of (form_at g image inode))) within in
          let slot : IsIn (0 + at.0, o) (slots_of image (form_at g image inode)) = in_enumerated 0 (flat_map (read_block image) (blocks_of (form_at g image inode))) at.0 o at.1 in
          let this : Dir = record { inode = inode; slots = slots_of image (form_at g image inode) } in
          let one : IsIn this (dirs_of image (sound_nodes g image)) = in_map (λ (n : Node). record { inode = n.0; slots = slots_of image n.1 }) (filter (λ (n : Node). n.1.kind == 2) (sound_nodes g image)) (inode, form_at g image inode)
          (in_filter (λ (n : Node). n.1.kind == 2) (sound_nodes g image) (inode, form_at g image inode) (node_of_dir inode has.in_range dir) (ap (λ k. k == 2) dir)) in
          let part = flat_map_empty (λ (d : Dir). map (λ (s : ReadSlot). BadDentry d.inode s.0) (filter is_bad_dentry d.slots)) (dirs_of image (sound_nodes g image)) none this one in
          spelled_slot (0 + at.0) o (filter_empty is_bad_dentry (slots_of image (form_at g image inode)) (map_empty (λ (s : ReadSlot). BadDentry inode s.0) (filter is_bad_dentry (slots_of image (form_at g image inode))) part) (0 + at.0, o) slot)
