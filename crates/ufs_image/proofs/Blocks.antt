-- A catalog and a file's bytes stay where the sectors that spell them do.
use Rattle.std.proofs.Common.{◌≡◌, ℕ, zero, suc, ◌+◌, ◌*◌, ◌-◌, ◌≤◌, inl, inr, List, [], ◌∷◌, length, take, map, ap, sym, refl, ◌∙◌, arith, length-append}
use Rattle.std.specs.Prelude.{flat_map}
use Rattle.std.specs.List.{range_with_len}
use Rattle.std.proofs.lemmas.List.{length-take-le}
use Rattle.ufs_layout.specs.Words.{pieces}
use Rattle.ufs_layout.specs.Areas.{sectors_of_block, sector_of_inode}
use Rattle.ufs_layout.specs.InodeForm.{InodeForm, inode_of}
use Rattle.ufs_layout.specs.DentryForm.{dentry_of}
use Rattle.ufs_base.specs.Images.{Image}
use Rattle.ufs_image.specs.Images.{IsImageOf, block_at}
use Rattle.ufs_image.specs.Nodes.{blocks_of}
use Rattle.ufs_image.specs.Opens.{file_bytes}
use Rattle.ufs_layout.specs.declared.geometry.Geometry.{Geometry}
use Rattle.ufs_image.specs.Catalog.{Catalog, IsInode, IsCatalogOf}
use Rattle.ufs_image.specs.Nodes.{read_block}
use Rattle.ufs_image.specs.Agree.{AgreeOn, IsOfBlock, IsOfForm, IsOfDir}
use Rattle.ufs_image.proofs.Lists.{IsIn, flat_map-same}
use Rattle.ufs_image.proofs.Listed.{place_of_in}
use Rattle.ufs_image.proofs.Empty.{from_range}

of_block : (block sector : ℕ) → IsIn sector (sectors_of_block block) → IsOfBlock block sector
of_block block sector is = let at = from_range (8 * block) 8 sector is in record { slot = sector - 8 * block; in_block = omega (arith, at.0, at.1); same = omega (arith, at.0) }

pub block_same : (image other : Image) (block : ℕ) → AgreeOn (IsOfBlock block) image other → block_at image block ≡ block_at other block
block_same image other block agree = flat_map-same image other (sectors_of_block block) (λ s is. agree s (of_block block s is))

pub read_same : (image other : Image) (block : ℕ) → AgreeOn (IsOfBlock block) image other → read_block image block ≡ read_block other block
read_same image other block agree = flat_map-same (λ s. map dentry_of (pieces 8 64 (image s))) (λ s. map dentry_of (pieces 8 64 (other s))) (sectors_of_block block) (λ s is. ap (λ bytes. map dentry_of (pieces 8 64 bytes)) (agree s (of_block block s is)))

-- the bytes of a file
pub file_same : (image other : Image) (form : InodeForm) → AgreeOn (IsOfForm form) image other → file_bytes image form ≡ file_bytes other form
file_same image other form agree = ap (take form.size) (flat_map-same (block_at image) (block_at other) (blocks_of form) (λ b is. let at = place_of_in b (blocks_of form) is in block_same image other b (λ s of. agree s (record { place = at.0; block = b; there = at.1; of_block = of }))))

-- the catalog
pub catalog_same : (g : Geometry) (image other : Image) (c : Catalog) → IsCatalogOf g image c → ((inode : ℕ) → IsInode g inode → image (sector_of_inode g inode) ≡ other (sector_of_inode g inode)) → AgreeOn (IsOfDir g c) image other → IsCatalogOf g other c
catalog_same g image other c is table agree = record {
  forms = λ inode in_range. ap inode_of (sym (table inode in_range)) ∙ is.forms inode in_range;
  slots = λ block dir. sym (read_same image other block (λ s of. agree s (record { block = block; dir_block = dir; of_block = of }))) ∙ is.slots block dir;
}

-- ---- how many bytes there are

module _ (image : Image) (sectors : ℕ) (is : IsImageOf sectors image) where
  range_length : (a n : ℕ) → a + n ≤ sectors → length (flat_map image (range_with_len a n)) ≡ 512 * n
  range_length a zero within = omega arith
  range_length a (suc n) within =
      let first = (is a (omega (arith, within))).sized in
      let rest = range_length (a + 1) n (omega (arith, within)) in
      let whole = length-append (image a) (flat_map image (range_with_len (a + 1) n)) in
      omega (arith, first, rest, whole)

  pub block_length : (block : ℕ) → 8 * block + 8 ≤ sectors → length (block_at image block) ≡ 4096
  block_length block within = range_length (8 * block) 8 within

  blocks_length : (blocks : List ℕ) → ((b : ℕ) → IsIn b blocks → 8 * b + 8 ≤ sectors) → length (flat_map (block_at image) blocks) ≡ 4096 * length blocks
  blocks_length [] within = refl
  blocks_length (b ∷ blocks) within =
      let first = block_length b (within b (inl refl)) in
      let rest = blocks_length blocks (λ x there. within x (inr there)) in
      let whole = length-append (block_at image b) (flat_map (block_at image) blocks) in
      omega (arith, first, rest, whole)

  pub file_length : (form : InodeForm) → ((b : ℕ) → IsIn b (blocks_of form) → 8 * b + 8 ≤ sectors) → form.size ≤ 4096 * length (blocks_of form) → length (file_bytes image form) ≡ form.size
  file_length form within room = length-take-le form.size (flat_map (block_at image) (blocks_of form)) (let size = blocks_length (blocks_of form) within in omega (arith, size, room))
