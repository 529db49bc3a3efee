-- A file of an undamaged volume has as many bytes as its size says.
use Rattle.std.proofs.Common.{◌≡◌, ◌≢◌, ℕ, ◌*◌, ◌<◌, ◌≤◌, inl, inr, List, [], ◌∷◌, Bool, true, false, length, min, replicate, refl, ap, sym, ◌∙◌, subst, arith, length-append}
use Rattle.std.specs.Prelude.{flat_map, ◌&&◌, nat_le, nat_lt, if◌then◌else◌}
use Rattle.std.specs.List.{list_all}
use Rattle.std.proofs.lemmas.Bool.{and_parts, cases_eq, eq-eqb, ne_eqb, le-leb, lt-ltb, leb-true, ltb-true}
use Rattle.std.proofs.lemmas.List.{length-replicate, length-take}
use Rattle.ufs_base.specs.Images.{Image}
use Rattle.ufs_disk.proofs.Zeros.{zeros_replicate}
use Rattle.ufs_layout.specs.Areas.{first_of_data, is_data_sector, is_inode_number, sector_count, sector_of_inode, sectors_of_block}
use Rattle.ufs_layout.specs.DentryForm.{dentry_bytes, is_dentry}
use Rattle.ufs_layout.specs.Records.{is_record}
use Rattle.ufs_layout.specs.declared.geometry.Geometry.{Geometry}
use Rattle.ufs_layout.specs.declared.records.Committed.{Committed}
use Rattle.ufs_layout.specs.declared.records.LogRecord.{LogRecord}
use Rattle.ufs_layout.specs.declared.records.LogRecord.TheVariants.{Delta, Place, Free}
use Rattle.ufs_layout.proofs.RecordForms.{length-dentry}
use Rattle.ufs_image.specs.Images.{IsImageOf, block_at, form_at, with_sector, with_slot}
use Rattle.ufs_image.specs.Nodes.{blocks_of}
use Rattle.ufs_image.specs.Opens.{file_bytes}
use Rattle.ufs_image.specs.Fold.{is_newer, with_record, with_valid, with_records, with_committed, folded}
use Rattle.ufs_image.specs.Catalog.{IsInode, catalog_at}
use Rattle.ufs_image.specs.Sound.{IsSoundCatalog}
use Rattle.ufs_image.proofs.Lists.{IsIn}
use Rattle.ufs_image.proofs.Empty.{from_range}
use Rattle.ufs_image.proofs.Holders.{block_in_data}
use Rattle.ufs_image.proofs.Mixed.{table_end}
use Rattle.ufs_image.proofs.Opening.{sizes}
use Rattle.ufs_image.proofs.SlotBytes.{length-with_slot}
use Rattle.ufs_volume.specs.Journals.{AreFoldable}

-- ---- a sector of the data area keeps its length under transactions

module _ (g : Geometry) (s : ℕ) (within : is_data_sector g s ≡ true) where
  apart : (inode : ℕ) → is_inode_number g inode ≡ true → s ≢ sector_of_inode g inode
  apart inode in_range same =
      let from = leb-true (8 * first_of_data g) s (and_parts (nat_le (8 * first_of_data g) s) (nat_lt s (sector_count g)) within).0 in
      let end = table_end g inode in_range in
      omega (arith, from, end, same)

  kept_if : (b : Bool) (sector : ℕ) (bytes : List ℕ) (now : Image) → s ≢ sector → length (now s) ≡ 512 → length ((if b then with_sector sector bytes now else now) s) ≡ 512
  kept_if true sector bytes now other long = ap (λ t. length (if t then bytes else now s)) (ne_eqb s sector other) ∙ long
  kept_if false sector bytes now other long = long

  put_sized : (sector : ℕ) (bytes : List ℕ) (now : Image) → (s ≡ sector → length bytes ≡ 512) → length (now s) ≡ 512 → length (with_sector sector bytes now s) ≡ 512
  put_sized sector bytes now sized long = elim (cases_eq s sector) [
    | inl same ↦ ap (λ t. length (if t then bytes else now s)) (eq-eqb s sector same) ∙ sized same
    | inr other ↦ ap (λ t. length (if t then bytes else now s)) (ne_eqb s sector other) ∙ long
  ]

  record_sized : (number : ℕ) (before now : Image) (r : LogRecord) → is_record r ≡ true → length (now s) ≡ 512 → length (with_valid g number before r now s) ≡ 512
  record_sized number before now (Delta inode kind size keep extents) form long = by (is_inode_number g inode) refl
    where
      by : (b : Bool) → is_inode_number g inode ≡ b → length ((if b then with_record g number before (Delta inode kind size keep extents) now else now) s) ≡ 512
      by true in_range = kept_if (is_newer g number before inode) (sector_of_inode g inode) _ now (apart inode in_range) long
      by false in_range = long
  record_sized number before now (Place sector slot dentry) form long = by (is_data_sector g sector)
    where
      slot_sized : s ≡ sector → length (with_slot slot (dentry_bytes dentry) (now sector)) ≡ 512
      slot_sized same =
          let parts = and_parts (nat_lt slot 8) (is_dentry dentry) form in
          length-with_slot slot (dentry_bytes dentry) (now sector) (ltb-true slot 8 parts.0) (subst (λ k. length (now k) ≡ 512) same long)
          (length-dentry dentry (leb-true (length dentry.name) 58 (and_parts (nat_le (length dentry.name) 58) _ parts.1).0))

      by : (b : Bool) → length ((if b then with_record g number before (Place sector slot dentry) now else now) s) ≡ 512
      by true = put_sized sector (with_slot slot (dentry_bytes dentry) (now sector)) now slot_sized long
      by false = long
  record_sized number before now (Free inode) form long = by (is_inode_number g inode) refl
    where
      by : (b : Bool) → is_inode_number g inode ≡ b → length ((if b then with_record g number before (Free inode) now else now) s) ≡ 512
      by true in_range = kept_if (is_newer g number before inode) (sector_of_inode g inode) _ now (apart inode in_range) long
      by false in_range = long

  records_sized : (number : ℕ) (before now : Image) (rs : List LogRecord) → list_all is_record rs ≡ true → length (now s) ≡ 512 → length (with_records g number before rs now s) ≡ 512
  records_sized number before now [] all long = long
  records_sized number before now (r ∷ rs) all long =
      let parts = and_parts (is_record r) (list_all is_record rs) all in
      records_sized number before (with_valid g number before r now) rs parts.1 (record_sized number before now r parts.0 long)

  pub folded_sized : (cs : List Committed) (image : Image) → AreFoldable g cs → length (image s) ≡ 512 → length (folded g cs image s) ≡ 512
  folded_sized [] image fold long = long
  folded_sized (c ∷ cs) image fold long = folded_sized cs (with_committed g c image) fold.1 (records_sized c.number image image c.records fold.0.form long)

-- ---- the bytes of a file

lengths_same : (f h : ℕ → List ℕ) (xs : List ℕ) → ((x : ℕ) → IsIn x xs → length (f x) ≡ length (h x)) → length (flat_map f xs) ≡ length (flat_map h xs)
lengths_same f h [] same = refl
lengths_same f h (x ∷ xs) same =
    let head = same x (inl refl) in
    let rest = lengths_same f h xs (λ y is. same y (inr is)) in
    let one = length-append (f x) (flat_map f xs) in
    let two = length-append (h x) (flat_map h xs) in
    omega (arith, head, rest, one, two)

abbrev zeros : Image
zeros sector = replicate 512 0

zeros_image : (sectors : ℕ) → IsImageOf sectors zeros
zeros_image sectors s less = record { sized = length-replicate {A = ℕ} 512 0; in_range = λ k. let zero_there = zeros_replicate 512 k in omega (arith, zero_there) }

pub file_sized : (g : Geometry) (image : Image) → ((s : ℕ) → is_data_sector g s ≡ true → length (image s) ≡ 512) → IsSoundCatalog g (catalog_at g image)
    → (inode : ℕ) → IsInode g inode → length (file_bytes image (form_at g image inode)) ≡ (form_at g image inode).size
file_sized g image long sound inode in_range =
    let form = form_at g image inode in
    let same : length (flat_map (block_at image) (blocks_of form)) ≡ length (flat_map (block_at zeros) (blocks_of form)) = lengths_same (block_at image) (block_at zeros) (blocks_of form) (λ b is. block_same b (block_in_data g form.extents b (sound.in_data inode in_range) is)) in
    length-take form.size (flat_map (block_at image) (blocks_of form)) ∙ ap (min form.size) same ∙ sym (length-take form.size (flat_map (block_at zeros) (blocks_of form)))
    ∙ sizes (sector_count g) zeros g (catalog_at g image) inode (zeros_image (sector_count g)) (omega arith) sound in_range
  where
    block_same : (b : ℕ) → (first_of_data g ≤ b) × (b < g.blocks) → length (block_at image b) ≡ length (block_at zeros b)
    block_same b inside = lengths_same image zeros (sectors_of_block b) (λ s is.
        let at = from_range (8 * b) 8 s is in
        let from = inside.0 in
        let end = inside.1 in
        let low = at.0 in
        let high = at.1 in
        long s (λ i. le-leb (8 * first_of_data g) s (omega (arith, from, low)) i && lt-ltb s (sector_count g) (omega (arith, end, high)) i) ∙ sym (length-replicate {A = ℕ} 512 0))
