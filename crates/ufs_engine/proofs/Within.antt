-- Whether an image is proper hangs on the sectors of its disk alone, and so does the tree to which it opens.
use Rattle.std.proofs.Common.{◌≡◌, ◌≢◌, ◌∙◌, ℕ, ◌+◌, ◌*◌, ◌/◌, ◌<◌, ◌≤◌, inl, inr, List, [], ◌∷◌, Bool, true, false, Some, ap, sym, refl, subst, arith}
use Rattle.std.specs.Prelude.{IsTrue, Ok, not, nat_lt, ◌==◌, ◌%◌, ◌^◌}
use Rattle.std.specs.List.{list_all, slice_get}
use Rattle.std.proofs.Math.Nat.{div-lt_iff_lt-mul}
use Rattle.std.proofs.lemmas.Bool.{and_parts}
use Rattle.std.proofs.lemmas.Bool.Decides.{nat_tests}
use Rattle.ufs_base.specs.Images.{Image}
use Rattle.ufs_layout.specs.Areas.{IsGeometry, all_inodes, bitmap_blocks, first_of_bitmap, first_of_journal, journal_sectors, sector_count}
use Rattle.ufs_layout.specs.Words.{byte_at}
use Rattle.ufs_layout.specs.declared.geometry.Geometry.{Geometry}
use Rattle.ufs_layout.specs.declared.superblock.Super.{Super}
use Rattle.ufs_image.specs.Agree.{AgreeOn, IsMetadata, IsOfBlock, IsOfJournal}
use Rattle.ufs_image.specs.Catalog.{Catalog, IsInode, catalog_at}
use Rattle.ufs_image.specs.Damage.{BitmapDiffers, all_bits, damage, differing, is_marked, same_bool, tree_damage}
use Rattle.ufs_image.specs.Images.{form_at}
use Rattle.ufs_image.specs.Journal.{epoch_in}
use Rattle.ufs_image.specs.Nodes.{blocks_of, is_taken, sound_nodes}
use Rattle.ufs_image.specs.Opens.{ImageTree, opens}
use Rattle.ufs_image.specs.Proper.{IsProperClean, IsProperImage, IsProperVolume}
use Rattle.ufs_image.specs.Standing.{IsClosed, IsVolumeOf, MarksTaken}
use Rattle.ufs_image.specs.Volume.{Volume}
use Rattle.ufs_image.proofs.Agreeing.{form_agrees}
use Rattle.ufs_image.proofs.Bits.{is_taken_block, taken_is}
use Rattle.ufs_image.proofs.Empty.{both_empty, filter_empty, in_range, map_empty}
use Rattle.ufs_image.proofs.Holders.{block_in_data, in_inodes}
use Rattle.ufs_image.proofs.Journals.{inode_metadata, journal_metadata}
use Rattle.ufs_image.proofs.Listed.{in_at_place}
use Rattle.ufs_image.proofs.Lists.{IsIn}
use Rattle.ufs_image.proofs.OneTree.{one_tree}
use Rattle.ufs_image.proofs.Opening.{has_geometry, ignores, opened}
use Rattle.ufs_image.proofs.Proper.{proper}
use Rattle.ufs_recovery.proofs.Ends.{none_later, proper_of, proper_opens}

all_pass : (p : ℕ → Bool) (xs : List ℕ) → IsTrue (list_all p xs) → (x : ℕ) → IsIn x xs → p x ≡ true
all_pass p [] all x there = absurd there
all_pass p (y ∷ xs) all x (inl same) = ap p same ∙ (and_parts (p y) (list_all p xs) all).0
all_pass p (y ∷ xs) all x (inr there) = all_pass p xs (and_parts (p y) (list_all p xs) all).1 x there

-- one bit is as another
same_bits : (x y : Bool) → not (same_bool x y) ≡ false → (x ≡ true → y ≡ true) × (y ≡ true → x ≡ true)
same_bits true true e = ((λ t. refl), (λ t. refl))
same_bits true false e = let no = e in cc
same_bits false true e = let no = e in cc
same_bits false false e = ((λ t. t), (λ t. t))

module _ (sectors : ℕ) (image other : Image) (same : (s : ℕ) → s < sectors → image s ≡ other s) (was : IsProperImage sectors image) where
  tree : (t : ImageTree) × (opens sectors image ≡ Ok t)
  tree = proper_opens sectors image was

  at : (v : Volume) × IsVolumeOf sectors image v (catalog_at v.geometry v.image)
  at = let o = opened sectors image tree.0 tree.1 in (o.0, o.1)

  abbrev v : Volume
  v = at.0

  abbrev c : Catalog
  c = catalog_at v.geometry v.image

  is : IsProperVolume image v
  is = proper_of sectors image v at.1.taken was

  room : sector_count v.geometry ≤ sectors
  room = (has_geometry sectors image v at.1.taken).1

  geometry : IsGeometry v.geometry
  geometry = (has_geometry sectors image v at.1.taken).0

  -- what is before the data area is on the disk
  before_data : (s : ℕ) → IsMetadata v.geometry s → s < sectors
  before_data s low = let left = geometry.data_left in let all = room in omega (arith, low, left, all)

  of_inode : (inode place block sector : ℕ) → IsInode v.geometry inode → slice_get (blocks_of (c.forms inode)) place ≡ Some block → IsOfBlock block sector → sector < sectors
  of_inode inode place block sector ranged there of =
      let within = block_in_data v.geometry (c.forms inode).extents block (at.1.sound.in_data inode ranged) (in_at_place block (blocks_of (c.forms inode)) place there) in
      let from = of.same in let slot = of.in_block in let low = within.1 in let all = room in omega (arith, from, slot, low, all)

  there : (w : Volume) × IsVolumeOf sectors other w c × (w.geometry ≡ v.geometry) × (w.superblock ≡ v.superblock) × AgreeOn (λ s. s < sectors) v.image w.image
  there = ignores sectors image other v c (λ s. s < sectors) at.1 before_data
      (λ s of. of_inode of.dir_block.inode of.dir_block.place of.block s of.dir_block.has.in_range of.dir_block.has.there of.of_block) same

  abbrev w : Volume
  w = there.0

  -- the same image opens to the same tree
  pub same_tree : opens sectors other ≡ opens sectors image
  same_tree = one_tree sectors image other v w c at.1 there.1 there.2 (λ inode ranged s of. there.4 s (of_inode inode of.place of.block s ranged of.there of.of_block))

  -- ---- the journal

  on_journal : (sector : ℕ) → IsOfJournal v.geometry sector → image sector ≡ other sector
  on_journal sector of = same sector (before_data sector (journal_metadata v.geometry sector (in_range (8 * first_of_journal v.geometry) v.geometry.journal sector of.from of.below)))

  none_later_there : (sector : ℕ) → IsOfJournal w.geometry sector → epoch_in (other sector) ≤ w.superblock.epoch
  none_later_there sector of =
      let here = subst (λ (g : Geometry). IsOfJournal g sector) there.2 of in
      let most = none_later image v is sector here in
      let epoch : epoch_in (image sector) ≡ epoch_in (other sector) = ap epoch_in (on_journal sector here) in
      let later : w.superblock.epoch ≡ v.superblock.epoch = ap (λ (h : Super). h.epoch) there.3 in
      omega (arith, most, epoch, later)

  -- ---- a clean image

  module _ (clean : IsProperClean v image) (marked_clean : v.superblock.clean ≡ true) where
    no_entry : (sector : ℕ) → IsOfJournal v.geometry sector → epoch_in (other sector) ≢ v.superblock.epoch
    no_entry sector of e =
        let t = all_pass (λ s. not (epoch_in (image s) == v.superblock.epoch)) (journal_sectors v.geometry) clean.no_entry sector (in_range (8 * first_of_journal v.geometry) v.geometry.journal sector of.from of.below) in
        let epoch : epoch_in (image sector) ≡ v.superblock.epoch = ap epoch_in (on_journal sector of) ∙ e in
        grind (arith, nat_tests, t, epoch)

    numbers : (inode : ℕ) → IsInode v.geometry inode → (form_at v.geometry other inode).number < v.superblock.next
    numbers inode ranged =
        let t = all_pass (λ i. nat_lt (form_at v.geometry image i).number v.superblock.next) (all_inodes v.geometry) clean.numbers_below inode (in_inodes v.geometry inode ranged) in
        let less : (form_at v.geometry image inode).number < v.superblock.next = grind (arith, nat_tests, t) in
        subst (λ (n : ℕ). n < v.superblock.next) (ap (λ f. f.number) forms) less
      where
        forms : form_at v.geometry image inode ≡ form_at v.geometry other inode
        forms = form_agrees v.geometry (λ s. s < sectors) (λ i numbered. before_data _ (inode_metadata v.geometry i numbered)) image other same inode (let from = ranged.from_one in let most = ranged.within in grind (arith, nat_tests, from, most))

    -- the bitmap's sectors are on the disk
    bit_there : (block : ℕ) → block < 32768 * bitmap_blocks v.geometry → is_marked v.image block ≡ is_marked w.image block
    bit_there block low = ap (λ (bytes : List ℕ). byte_at (block / 8 % 512) bytes / 2 ^ (block % 8) % 2 == 1) (there.4 (8 * first_of_bitmap + block / 4096) (before_data (8 * first_of_bitmap + block / 4096) (omega (arith, row))))
      where
        row : block / 4096 < 8 * bitmap_blocks v.geometry
        row = (div-lt_iff_lt-mul {k = 4096} {x = block} {y = 8 * bitmap_blocks v.geometry} (omega arith)).1 (omega (arith, low))

    differ_none : differing v.geometry v.image (sound_nodes v.geometry v.image) (all_bits v.geometry) ≡ []
    differ_none = map_empty BitmapDiffers _ (both_empty (tree_damage v.geometry v.image) _ (ap (λ (b : Bool). damage b v.geometry v.image) (sym marked_clean) ∙ clean.undamaged)).1

    bit_is : (block : ℕ) → block < 32768 * bitmap_blocks v.geometry → (is_marked v.image block ≡ true → is_taken v.geometry (sound_nodes v.geometry v.image) block ≡ true) × (is_taken v.geometry (sound_nodes v.geometry v.image) block ≡ true → is_marked v.image block ≡ true)
    bit_is block low = same_bits (is_marked v.image block) (is_taken v.geometry (sound_nodes v.geometry v.image) block)
        (filter_empty (λ b. not (same_bool (is_marked v.image b) (is_taken v.geometry (sound_nodes v.geometry v.image) b))) (all_bits v.geometry) differ_none block (in_range 0 (32768 * bitmap_blocks v.geometry) block (omega arith) (omega (arith, low))))

    bits : MarksTaken v.geometry w.image c
    bits = record {
      marked = λ block low is_bit. taken_is v.geometry v.image c at.1.catalog at.1.sound block ((bit_is block low).0 (bit_there block low ∙ is_bit));
      taken = λ block low held. sym (bit_there block low) ∙ (bit_is block low).1 (is_taken_block v.geometry v.image c at.1.catalog at.1.sound block held);
    }

  closed_there : IsTrue w.superblock.clean → IsClosed other w c
  closed_there marked =
      let here : v.superblock.clean ≡ true = ap (λ (h : Super). h.clean) (sym there.3) ∙ marked in
      let clean = is.if_clean here in
      subst (λ (x : Geometry × Super). IsClosed other (record { superblock = x.1; geometry = x.0; image = w.image }) c) (λ i. (sym there.2 i, sym there.3 i))
      (record { no_entry = no_entry clean here; numbers = numbers clean here; bits = bits clean here })

  pub proper_within : IsProperImage sectors other
  proper_within = proper sectors other w c there.1 none_later_there closed_there
