-- A clean disk may be mounted.
use Rattle.std.proofs.Common.{◌≡◌, ◌<◌, ◌+◌, ◌*◌, ◌∙◌, ℕ, inl, inr, List, [], ◌∷◌, Bool, true, ap, refl, subst, arith}
use Rattle.std.specs.Prelude.{◌==◌, IsTrue, MatchResult, Result, Ok, Err, nat_lt, not}
use Rattle.std.specs.List.{list_all}
use Rattle.std.proofs.lemmas.Bool.{and_parts}
use Rattle.std.proofs.lemmas.Bool.Decides.{nat_tests}
use Rattle.ufs_base.specs.Images.{Image}
use Rattle.ufs_disk.specs.Disk.{seen}
use Rattle.ufs_layout.specs.Areas.{all_inodes, first_of_journal, journal_sectors}
use Rattle.ufs_image.specs.Catalog.{IsInode}
use Rattle.ufs_image.specs.Images.{form_at}
use Rattle.ufs_image.specs.Journal.{epoch_in}
use Rattle.ufs_image.specs.Proper.{IsProperClean, IsProperImage, IsProperVolume}
use Rattle.ufs_image.specs.Volume.{Refusal, Volume, superblock_of, volume, volume_of}
use Rattle.ufs_image.proofs.Empty.{in_range}
use Rattle.ufs_image.proofs.Holders.{in_inodes}
use Rattle.ufs_image.proofs.Journals.{taken}
use Rattle.ufs_image.proofs.Lists.{IsIn}
use Rattle.ufs_store.specs.Laws.{CleanDisksMount}

-- its volume
proper_volume : (sectors : ℕ) (image : Image) → IsProperImage sectors image → (v : Volume) × (volume sectors image ≡ Ok v) × IsProperVolume image v
proper_volume sectors image is = by (volume sectors image) refl is
  where
    by : (r : Result Volume Refusal) → volume sectors image ≡ r → MatchResult r (IsProperVolume image) (λ _. ⊥) → (v : Volume) × (volume sectors image ≡ Ok v) × IsProperVolume image v
    by (Ok v) e is = (v, e, is)
    by (Err refusal) e none = absurd none

passes : (p : ℕ → Bool) (xs : List ℕ) → IsTrue (list_all p xs) → (x : ℕ) → IsIn x xs → p x ≡ true
passes p [] all x there = absurd there
passes p (y ∷ xs) all x (inl same) = ap p same ∙ (and_parts (p y) (list_all p xs) all).0
passes p (y ∷ xs) all x (inr there) = passes p xs (and_parts (p y) (list_all p xs) all).1 x there

module _ (image : Image) (v : Volume) (proper : IsProperVolume image v) (clean : IsProperClean v image) where
  earlier : (place : ℕ) → place < v.geometry.journal → epoch_in (image (8 * first_of_journal v.geometry + place)) < v.superblock.epoch
  earlier place under =
      let sector = 8 * first_of_journal v.geometry + place in
      let inside = in_range (8 * first_of_journal v.geometry) v.geometry.journal sector (omega arith) (omega (arith, under)) in
      let most = passes (λ s. not (nat_lt v.superblock.epoch (epoch_in (image s)))) (journal_sectors v.geometry) proper.none_later sector inside in
      let other = passes (λ s. not (epoch_in (image s) == v.superblock.epoch)) (journal_sectors v.geometry) clean.no_entry sector inside in
      grind (arith, nat_tests, most, other)

  below : (inode : ℕ) → IsInode v.geometry inode → (form_at v.geometry image inode).number < v.superblock.next
  below inode ranged =
      let less = passes (λ i. nat_lt (form_at v.geometry image i).number v.superblock.next) (all_inodes v.geometry) clean.numbers_below inode (in_inodes v.geometry inode ranged) in
      grind (arith, nat_tests, less)

pub clean_disks_mount : CleanDisksMount
clean_disks_mount sectors state settled is clean =
    let image = seen state in
    let at = proper_volume sectors image is in
    let same = (taken sectors image at.0 at.1).same in
    let v = volume_of (superblock_of image) image in
    let proper : IsProperVolume image v = subst (IsProperVolume image) same at.2 in
    let of_clean = proper.if_clean clean in
    record {
      settled = settled;
      as_volume = v;
      taken = at.1 ∙ ap Ok same;
      superblock_is = refl;
      undamaged = proper.has_tree;
      earlier = earlier image v proper of_clean;
      if_clean = proper.if_clean;
      numbers = below image v proper of_clean;
    }
