-- An image with a sound catalog is proper.
use Rattle.std.proofs.Common.{◌≡◌, ◌≢◌, ℕ, ◌*◌, ◌≤◌, inl, inr, List, [], ◌∷◌, Bool, true, ap, sym, refl, ◌∙◌, subst, arith}
use Rattle.std.specs.Prelude.{◌==◌, ◌&&◌, not, nat_lt, MatchResult, IsTrue}
use Rattle.std.specs.List.{list_all}
use Rattle.std.proofs.lemmas.Bool.Decides.{nat_tests}
use Rattle.ufs_layout.specs.Areas.{first_of_journal, journal_sectors, all_inodes}
use Rattle.ufs_base.specs.Images.{Image}
use Rattle.ufs_image.specs.Images.{form_at}
use Rattle.ufs_image.specs.Journal.{epoch_in}
use Rattle.ufs_image.specs.Damage.{damage}
use Rattle.ufs_image.specs.Volume.{Volume}
use Rattle.ufs_image.specs.Proper.{IsProperVolume, IsProperImage}
use Rattle.ufs_image.specs.Catalog.{Catalog}
use Rattle.ufs_image.specs.Agree.{IsOfJournal}
use Rattle.ufs_image.specs.Standing.{IsVolumeOf, IsClosed}
use Rattle.ufs_image.proofs.Lists.{IsIn}
use Rattle.ufs_image.proofs.Empty.{from_range, false_if_not}
use Rattle.ufs_image.proofs.Holders.{inode_in}
use Rattle.ufs_image.proofs.Whole.{sound_whole}
use Rattle.ufs_image.proofs.Blamed.{not_bad}
use Rattle.ufs_image.proofs.Bits.{marks_whole}

all_pass : (p : ℕ → Bool) (xs : List ℕ) → ((x : ℕ) → IsIn x xs → p x ≡ true) → list_all p xs ≡ true
all_pass p [] each = refl
all_pass p (x ∷ xs) each = let head = each x (inl refl) in let rest = all_pass p xs (λ y is. each y (inr is)) in λ i. head i && rest i

pub proper : (sectors : ℕ) (image : Image) (v : Volume) (c : Catalog) → IsVolumeOf sectors image v c
    → ((sector : ℕ) → IsOfJournal v.geometry sector → epoch_in (image sector) ≤ v.superblock.epoch)
    → (IsTrue v.superblock.clean → IsClosed image v c) → IsProperImage sectors image
proper sectors image v c is none_later closed = subst (λ r. MatchResult r (IsProperVolume image) (λ _. ⊥)) (sym is.taken) (record {
  has_tree = not_bad v.geometry v.image (sound_whole v.geometry v.image c is.catalog is.sound);
  none_later = all_pass (λ s. not (nat_lt v.superblock.epoch (epoch_in (image s)))) (journal_sectors v.geometry) (λ s inside. later s (none_later s (in_journal s inside)));
  if_clean = λ clean. let is_closed = closed clean in record {
    no_entry = all_pass (λ s. not (epoch_in (image s) == v.superblock.epoch)) (journal_sectors v.geometry) (λ s inside. other s (is_closed.no_entry s (in_journal s inside)));
    numbers_below = all_pass (λ i. nat_lt (form_at v.geometry image i).number v.superblock.next) (all_inodes v.geometry) (λ i inside. let less = is_closed.numbers i (inode_in v.geometry i inside) in grind (arith, nat_tests, less));
    undamaged = ap (λ b. damage b v.geometry v.image) clean ∙ marks_whole v.geometry v.image c is.catalog is.sound is_closed.bits.marked is_closed.bits.taken;
  };
})
  where
    in_journal : (s : ℕ) → IsIn s (journal_sectors v.geometry) → IsOfJournal v.geometry s
    in_journal s inside = let at = from_range (8 * first_of_journal v.geometry) v.geometry.journal s inside in record { from = at.0; below = at.1 }

    later : (s : ℕ) → epoch_in (image s) ≤ v.superblock.epoch → not (nat_lt v.superblock.epoch (epoch_in (image s))) ≡ true
    later s most = grind (arith, nat_tests, most)

    other : (s : ℕ) → epoch_in (image s) ≢ v.superblock.epoch → not (epoch_in (image s) == v.superblock.epoch) ≡ true
    other s apart = ap not (false_if_not (epoch_in (image s) == v.superblock.epoch) (λ e. apart (grind (arith, nat_tests, e))))
