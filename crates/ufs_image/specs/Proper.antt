-- Which images and which states of a disk are proper.
use Rattle.std.specs.Prelude.{ℕ, ◌≡◌, ◌<◌, List, [], ◌∷◌, not, nat_lt, ◌==◌, None, IsTrue, MatchResult}
use Rattle.std.specs.List.{list_all}
use Rattle.ufs_layout.specs.Areas.{journal_sectors, all_inodes}
use Rattle.ufs_base.specs.Images.{Image}
use Rattle.ufs_image.specs.Images.{form_at}
use Rattle.ufs_image.specs.Journal.{epoch_in}
use Rattle.ufs_image.specs.Damage.{bad_tree}
use Rattle.ufs_image.specs.Volume.{Volume, volume, damage_of}

-- on a clean image the journal of this epoch is empty, commit numbers are behind, and nothing is damaged
pub record IsProperClean (v : Volume) (image : Image) : Type 0 where
  pub no_entry : IsTrue (list_all (λ s. not (epoch_in (image s) == v.superblock.epoch)) (journal_sectors v.geometry))
  pub numbers_below : IsTrue (list_all (λ i. nat_lt (form_at v.geometry image i).number v.superblock.next) (all_inodes v.geometry))
  pub undamaged : damage_of v ≡ []

-- It opens to a tree, and no journal sector has a later epoch.
pub record IsProperVolume (image : Image) (v : Volume) : Type 0 where
  pub has_tree : bad_tree v.geometry v.image ≡ None
  pub none_later : IsTrue (list_all (λ s. not (nat_lt v.superblock.epoch (epoch_in (image s)))) (journal_sectors v.geometry))
  pub if_clean : IsTrue v.superblock.clean → IsProperClean v image

abbrev pub IsProperImage : ℕ → Image → Type 0
IsProperImage sectors image = MatchResult (volume sectors image) (IsProperVolume image) (λ _. ⊥)

-- Nothing is pending: each sector has one possible content.
abbrev pub IsSettled : ℕ → (ℕ → List (List ℕ)) → Image → Type 0
IsSettled sectors possible image = (sector : ℕ) → sector < sectors → possible sector ≡ image sector ∷ []

-- a state of a disk, by the possible contents of its sectors
pub record IsProper (sectors : ℕ) (possible : ℕ → List (List ℕ)) : Type 0 where
  pub image : Image
  pub settled : IsSettled sectors possible image
  pub proper : IsProperImage sectors image
