-- An epoch of which the journal has nothing.
use Rattle.std.proofs.Common.{◌≡◌, ◌≢◌, ℕ, ◌*◌, List, [], ◌∷◌, false, None, map, ap, refl, ◌∙◌}
use Rattle.std.specs.Prelude.{◌==◌, Ok}
use Rattle.std.specs.List.{find}
use Rattle.ufs_base.specs.Images.{Image}
use Rattle.ufs_layout.specs.Areas.{first_of_journal, journal_sectors}
use Rattle.ufs_layout.specs.JournalSector.{journal_of}
use Rattle.ufs_layout.specs.Superblock.{geometry_of}
use Rattle.ufs_layout.specs.declared.geometry.Geometry.{Geometry}
use Rattle.ufs_layout.specs.declared.superblock.Super.{Super}
use Rattle.ufs_image.specs.Agree.{IsOfJournal}
use Rattle.ufs_image.specs.BadSectors.{bad_sector, first_bad}
use Rattle.ufs_image.specs.Fold.{folded}
use Rattle.ufs_image.specs.Journal.{committed, sectors_of_epoch, transactions, well_spelled, committed_of, epoch_in}
use Rattle.ufs_image.specs.Volume.{volume, volume_of, superblock_of, superblock_refusal}
use Rattle.ufs_image.proofs.Empty.{from_range, empty_filter, apart_false}
use Rattle.ufs_image.proofs.Journals.{is_taken}

find_nothing : (xs : List ℕ) → find (λ sector. false) xs ≡ None
find_nothing [] = refl
find_nothing (x ∷ xs) = find_nothing xs

module _ (g : Geometry) (epoch : ℕ) (image : Image) (none : (sector : ℕ) → IsOfJournal g sector → epoch_in (image sector) ≢ epoch) where
  none_read : sectors_of_epoch g epoch image ≡ []
  none_read = ap (map (λ s. (s, journal_of (image s)))) (empty_filter (λ s. epoch_in (image s) == epoch) (journal_sectors g) (λ s is.
      let at = from_range (8 * first_of_journal g) g.journal s is in
      apart_false (epoch_in (image s)) epoch (none s (record { from = at.0; below = at.1 }))))

  pub none_committed : committed g epoch image ≡ []
  none_committed = ap (λ read. map committed_of (transactions (well_spelled read))) none_read

  pub none_bad : (superblock : Super) → superblock.epoch ≡ epoch → bad_sector g superblock image ≡ None
  none_bad superblock same = ap (first_bad g superblock.next image) (ap (λ e. sectors_of_epoch g e image) same ∙ none_read) ∙ find_nothing (journal_sectors g)

-- So it is taken as it stands.
pub taken_as_is : (sectors : ℕ) (superblock : Super) (image : Image) → superblock_refusal sectors image ≡ None → superblock_of image ≡ superblock
    → ((sector : ℕ) → IsOfJournal (geometry_of superblock) sector → epoch_in (image sector) ≢ superblock.epoch)
    → volume sectors image ≡ Ok (record { superblock = superblock; geometry = geometry_of superblock; image = image })
taken_as_is sectors superblock image good superblocks none =
    is_taken sectors image good (ap (λ (h : Super). bad_sector (geometry_of h) h image) superblocks ∙ none_bad (geometry_of superblock) superblock.epoch image none superblock refl)
    ∙ ap (λ (h : Super). Ok (volume_of h image)) superblocks
    ∙ ap (λ log. Ok (record { superblock = superblock; geometry = geometry_of superblock; image = folded (geometry_of superblock) log image })) (none_committed (geometry_of superblock) superblock.epoch image none)
