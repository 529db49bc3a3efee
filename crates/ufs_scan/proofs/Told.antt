-- The lowest sector that is off, by what was read.
use Rattle.std.proofs.Common.{◌≡◌, ℕ, ◌-◌, ◌*◌, ◌<◌, List, Bool, true, false, Option, length, get_or, refl, ap, sym, ◌∙◌, subst}
use Rattle.std.specs.Prelude.{map}
use Rattle.std.specs.List.{All, filter}
use Rattle.std.specs.List.Sorted.{IsPermutation}
use Rattle.std.proofs.lemmas.List.{length-map}
use Rattle.std.proofs.lemmas.List.FromFn.{length-range_with_len}
use Rattle.ufs_layout.specs.Areas.{IsGeometry, first_of_journal}
use Rattle.ufs_layout.specs.Words.{rising_by}
use Rattle.ufs_base.specs.Images.{Image}
use Rattle.ufs_image.specs.Journal.{FoundSector, has_records, has_commit, transactions, well_spelled, sectors_of_epoch}
use Rattle.ufs_image.specs.BadSectors.{overkept, bad_sector}
use Rattle.ufs_layout.specs.declared.geometry.Geometry.{Geometry}
use Rattle.ufs_layout.specs.declared.superblock.Super.{Super}
use Rattle.ufs_found.specs.Read.{misspelled}
use Rattle.ufs_found.specs.Off.{lower, lowest_of, first_off}
use Rattle.ufs_found.specs.Sorted.{number_of}
use Rattle.ufs_scan.specs.Chains.{AreChains}
use Rattle.ufs_scan.specs.Edits.{edits_of}
use Rattle.ufs_scan.specs.Folding.{IsFit, IsFoldable, TailIsKnown}
use Rattle.ufs_scan.specs.Gathered.{transaction_in, HasParts}
use Rattle.ufs_scan.specs.Standings.{standings, out_of, marked_standing, marked_standings}
use Rattle.ufs_scan.specs.declared.chains.Chain.{Chain}
use Rattle.ufs_scan.specs.declared.standing.Standing.{Standing}
use Rattle.ufs_scan.proofs.ChainsFit.{few_inodes}
use Rattle.ufs_scan.proofs.Lowest.{bad_is}
use Rattle.ufs_scan.proofs.InJournal.{overkept_inside, transactions_fit}
use Rattle.ufs_scan.proofs.Overkept.{out_is}
use Rattle.ufs_scan.proofs.Named.{marked_out, marked_still, marked_named}
use Rattle.ufs_scan.proofs.PartsInOrder.{in_numbers}
use Rattle.ufs_scan.proofs.Tails.{Rising, rising_found, tails_known}

-- what was read of a journal
pub record IsRead (g : Geometry) (superblock : Super) (image : Image) (found parts commits : List FoundSector) (chains : List Chain) : Type 0 where
  pub spelled : found ≡ well_spelled (sectors_of_epoch g superblock.epoch image)
  pub has : HasParts found parts
  pub same : IsPermutation (filter has_records found) parts
  pub small : All (λ (f : FoundSector). f.1.index < 65536) parts
  pub linked : AreChains (edits_of g parts) chains
  pub fit : All (λ (c : Chain). IsFit g.inodes c) chains
  pub numbers : commits ≡ rising_by number_of (filter has_commit found)
  pub low : All (λ (f : FoundSector). f.1.index < 65536) commits

-- by what each call was given of it
pub read_is : (g : Geometry) (superblock : Super) (image : Image) (found parts_found commits_found parts chains_parts commits : List FoundSector) (chains : List Chain) → parts_found ≡ found → commits_found ≡ found → chains_parts ≡ parts
    → found ≡ well_spelled (sectors_of_epoch g superblock.epoch image) → HasParts parts_found parts → IsPermutation (filter has_records parts_found) parts → All (λ (f : FoundSector). f.1.index < 65536) parts
    → AreChains (edits_of g chains_parts) chains → All (λ (c : Chain). IsFit g.inodes c) chains → commits ≡ rising_by number_of (filter has_commit commits_found) → All (λ (f : FoundSector). f.1.index < 65536) commits
    → IsRead g superblock image found parts commits chains
read_is g superblock image found parts_found commits_found parts chains_parts commits chains for_parts for_commits for_chains spelled has same small linked fit numbers low = record {
  spelled = spelled;
  has = subst (λ (l : List FoundSector). HasParts l parts) for_parts has;
  same = subst (λ (l : List FoundSector). IsPermutation (filter has_records l) parts) for_parts same;
  small = small;
  linked = subst (λ (l : List FoundSector). AreChains (edits_of g l) chains) for_chains linked;
  fit = fit;
  numbers = numbers ∙ ap (λ (l : List FoundSector). rising_by number_of (filter has_commit l)) for_commits;
  low = low;
}

module _ (g : Geometry) (taken : IsGeometry g) (superblock : Super) (image : Image) (found parts commits : List FoundSector) (chains : List Chain) (read : IsRead g superblock image found parts commits chains) where
  in_order : Rising found
  in_order = subst (λ (l : List FoundSector). Rising l) (sym read.spelled) (rising_found superblock.epoch image (8 * first_of_journal g) g.journal)

  pub txns : map (transaction_in found) commits ≡ transactions (well_spelled (sectors_of_epoch g superblock.epoch image))
  txns = ap (map (transaction_in found)) read.numbers ∙ sym (in_numbers found) ∙ ap transactions read.spelled

  module _ (mid : Image) (same : mid ≡ image) (marks : List Bool) (marked : All (λ (c : Chain). get_or marks (c.inode - 1) false ≡ true) chains) (stand : List Standing) (stand_is : stand ≡ marked_standings g marks mid) where
    foldable : (wrong off known : Option ℕ) → off ≡ first_off g superblock.next found → known ≡ lower wrong off → IsFoldable g found parts chains commits stand known
    foldable wrong off known off_is known_is = record {
      has = read.has;
      small = read.small;
      linked = read.linked;
      few = few_inodes g taken;
      sized = ap length stand_is ∙ length-map (Rattle.std.specs.List.range_with_len 1 g.inodes) (marked_standing g marks mid) ∙ length-range_with_len 1 g.inodes;
      still = ap (map Rattle.ufs_scan.specs.Standings.rested) stand_is ∙ marked_still g marks mid ∙ sym stand_is;
      tails = subst (λ (l : List FoundSector). All (TailIsKnown (edits_of g parts) known) l) (sym read.numbers) (tails_known g superblock.next found in_order parts read.same wrong off known off_is known_is);
    }

    kept : out_of g (map (transaction_in found) commits) stand ≡ overkept g (transactions (well_spelled (sectors_of_epoch g superblock.epoch image))) image
    kept =
        ap (out_of g (map (transaction_in found) commits)) stand_is
        ∙ marked_out g (map (transaction_in found) commits) marks mid (marked_named g (few_inodes g taken) found parts read.has read.small chains read.linked read.fit marks marked commits read.low)
        ∙ (λ i. out_of g (txns i) (standings g (same i) (same i)))
        ∙ out_is g taken (transactions (well_spelled (sectors_of_epoch g superblock.epoch image))) image image (transactions_fit g superblock.epoch image)

    pub told_bad : (wrong off known lowest : Option ℕ) → wrong ≡ misspelled (sectors_of_epoch g superblock.epoch image) → off ≡ first_off g superblock.next found → known ≡ lower wrong off
        → ((h : Geometry) (all some : List FoundSector) → IsFoldable h all some chains commits stand known → lowest ≡ lower known (lowest_of (out_of h (map (transaction_in all) commits) stand)))
        → bad_sector g superblock image ≡ lowest
    told_bad wrong off known lowest wrong_is off_is known_is folded =
        bad_is g superblock image (overkept g (transactions (well_spelled (sectors_of_epoch g superblock.epoch image))) image) refl (overkept_inside g superblock.epoch image)
        ∙ sym (folded g found parts (foldable wrong off known off_is known_is)
        ∙ (λ i. lower (known_is i) (lowest_of (kept i)))
        ∙ (λ i. lower (lower (wrong_is i) ((off_is ∙ ap (first_off g superblock.next) read.spelled) i)) (lowest_of (overkept g (transactions (well_spelled (sectors_of_epoch g superblock.epoch image))) image))))
