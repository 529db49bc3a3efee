-- Another superblock is written, where everything is home: the disk is marked in use, or the next epoch begins.
use Rattle.std.proofs.Common.{◌≡◌, ℕ, ◌+◌, ◌*◌, ◌-◌, ◌<◌, ◌≤◌, inl, List, [], ◌∷◌, true, false, Some, None, is_none, take, map, ap, sym, refl, ◌∙◌, subst, arith}
use Rattle.std.specs.Prelude.{◌==◌, ◌&&◌, ◌||◌, not, nat_le, nat_lt, Ok, option_map, if◌then◌else◌}
use Rattle.std.specs.List.{find}
use Rattle.std.specs.Str.{bytes_eq}
use Rattle.std.proofs.lemmas.Bool.{and_parts}
use Rattle.std.proofs.lemmas.Bool.Decides.{nat_tests}
use Rattle.ufs_disk.specs.Disk.{Cell, put}
use Rattle.ufs_base.specs.Choices.{first_of, refused_if}
use Rattle.ufs_layout.specs.Areas.{IsGeometry, sector_count, first_of_journal, journal_sectors, geometry_refusal, refusal_number}
use Rattle.ufs_layout.specs.Superblock.{geometry_of, super_of, super_fields, super_bytes, is_super, magic}
use Rattle.ufs_base.specs.Images.{Image}
use Rattle.ufs_image.specs.Images.{IsImageOf, block_at}
use Rattle.ufs_image.specs.Journal.{committed, sectors_of_epoch, transactions, well_spelled, committed_of, epoch_in}
use Rattle.ufs_layout.specs.JournalSector.{journal_of}
use Rattle.ufs_image.specs.BadSectors.{bad_sector, first_bad}
use Rattle.ufs_image.specs.Fold.{folded}
use Rattle.ufs_image.specs.Proper.{IsProperClean}
use Rattle.ufs_image.specs.Volume.{NoSuperblock, BadVersion, BadGeometry}
use Rattle.ufs_image.specs.Volume.{Volume, volume, volume_of, superblock_of, superblock_refusal, lacks_magic, has_other_version, is_off_form, bad_geometry, is_too_small}
use Rattle.ufs_layout.specs.declared.geometry.Geometry.{Geometry}
use Rattle.ufs_layout.specs.declared.superblock.Super.{Super}
use Rattle.ufs_layout.proofs.Spelled.{spelled-some, some_if-some}
use Rattle.ufs_journal.specs.Found.{journal_sector, IsFreeFrom}
use Rattle.ufs_journal.specs.Kept.{HasNoLater}
use Rattle.ufs_image.specs.Agree.{AgreeOn}
use Rattle.ufs_image.specs.Sound.{IsSoundCatalog}
use Rattle.ufs_image.specs.Folding.{Spells}
use Rattle.ufs_image.proofs.Empty.{from_range, empty_filter}
use Rattle.ufs_image.proofs.Journals.{taken, is_taken}
use Rattle.ufs_image.proofs.Opening.{second_none, not_refused, has_geometry}
use Rattle.ufs_image.proofs.Blocks.{block_same, block_length}
use Rattle.ufs_ledger.specs.Ledger.{IsDataBlock, IsMixOf, is_held, Stand, IsLeft, CoversDirs}
use Rattle.ufs_ledger.proofs.Opened.{same_geometry}
use Rattle.ufs_ledger.proofs.Alike.{not_clean, spells_agree, spelled_folds}

find_nothing : (xs : List ℕ) → find (λ sector. false) xs ≡ None
find_nothing [] = refl
find_nothing (x ∷ xs) = find_nothing xs

-- ---- an epoch of which nothing is found

module _ (g : Geometry) (epoch : ℕ) (image : Image) (free : IsFreeFrom g epoch 0 image) where
  pub none_read : sectors_of_epoch g epoch image ≡ []
  none_read = ap (map (λ s. (s, journal_of (image s)))) (empty_filter (λ s. epoch_in (image s) == epoch) (journal_sectors g) (λ s is. at s (from_range (8 * first_of_journal g) g.journal s is)))
    where
      at : (s : ℕ) → (8 * first_of_journal g ≤ s) × (s < 8 * first_of_journal g + g.journal) → (epoch_in (image s) == epoch) ≡ false
      at s within =
          let from = within.0 in
          let under = within.1 in
          let same : journal_sector g (s - 8 * first_of_journal g) ≡ s = omega (arith, from) in
          subst (λ k. (epoch_in (image k) == epoch) ≡ false) same (free (s - 8 * first_of_journal g) (omega arith) (omega (arith, from, under)))

  pub none_committed : committed g epoch image ≡ []
  none_committed = ap (λ read. map committed_of (transactions (well_spelled read))) none_read

  pub none_bad : (superblock : Super) → superblock.epoch ≡ epoch → bad_sector g superblock image ≡ None
  none_bad superblock same = ap (first_bad g superblock.next image) (ap (λ e. sectors_of_epoch g e image) same ∙ none_read) ∙ find_nothing (journal_sectors g)

-- ---- the superblock

module _ (sectors : ℕ) (superblock new : Super) (blocks : ℕ → Cell) (s : Stand) (home : Image) (bytes : List ℕ) (left : IsLeft sectors superblock blocks s home) (spelled : super_of 1 bytes ≡ Some new) (kept : geometry_of new ≡ geometry_of superblock)
    (whole : IsImageOf sectors home) (at_home : folded (geometry_of superblock) s.log home ≡ home) (later : superblock.epoch ≤ new.epoch) (free : IsFreeFrom (geometry_of superblock) new.epoch 0 home) (used : new.clean ≡ false) where
  abbrev pub after : Image
  after = put 0 bytes home

  abbrev Behind : ℕ → Type 0
  Behind sector = 0 < sector

  behind : AgreeOn Behind home after
  behind sector past = sym (ap (λ b. if b then bytes else home sector) (let off : (sector == 0) ≡ false = grind (arith, nat_tests, past) in off))

  parts : (is_super 1 (super_fields bytes) && bytes_eq (super_bytes (super_fields bytes)) bytes ≡ true) × (super_fields bytes ≡ new)
  parts = some_if-some (is_super 1 (super_fields bytes) && bytes_eq (super_bytes (super_fields bytes)) bytes) (super_fields bytes) new spelled

  fields : superblock_of after ≡ new
  fields = parts.1

  spelling : (bytes ≡ super_bytes new) × (is_super 1 new ≡ true)
  spelling = spelled-some super_fields super_bytes (is_super 1) bytes new spelled

  was : IsGeometry (geometry_of superblock) × (sector_count (geometry_of superblock) ≤ sectors)
  was =
      let is = has_geometry sectors home left.as_volume left.taken in
      let same = same_geometry sectors superblock blocks s home left in
      (subst IsGeometry same is.0, subst (λ g. sector_count g ≤ sectors) same is.1)

  geometry_same : geometry_of (superblock_of home) ≡ geometry_of (superblock_of after)
  geometry_same =
      let is = taken sectors home left.as_volume left.taken in
      let superblocks : superblock_of home ≡ superblock = sym (ap (λ (v : Volume). v.superblock) is.same) ∙ left.superblock_is in
      ap geometry_of superblocks ∙ sym kept ∙ ap geometry_of (sym fields)

  not_refused' : superblock_refusal sectors after ≡ None
  not_refused' =
      let is = taken sectors home left.as_volume left.taken in
      let one = second_none (refused_if (lacks_magic sectors home) NoSuperblock) _ is.superblock in
      let two = second_none (refused_if (has_other_version home) (BadVersion (superblock_of home).version)) _ one.1 in
      let three = second_none (refused_if (is_off_form home) NoSuperblock) _ two.1 in
      let four = second_none (bad_geometry home) _ three.1 in
      let some : (sectors == 0) ≡ false = (let least = was.0.least_blocks in let room = was.1 in let positive : 0 < sectors = omega (arith, least, room) in grind (arith, nat_tests, positive)) in
      let begins : bytes_eq (take 8 bytes) magic ≡ true = ap (λ b. bytes_eq (take 8 b) magic) spelling.0 in
      let magic_there : lacks_magic sectors after ≡ false = λ i. some i || not (begins i) in
      let version : (new.version == 1) ≡ true = (and_parts (new.version == 1) (nat_le 1 new.epoch && nat_le 1 new.next) spelling.1).0 in
      let version_there : has_other_version after ≡ false = ap (λ (h : Super). not (h.version == 1)) fields ∙ ap not version in
      let form : is_off_form after ≡ false = ap is_none spelled in
      let geometry_there : bad_geometry after ≡ None = ap (λ g. option_map (λ bad. BadGeometry (refusal_number bad)) (geometry_refusal g)) (sym geometry_same) ∙ four.0 in
      let small : is_too_small sectors after ≡ false = ap (λ g. nat_lt sectors (sector_count g)) (sym geometry_same) ∙ not_refused (is_too_small sectors home) (BadGeometry 5) four.1 in
      λ i. first_of (refused_if (magic_there i) NoSuperblock)
      (first_of (refused_if (version_there i) (BadVersion (superblock_of after).version))
      (first_of (refused_if (form i) NoSuperblock)
      (first_of (geometry_there i)
      (refused_if (small i) (BadGeometry 5)))))

  free_there : IsFreeFrom (geometry_of superblock) new.epoch 0 after
  free_there place from under = ap (λ b. epoch_in b == new.epoch) (sym (behind (journal_sector (geometry_of superblock) place) (omega arith))) ∙ free place from under

  free_after : IsFreeFrom (geometry_of new) new.epoch 0 after
  free_after = subst (λ g. IsFreeFrom g new.epoch 0 after) (sym kept) free_there

  latest_after : HasNoLater (geometry_of new) new.epoch after
  latest_after = subst (λ g. HasNoLater g new.epoch after) (sym kept)
      (λ place under. let same = behind (journal_sector (geometry_of superblock) place) (omega arith) in let most = left.latest place under in subst (λ b. epoch_in b ≤ new.epoch) same (omega (arith, most, later)))

  taken_after : volume sectors after ≡ Ok (volume_of new after)
  taken_after =
      is_taken sectors after not_refused' (ap (λ (h : Super). bad_sector (geometry_of h) h after) fields ∙ none_bad (geometry_of new) new.epoch after free_after new refl)
      ∙ ap (λ (h : Super). Ok (volume_of h after)) fields

  pub left_superblock_put : IsLeft sectors new (λ block. record { older = []; seen = block_at home block }) (record s { log = [] }) after
  left_superblock_put = record {
    as_volume = volume_of new after;
    taken = taken_after;
    superblock_is = refl;
    logged = none_committed (geometry_of new) new.epoch after free_after;
    latest = latest_after;
    spells = subst (λ g. Spells g true s.dirs (folded g (committed g new.epoch after) after) s.catalog) (sym kept)
        (subst (λ log. Spells (geometry_of superblock) true s.dirs (folded (geometry_of superblock) log after) s.catalog) (sym (none_committed (geometry_of superblock) new.epoch after free_there))
        (spells_agree (geometry_of superblock) Behind (λ inode ranged. omega arith) s.dirs home after s.catalog behind (λ block sector its from of. let at = of.same in omega (arith, from, at))
        (subst (λ i. Spells (geometry_of superblock) true s.dirs i s.catalog) at_home (spelled_folds sectors superblock blocks s home left))));
    covers = subst (λ g. CoversDirs g s) (sym kept) left.covers;
    sound = subst (λ g. IsSoundCatalog g s.catalog) (sym kept) left.sound;
    contents = contents;
    if_clean = not_clean new used (IsProperClean (volume_of new after) after);
  }
    where
      contents : (block : ℕ) → IsDataBlock (geometry_of new) block → is_held [] block ≡ false → IsMixOf (block_at home block ∷ []) (block_at after block)
      contents block data' free =
          let is : IsDataBlock (geometry_of superblock) block = subst (λ g. IsDataBlock g block) kept data' in
          let same : block_at home block ≡ block_at after block = block_same home after block (λ sector of. let from = is.from in let at = of.same in behind sector (omega (arith, from, at))) in
          subst (IsMixOf (block_at home block ∷ [])) same
          (record { size = block_length home sectors whole block (let under = is.under in let room = was.1 in omega (arith, under, room)); each = λ place less. inl refl })
