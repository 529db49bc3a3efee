-- Writing home may stop anywhere.
use Rattle.std.proofs.Common.{◌≡◌, ℕ, ◌+◌, ◌*◌, ◌<◌, ◌≤◌, ◌⊎◌, inl, inr, List, [], ◌∷◌, ◌++◌, length, Some, None, Bool, true, false, map, unwrap_or, ap, sym, refl, ◌∙◌, subst, arith}
use Rattle.std.specs.Prelude.{◌==◌, ◌&&◌, ◌||◌, nat_lt, nat_le, filter, if◌then◌else◌, IsTrue, Ok}
use Rattle.std.specs.List.{list_any, slice_get, AllByRecursion}
use Rattle.std.proofs.lemmas.Bool.{and_parts}
use Rattle.std.proofs.lemmas.Bool.Decides.{nat_tests}
use Rattle.ufs_layout.specs.Areas.{IsGeometry, sector_of_inode, is_inode_number, is_data_sector, first_of_data, first_of_inodes, first_of_journal, journal_sectors, sector_count}
use Rattle.ufs_layout.specs.Superblock.{geometry_of}
use Rattle.ufs_layout.specs.InodeForm.{InodeForm, inode_of, free_inode}
use Rattle.ufs_base.specs.Images.{Image}
use Rattle.ufs_image.specs.Images.{IsImageOf, form_at}
use Rattle.ufs_layout.specs.JournalSector.{journal_of}
use Rattle.ufs_image.specs.Journal.{ReadSector, FoundSector, PlacedRecord, Transaction, epoch_in, sectors_of_epoch, well_spelled, transactions, committed_of, committed}
use Rattle.ufs_image.specs.Fold.{is_in_range, is_newer, with_valid, with_committed, folded}
use Rattle.ufs_image.specs.BadSectors.{keeps_too_many, overkept_in, overkept, is_misspelled, is_off, first_bad, bad_sector}
use Rattle.ufs_image.specs.Nodes.{blocks_of}
use Rattle.ufs_image.specs.Volume.{Volume, superblock_of, superblock_refusal, volume, volume_of}
use Rattle.ufs_image.specs.Opens.{opens}
use Rattle.ufs_layout.specs.declared.geometry.Geometry.{Geometry}
use Rattle.ufs_layout.specs.declared.superblock.Super.{Super}
use Rattle.ufs_layout.specs.declared.records.LogRecord.{LogRecord}
use Rattle.ufs_layout.specs.declared.records.LogRecord.TheVariants.{Delta, Place, Free}
use Rattle.ufs_layout.specs.declared.records.Committed.{Committed}
use Rattle.ufs_image.specs.Catalog.{Catalog, IsInode, IsCatalogOf, catalog_at}
use Rattle.ufs_image.specs.Sound.{IsSoundCatalog}
use Rattle.ufs_image.specs.Agree.{IsOfForm}
use Rattle.ufs_image.specs.Folding.{FitsCommitted, folded_in}
use Rattle.ufs_image.specs.Standing.{IsVolumeOf}
use Rattle.ufs_image.proofs.Lists.{IsIn, in_one, in_left, in_right, from_filter}
use Rattle.ufs_image.proofs.Listed.{in_at_place}
use Rattle.ufs_image.proofs.Empty.{false_if_not, list_any_false, from_range}
use Rattle.ufs_image.proofs.Holders.{block_in_data}
use Rattle.ufs_image.proofs.Blamed.{find_none, none_find}
use Rattle.ufs_image.proofs.Journals.{map-same, filter-same, taken, is_taken}
use Rattle.ufs_image.proofs.Blocks.{catalog_same}
use Rattle.ufs_image.proofs.Steps.{folded_step}
use Rattle.ufs_image.proofs.Fits.{shows}
use Rattle.ufs_image.proofs.Records.{committed_fit}
use Rattle.ufs_image.proofs.Mixed.{touches, Touched, AreLate, sync_record, sync_records, late_records, numbers, mixed}
use Rattle.ufs_image.proofs.Opening.{has_geometry}
use Rattle.ufs_image.proofs.OneTree.{one_tree}

list_some : (s : ℕ) (os : List ℕ) → list_any (λ o. o == s) os ≡ true → IsIn s os
list_some s [] e = let no = e in cc
list_some s (o ∷ os) e = by (o == s) refl e (list_some s os)
  where
    by : (b : Bool) → (o == s) ≡ b → (b || list_any (λ o. o == s) os) ≡ true → (list_any (λ o. o == s) os ≡ true → IsIn s os) → IsIn s (o ∷ os)
    by true t e more = inl (let same : o ≡ s = grind (arith, nat_tests, t) in sym same)
    by false t e more = inr (more e)

some_list : (s : ℕ) (os : List ℕ) → list_any (λ o. o == s) os ≡ false → IsIn s os → ⊥
some_list s os e is = let off = list_any_false (λ o. o == s) os e s is in let yes : (s == s) ≡ true = grind (arith, nat_tests) in let no = sym off ∙ yes in cc

either_false : (a b c d : Bool) → (a || b || c) ≡ false → (c ≡ false → d ≡ false) → (a || b || d) ≡ false
either_false true b c d e f = let no = e in cc
either_false false true c d e f = let no = e in cc
either_false false false c d e f = f e

module _ (g : Geometry) where
  -- ---- records that keep too many extents

  -- An inode's sector is the same in both, or its number isn't below the transaction's.
  abbrev Alike : ℕ → List PlacedRecord → (a0 b0 a b : Image) → ℕ → Type 0
  Alike number ps a0 b0 a b k =
      ((b0 (sector_of_inode g k) ≡ a0 (sector_of_inode g k)) × (b (sector_of_inode g k) ≡ a (sector_of_inode g k)))
      ⊎ (Touched g k (map (λ (p : PlacedRecord). p.1) ps) → number ≤ (form_at g b0 k).number)

  test_alike : (number : ℕ) (p : PlacedRecord) (ps : List PlacedRecord) (a0 b0 a b : Image) → ((k : ℕ) → is_inode_number g k ≡ true → Alike number (p ∷ ps) a0 b0 a b k)
      → (is_in_range g p.1 && keeps_too_many g number b0 b p.1) ≡ true → (is_in_range g p.1 && keeps_too_many g number a0 a p.1) ≡ true
  test_alike number p ps a0 b0 a b alike e = of p.1 refl e
    where
      of : (r : LogRecord) → p.1 ≡ r → (is_in_range g r && keeps_too_many g number b0 b r) ≡ true → (is_in_range g r && keeps_too_many g number a0 a r) ≡ true
      of (Delta inode kind size keep extents) is e = by (alike inode ranged)
        where
          parts : (is_inode_number g inode ≡ true) × ((is_newer g number b0 inode && nat_lt (length (form_at g b inode).extents) keep) ≡ true)
          parts = and_parts (is_inode_number g inode) (is_newer g number b0 inode && nat_lt (length (form_at g b inode).extents) keep) e

          ranged : is_inode_number g inode ≡ true
          ranged = parts.0

          by : Alike number (p ∷ ps) a0 b0 a b inode → (is_inode_number g inode && (is_newer g number a0 inode && nat_lt (length (form_at g a inode).extents) keep)) ≡ true
          by (inl same) =
              let newer : is_newer g number b0 inode ≡ is_newer g number a0 inode = ap (λ bytes. nat_lt (unwrap_or (inode_of bytes) (free_inode 0)).number number) same.0 in
              let form : form_at g b inode ≡ form_at g a inode = ap (λ bytes. unwrap_or (inode_of bytes) (free_inode 0)) same.1 in
              sym (λ i. is_inode_number g inode && (newer i && nat_lt (length (form i).extents) keep)) ∙ e
          by (inr late) =
              let here : IsTrue (touches g inode p.1) = ap (touches g inode) is ∙ grind (arith, nat_tests) in
              let most = late (inl here) in
              let newer = (and_parts (is_newer g number b0 inode) (nat_lt (length (form_at g b inode).extents) keep) parts.1).0 in
              let less : (form_at g b0 inode).number < number = grind (arith, nat_tests, newer) in
              absurd (omega (arith, most, less))
      of (Place sector slot dentry) is e = absurd (let no = (and_parts (is_data_sector g sector) false e).1 in cc)
      of (Free inode) is e = absurd (let no = (and_parts (is_inode_number g inode) false e).1 in cc)

  next_alike : (number : ℕ) (p : PlacedRecord) (ps : List PlacedRecord) (a0 b0 a b : Image) (k : ℕ) → is_inode_number g k ≡ true → Alike number (p ∷ ps) a0 b0 a b k
      → Alike number ps a0 b0 (with_valid g number a0 p.1 a) (with_valid g number b0 p.1 b) k
  next_alike number p ps a0 b0 a b k ranged (inl same) = inl (same.0, sync_record g k ranged number b0 a0 b a p.1 same.0 same.1)
  next_alike number p ps a0 b0 a b k ranged (inr late) = inr (λ is. late (inr is))

  in_alike : (number : ℕ) (ps : List PlacedRecord) (a0 b0 a b : Image) (o : ℕ) → ((k : ℕ) → is_inode_number g k ≡ true → Alike number ps a0 b0 a b k) → IsIn o (overkept_in g number b0 ps b) → IsIn o (overkept_in g number a0 ps a)
  in_alike number [] a0 b0 a b o alike is = is
  in_alike number (p ∷ ps) a0 b0 a b o alike is =
      by (in_one o (if is_in_range g p.1 && keeps_too_many g number b0 b p.1 then p.0 ∷ [] else []) (overkept_in g number b0 ps (with_valid g number b0 p.1 b)) is)
      (in_alike number ps a0 b0 (with_valid g number a0 p.1 a) (with_valid g number b0 p.1 b) o (λ k ranged. next_alike number p ps a0 b0 a b k ranged (alike k ranged)))
    where
      head : (t : Bool) → (is_in_range g p.1 && keeps_too_many g number b0 b p.1) ≡ t → IsIn o (if t then p.0 ∷ [] else []) → IsIn o (if is_in_range g p.1 && keeps_too_many g number a0 a p.1 then p.0 ∷ [] else [])
      head true e there = subst (λ t. IsIn o (if t then p.0 ∷ [] else [])) (sym (test_alike number p ps a0 b0 a b alike e)) there
      head false e there = absurd there

      by : IsIn o (if is_in_range g p.1 && keeps_too_many g number b0 b p.1 then p.0 ∷ [] else []) ⊎ IsIn o (overkept_in g number b0 ps (with_valid g number b0 p.1 b))
          → (IsIn o (overkept_in g number b0 ps (with_valid g number b0 p.1 b)) → IsIn o (overkept_in g number a0 ps (with_valid g number a0 p.1 a)))
          → IsIn o ((if is_in_range g p.1 && keeps_too_many g number a0 a p.1 then p.0 ∷ [] else []) ++ overkept_in g number a0 ps (with_valid g number a0 p.1 a))
      by (inl there) more = in_left o (if is_in_range g p.1 && keeps_too_many g number a0 a p.1 then p.0 ∷ [] else []) (overkept_in g number a0 ps (with_valid g number a0 p.1 a)) (head (is_in_range g p.1 && keeps_too_many g number b0 b p.1) refl there)
      by (inr there) more = in_right o (if is_in_range g p.1 && keeps_too_many g number a0 a p.1 then p.0 ∷ [] else []) (overkept_in g number a0 ps (with_valid g number a0 p.1 a)) (more there)

  -- the same over all transactions
  abbrev pub AllAlike : List Transaction → (a b : Image) → ℕ → Type 0
  AllAlike ts a b k = (b (sector_of_inode g k) ≡ a (sector_of_inode g k)) ⊎ ((ranged : is_inode_number g k ≡ true) → AreLate g k ranged (map committed_of ts) (form_at g b k).number)

  first_alike : (t : Transaction) (ts : List Transaction) (a b : Image) (k : ℕ) → is_inode_number g k ≡ true → AllAlike (t ∷ ts) a b k → Alike t.number t.records a b a b k
  first_alike t ts a b k ranged (inl same) = inl (same, same)
  first_alike t ts a b k ranged (inr late) = inr ((late ranged).0)

  rest_alike : (t : Transaction) (ts : List Transaction) (a b : Image) (k : ℕ) → is_inode_number g k ≡ true → AllAlike (t ∷ ts) a b k → AllAlike ts (with_committed g (committed_of t) a) (with_committed g (committed_of t) b) k
  rest_alike t ts a b k ranged (inl same) = inl (sync_records g k ranged t.number b a b a (committed_of t).records same same)
  rest_alike t ts a b k ranged (inr late) =
      let stays = late_records g k ranged t.number b b (committed_of t).records (late ranged).0 in
      let form : (form_at g b k).number ≡ (form_at g (with_committed g (committed_of t) b) k).number = ap (λ bytes. (unwrap_or (inode_of bytes) (free_inode 0)).number) (sym stays) in
      inr (λ again. subst (AreLate g k again (map committed_of ts)) form (late again).1)

  overkept_alike : (ts : List Transaction) (a b : Image) (o : ℕ) → ((k : ℕ) → is_inode_number g k ≡ true → AllAlike ts a b k) → IsIn o (overkept g ts b) → IsIn o (overkept g ts a)
  overkept_alike [] a b o alike is = is
  overkept_alike (t ∷ ts) a b o alike is =
      by (in_one o (overkept_in g t.number b t.records b) (overkept g ts (with_committed g (committed_of t) b)) is)
      (overkept_alike ts (with_committed g (committed_of t) a) (with_committed g (committed_of t) b) o (λ k ranged. rest_alike t ts a b k ranged (alike k ranged)))
    where
      by : IsIn o (overkept_in g t.number b t.records b) ⊎ IsIn o (overkept g ts (with_committed g (committed_of t) b))
          → (IsIn o (overkept g ts (with_committed g (committed_of t) b)) → IsIn o (overkept g ts (with_committed g (committed_of t) a)))
          → IsIn o (overkept_in g t.number a t.records a ++ overkept g ts (with_committed g (committed_of t) a))
      by (inl there) more = in_left o (overkept_in g t.number a t.records a) (overkept g ts (with_committed g (committed_of t) a)) (in_alike t.number t.records a b a b o (λ k ranged. first_alike t ts a b k ranged (alike k ranged)) there)
      by (inr there) more = in_right o (overkept_in g t.number a t.records a) (overkept g ts (with_committed g (committed_of t) a)) (more there)

  -- ---- the journal

  pub sectors_same : (epoch : ℕ) (image mix : Image) → ((s : ℕ) → IsIn s (journal_sectors g) → mix s ≡ image s) → sectors_of_epoch g epoch mix ≡ sectors_of_epoch g epoch image
  sectors_same epoch image mix same =
      map-same (λ s. (s, journal_of (mix s))) (λ s. (s, journal_of (image s))) (filter (λ s. epoch_in (mix s) == epoch) (journal_sectors g))
      (λ s is. ap (λ bytes. (s, journal_of bytes)) (same s (from_filter (λ s. epoch_in (mix s) == epoch) (journal_sectors g) s is).0))
      ∙ ap (map (λ s. (s, journal_of (image s)))) (filter-same (λ s. epoch_in (mix s) == epoch) (λ s. epoch_in (image s) == epoch) (journal_sectors g) (λ s is. ap (λ bytes. epoch_in bytes == epoch) (same s is)))

  pub none_bad : (next : ℕ) (image mix : Image) (read : List ReadSector) → ((k : ℕ) → is_inode_number g k ≡ true → AllAlike (transactions (well_spelled read)) image mix k) → first_bad g next image read ≡ None → first_bad g next mix read ≡ None
  none_bad next image mix read alike none =
      none_find (λ sector. list_any (λ (r : ReadSector). r.0 == sector && is_misspelled r) read || list_any (λ (f : FoundSector). f.0 == sector && is_off g next (well_spelled read) f) (well_spelled read) || list_any (λ o. o == sector) (overkept g (transactions (well_spelled read)) mix)) (journal_sectors g)
      (λ sector is. either_false
      (list_any (λ (r : ReadSector). r.0 == sector && is_misspelled r) read)
      (list_any (λ (f : FoundSector). f.0 == sector && is_off g next (well_spelled read) f) (well_spelled read))
      (list_any (λ o. o == sector) (overkept g (transactions (well_spelled read)) image))
      (list_any (λ o. o == sector) (overkept g (transactions (well_spelled read)) mix))
      (find_none (λ sector. list_any (λ (r : ReadSector). r.0 == sector && is_misspelled r) read || list_any (λ (f : FoundSector). f.0 == sector && is_off g next (well_spelled read) f) (well_spelled read) || list_any (λ o. o == sector) (overkept g (transactions (well_spelled read)) image)) (journal_sectors g) none sector is)
      (λ off. false_if_not (list_any (λ o. o == sector) (overkept g (transactions (well_spelled read)) mix)) (λ there.
      some_list sector (overkept g (transactions (well_spelled read)) image) off (overkept_alike (transactions (well_spelled read)) image mix sector alike (list_some sector (overkept g (transactions (well_spelled read)) mix) there)))))

-- ---- the whole image

module _ (sectors : ℕ) (image mix : Image) (bytes : IsImageOf sectors image) (v : Volume) (c : Catalog) (is : IsVolumeOf sectors image v c) where
  abbrev s0 : Super
  s0 = superblock_of image

  abbrev g : Geometry
  g = geometry_of (superblock_of image)

  geometry_same : geometry_of (superblock_of image) ≡ v.geometry
  geometry_same = ap (λ (u : Volume). u.geometry) (sym (taken sectors image v is.taken).same)

  there : IsGeometry (geometry_of (superblock_of image)) × (sector_count (geometry_of (superblock_of image)) ≤ sectors)
  there = let at = has_geometry sectors image v is.taken in (subst IsGeometry (sym geometry_same) at.0, subst (λ h. sector_count h ≤ sectors) (sym geometry_same) at.1)

  abbrev cs : List Committed
  cs = committed (geometry_of (superblock_of image)) (superblock_of image).epoch image

  fit : AllByRecursion FitsCommitted cs
  fit = committed_fit g sectors (superblock_of image).epoch image there.0 there.1 bytes

  image_is : v.image ≡ folded g cs image
  image_is = ap (λ (u : Volume). u.image) (taken sectors image v is.taken).same

  module _ (first : mix 0 ≡ image 0) (journal : (s : ℕ) → IsIn s (journal_sectors (geometry_of (superblock_of image))) → mix s ≡ image s)
      (home : (s : ℕ) → 8 * first_of_inodes (geometry_of (superblock_of image)) ≤ s → (mix s ≡ image s) ⊎ (mix s ≡ folded (geometry_of (superblock_of image)) (committed (geometry_of (superblock_of image)) (superblock_of image).epoch image) image s)) where
    superblocks : superblock_of mix ≡ superblock_of image
    superblocks = ap (λ b. superblock_of (λ _. b)) first

    read_same : sectors_of_epoch g (superblock_of image).epoch mix ≡ sectors_of_epoch g (superblock_of image).epoch image
    read_same = sectors_same g (superblock_of image).epoch image mix journal

    in_range : (k : ℕ) → is_inode_number g k ≡ true → IsInode g k
    in_range k e =
        let low = (and_parts (nat_le 1 k) (nat_le k g.inodes) e).0 in
        let high = (and_parts (nat_le 1 k) (nat_le k g.inodes) e).1 in
        record { from_one = grind (arith, nat_tests, low); within = grind (arith, nat_tests, high) }

    alike : (k : ℕ) → is_inode_number g k ≡ true → AllAlike g (transactions (well_spelled (sectors_of_epoch g (superblock_of image).epoch image))) image mix k
    alike k ranged = by (home (sector_of_inode g k) (omega arith))
      where
        by : (mix (sector_of_inode g k) ≡ image (sector_of_inode g k)) ⊎ (mix (sector_of_inode g k) ≡ folded g cs image (sector_of_inode g k)) → AllAlike g (transactions (well_spelled (sectors_of_epoch g (superblock_of image).epoch image))) image mix k
        by (inl same) = inl same
        by (inr done) =
            let after = folded_step g false (λ _. false) cs image (catalog_at g image) (shows g sectors image there.0 there.1 bytes) fit in
            let form : form_at g mix k ≡ (folded_in g cs (catalog_at g image)).forms k = ap (λ b. unwrap_or (inode_of b) (free_inode 0)) done ∙ after.forms k (in_range k ranged) in
            inr (λ again. subst (AreLate g k again cs) (sym (ap (λ (f : InodeForm). f.number) form)) (numbers g k again cs (catalog_at g image)))

    superblock_there : superblock_refusal sectors mix ≡ None
    superblock_there = ap (λ b. superblock_refusal sectors (λ _. b)) first ∙ (taken sectors image v is.taken).superblock

    bad_none : bad_sector g (superblock_of image) mix ≡ None
    bad_none = ap (first_bad g (superblock_of image).next mix) read_same ∙ none_bad g (superblock_of image).next image mix (sectors_of_epoch g (superblock_of image).epoch image) alike (taken sectors image v is.taken).journal

    mix_taken : volume sectors mix ≡ Ok (volume_of (superblock_of mix) mix)
    mix_taken = is_taken sectors mix superblock_there (ap (λ (s : Super). bad_sector (geometry_of s) s mix) superblocks ∙ bad_none)

    same_volume : volume_of (superblock_of mix) mix ≡ volume_of (superblock_of image) mix
    same_volume = ap (λ (s : Super). volume_of s mix) superblocks

    folds : (s : ℕ) → 8 * first_of_inodes g ≤ s → folded g (committed g (superblock_of image).epoch mix) mix s ≡ folded g cs image s
    folds s from = ap (λ read. folded g (map committed_of (transactions (well_spelled read))) mix s) read_same ∙ mixed g sectors image mix cs there.0 there.1 bytes fit s (home s from)

    agree : (s : ℕ) → 8 * first_of_inodes g ≤ s → v.image s ≡ (volume_of (superblock_of mix) mix).image s
    agree s from = ap (λ (i : Image). i s) image_is ∙ sym (folds s from) ∙ sym (ap (λ (u : Volume). u.image s) same_volume)

    geometries : (volume_of (superblock_of mix) mix).geometry ≡ v.geometry
    geometries = ap (λ (u : Volume). u.geometry) same_volume ∙ geometry_same

    mix_is : IsVolumeOf sectors mix (volume_of (superblock_of mix) mix) c
    mix_is = record {
      taken = mix_taken;
      catalog = subst (λ h. IsCatalogOf h (volume_of (superblock_of mix) mix).image c) (sym geometries) (catalog_same v.geometry v.image (volume_of (superblock_of mix) mix).image c is.catalog
          (λ k ranged. subst (λ h. v.image (sector_of_inode h k) ≡ (volume_of (superblock_of mix) mix).image (sector_of_inode h k)) geometry_same (agree (sector_of_inode g k) (omega arith)))
          (λ s of. let low = block_low of.dir_block.inode of.dir_block.place of.block of.dir_block.has.in_range of.dir_block.has.there in let at = of.of_block.same in agree s (omega (arith, low, at))));
      sound = subst (λ h. IsSoundCatalog h c) (sym geometries) is.sound;
    }
      where
        block_low : (k p b : ℕ) → IsInode v.geometry k → slice_get (blocks_of (c.forms k)) p ≡ Some b → first_of_inodes g ≤ b
        block_low k p b ranged at =
            let low = (block_in_data v.geometry (c.forms k).extents b (is.sound.in_data k ranged) (in_at_place b (blocks_of (c.forms k)) p at)).0 in
            let here : first_of_data g ≤ b = subst (λ h. first_of_data h ≤ b) (sym geometry_same) low in
            omega (arith, here)

    pub stops : opens sectors mix ≡ opens sectors image
    stops = one_tree sectors image mix v (volume_of (superblock_of mix) mix) c is mix_is geometries (λ k ranged s of. agree s (low k ranged s of))
      where
        low : (k : ℕ) → IsInode v.geometry k → (s : ℕ) → IsOfForm (c.forms k) s → 8 * first_of_inodes g ≤ s
        low k ranged s of =
            let from = (block_in_data v.geometry (c.forms k).extents of.block (is.sound.in_data k ranged) (in_at_place of.block (blocks_of (c.forms k)) of.place of.there)).0 in
            let here : first_of_data g ≤ of.block = subst (λ h. first_of_data h ≤ of.block) (sym geometry_same) from in
            let at = of.of_block.same in
            omega (arith, here, at)

-- the same by the geometry of the folded image
pub stops_anywhere : (sectors : ℕ) (image mix : Image) (v : Volume) (c : Catalog) → IsImageOf sectors image → IsVolumeOf sectors image v c → mix 0 ≡ image 0
    → ((s : ℕ) → 8 * first_of_journal v.geometry ≤ s → s < 8 * first_of_journal v.geometry + v.geometry.journal → mix s ≡ image s)
    → ((s : ℕ) → 8 * first_of_inodes v.geometry ≤ s → (mix s ≡ image s) ⊎ (mix s ≡ v.image s)) → opens sectors mix ≡ opens sectors image
stops_anywhere sectors image mix v c bytes is first journal home =
    stops sectors image mix bytes v c is first
    (λ s inside. let at = from_range (8 * first_of_journal (geometry_of (superblock_of image))) (geometry_of (superblock_of image)).journal s inside in
    journal s (subst (λ h. 8 * first_of_journal h ≤ s) same at.0) (subst (λ (h : Geometry). s < 8 * first_of_journal h + h.journal) same at.1))
    (λ s from. by s (home s (subst (λ h. 8 * first_of_inodes h ≤ s) same from)))
  where
    same : geometry_of (superblock_of image) ≡ v.geometry
    same = geometry_same sectors image mix bytes v c is

    by : (s : ℕ) → (mix s ≡ image s) ⊎ (mix s ≡ v.image s) → (mix s ≡ image s) ⊎ (mix s ≡ folded (geometry_of (superblock_of image)) (committed (geometry_of (superblock_of image)) (superblock_of image).epoch image) image s)
    by s (inl e) = inl e
    by s (inr e) = inr (e ∙ ap (λ (i : Image). i s) (image_is sectors image mix bytes v c is))
