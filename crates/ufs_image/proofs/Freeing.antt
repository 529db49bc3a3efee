-- Writing home may stop anywhere, where inodes that no name stands for are freed on the way.
use Rattle.std.proofs.Common.{◌≡◌, ℕ, ◌+◌, ◌*◌, ◌<◌, ◌≤◌, ◌⊎◌, inl, inr, List, [], ◌∷◌, Some, true, false, map, unwrap_or, ap, sym, refl, ◌∙◌, subst, arith}
use Rattle.std.specs.Prelude.{nat_le, Ok}
use Rattle.std.specs.List.{slice_get, AllByRecursion}
use Rattle.std.proofs.lemmas.Bool.{and_parts}
use Rattle.std.proofs.lemmas.Bool.Decides.{nat_tests}
use Rattle.ufs_layout.specs.Areas.{IsGeometry, sector_of_inode, is_inode_number, first_of_data, first_of_journal, journal_sectors, sector_count}
use Rattle.ufs_layout.specs.Superblock.{geometry_of}
use Rattle.ufs_layout.specs.InodeForm.{InodeForm, inode_of, inode_bytes, free_inode}
use Rattle.ufs_base.specs.Images.{Image}
use Rattle.ufs_image.specs.Images.{IsImageOf, inode_at, form_at}
use Rattle.ufs_image.specs.Nodes.{blocks_of}
use Rattle.ufs_image.specs.Journal.{sectors_of_epoch, well_spelled, transactions, committed_of, committed}
use Rattle.ufs_image.specs.Fold.{folded}
use Rattle.ufs_image.specs.BadSectors.{first_bad, bad_sector}
use Rattle.ufs_image.specs.Volume.{Volume, superblock_of, superblock_refusal, volume, volume_of}
use Rattle.ufs_image.specs.Opens.{opens}
use Rattle.ufs_layout.specs.declared.geometry.Geometry.{Geometry}
use Rattle.ufs_layout.specs.declared.superblock.Super.{Super}
use Rattle.ufs_layout.specs.declared.records.Committed.{Committed}
use Rattle.ufs_image.specs.Catalog.{Catalog, IsInode, HasBlock, IsCatalogOf, catalog_at}
use Rattle.ufs_image.specs.Folding.{FitsForm, FitsCommitted, folded_in}
use Rattle.ufs_image.specs.Changes.{IsFree, IsUnnamed, FreesUnnamed}
use Rattle.ufs_image.specs.Walks.{inode_of as met_by, node_of}
use Rattle.ufs_image.specs.Standing.{IsVolumeOf}
use Rattle.ufs_image.specs.Stops.{IsHome}
use Rattle.ufs_image.proofs.Lists.{IsIn}
use Rattle.ufs_image.proofs.Listed.{in_at_place}
use Rattle.ufs_image.proofs.Empty.{from_range}
use Rattle.ufs_image.proofs.Holders.{block_in_data}
use Rattle.ufs_image.proofs.Found.{reached, turned, walk-back}
use Rattle.ufs_image.proofs.Depth.{root_in_range}
use Rattle.ufs_image.proofs.Journals.{taken, is_taken}
use Rattle.ufs_image.proofs.Blocks.{read_same}
use Rattle.ufs_image.proofs.Steps.{folded_step, inode-read}
use Rattle.ufs_image.proofs.Fits.{shows}
use Rattle.ufs_image.proofs.Records.{committed_fit}
use Rattle.ufs_image.proofs.Mixed.{AreLate, sync, late, numbers, mixed}
use Rattle.ufs_image.proofs.Opening.{has_geometry}
use Rattle.ufs_image.proofs.OneTree.{alike_tree, node_same}
use Rattle.ufs_image.proofs.Unnamed.{named_same, had_block, reached_named, unnamed_sound, unnamed_walks}
use Rattle.ufs_image.proofs.Home.{AllAlike, sectors_same, none_bad}

-- not below a number that isn't below
still_late : (g : Geometry) (k : ℕ) (ranged : is_inode_number g k ≡ true) (ts : List Committed) (n m : ℕ) → n ≤ m → AreLate g k ranged ts n → AreLate g k ranged ts m
still_late g k ranged [] n m less all = tt
still_late g k ranged (t ∷ ts) n m less all = ((λ is. let one = all.0 is in omega (arith, one, less)), still_late g k ranged ts n m less all.1)

module _ (sectors : ℕ) (image mix : Image) (c d : Catalog) (bytes : IsImageOf sectors image) (is : IsVolumeOf sectors image (volume_of (superblock_of image) image) c) where
  abbrev g : Geometry
  g = geometry_of (superblock_of image)

  abbrev cs : List Committed
  cs = committed (geometry_of (superblock_of image)) (superblock_of image).epoch image

  there : IsGeometry (geometry_of (superblock_of image)) × (sector_count (geometry_of (superblock_of image)) ≤ sectors)
  there = has_geometry sectors image (volume_of (superblock_of image) image) is.taken

  some : 1 ≤ g.inodes
  some = let least = there.0.least_inodes in omega (arith, least)

  fit : AllByRecursion FitsCommitted cs
  fit = committed_fit g sectors (superblock_of image).epoch image there.0 there.1 bytes

  bool_number : (k : ℕ) → IsInode g k → is_inode_number g k ≡ true
  bool_number k in_range = let from = in_range.from_one in let most = in_range.within in grind (arith, nat_tests, from, most)

  in_range : (k : ℕ) → is_inode_number g k ≡ true → IsInode g k
  in_range k e =
      let low = (and_parts (nat_le 1 k) (nat_le k g.inodes) e).0 in
      let high = (and_parts (nat_le 1 k) (nat_le k g.inodes) e).1 in
      record { from_one = grind (arith, nat_tests, low); within = grind (arith, nat_tests, high) }

  -- the form that folding gives
  folded_form : (k : ℕ) → IsInode g k → (folded_in g cs (catalog_at g image)).forms k ≡ c.forms k
  folded_form k ranged =
      let after = folded_step g false (λ _. false) cs image (catalog_at g image) (shows g sectors image there.0 there.1 bytes) fit in
      sym (after.forms k ranged) ∙ ap (λ o. unwrap_or o (free_inode 0)) (is.catalog.forms k ranged)

  all_late : (k : ℕ) (ranged : is_inode_number g k ≡ true) (number : ℕ) → (c.forms k).number ≤ number → AreLate g k ranged cs number
  all_late k ranged number less =
      let same : ((folded_in g cs (catalog_at g image)).forms k).number ≡ (c.forms k).number = ap (λ (f : InodeForm). f.number) (folded_form k (in_range k ranged)) in
      still_late g k ranged cs ((folded_in g cs (catalog_at g image)).forms k).number number (omega (arith, same, less)) (numbers g k ranged cs (catalog_at g image))

  module _ (first : mix 0 ≡ image 0) (journal : (s : ℕ) → IsIn s (journal_sectors (geometry_of (superblock_of image))) → mix s ≡ image s)
      (data' : (s : ℕ) → 8 * first_of_data (geometry_of (superblock_of image)) ≤ s → (mix s ≡ image s) ⊎ (mix s ≡ folded (geometry_of (superblock_of image)) (committed (geometry_of (superblock_of image)) (superblock_of image).epoch image) image s))
      (frees : FreesUnnamed (geometry_of (superblock_of image)) c d)
      (home : (k : ℕ) → IsInode (geometry_of (superblock_of image)) k → IsHome (image (sector_of_inode (geometry_of (superblock_of image)) k)) (mix (sector_of_inode (geometry_of (superblock_of image)) k)) (c.forms k) (d.forms k)) where
    superblocks : superblock_of mix ≡ superblock_of image
    superblocks = ap (λ b. superblock_of (λ _. b)) first

    read_same' : sectors_of_epoch g (superblock_of image).epoch mix ≡ sectors_of_epoch g (superblock_of image).epoch image
    read_same' = sectors_same g (superblock_of image).epoch image mix journal

    -- what an inode's sector shows
    shown : (k : ℕ) → FitsForm (d.forms k) → mix (sector_of_inode g k) ≡ inode_bytes (d.forms k) → form_at g mix k ≡ d.forms k
    shown k fits e = ap (λ b. unwrap_or (inode_of b) (free_inode 0)) e ∙ ap (λ o. unwrap_or o (free_inode 0)) (inode-read (d.forms k) fits)

    alike : (k : ℕ) → is_inode_number g k ≡ true → AllAlike g (transactions (well_spelled (sectors_of_epoch g (superblock_of image).epoch image))) image mix k
    alike k ranged = by (home k (in_range k ranged))
      where
        by : IsHome (image (sector_of_inode g k)) (mix (sector_of_inode g k)) (c.forms k) (d.forms k) → AllAlike g (transactions (well_spelled (sectors_of_epoch g (superblock_of image).epoch image))) image mix k
        by (inl a) = inl a.0
        by (inr b) = inr (λ again. subst (AreLate g k again cs) (sym (ap (λ (f : InodeForm). f.number) (shown k b.0 b.2))) (all_late k again (d.forms k).number b.1))

    mix_taken : volume sectors mix ≡ Ok (volume_of (superblock_of mix) mix)
    mix_taken = is_taken sectors mix (ap (λ b. superblock_refusal sectors (λ _. b)) first ∙ (taken sectors image (volume_of (superblock_of image) image) is.taken).superblock)
        (ap (λ (s : Super). bad_sector (geometry_of s) s mix) superblocks ∙ ap (first_bad g (superblock_of image).next mix) read_same'
        ∙ none_bad g (superblock_of image).next image mix (sectors_of_epoch g (superblock_of image).epoch image) alike (taken sectors image (volume_of (superblock_of image) image) is.taken).journal)

    -- the folded mix
    after : Image
    after = folded g cs mix

    same_volume : volume_of (superblock_of mix) mix ≡ record { superblock = superblock_of image; geometry = g; image = folded g cs mix }
    same_volume = ap (λ (s : Super). volume_of s mix) superblocks ∙ (λ i. record { superblock = superblock_of image; geometry = g; image = folded g (map committed_of (transactions (well_spelled (read_same' i)))) mix })

    data_same : (s : ℕ) → 8 * first_of_data g ≤ s → folded g cs image s ≡ folded g cs mix s
    data_same s from = sym (mixed g sectors image mix cs there.0 there.1 bytes fit s (data' s from))

    forms : (k : ℕ) → IsInode g k → inode_at g (folded g cs mix) k ≡ Some (d.forms k)
    forms k ranged = by (home k ranged)
      where
        by : IsHome (image (sector_of_inode g k)) (mix (sector_of_inode g k)) (c.forms k) (d.forms k) → inode_at g (folded g cs mix) k ≡ Some (d.forms k)
        by (inl a) = ap inode_of (sync g k (bool_number k ranged) cs mix image a.0) ∙ is.catalog.forms k ranged ∙ ap Some (sym a.1)
        by (inr b) =
            let stays = late g k (bool_number k ranged) cs mix (subst (AreLate g k (bool_number k ranged) cs) (sym (ap (λ (f : InodeForm). f.number) (shown k b.0 b.2))) (all_late k (bool_number k ranged) (d.forms k).number b.1)) in
            ap inode_of (stays ∙ b.2) ∙ inode-read (d.forms k) b.0

    -- a directory is as before
    dir_same : (k : ℕ) → IsInode g k → (d.forms k).kind ≡ 2 → d.forms k ≡ c.forms k
    dir_same k ranged dir = by (frees.each k ranged)
      where
        by : (d.forms k ≡ c.forms k) ⊎ (IsUnnamed g c k × IsFree (d.forms k)) → d.forms k ≡ c.forms k
        by (inl e) = e
        by (inr b) = let no : 0 ≡ 2 = sym b.1.kind ∙ dir in absurd (omega (arith, no))

    low : (k p b : ℕ) → IsInode g k → slice_get (blocks_of (c.forms k)) p ≡ Some b → first_of_data g ≤ b
    low k p b ranged at = (block_in_data g (c.forms k).extents b (is.sound.in_data k ranged) (in_at_place b (blocks_of (c.forms k)) p at)).0

    catalog : IsCatalogOf g (folded g cs mix) d
    catalog = record {
      forms = forms;
      slots = λ b in_dir.
          let was : HasBlock g c in_dir.inode in_dir.place b = had_block g c d is.sound some frees in_dir.inode in_dir.place b in_dir.has in
          let kind : (c.forms in_dir.inode).kind ≡ 2 = ap (λ (f : InodeForm). f.kind) (sym (dir_same in_dir.inode in_dir.has.in_range in_dir.dir)) ∙ in_dir.dir in
          let from = low in_dir.inode in_dir.place b was.in_range was.there in
          sym (read_same (folded g cs image) (folded g cs mix) b (λ s of. let at = of.same in data_same s (omega (arith, from, at)))) ∙ is.catalog.slots b (record { inode = in_dir.inode; place = in_dir.place; has = was; dir = kind }) ∙ ap (map Some) (sym (frees.slots b));
    }

    mix_is : IsVolumeOf sectors mix (record { superblock = superblock_of image; geometry = g; image = folded g cs mix }) d
    mix_is = record { taken = mix_taken ∙ ap Ok same_volume; catalog = catalog; sound = unnamed_sound g c d is.sound some frees }

    nodes : (names : List (List ℕ)) (i : ℕ) → met_by c names ≡ Some i → node_of (folded g cs image) c i ≡ node_of (folded g cs mix) d i
    nodes names i met =
        let ranged = (reached g c is.sound 1 names i (root_in_range g c is.sound some) met).0 in
        let same : d.forms i ≡ c.forms i = named_same g c d is.sound some frees i ranged (reached_named g c d is.sound some frees (turned c names []) i (sym (walk-back c names []) ∙ met)) in
        node_same (folded g cs image) (folded g cs mix) c i (λ s of. let from = low i of.place of.block ranged of.there in let at = of.of_block.same in data_same s (omega (arith, from, at)))
        ∙ sym (ap (λ form. node_of (folded g cs mix) (record c { forms = λ _. form }) i) same)

    pub freeing : (w : Volume) × IsVolumeOf sectors mix w d × (w.geometry ≡ g) × (opens sectors mix ≡ opens sectors image)
    freeing = (
      record { superblock = superblock_of image; geometry = g; image = folded g cs mix },
      mix_is,
      refl,
      alike_tree sectors image mix (volume_of (superblock_of image) image) (record { superblock = superblock_of image; geometry = g; image = folded g cs mix }) c d is mix_is (unnamed_walks g c d is.sound some frees) nodes,
    )

pub stops_freeing : (sectors : ℕ) (image mix : Image) (v : Volume) (c d : Catalog) → IsImageOf sectors image → IsVolumeOf sectors image v c → mix 0 ≡ image 0
    → ((s : ℕ) → 8 * first_of_journal v.geometry ≤ s → s < 8 * first_of_journal v.geometry + v.geometry.journal → mix s ≡ image s)
    → ((s : ℕ) → 8 * first_of_data v.geometry ≤ s → (mix s ≡ image s) ⊎ (mix s ≡ v.image s))
    → FreesUnnamed v.geometry c d → ((k : ℕ) → IsInode v.geometry k → IsHome (image (sector_of_inode v.geometry k)) (mix (sector_of_inode v.geometry k)) (c.forms k) (d.forms k))
    → (w : Volume) × IsVolumeOf sectors mix w d × (w.geometry ≡ v.geometry) × (opens sectors mix ≡ opens sectors image)
stops_freeing sectors image mix v c d bytes is first = of v (sym (taken sectors image v is.taken).same) is
  where
    of' : IsVolumeOf sectors image (volume_of (superblock_of image) image) c
        → ((s : ℕ) → 8 * first_of_journal (geometry_of (superblock_of image)) ≤ s → s < 8 * first_of_journal (geometry_of (superblock_of image)) + (geometry_of (superblock_of image)).journal → mix s ≡ image s)
        → ((s : ℕ) → 8 * first_of_data (geometry_of (superblock_of image)) ≤ s → (mix s ≡ image s) ⊎ (mix s ≡ (volume_of (superblock_of image) image).image s))
        → FreesUnnamed (geometry_of (superblock_of image)) c d
        → ((k : ℕ) → IsInode (geometry_of (superblock_of image)) k → IsHome (image (sector_of_inode (geometry_of (superblock_of image)) k)) (mix (sector_of_inode (geometry_of (superblock_of image)) k)) (c.forms k) (d.forms k))
        → (w : Volume) × IsVolumeOf sectors mix w d × (w.geometry ≡ geometry_of (superblock_of image)) × (opens sectors mix ≡ opens sectors image)
    of' is journal data' frees home = freeing sectors image mix c d bytes is first
        (λ s inside. let at = from_range (8 * first_of_journal (geometry_of (superblock_of image))) (geometry_of (superblock_of image)).journal s inside in journal s at.0 at.1) data' frees home

    of : (v : Volume) → volume_of (superblock_of image) image ≡ v → IsVolumeOf sectors image v c
        → ((s : ℕ) → 8 * first_of_journal v.geometry ≤ s → s < 8 * first_of_journal v.geometry + v.geometry.journal → mix s ≡ image s)
        → ((s : ℕ) → 8 * first_of_data v.geometry ≤ s → (mix s ≡ image s) ⊎ (mix s ≡ v.image s))
        → FreesUnnamed v.geometry c d → ((k : ℕ) → IsInode v.geometry k → IsHome (image (sector_of_inode v.geometry k)) (mix (sector_of_inode v.geometry k)) (c.forms k) (d.forms k))
        → (w : Volume) × IsVolumeOf sectors mix w d × (w.geometry ≡ v.geometry) × (opens sectors mix ≡ opens sectors image)
    of v same = subst (λ (v : Volume). IsVolumeOf sectors image v c
        → ((s : ℕ) → 8 * first_of_journal v.geometry ≤ s → s < 8 * first_of_journal v.geometry + v.geometry.journal → mix s ≡ image s)
        → ((s : ℕ) → 8 * first_of_data v.geometry ≤ s → (mix s ≡ image s) ⊎ (mix s ≡ v.image s))
        → FreesUnnamed v.geometry c d → ((k : ℕ) → IsInode v.geometry k → IsHome (image (sector_of_inode v.geometry k)) (mix (sector_of_inode v.geometry k)) (c.forms k) (d.forms k))
        → (w : Volume) × IsVolumeOf sectors mix w d × (w.geometry ≡ v.geometry) × (opens sectors mix ≡ opens sectors image)) same of'
