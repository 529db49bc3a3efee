-- A new image stands for the root alone, and nothing in it is damaged.
use Rattle.std.proofs.Common.{ℕ, zero, suc, ◌≡◌, ◌+◌, ◌-◌, ◌*◌, ◌/◌, ◌%◌, ◌^◌, ◌<◌, ◌≤◌, List, [], ◌∷◌, ◌++◌, Bool, true, false, Option, Some, None, ◌&&◌, ◌||◌, take, refl, sym, ap, ◌∙◌, subst, arith}
use Rattle.std.specs.Prelude.{◌==◌, nat_lt, not, if◌then◌else◌, map, flat_map, Ok, MatchResult}
use Rattle.std.specs.List.{range_with_len, filter_map, list_any, cons_option}
use Rattle.std.specs.FinMap.{from_entries}
use Rattle.std.proofs.lemmas.Bool.Decides.{nat_tests}
use Rattle.std.specs.Prelude.{is_none, option_map, unwrap_or}
use Rattle.std.specs.Str.{bytes_eq}
use Rattle.ufs_base.specs.Choices.{some_if, first_of, refused_if}
use Rattle.ufs_layout.specs.Words.{byte_at}
use Rattle.ufs_layout.specs.Areas.{IsGeometry, geometry_refusal, refusal_number, first_of_data, bitmap_blocks, sector_of_inode, first_of_journal, sector_count}
use Rattle.ufs_layout.specs.Superblock.{magic, super_bytes, super_fields, super_of, is_super, geometry_of}
use Rattle.ufs_layout.specs.InodeForm.{InodeForm, inode_bytes, is_inode, inode_fields, is_used, free_inode}
use Rattle.ufs_base.specs.Images.{Image}
use Rattle.ufs_image.specs.Images.{inode_at, form_at}
use Rattle.ufs_layout.specs.JournalSector.{journal_of}
use Rattle.ufs_image.specs.Fold.{folded}
use Rattle.ufs_image.specs.Journal.{ReadSector, epoch_in, sectors_of_epoch, well_spelled, transactions, committed_of, committed}
use Rattle.ufs_image.specs.BadSectors.{first_bad, bad_sector}
use Rattle.ufs_image.specs.Nodes.{is_bad_form, is_bad_inode, is_bad_extent, leaves_data, sound_node, sound_nodes, is_taken, dirs_of}
use Rattle.ufs_image.specs.Damage.{BadInode, BadExtent, TwoNames, BitmapDiffers, shared_block, has_two_names, same_bool, is_marked, differing, all_bits, damage, tree_damage, node_damage, inode_damage, bad_tree, lowest_blamed}
use Rattle.ufs_image.specs.Volume.{Refusal, NoSuperblock, BadVersion, BadGeometry, lacks_magic, has_other_version, is_off_form, bad_geometry, is_too_small, superblock_of, superblock_refusal, by_superblock, by_journal, volume, volume_of}
use Rattle.ufs_image.specs.Opens.{entry_and_below, names_in, below, walked, by_damage, entries_of, tree_from, damage_in, opens, root_entry, root_tree, damage_list}
use Rattle.ufs_image.specs.Proper.{IsProperImage, IsProperVolume}
use Rattle.ufs_layout.specs.Superblock.{new_super}
use Rattle.ufs_image.specs.Formatted.{IsFormatted, new_root, new_volume}
use Rattle.ufs_layout.specs.declared.geometry.Geometry.{Geometry}
use Rattle.ufs_layout.specs.declared.superblock.Super.{Super}
use Rattle.ufs_layout.proofs.Spelled.{spelled-at}
use Rattle.ufs_layout.proofs.HeadForms.{super-back, FitsSuper}
use Rattle.ufs_layout.proofs.InodeForms.{inode-back}
use Rattle.ufs_layout.proofs.Ranges.{filter-none, find-none, filter_map-none, list_all-range}
use Rattle.ufs_image.proofs.NewBitmap.{bitmap_bit}

-- ---- the superblock

fits_super : (g : Geometry) → IsGeometry g → FitsSuper (new_super g)
fits_super g is = record {
  version = omega arith;
  blocks = omega (arith, is.most_blocks);
  inodes = omega (arith, is.most_inodes);
  journal = omega (arith, is.most_journal);
  epoch = omega arith;
  next = omega arith;
}

new_superblock : (g : Geometry) (image : Image) → IsGeometry g → IsFormatted g image → superblock_of image ≡ new_super g
new_superblock g image is new = ap super_fields new.superblock ∙ super-back (new_super g) (fits_super g is)

taken_geometry : (g : Geometry) → IsGeometry g → geometry_refusal g ≡ None
taken_geometry g is = grind (arith, nat_tests, is)

all_none : (a b c e : Bool) (d : Option Refusal) (v w x y : Refusal) → a ≡ false → b ≡ false → c ≡ false → d ≡ None → e ≡ false
    → first_of (refused_if a v) (first_of (refused_if b w) (first_of (refused_if c x) (first_of d (refused_if e y)))) ≡ None
all_none a b c e d v w x y is_a is_b is_c is_d is_e = rw (is_a, is_b, is_c, is_d, is_e) refl

superblock_taken : (sectors : ℕ) (g : Geometry) (image : Image) → IsGeometry g → IsFormatted g image → sector_count g ≤ sectors → superblock_refusal sectors image ≡ None
superblock_taken sectors g image is new room =
    all_none (lacks_magic sectors image) (has_other_version image) (is_off_form image) (is_too_small sectors image) (bad_geometry image) NoSuperblock (BadVersion (superblock_of image).version) NoSuperblock (BadGeometry 5)
    magic_there (ap (λ (s : Super). not (s.version == 1)) superblock) (ap is_none spelled_there) geometry_taken (ap (λ (s : Super). nat_lt sectors (sector_count (geometry_of s))) superblock ∙ large)
  where
    superblock : superblock_of image ≡ new_super g
    superblock = new_superblock g image is new

    some_sectors : (sectors == 0) ≡ false
    some_sectors = grind (arith, nat_tests, is.least_blocks)

    magic_there : lacks_magic sectors image ≡ false
    magic_there = λ i. some_sectors i || not (bytes_eq (take 8 (new.superblock i)) magic)

    spelled_there : super_of 1 (image 0) ≡ Some (new_super g)
    spelled_there = spelled-at super_fields super_bytes (is_super 1) (new_super g) (image 0) new.superblock (super-back (new_super g) (fits_super g is)) refl

    geometry_taken : bad_geometry image ≡ None
    geometry_taken = ap (λ (s : Super). option_map (λ bad. BadGeometry (refusal_number bad)) (geometry_refusal (geometry_of s))) superblock ∙ ap (option_map (λ bad. BadGeometry (refusal_number bad))) (taken_geometry g is)

    large : nat_lt sectors (sector_count g) ≡ false
    large = grind (arith, nat_tests, room)

-- ---- the journal

no_sector : (g : Geometry) (image : Image) → IsFormatted g image → sectors_of_epoch g 1 image ≡ []
no_sector g image new = ap (map (λ s. (s, journal_of (image s)))) (filter-none (λ s. epoch_in (image s) == 1) (8 * first_of_journal g) g.journal other)
  where
    other : (s : ℕ) → 8 * first_of_journal g ≤ s → s < 8 * first_of_journal g + g.journal → (epoch_in (image s) == 1) ≡ false
    other s at under =
        let same : s ≡ 8 * first_of_journal g + (s - 8 * first_of_journal g) = omega arith in
        ap (λ n. epoch_in (image n) == 1) same ∙ ap (λ bytes. epoch_in bytes == 1) (new.journal (s - 8 * first_of_journal g) (omega arith))

nothing_bad : (g : Geometry) (next : ℕ) (image : Image) (read : List ReadSector) → read ≡ [] → first_bad g next image read ≡ None
nothing_bad g next image read is_none = ap (first_bad g next image) is_none ∙ find-none (λ _. false) (8 * first_of_journal g) g.journal (λ _. refl)

folded_none : (g : Geometry) (image : Image) → IsFormatted g image → folded g (committed g 1 image) image ≡ image
folded_none g image new = ap (λ read. folded g (map committed_of (transactions (well_spelled read))) image) (no_sector g image new)

pub volume_new : (sectors : ℕ) (g : Geometry) (image : Image) → IsGeometry g → IsFormatted g image → sector_count g ≤ sectors → volume sectors image ≡ Ok (new_volume g image)
volume_new sectors g image is new room =
    ap (by_superblock image) (superblock_taken sectors g image is new room)
    ∙ ap (by_journal image) (ap (λ (s : Super). bad_sector (geometry_of s) s image) superblock ∙ nothing_bad g 1 image (sectors_of_epoch g 1 image) (no_sector g image new))
    ∙ (λ i. Ok (volume_of (superblock i) image))
    ∙ (λ i. Ok (record { superblock = new_super g; geometry = g; image = folded_none g image new i }))
  where
    superblock : superblock_of image ≡ new_super g
    superblock = new_superblock g image is new

-- ---- inodes

pub root_there : (g : Geometry) (image : Image) → IsFormatted g image → inode_at g image 1 ≡ Some new_root
root_there g image new = spelled-at inode_fields inode_bytes is_inode new_root (image (sector_of_inode g 1)) new.root (inode-back new_root (record { size = omega arith; number = omega arith; extents = tt })) refl

pub free_there : (g : Geometry) (image : Image) → IsFormatted g image → (inode : ℕ) → 1 < inode → inode ≤ g.inodes → inode_at g image inode ≡ Some (free_inode 0)
free_there g image new inode above within = spelled-at inode_fields inode_bytes is_inode (free_inode 0) (image (sector_of_inode g inode)) (new.free inode above within) (inode-back (free_inode 0) (record { size = omega arith; number = omega arith; extents = tt })) refl

form_root : (g : Geometry) (image : Image) → IsFormatted g image → form_at g image 1 ≡ new_root
form_root g image new = ap (λ o. unwrap_or o (free_inode 0)) (root_there g image new)

good_form : (g : Geometry) (image : Image) → IsFormatted g image → (inode : ℕ) → 1 ≤ inode → inode < 1 + g.inodes → is_bad_inode g image inode ≡ false
good_form g image new zero from under = absurd (omega arith)
good_form g image new (suc zero) from under = ap (is_bad_form 1) (root_there g image new)
good_form g image new (suc (suc n)) from under =
    let other : (suc (suc n) == 1) ≡ false = grind (arith, nat_tests) in
    ap (is_bad_form (suc (suc n))) (free_there g image new (suc (suc n)) (omega arith) (omega arith)) ∙ ap (λ t. t && true) other

good_extents : (g : Geometry) (image : Image) → IsFormatted g image → (inode : ℕ) → 1 ≤ inode → inode < 1 + g.inodes → is_bad_extent g image inode ≡ false
good_extents g image new inode from under = λ i. not (good_form g image new inode from under i) && none_there inode from under i
  where
    none_there : (inode : ℕ) → 1 ≤ inode → inode < 1 + g.inodes → list_any (leaves_data g) (form_at g image inode).extents ≡ false
    none_there zero from under = absurd (omega arith)
    none_there (suc zero) from under = ap (λ (f : InodeForm). list_any (leaves_data g) f.extents) (form_root g image new)
    none_there (suc (suc n)) from under = ap (λ o. list_any (leaves_data g) (unwrap_or o (free_inode 0)).extents) (free_there g image new (suc (suc n)) (omega arith) (omega arith))

sound_new : (g : Geometry) (image : Image) → IsGeometry g → IsFormatted g image → sound_nodes g image ≡ (1, new_root) ∷ []
sound_new g image is new =
    ap (λ n. filter_map (sound_node g image) (range_with_len 1 n)) many ∙ (λ i. cons_option (root i) (rest i))
  where
    many : g.inodes ≡ suc (g.inodes - 1)
    many = omega (arith, is.least_inodes)

    root : sound_node g image 1 ≡ Some (1, new_root)
    root = λ i. some_if (not (good_form g image new 1 (omega arith) (omega (arith, is.least_inodes)) i) && (not (good_extents g image new 1 (omega arith) (omega (arith, is.least_inodes)) i) && is_used (form_root g image new i))) (1, form_root g image new i)

    free : (n : ℕ) → 2 ≤ n → n < 2 + (g.inodes - 1) → sound_node g image n ≡ None
    free n from under = λ i. some_if (not (good_form g image new n (omega arith) (omega (arith, is.least_inodes)) i)
        && (not (good_extents g image new n (omega arith) (omega (arith, is.least_inodes)) i) && is_used (unwrap_or (free_there g image new n (omega arith) (omega (arith, is.least_inodes)) i) (free_inode 0)))) (n, form_at g image n)

    rest : filter_map (sound_node g image) (range_with_len 2 (g.inodes - 1)) ≡ []
    rest = filter_map-none (sound_node g image) 2 (g.inodes - 1) free

-- ---- damage

inodes_whole : (g : Geometry) (image : Image) → IsFormatted g image → inode_damage g image ≡ []
inodes_whole g image new = λ i.
    map BadInode (filter-none (is_bad_inode g image) 1 g.inodes (good_form g image new) i)
    ++ map BadExtent (filter-none (is_bad_extent g image) 1 g.inodes (good_extents g image new) i)

nodes_whole : (g : Geometry) (image : Image) → node_damage g image ((1, new_root) ∷ []) ≡ []
nodes_whole g image = λ i.
    filter_map-none (shared_block ((1, new_root) ∷ [])) (first_of_data g) (g.blocks - first_of_data g) (λ _ _ _. refl) i
    ++ [] ++ ([] ++ [] ++ [] ++ map TwoNames (filter-none (has_two_names (dirs_of image ((1, new_root) ∷ []))) 1 g.inodes (λ k _ _. unnamed (k == 1)) i))
  where
    unnamed : (b : Bool) → nat_lt (if b then 0 else 1) 0 ≡ false
    unnamed true = refl
    unnamed false = refl

tree_whole : (g : Geometry) (image : Image) → IsGeometry g → IsFormatted g image → tree_damage g image ≡ []
tree_whole g image is new = (λ i. inodes_whole g image new i ++ node_damage g image (sound_new g image is new i)) ∙ nodes_whole g image

bits_whole : (g : Geometry) (image : Image) → IsFormatted g image → differing g image ((1, new_root) ∷ []) (all_bits g) ≡ []
bits_whole g image new = filter-none (λ b. not (same_bool (is_marked image b) (is_taken g ((1, new_root) ∷ []) b))) 0 (32768 * bitmap_blocks g) same
  where
    marked : (b : ℕ) → b < 32768 * bitmap_blocks g → is_marked image b ≡ nat_lt b (first_of_data g)
    marked b under = ap (λ bytes. byte_at (b / 8 % 512) bytes / 2 ^ (b % 8) % 2 == 1) (new.bitmap (b / 4096) (omega arith)) ∙ bitmap_bit (first_of_data g) b

    equal : (t : Bool) → not (same_bool t (if t then true else false)) ≡ false
    equal true = refl
    equal false = refl

    same : (b : ℕ) → 0 ≤ b → b < 0 + 32768 * bitmap_blocks g → not (same_bool (is_marked image b) (is_taken g ((1, new_root) ∷ []) b)) ≡ false
    same b from under = ap (λ t. not (same_bool t (is_taken g ((1, new_root) ∷ []) b))) (marked b (omega arith)) ∙ equal (nat_lt b (first_of_data g))

undamaged : (g : Geometry) (image : Image) → IsGeometry g → IsFormatted g image → damage true g image ≡ []
undamaged g image is new = λ i. tree_whole g image is new i ++ map BitmapDiffers ((ap (λ nodes. differing g image nodes (all_bits g)) (sound_new g image is new) ∙ bits_whole g image new) i)

pub no_bad_tree : (g : Geometry) (image : Image) → IsGeometry g → IsFormatted g image → bad_tree g image ≡ None
no_bad_tree g image is new = ap (lowest_blamed g) (tree_whole g image is new) ∙ find-none (λ _. false) 1 g.inodes (λ _. refl)

-- ---- the tree

walked_new : (g : Geometry) (image : Image) → IsGeometry g → IsFormatted g image → walked (new_volume g image) ≡ root_entry ∷ []
walked_new g image is new =
    ap (λ n. root_entry ∷ below n g image [] 1) many
    ∙ ap (λ form. root_entry ∷ flat_map (entry_and_below (below (g.inodes - 1) g image) g image []) (names_in image 1 form)) (form_root g image new)
  where
    many : g.inodes ≡ suc (g.inodes - 1)
    many = omega (arith, is.least_inodes)

pub opens_new : (sectors : ℕ) (g : Geometry) (image : Image) → IsGeometry g → IsFormatted g image → sector_count g ≤ sectors → opens sectors image ≡ Ok root_tree
opens_new sectors g image is new room =
    ap (λ v. tree_from (entries_of v)) (volume_new sectors g image is new room)
    ∙ ap (λ b. tree_from (by_damage (new_volume g image) b)) (no_bad_tree g image is new)
    ∙ ap (λ paths. Ok (from_entries paths)) (walked_new g image is new)

pub damage_new : (sectors : ℕ) (g : Geometry) (image : Image) → IsGeometry g → IsFormatted g image → sector_count g ≤ sectors → damage_list sectors image ≡ Ok []
damage_new sectors g image is new room = ap damage_in (volume_new sectors g image is new room) ∙ ap Ok (undamaged g image is new)

pub proper_new : (sectors : ℕ) (g : Geometry) (image : Image) → IsGeometry g → IsFormatted g image → sector_count g ≤ sectors → IsProperImage sectors image
proper_new sectors g image is new room = subst (λ v. MatchResult v (IsProperVolume image) (λ _. ⊥)) (sym (volume_new sectors g image is new room)) (record {
  has_tree = no_bad_tree g image is new;
  none_later = list_all-range (λ s. not (nat_lt 1 (epoch_in (image s)))) (8 * first_of_journal g) g.journal (λ s from under. ap (λ e. not (nat_lt 1 e)) (no_epoch s from under));
  if_clean = λ _. record {
    no_entry = list_all-range (λ s. not (epoch_in (image s) == 1)) (8 * first_of_journal g) g.journal (λ s from under. ap (λ e. not (e == 1)) (no_epoch s from under));
    numbers_below = list_all-range (λ i. nat_lt (form_at g image i).number 1) 1 g.inodes numbers;
    undamaged = undamaged g image is new;
  };
})
  where
    no_epoch : (s : ℕ) → 8 * first_of_journal g ≤ s → s < 8 * first_of_journal g + g.journal → epoch_in (image s) ≡ 0
    no_epoch s from under =
        let same : s ≡ 8 * first_of_journal g + (s - 8 * first_of_journal g) = omega arith in
        ap (λ n. epoch_in (image n)) same ∙ ap epoch_in (new.journal (s - 8 * first_of_journal g) (omega arith))

    numbers : (i : ℕ) → 1 ≤ i → i < 1 + g.inodes → nat_lt (form_at g image i).number 1 ≡ true
    numbers zero from under = absurd (omega arith)
    numbers (suc zero) from under = ap (λ (f : InodeForm). nat_lt f.number 1) (form_root g image new)
    numbers (suc (suc n)) from under = ap (λ o. nat_lt (unwrap_or o (free_inode 0)).number 1) (free_there g image new (suc (suc n)) (omega arith) (omega arith))

-- ---- folding

-- Where no journal sector has the epoch, folding changes nothing.
pub folded-no_sector : (g : Geometry) (epoch : ℕ) (image : Image) → ((s : ℕ) → s < g.journal → (epoch_in (image (8 * first_of_journal g + s)) == epoch) ≡ false) → folded g (committed g epoch image) image ≡ image
folded-no_sector g epoch image none = ap (λ read. folded g (map committed_of (transactions (well_spelled read))) image)
    (ap (map (λ s. (s, journal_of (image s)))) (filter-none (λ s. epoch_in (image s) == epoch) (8 * first_of_journal g) g.journal other))
  where
    other : (s : ℕ) → 8 * first_of_journal g ≤ s → s < 8 * first_of_journal g + g.journal → (epoch_in (image s) == epoch) ≡ false
    other s from under =
        let same : s ≡ 8 * first_of_journal g + (s - 8 * first_of_journal g) = omega arith in
        ap (λ n. epoch_in (image n) == epoch) same ∙ none (s - 8 * first_of_journal g) (omega arith)
