-- Which images stand for a tree.
use Rattle.std.proofs.Common.{◌≡◌, ℕ, ◌≤◌, Bool, true, false, Option, Some, None, length, ap, sym, refl, ◌∙◌, subst, arith}
use Rattle.std.specs.Prelude.{Result, Ok, Err, not, nat_le, ◌&&◌, option_map}
use Rattle.std.specs.FinMap.{from_entries}
use Rattle.std.proofs.lemmas.Bool.Decides.{nat_tests}
use Rattle.ufs_base.specs.Choices.{first_of, refused_if}
use Rattle.ufs_layout.specs.Areas.{IsGeometry, geometry_refusal, refusal_number, first_of_data, sector_count}
use Rattle.ufs_layout.specs.Superblock.{geometry_of}
use Rattle.ufs_base.specs.Images.{Image}
use Rattle.ufs_image.specs.Images.{IsImageOf}
use Rattle.ufs_image.specs.Damage.{bad_tree}
use Rattle.ufs_image.specs.Volume.{Refusal, NoSuperblock, BadVersion, BadGeometry, BadTree, Volume, volume, superblock_of, lacks_magic, has_other_version, is_off_form, bad_geometry, is_too_small}
use Rattle.ufs_image.specs.Opens.{ImageTree, walked, by_damage, entries_of, tree_from, opens, file_bytes}
use Rattle.ufs_layout.specs.declared.geometry.Geometry.{Geometry}
use Rattle.ufs_layout.specs.declared.geometry.BadGeometry.TheVariants.{Blocks, Inodes, Journal, NoData}
use Rattle.ufs_image.specs.Catalog.{Catalog, IsInode, IsCatalogOf, catalog_at}
use Rattle.ufs_image.specs.Sound.{IsSoundCatalog}
use Rattle.ufs_image.specs.Agree.{AgreeOn, IsMetadata, IsOfDir}
use Rattle.ufs_image.specs.Standing.{IsVolumeOf}
use Rattle.ufs_image.proofs.Whole.{sound_whole, whole_sound, whole_read, spelled_all}
use Rattle.ufs_image.proofs.Blamed.{undamaged, not_bad}
use Rattle.ufs_image.proofs.Read.{catalog_there}
use Rattle.ufs_image.proofs.Holders.{block_in_data}
use Rattle.ufs_image.proofs.Journals.{taken, taken_alike, inode_metadata}
use Rattle.ufs_image.proofs.Blocks.{catalog_same, file_length}

-- ---- the geometry

pub second_none : {X : Type 0} (a b : Option X) → first_of a b ≡ None → (a ≡ None) × (b ≡ None)
second_none None b e = (refl, e)
second_none (Some x) b e = let no = e in cc

pub not_refused : {X : Type 0} (t : Bool) (x : X) → refused_if t x ≡ None → t ≡ false
not_refused true x e = let no = e in cc
not_refused false x e = refl

pub no_map : {X Y : Type 0} (f : X → Y) (o : Option X) → option_map f o ≡ None → o ≡ None
no_map f None e = refl
no_map f (Some x) e = let no = e in cc

pub is_geometry : (g : Geometry) → geometry_refusal g ≡ None → IsGeometry g
is_geometry g e =
    let one = second_none (refused_if (not (nat_le 64 g.blocks && nat_le g.blocks 65536)) Blocks) _ e in
    let two = second_none (refused_if (not (nat_le 16 g.inodes && nat_le g.inodes 4096)) Inodes) _ one.1 in
    let three = second_none (refused_if (not (nat_le 64 g.journal && nat_le g.journal 4096)) Journal) _ two.1 in
    let blocks = not_refused (not (nat_le 64 g.blocks && nat_le g.blocks 65536)) Blocks one.0 in
    let inodes = not_refused (not (nat_le 16 g.inodes && nat_le g.inodes 4096)) Inodes two.0 in
    let journal = not_refused (not (nat_le 64 g.journal && nat_le g.journal 4096)) Journal three.0 in
    let left = not_refused (nat_le g.blocks (first_of_data g)) NoData three.1 in
    record {
      least_blocks = grind (arith, nat_tests, blocks);
      most_blocks = grind (arith, nat_tests, blocks);
      least_inodes = grind (arith, nat_tests, inodes);
      most_inodes = grind (arith, nat_tests, inodes);
      least_journal = grind (arith, nat_tests, journal);
      most_journal = grind (arith, nat_tests, journal);
      data_left = grind (arith, nat_tests, left);
    }

pub has_geometry : (sectors : ℕ) (image : Image) (v : Volume) → volume sectors image ≡ Ok v → IsGeometry v.geometry × (sector_count v.geometry ≤ sectors)
has_geometry sectors image v e =
    let is = taken sectors image v e in
    let one = second_none (refused_if (lacks_magic sectors image) NoSuperblock) _ is.superblock in
    let two = second_none (refused_if (has_other_version image) (BadVersion (superblock_of image).version)) _ one.1 in
    let three = second_none (refused_if (is_off_form image) NoSuperblock) _ two.1 in
    let four = second_none (bad_geometry image) _ three.1 in
    let none : geometry_refusal (geometry_of (superblock_of image)) ≡ None = no_map (λ bad. BadGeometry (refusal_number bad)) (geometry_refusal (geometry_of (superblock_of image))) four.0 in
    let small = not_refused (is_too_small sectors image) (BadGeometry 5) four.1 in
    let room : sector_count (geometry_of (superblock_of image)) ≤ sectors = grind (arith, nat_tests, small) in
    let same : geometry_of (superblock_of image) ≡ v.geometry = ap (λ (u : Volume). u.geometry) (sym is.same) in
    (subst IsGeometry same (is_geometry (geometry_of (superblock_of image)) none), subst (λ g. sector_count g ≤ sectors) same room)

-- ---- the tree

pub opens_to : (sectors : ℕ) (image : Image) (v : Volume) (c : Catalog) → IsVolumeOf sectors image v c → opens sectors image ≡ Ok (from_entries (walked v))
opens_to sectors image v c is =
    ap (λ r. tree_from (entries_of r)) is.taken
    ∙ ap (λ b. tree_from (by_damage v b)) (not_bad v.geometry v.image (sound_whole v.geometry v.image c is.catalog is.sound))

pub opened : (sectors : ℕ) (image : Image) (tree : ImageTree) → opens sectors image ≡ Ok tree → (v : Volume) × IsVolumeOf sectors image v (catalog_at v.geometry v.image) × (tree ≡ from_entries (walked v))
opened sectors image tree e = by (volume sectors image) refl
  where
    of : (v : Volume) → volume sectors image ≡ Ok v → (b : Option ℕ) → bad_tree v.geometry v.image ≡ b → (v : Volume) × IsVolumeOf sectors image v (catalog_at v.geometry v.image) × (tree ≡ from_entries (walked v))
    of v is (Some inode) bad =
        let no : ◌≡◌ {A = Result ImageTree Refusal} (Ok tree) (Err (BadTree inode)) = sym e ∙ ap (λ r. tree_from (entries_of r)) is ∙ ap (λ b. tree_from (by_damage v b)) bad in absurd cc
    of v is None good =
        let none = undamaged v.geometry v.image good in
        let there = catalog_there v.geometry v.image (whole_read v.geometry v.image none) (spelled_all v.geometry v.image none) in
        let least = (has_geometry sectors image v is).0.least_inodes in
        let some : 1 ≤ v.geometry.inodes = omega (arith, least) in
        let ok : ◌≡◌ {A = Result ImageTree Refusal} (Ok tree) (Ok (from_entries (walked v))) = sym e ∙ ap (λ r. tree_from (entries_of r)) is ∙ ap (λ b. tree_from (by_damage v b)) good in
        (v, record { taken = is; catalog = there; sound = whole_sound v.geometry v.image (catalog_at v.geometry v.image) there some none }, cc)

    by : (r : Result Volume Refusal) → volume sectors image ≡ r → (v : Volume) × IsVolumeOf sectors image v (catalog_at v.geometry v.image) × (tree ≡ from_entries (walked v))
    by (Err refusal) is = let no : ◌≡◌ {A = Result ImageTree Refusal} (Ok tree) (Err refusal) = sym e ∙ ap (λ r. tree_from (entries_of r)) is in absurd cc
    by (Ok v) is = of v is (bad_tree v.geometry v.image) refl

-- ---- what doesn't matter

bool_number : (g : Geometry) (inode : ℕ) → IsInode g inode → (nat_le 1 inode && nat_le inode g.inodes) ≡ true
bool_number g inode is = let from = is.from_one in let most = is.within in grind (arith, nat_tests, from, most)

pub ignores : (sectors : ℕ) (image other : Image) (v : Volume) (c : Catalog) (these : ℕ → Type 0) → IsVolumeOf sectors image v c
    → ((sector : ℕ) → IsMetadata v.geometry sector → these sector) → ((sector : ℕ) → IsOfDir v.geometry c sector → these sector) → AgreeOn these image other
    → (w : Volume) × IsVolumeOf sectors other w c × (w.geometry ≡ v.geometry) × (w.superblock ≡ v.superblock) × AgreeOn these v.image w.image
ignores sectors image other v c these is metadata dirs agree =
    let there = taken_alike sectors image other v these is.taken metadata agree in
    let same : IsCatalogOf v.geometry there.0.image c = catalog_same v.geometry v.image there.0.image c is.catalog (λ inode in_range. there.4 _ (metadata _ (inode_metadata v.geometry inode (bool_number v.geometry inode in_range)))) (λ s of. there.4 s (dirs s of)) in
    let back = sym there.2 in
    (there.0, record { taken = there.1; catalog = subst (λ g. IsCatalogOf g there.0.image c) back same; sound = subst (λ g. IsSoundCatalog g c) back is.sound }, there.2, there.3, there.4)

pub sizes : (sectors : ℕ) (image : Image) (g : Geometry) (c : Catalog) (inode : ℕ) → IsImageOf sectors image → sector_count g ≤ sectors → IsSoundCatalog g c → IsInode g inode → length (file_bytes image (c.forms inode)) ≡ (c.forms inode).size
sizes sectors image g c inode is room sound in_range =
    file_length image sectors is (c.forms inode) (λ b there. let at = block_in_data g (c.forms inode).extents b (sound.in_data inode in_range) there in let end = at.1 in omega (arith, end, room)) (sound.room inode in_range)
