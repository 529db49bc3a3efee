-- A copy of what the names of an image use has the image's volume, and opens as the image does.
use Rattle.std.proofs.Common.{◌≡◌, ℕ, List, Option, Some, None, inl, ap, sym, refl, ◌∙◌, subst, arith}
use Rattle.std.specs.FinMap.{from_entries}
use Rattle.std.specs.Prelude.{Result, Ok, Err, ◌==◌, if◌then◌else◌}
use Rattle.ufs_base.specs.Images.{Image}
use Rattle.ufs_image.specs.Agree.{AgreeOn, IsMetadata}
use Rattle.ufs_image.specs.BadSectors.{bad_sector}
use Rattle.ufs_image.specs.Catalog.{catalog_at}
use Rattle.ufs_image.specs.Damage.{bad_tree}
use Rattle.ufs_image.specs.Images.{form_at}
use Rattle.ufs_image.specs.Opens.{ImageTree, by_damage, entries_of, file_bytes, opens, tree_from, walked}
use Rattle.ufs_image.specs.Standing.{IsVolumeOf}
use Rattle.ufs_image.specs.Volume.{BadTree, Refusal, Volume, by_journal, by_superblock, superblock_of, superblock_refusal, volume, volume_of}
use Rattle.ufs_image.specs.Walks as walks
use Rattle.ufs_image.proofs.Blamed.{not_bad, undamaged}
use Rattle.ufs_image.proofs.Depth.{has_root, root_in_range}
use Rattle.ufs_image.proofs.Found.{reached}
use Rattle.ufs_image.proofs.Journals.{bad_sector_agrees, first_metadata, taken, taken_alike}
use Rattle.ufs_image.proofs.Opening.{has_geometry, opens_to}
use Rattle.ufs_image.proofs.Read.{catalog_there}
use Rattle.ufs_image.proofs.Whole.{sound_whole, spelled_all, whole_read, whole_sound}
use Rattle.ufs_layout.specs.Areas.{IsGeometry, sector_count}
use Rattle.ufs_layout.specs.InodeForm.{InodeForm}
use Rattle.ufs_layout.specs.Superblock.{geometry_of}
use Rattle.ufs_layout.specs.declared.geometry.Geometry.{Geometry}
use Rattle.ufs_layout.specs.declared.superblock.Super.{Super}
use Rattle.ufs_start.specs.Copies.{AreOpenedAlike, IsCopyOf, IsUsedBy, IsUsedIn, is_file}
use Rattle.ufs_start.proofs.Alike.{IsUsedHere, bad_same, form_same, met_same, metadata_here}
use Rattle.ufs_start.proofs.Refusals.{own_sectors, refused_same, refusal_there, taken_here}
use Rattle.ufs_start.proofs.Trees.{alike_walks, file_or_dir, refused_alike}

-- an image that is taken and of whose tree nothing is damaged
stands : (sectors : ℕ) (image : Image) (v : Volume) → volume sectors image ≡ Ok v → bad_tree v.geometry v.image ≡ None → IsVolumeOf sectors image v (catalog_at v.geometry v.image)
stands sectors image v e good =
    let none = undamaged v.geometry v.image good in
    let there = catalog_there v.geometry v.image (whole_read v.geometry v.image none) (spelled_all v.geometry v.image none) in
    record {
      taken = e;
      catalog = there;
      sound = whole_sound v.geometry v.image (catalog_at v.geometry v.image) there (has_root v.geometry (has_geometry sectors image v e).0) none;
    }

-- What an image has that agrees with one that is taken: the same superblock, and the same folded sectors.
pub record IsThere (sectors : ℕ) (image : Image) (v : Volume) (other : Image) : Type 0 where
  pub geometry : IsGeometry v.geometry
  pub taken : volume sectors image ≡ Ok (record v { image = other })
  pub agree : AgreeOn (IsUsedHere v.geometry v.image) v.image other

module _ (copied sectors : ℕ) (copy image : Image) (is : IsCopyOf copied copy sectors image) where
  pub volume_sized : volume copied copy ≡ volume sectors copy
  volume_sized = ap (by_superblock copy) (refused_same copied sectors copy image is)

  pub all_copied : (v : Volume) → volume sectors copy ≡ Ok v → copied ≡ sector_count v.geometry
  all_copied v e = own_sectors copied sectors copy image is (taken sectors copy v e).superblock ∙ ap (λ (u : Volume). sector_count u.geometry) (sym (taken sectors copy v e).same)

  pub home_there : (v : Volume) → volume sectors copy ≡ Ok v → AgreeOn (IsUsedHere v.geometry v.image) copy image
  home_there v e sector is_used =
      let less = is_used.0 in
      let all = all_copied v e in
      let own = ap (λ (u : Volume). u.geometry) (taken sectors copy v e).same in
      is.same sector (record {
        inside = omega (arith, less, all);
        used = subst (λ (r : Result Volume Refusal). IsUsedBy (geometry_of (superblock_of copy)) r sector) (sym (volume_sized ∙ e)) (subst (λ (g : Geometry). IsUsedIn g v.image sector) own is_used.1);
      })

  volume_there : (v : Volume) → volume sectors copy ≡ Ok v → (other : Image) × IsThere sectors image v other
  volume_there v e = (
    w.0.image,
    record {
      geometry = geometry;
      taken = w.1 ∙ (λ i. Ok (record { superblock = w.3 i; geometry = w.2 i; image = w.0.image }));
      agree = w.4;
    },
  )
    where
      geometry : IsGeometry v.geometry
      geometry = (has_geometry sectors copy v e).0

      w : (w : Volume) × (volume sectors image ≡ Ok w) × (w.geometry ≡ v.geometry) × (w.superblock ≡ v.superblock) × AgreeOn (IsUsedHere v.geometry v.image) v.image w.image
      w = taken_alike sectors copy image v (IsUsedHere v.geometry v.image) e (metadata_here v.geometry geometry v.image) (home_there v e)

  -- where the superblock is taken
  metadata_used : superblock_refusal sectors copy ≡ None → (sector : ℕ) → IsMetadata (geometry_of (superblock_of copy)) sector → IsUsedBy (geometry_of (superblock_of copy)) (volume copied copy) sector
  metadata_used none sector before =
      subst (λ (r : Result Volume Refusal). IsUsedBy (geometry_of (superblock_of copy)) r sector) (sym (volume_sized ∙ ap (by_superblock copy) none)) (by (bad_sector (geometry_of (superblock_of copy)) (superblock_of copy) copy))
    where
      by : (b : Option ℕ) → IsUsedBy (geometry_of (superblock_of copy)) (by_journal copy b) sector
      by None = inl before
      by (Some bad) = before

  volume_refused : (refusal : Refusal) → volume sectors copy ≡ Err refusal → volume sectors image ≡ Err refusal
  volume_refused refusal e = by (superblock_refusal sectors copy) refl
    where
      of : (b : Option ℕ) → volume sectors copy ≡ by_journal copy b → volume sectors image ≡ by_journal image b → volume sectors image ≡ Err refusal
      of (Some sector) here there = there ∙ sym here ∙ e
      of None here there = let no : Ok (volume_of (superblock_of copy) copy) ≡ Err refusal = sym here ∙ e in absurd cc

      by_sector : superblock_refusal sectors copy ≡ None → (b : Option ℕ) → bad_sector (geometry_of (superblock_of copy)) (superblock_of copy) copy ≡ b → volume sectors image ≡ Err refusal
      by_sector none b bad =
          let geometry = (taken_here sectors copy none).geometry in
          let all = own_sectors copied sectors copy image is none in
          let left = geometry.data_left in
          let metadata : AgreeOn (IsMetadata (geometry_of (superblock_of copy))) copy image = λ sector before. is.same sector (record { inside = omega (arith, before, left, all); used = metadata_used none sector before }) in
          let supers : superblock_of copy ≡ superblock_of image = ap (λ bytes. superblock_of (λ _. bytes)) (metadata 0 (first_metadata (geometry_of (superblock_of copy)))) in
          let bad_there = sym (ap (λ (s : Super). bad_sector (geometry_of s) s image) supers) ∙ sym (bad_sector_agrees (geometry_of (superblock_of copy)) (IsMetadata (geometry_of (superblock_of copy))) (λ sector before. before) (superblock_of copy) copy image metadata) ∙ bad in
          of b (ap (by_superblock copy) none ∙ ap (by_journal copy) bad) (ap (by_superblock image) (sym (refusal_there copied sectors copy image is) ∙ none) ∙ ap (by_journal image) bad_there)

      by : (r : Option Refusal) → superblock_refusal sectors copy ≡ r → volume sectors image ≡ Err refusal
      by (Some r) at = ap (by_superblock image) (sym (refusal_there copied sectors copy image is) ∙ at) ∙ sym (ap (by_superblock copy) at) ∙ e
      by None at = by_sector at (bad_sector (geometry_of (superblock_of copy)) (superblock_of copy) copy) refl

  -- ---- the tree

  module _ (v : Volume) (e : volume sectors copy ≡ Ok v) (other : Image) (there : IsThere sectors image v other) where
    bad_there : bad_tree v.geometry v.image ≡ bad_tree v.geometry other
    bad_there = bad_same v.geometry there.geometry v.image other there.agree

    trees_there : bad_tree v.geometry v.image ≡ None → AreOpenedAlike (opens sectors copy) (opens sectors image)
    trees_there good =
        subst (λ (r : Result ImageTree Refusal). AreOpenedAlike r (opens sectors image)) (sym (opens_to sectors copy v (catalog_at v.geometry v.image) here))
        (subst (AreOpenedAlike (Ok (from_entries (walked v)))) (sym (opens_to sectors image (record v { image = other }) (catalog_at v.geometry other) at))
        (alike_walks sectors sectors copy image v (record v { image = other }) (catalog_at v.geometry v.image) (catalog_at v.geometry other) here at
        (met_same v.geometry there.geometry v.image other there.agree here.sound) nodes))
      where
        here : IsVolumeOf sectors copy v (catalog_at v.geometry v.image)
        here = stands sectors copy v e good

        at : IsVolumeOf sectors image (record v { image = other }) (catalog_at v.geometry other)
        at = stands sectors image (record v { image = other }) there.taken (sym bad_there ∙ good)

        nodes : (names : List (List ℕ)) (inode : ℕ) → walks.inode_of (catalog_at v.geometry v.image) names ≡ Some inode
            → is_file (walks.node_of v.image (catalog_at v.geometry v.image) inode) ≡ is_file (walks.node_of other (catalog_at v.geometry other) inode)
        nodes names inode met =
            let root = root_in_range v.geometry (catalog_at v.geometry v.image) here.sound (has_root v.geometry there.geometry) in
            let in_range = (reached v.geometry (catalog_at v.geometry v.image) here.sound 1 names inode root met).0 in
            let form = form_same v.geometry there.geometry v.image other there.agree inode in_range in
            file_or_dir ((form_at v.geometry v.image inode).kind == 2) (file_bytes v.image (form_at v.geometry v.image inode)) (file_bytes other (form_at v.geometry other inode))
            ∙ ap (λ (f : InodeForm). is_file (if f.kind == 2 then None else Some (file_bytes other (form_at v.geometry other inode)))) form

    tree_there : (b : Option ℕ) → bad_tree v.geometry v.image ≡ b → AreOpenedAlike (opens sectors copy) (opens sectors image)
    tree_there None good = trees_there good
    tree_there (Some inode) bad =
        let one : opens sectors copy ≡ Err (BadTree inode) = ap (λ r. tree_from (entries_of r)) e ∙ ap (λ b. tree_from (by_damage v b)) bad in
        let two : opens sectors image ≡ Err (BadTree inode) = ap (λ r. tree_from (entries_of r)) there.taken ∙ ap (λ b. tree_from (by_damage (record v { image = other }) b)) (sym bad_there ∙ bad) in
        refused_alike (BadTree inode) (opens sectors copy) (opens sectors image) one two

  pub opens_there : AreOpenedAlike (opens copied copy) (opens sectors image)
  opens_there = subst (λ (r : Result ImageTree Refusal). AreOpenedAlike r (opens sectors image)) (sym (ap (λ r. tree_from (entries_of r)) volume_sized)) (by (volume sectors copy) refl)
    where
      by : (r : Result Volume Refusal) → volume sectors copy ≡ r → AreOpenedAlike (opens sectors copy) (opens sectors image)
      by (Err refusal) e = refused_alike refusal (opens sectors copy) (opens sectors image) (ap (λ r. tree_from (entries_of r)) e) (ap (λ r. tree_from (entries_of r)) (volume_refused refusal e))
      by (Ok v) e = let there = volume_there v e in tree_there v e there.0 there.1 (bad_tree v.geometry v.image) refl

  -- ---- where it stands for a tree

  pub standing_there : (v : Volume) → IsVolumeOf copied copy v (catalog_at v.geometry v.image) → (other : Image) × IsThere sectors image v other × IsVolumeOf sectors image (record v { image = other }) (catalog_at v.geometry other)
  standing_there v here =
      let good = not_bad v.geometry v.image (sound_whole v.geometry v.image (catalog_at v.geometry v.image) here.catalog here.sound) in
      let there = volume_there v (sym volume_sized ∙ here.taken) in
      (there.0, there.1, stands sectors image (record v { image = there.0 }) there.1.taken (sym (bad_same v.geometry there.1.geometry v.image there.0 there.1.agree) ∙ good))
