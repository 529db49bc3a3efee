-- From the next epoch on to the end.
use Rattle.std.proofs.Common.{◌≡◌, ℕ, ◌+◌, ◌<◌, ◌≤◌, List, Bool, true, false, ap, sym, ◌∙◌, subst, arith}
use Rattle.ufs_base.specs.Images.{Image}
use Rattle.ufs_damage.specs.Findings.{CatalogRead}
use Rattle.ufs_damage.specs.Taken.{AreTaken}
use Rattle.ufs_image.specs.Catalog.{IsInode, IsCatalogOf, catalog_at}
use Rattle.ufs_image.specs.Images.{form_at}
use Rattle.ufs_image.specs.Nodes.{sound_nodes}
use Rattle.ufs_image.specs.Volume.{superblock_of}
use Rattle.ufs_image.specs.Walks.{inode_of as met_by}
use Rattle.ufs_image.proofs.Blamed.{undamaged}
use Rattle.ufs_image.proofs.Opening.{has_geometry}
use Rattle.ufs_image.proofs.Read.{catalog_there}
use Rattle.ufs_image.proofs.Whole.{whole_sound, whole_read, spelled_all}
use Rattle.ufs_layout.specs.InodeForm.{InodeForm}
use Rattle.ufs_layout.specs.Superblock.{geometry_of}
use Rattle.ufs_layout.specs.declared.geometry.Geometry.{Geometry}
use Rattle.ufs_layout.specs.declared.superblock.Super.{Super}
use Rattle.ufs_overlay.specs.Seen as overlaid
use Rattle.ufs_volume.specs.Volumes.{folded_image, volume_in}
use Rattle.ufs_volume.specs.declared.volume.FoldedVolume.{FoldedVolume}
use Rattle.ufs_recovery.specs.Cleared.{Numbers}
use Rattle.ufs_recovery.specs.Finished.{MayFinish, HasFinished, MayWriteBack, IsWrittenBack}
use Rattle.ufs_recovery.specs.Home.{IsOver, MayFollow, HasBegun, MayClose, HasClosed}
use Rattle.ufs_recovery.specs.Orphans.{AreOrphans, AreOrphanDirs, IsPruned}
use Rattle.ufs_recovery.specs.Recovered.{AreFitted, AreInodesBelow, HasNoOrphans, IsFitted}
use Rattle.ufs_recovery.proofs.Alike.{AgreeBehind, form_alike, inode_alike, nodes_alike, walks_alike, orphans_alike}
use Rattle.ufs_recovery.proofs.Home.{is_geometry, has_superblock}
use Rattle.ufs_recovery.proofs.Moved.{orphans_moved, dirs_moved}

module _ (sectors : ℕ) (superblock : Super) (before mid : Image) (g : Geometry) (findings : CatalogRead) (numbers dirs : Numbers) (may : MayFinish sectors superblock before g findings numbers dirs) (pruned : IsPruned sectors superblock before mid) where
  pub may_close : (marks : List Bool) → AreTaken g (sound_nodes g mid) marks → MayClose sectors superblock mid g marks
  may_close marks taken = record {
    home = pruned.home;
    in_use = may.prune.in_use;
    geometry = may.prune.geometry;
    taken = subst (λ h. AreTaken h (sound_nodes h mid) marks) may.prune.geometry taken;
    numbers = λ k ranged. let same = pruned.numbers k ranged in let less = may.behind k ranged in omega (arith, same, less);
  }

  pub has_finished : AreFitted (geometry_of superblock) mid → (after : Image) → HasClosed sectors superblock mid after → HasFinished sectors superblock before after
  has_finished fit after closed = record {
    home = closed.home;
    proper = closed.proper;
    named = orphans_alike (geometry_of superblock) mid after closed.same pruned.home.is.sound (let least = (is_geometry sectors superblock mid pruned.home).0.least_inodes in omega (arith, least)) pruned.named;
    fitted = λ k ranged. subst IsFitted (sym (form_alike (geometry_of superblock) mid after closed.same k)) (fit k ranged);
    behind = λ k ranged.
        let same : (form_at (geometry_of superblock) after k).number ≡ (form_at (geometry_of superblock) mid k).number = ap (λ (f : InodeForm). f.number) (form_alike (geometry_of superblock) mid after closed.same k) in
        let was = pruned.numbers k ranged in let less = may.behind k ranged in omega (arith, same, was, less);
    numbers = λ k ranged. ap (λ (f : InodeForm). f.number) (form_alike (geometry_of superblock) mid after closed.same k) ∙ pruned.numbers k ranged;
  }

module _ (sectors : ℕ) (image : Image) (v : FoldedVolume) (findings : CatalogRead) (may : MayWriteBack sectors image v findings) where
  pub over : overlaid.geometry_of v.overlay ≡ v.superblock.geometry → IsOver sectors image (volume_in v image) v.overlay
  over same =
      let g = v.superblock.geometry in
      let folded = folded_image v image in
      let none = undamaged g folded may.whole in
      let there : IsCatalogOf g folded (catalog_at g folded) = catalog_there g folded (whole_read g folded none) (spelled_all g folded none) in
      let least = (has_geometry sectors image (volume_in v image) may.taken).0.least_inodes in
      let some : 1 ≤ g.inodes = omega (arith, least) in
      record {
        is = record { taken = may.taken; catalog = there; sound = whole_sound g folded (catalog_at g folded) there some none };
        geometry = same;
        added = may.added;
      }

  module _ (superblock : Super) (geometry : geometry_of superblock ≡ v.superblock.geometry) (epoch : superblock.epoch ≡ v.superblock.superblock.epoch + 1) (in_use : superblock.clean ≡ false) where
    pub may_follow : MayFollow image (volume_in v image) superblock
    may_follow = record { in_use = in_use; geometry = geometry; earlier = λ s of. let most = may.none_later s of in omega (arith, most, epoch) }

    module _ (mid : Image) (begun : HasBegun sectors (volume_in v image) superblock mid) (numbers dirs : Numbers)
        (orphans : AreOrphans v.superblock.geometry (catalog_at v.superblock.geometry (folded_image v image)) numbers) (orphan_dirs : AreOrphanDirs v.superblock.geometry (catalog_at v.superblock.geometry (folded_image v image)) dirs)
        (below : (k : ℕ) → IsInode v.superblock.geometry k → (form_at v.superblock.geometry (folded_image v image) k).number < superblock.next) where
      agree : AgreeBehind (geometry_of superblock) (folded_image v image) mid
      agree s from = begun.same s (λ zero. omega (arith, zero, from))

      back : v.superblock.geometry ≡ geometry_of superblock
      back = sym geometry

      some_inodes : 1 ≤ (geometry_of superblock).inodes
      some_inodes = let least = (is_geometry sectors superblock mid begun.home).0.least_inodes in omega (arith, least)

      -- the folded image's walks are those of the image at home
      walks_back : (names : List (List ℕ)) → met_by (catalog_at (geometry_of superblock) mid) names ≡ met_by (catalog_at (geometry_of superblock) (folded_image v image)) names
      walks_back names = sym (walks_alike (geometry_of superblock) mid (folded_image v image) (λ s from. sym (agree s from)) begun.home.is.sound some_inodes names)

      form_back : (k : ℕ) → form_at (geometry_of superblock) mid k ≡ form_at (geometry_of superblock) (folded_image v image) k
      form_back k = form_alike (geometry_of superblock) (folded_image v image) mid agree k

      pub may_finish : MayFinish sectors superblock mid v.superblock.geometry findings numbers dirs
      may_finish = record {
        prune = record {
          home = begun.home;
          in_use = in_use;
          geometry = back;
          all = orphans_moved (geometry_of superblock) (folded_image v image) mid walks_back form_back numbers (subst (λ h. AreOrphans h (catalog_at h (folded_image v image)) numbers) back orphans);
          all_dirs = dirs_moved (geometry_of superblock) (folded_image v image) mid walks_back form_back dirs (subst (λ h. AreOrphanDirs h (catalog_at h (folded_image v image)) dirs) back orphan_dirs);
        };
        read = record { read = folded_image v image; are = may.found; forms = λ k. inode_alike v.superblock.geometry (folded_image v image) mid (λ s from. begun.same s (λ zero. omega (arith, zero, from))) k; nodes = nodes_alike v.superblock.geometry (folded_image v image) mid (λ s from. begun.same s (λ zero. omega (arith, zero, from))) };
        behind = λ k ranged.
            let same : (form_at (geometry_of superblock) mid k).number ≡ (form_at (geometry_of superblock) (folded_image v image) k).number = ap (λ (f : InodeForm). f.number) (form_back k) in
            let less : (form_at (geometry_of superblock) (folded_image v image) k).number < superblock.next = subst (λ h. IsInode h k → (form_at h (folded_image v image) k).number < superblock.next) back (below k) ranged in
            omega (arith, same, less);
      }

    module _ (mid after : Image) (used : ℕ) (begun : HasBegun sectors (volume_in v image) superblock mid) (finished : HasFinished sectors superblock mid after) (version : superblock.version ≡ 1)
        (known : v.superblock.superblock.next ≤ superblock.next) (above : used < superblock.next)
        (least : (n : ℕ) → v.superblock.superblock.next ≤ n → used < n → AreInodesBelow v.superblock.geometry (folded_image v image) n → superblock.next ≤ n)
        (of_superblock : v.superblock.geometry ≡ geometry_of v.superblock.superblock) where
      superblocks : superblock_of after ≡ record superblock { clean = true }
      superblocks = has_superblock sectors (record superblock { clean = true }) after finished.home

      next_is : (superblock_of after).next ≡ superblock.next
      next_is = ap (λ (h : Super). h.next) superblocks

      same_geometry : geometry_of superblock ≡ geometry_of v.superblock.superblock
      same_geometry = geometry ∙ of_superblock

      number_back : (k : ℕ) → (form_at (geometry_of superblock) mid k).number ≡ (form_at (geometry_of superblock) (folded_image v image) k).number
      number_back k = ap (λ (f : InodeForm). f.number) (form_alike (geometry_of superblock) (folded_image v image) mid (λ s from. begun.same s (λ zero. omega (arith, zero, from))) k)

      -- the numbers that the inodes had are those that they have
      numbers_back : (n : ℕ) → AreInodesBelow (geometry_of superblock) after n → AreInodesBelow (geometry_of superblock) (folded_image v image) n
      numbers_back n each k ranged =
          let now = each k ranged in
          let was = finished.numbers k ranged in
          let same = number_back k in
          omega (arith, now, was, same)

      pub is_written : IsWrittenBack sectors v.superblock.superblock (folded_image v image) used after
      is_written = record {
        proper = finished.proper;
        superblock_is = superblocks ∙ (λ i. record {
          version = version i;
          blocks = (same_geometry i).blocks;
          inodes = (same_geometry i).inodes;
          journal = (same_geometry i).journal;
          epoch = epoch i;
          next = sym next_is i;
          clean = true;
        });
        known = omega (arith, known, next_is);
        above = omega (arith, above, next_is);
        inodes = λ k ranged.
            let less : (form_at (geometry_of v.superblock.superblock) after k).number < superblock.next = subst (λ h. IsInode h k → (form_at h after k).number < superblock.next) same_geometry (finished.behind k) ranged in
            omega (arith, less, next_is);
        least = λ n from over each.
            let most = least n from over (subst (λ h. AreInodesBelow h (folded_image v image) n) geometry (numbers_back n (subst (λ h. AreInodesBelow h after n) (sym same_geometry) each))) in
            omega (arith, most, next_is);
        numbers = subst (λ h. (k : ℕ) → IsInode h k → (form_at h after k).number ≡ (form_at h (folded_image v image) k).number) same_geometry (λ k ranged. finished.numbers k ranged ∙ number_back k);
        named = subst (λ h. HasNoOrphans h after) same_geometry finished.named;
        fitted = subst (λ h. AreFitted h after) same_geometry finished.fitted;
      }
