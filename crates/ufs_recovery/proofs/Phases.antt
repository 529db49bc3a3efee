-- The directories of orphans are emptied, and then the orphans are freed.
use Rattle.std.proofs.Common.{◌≡◌, ◌≢◌, ℕ, ◌+◌, ◌-◌, ◌<◌, ◌≤◌, ◌⊎◌, inl, inr, List, [], length, get_or, Bool, true, false, Option, Some, None, unwrap_or, ap, sym, refl, ◌∙◌, subst, arith}
use Rattle.std.specs.Prelude.{flat_map, ◌==◌, if◌then◌else◌, Result, Ok, Err, OnOk}
use Rattle.std.specs.List.{slice_get}
use Rattle.std.proofs.lemmas.Bool.{eqb-true}
use Rattle.ufs_base.specs.Images.{Image}
use Rattle.ufs_disk.specs.Disk.{State, IsSettled, seen}
use Rattle.ufs_layout.specs.InodeForm.{InodeForm, free_inode}
use Rattle.ufs_layout.specs.DentryForm.{DentryForm}
use Rattle.ufs_layout.specs.Superblock.{geometry_of}
use Rattle.ufs_layout.specs.declared.geometry.Geometry.{Geometry}
use Rattle.ufs_layout.specs.declared.superblock.Super.{Super}
use Rattle.ufs_image.specs.Catalog.{IsInode, catalog_at, slots_in}
use Rattle.ufs_image.specs.Changes.{IsReached, IsUnreached}
use Rattle.ufs_image.specs.Images.{inode_at, form_at}
use Rattle.ufs_image.specs.Opens.{opens}
use Rattle.ufs_image.specs.Nodes.{blocks_of}
use Rattle.ufs_image.specs.Sound.{HasDentry}
use Rattle.ufs_image.specs.Walks.{inode_of as met_by}
use Rattle.ufs_recovery.specs.Cleared.{cleared, Numbers, IsMixedCleared, AreClearedBelow, IsPartlyCleared}
use Rattle.ufs_recovery.specs.Home.{IsAtHome, OpensAlike}
use Rattle.ufs_recovery.specs.Orphans.{AreUnreached, AreOrphans, AreOrphanDirs, HasNone, IsPruned, MayPrune}
use Rattle.ufs_recovery.specs.Recovered.{HasNoOrphans}
use Rattle.ufs_recovery.proofs.Pruned.{HasNoBlocks, no_slots, named_reached}
use Rattle.ufs_recovery.proofs.Clears.{get_short, each_form, each_pruned, each_number, now_home, now_tree, now_walks}
use Rattle.ufs_recovery.proofs.Home.{home_proper}
use Rattle.ufs_recovery.proofs.OneMore.{get_there}

one_up : (k : ℕ) → 1 ≤ k → k - 1 + 1 ≡ k
one_up k from = omega (arith, from)

-- what a list has at a place
there_or : (numbers : Numbers) (n k : ℕ) → length numbers ≡ n → 1 ≤ k → k ≤ n → slice_get numbers (k - 1) ≡ Some (get_or numbers (k - 1) None)
there_or numbers n k sized from most = get_there numbers (k - 1) None (omega (arith, sized, from, most))

-- What a crash leaves is a mix of what the disk read.
pub mixed_tree : (sectors : ℕ) (g : Geometry) (kind : ℕ) (numbers : Numbers) (state : State) → IsSettled state
    → ((mix : Image) → IsMixedCleared g kind numbers (seen state) mix → OpensAlike sectors (seen state) mix)
    → (image : Image) → IsPartlyCleared g kind numbers state image → OpensAlike sectors (seen state) image
mixed_tree sectors g kind numbers state settled tree image from =
    tree image (subst (λ (d : Image). IsMixedCleared g kind numbers d image) (settled from.before from.left) from.mixed)

module _ (sectors : ℕ) (superblock : Super) (image : Image) (home : IsAtHome sectors superblock image) (all dirs : Numbers)
    (orphans : AreOrphans (geometry_of superblock) (catalog_at (geometry_of superblock) image) all) (orphan_dirs : AreOrphanDirs (geometry_of superblock) (catalog_at (geometry_of superblock) image) dirs) where
  -- ---- directories are emptied

  module _ (one : Image) (mixed : IsMixedCleared (geometry_of superblock) 2 dirs image one) where
    kinds : (k : ℕ) → IsInode (geometry_of superblock) k → (form_at (geometry_of superblock) one k).kind ≡ (form_at (geometry_of superblock) image k).kind
    kinds k ranged = by (each_form sectors superblock image home 2 dirs orphan_dirs.sized orphan_dirs.unreached one mixed k ranged)
      where
        by : (inode_at (geometry_of superblock) one k ≡ inode_at (geometry_of superblock) image k) ⊎ ((number : ℕ) × (slice_get dirs (k - 1) ≡ Some (Some number)) × (inode_at (geometry_of superblock) one k ≡ Some (cleared 2 number)))
            → (form_at (geometry_of superblock) one k).kind ≡ (form_at (geometry_of superblock) image k).kind
        by (inl e) = ap (λ o. (unwrap_or o (free_inode 0)).kind) e
        by (inr cl) =
            ap (λ o. (unwrap_or o (free_inode 0)).kind) cl.2
            ∙ sym (ap (λ n. (form_at (geometry_of superblock) image n).kind) (sym (one_up k ranged.from_one)) ∙ orphan_dirs.dirs (k - 1) cl.0 cl.1)

    named : (dir place : ℕ) (x : DentryForm) → HasDentry (geometry_of superblock) (catalog_at (geometry_of superblock) image) dir place x → HasDentry (geometry_of superblock) (catalog_at (geometry_of superblock) one) dir place x
        → (form_at (geometry_of superblock) one x.inode).kind ≡ (form_at (geometry_of superblock) image x.inode).kind
    named dir place x has now = kinds x.inode (home.is.sound.fit dir place x has).in_range

    tree_one : opens sectors one ≡ opens sectors image
    tree_one = now_tree sectors superblock image home 2 dirs orphan_dirs.sized orphan_dirs.unreached one mixed named

    pub home_one : IsAtHome sectors superblock one
    home_one = now_home sectors superblock image home 2 dirs orphan_dirs.sized orphan_dirs.unreached one mixed named

    pub alike_one : superblock.clean ≡ false → OpensAlike sectors image one
    alike_one in_use = record { tree = tree_one; proper = λ was. home_proper sectors superblock one home_one in_use }

    walks_one : (names : List (List ℕ)) → met_by (catalog_at (geometry_of superblock) one) names ≡ met_by (catalog_at (geometry_of superblock) image) names
    walks_one = now_walks sectors superblock image home 2 dirs orphan_dirs.sized orphan_dirs.unreached one mixed named

    reached_one : (k : ℕ) → IsReached (catalog_at (geometry_of superblock) image) k → IsReached (catalog_at (geometry_of superblock) one) k
    reached_one k is = record { names = is.names; met = walks_one is.names ∙ is.met }

    pub unreached_one : AreUnreached (catalog_at (geometry_of superblock) one) all
    unreached_one place number chosen =
        let was = orphans.unreached place number chosen in
        let short = get_short all place (Some number) chosen in
        let sized = orphans.sized in
        let ranged : IsInode (geometry_of superblock) (place + 1) = record { from_one = omega arith; within = omega (arith, short, sized) } in
        (λ names met. was.0 names (sym (walks_one names) ∙ met), was.1 ∙ sym (each_number sectors superblock image home 2 dirs orphan_dirs.sized orphan_dirs.unreached one mixed (place + 1) ranged))

    pub others_one : (place : ℕ) → place < (geometry_of superblock).inodes → slice_get all place ≡ Some None → IsReached (catalog_at (geometry_of superblock) one) (place + 1) ⊎ ((form_at (geometry_of superblock) one (place + 1)).kind ≡ 0)
    others_one place less none = by (orphans.others place none)
      where
        ranged : IsInode (geometry_of superblock) (place + 1)
        ranged = record { from_one = omega arith; within = omega (arith, less) }

        by : IsReached (catalog_at (geometry_of superblock) image) (place + 1) ⊎ ((form_at (geometry_of superblock) image (place + 1)).kind ≡ 0) → IsReached (catalog_at (geometry_of superblock) one) (place + 1) ⊎ ((form_at (geometry_of superblock) one (place + 1)).kind ≡ 0)
        by (inl is) = inl (reached_one (place + 1) is)
        by (inr free) = inr (kinds (place + 1) ranged ∙ free)

    -- Whoever has a name still is reached.
    module _ (done : AreClearedBelow (geometry_of superblock) 2 dirs (geometry_of superblock).inodes one) where
      pub names_reached : (dir place : ℕ) (x : DentryForm) → HasDentry (geometry_of superblock) (catalog_at (geometry_of superblock) one) dir place x → IsReached (catalog_at (geometry_of superblock) one) dir
      names_reached dir place x has = by (get_or dirs (dir - 1) None) (there_or dirs (geometry_of superblock).inodes dir orphan_dirs.sized has.in_range.from_one has.in_range.within)
        where
          up : dir - 1 + 1 ≡ dir
          up = one_up dir has.in_range.from_one

          is_dir : (form_at (geometry_of superblock) one dir).kind ≡ 2
          is_dir = two ((form_at (geometry_of superblock) one dir).kind == 2) refl
            where
              two : (b : Bool) → ((form_at (geometry_of superblock) one dir).kind == 2) ≡ b → (form_at (geometry_of superblock) one dir).kind ≡ 2
              two true t = eqb-true (form_at (geometry_of superblock) one dir).kind 2 t
              two false t =
                  let none : slots_in (catalog_at (geometry_of superblock) one) dir ≡ [] = ap (λ b. if b then flat_map (catalog_at (geometry_of superblock) one).slots (blocks_of (form_at (geometry_of superblock) one dir)) else []) t in
                  let no : None ≡ Some x = sym (ap (λ slots. slice_get slots place) none) ∙ has.there in absurd cc

          by : (o : Option ℕ) → slice_get dirs (dir - 1) ≡ Some o → IsReached (catalog_at (geometry_of superblock) one) dir
          by None e = other (orphan_dirs.others (dir - 1) e)
            where
              other : IsReached (catalog_at (geometry_of superblock) image) (dir - 1 + 1) ⊎ ((form_at (geometry_of superblock) image (dir - 1 + 1)).kind ≢ 2) → IsReached (catalog_at (geometry_of superblock) one) dir
              other (inl is) = reached_one dir (subst (IsReached (catalog_at (geometry_of superblock) image)) up is)
              other (inr off) = absurd (off (ap (λ k. (form_at (geometry_of superblock) image k).kind) up ∙ sym (kinds dir has.in_range) ∙ is_dir))
          by (Some number) e =
              let less : dir - 1 < (geometry_of superblock).inodes = let from = has.in_range.from_one in let most = has.in_range.within in omega (arith, from, most) in
              let form : form_at (geometry_of superblock) one dir ≡ cleared 2 number = ap (λ o. unwrap_or o (free_inode 0)) (done (dir - 1) number less e) in
              let bare : HasNoBlocks (form_at (geometry_of superblock) one dir) = record { extents = ap (λ (f : InodeForm). f.extents) form; size = ap (λ (f : InodeForm). f.size) form } in
              let no : None ≡ Some x = sym (ap (λ slots. slice_get slots place) (no_slots (catalog_at (geometry_of superblock) one) dir bare)) ∙ has.there in absurd cc

      -- ---- orphans are freed

      module _ (two : Image) (mixed_two : IsMixedCleared (geometry_of superblock) 0 all one two) where
        named_two : (dir place : ℕ) (x : DentryForm) → HasDentry (geometry_of superblock) (catalog_at (geometry_of superblock) one) dir place x → HasDentry (geometry_of superblock) (catalog_at (geometry_of superblock) two) dir place x
            → (form_at (geometry_of superblock) two x.inode).kind ≡ (form_at (geometry_of superblock) one x.inode).kind
        named_two dir place x has now = by (each_pruned sectors superblock one home_one 0 all orphans.sized unreached_one two mixed_two x.inode (home_one.is.sound.fit dir place x has).in_range)
          where
            is : IsReached (catalog_at (geometry_of superblock) one) x.inode
            is = named_reached (geometry_of superblock) (catalog_at (geometry_of superblock) one) home_one.is.sound dir place x has (names_reached dir place x has)

            by : (form_at (geometry_of superblock) two x.inode ≡ form_at (geometry_of superblock) one x.inode) ⊎ (IsUnreached (catalog_at (geometry_of superblock) one) x.inode × HasNoBlocks (form_at (geometry_of superblock) two x.inode))
                → (form_at (geometry_of superblock) two x.inode).kind ≡ (form_at (geometry_of superblock) one x.inode).kind
            by (inl e) = ap (λ (f : InodeForm). f.kind) e
            by (inr b) = absurd (b.0 is.names is.met)

        tree_two : opens sectors two ≡ opens sectors one
        tree_two = now_tree sectors superblock one home_one 0 all orphans.sized unreached_one two mixed_two named_two

        pub home_two : IsAtHome sectors superblock two
        home_two = now_home sectors superblock one home_one 0 all orphans.sized unreached_one two mixed_two named_two

        pub alike_two : superblock.clean ≡ false → OpensAlike sectors one two
        alike_two in_use = record { tree = tree_two; proper = λ was. home_proper sectors superblock two home_two in_use }

        walks_two : (names : List (List ℕ)) → met_by (catalog_at (geometry_of superblock) two) names ≡ met_by (catalog_at (geometry_of superblock) one) names
        walks_two = now_walks sectors superblock one home_one 0 all orphans.sized unreached_one two mixed_two named_two

        pub numbers_two : (k : ℕ) → IsInode (geometry_of superblock) k → (form_at (geometry_of superblock) two k).number ≡ (form_at (geometry_of superblock) image k).number
        numbers_two k ranged =
            each_number sectors superblock one home_one 0 all orphans.sized unreached_one two mixed_two k ranged
            ∙ each_number sectors superblock image home 2 dirs orphan_dirs.sized orphan_dirs.unreached one mixed k ranged

        module _ (done_two : AreClearedBelow (geometry_of superblock) 0 all (geometry_of superblock).inodes two) where
          pub no_orphans : HasNoOrphans (geometry_of superblock) two
          no_orphans k ranged used = by (get_or all (k - 1) None) (there_or all (geometry_of superblock).inodes k orphans.sized ranged.from_one ranged.within)
            where
              up : k - 1 + 1 ≡ k
              up = one_up k ranged.from_one

              less : k - 1 < (geometry_of superblock).inodes
              less = let from = ranged.from_one in let most = ranged.within in omega (arith, from, most)

              freed : (number : ℕ) → inode_at (geometry_of superblock) two k ≡ Some (cleared 0 number) → IsReached (catalog_at (geometry_of superblock) two) k
              freed number e = absurd (used (ap (λ o. (unwrap_or o (free_inode 0)).kind) e))

              still : (IsReached (catalog_at (geometry_of superblock) one) (k - 1 + 1)) ⊎ ((form_at (geometry_of superblock) one (k - 1 + 1)).kind ≡ 0) → IsReached (catalog_at (geometry_of superblock) two) k
              still (inl is) = record { names = is.names; met = walks_two is.names ∙ subst (λ n. met_by (catalog_at (geometry_of superblock) one) is.names ≡ Some n) up is.met }
              still (inr free) = same (each_form sectors superblock one home_one 0 all orphans.sized unreached_one two mixed_two k ranged)
                where
                  same : (inode_at (geometry_of superblock) two k ≡ inode_at (geometry_of superblock) one k) ⊎ ((number : ℕ) × (slice_get all (k - 1) ≡ Some (Some number)) × (inode_at (geometry_of superblock) two k ≡ Some (cleared 0 number))) → IsReached (catalog_at (geometry_of superblock) two) k
                  same (inl e) = absurd (used (ap (λ o. (unwrap_or o (free_inode 0)).kind) e ∙ ap (λ n. (form_at (geometry_of superblock) one n).kind) (sym up) ∙ free))
                  same (inr cl) = freed cl.0 cl.2

              by : (o : Option ℕ) → slice_get all (k - 1) ≡ Some o → IsReached (catalog_at (geometry_of superblock) two) k
              by None e = still (others_one (k - 1) less e)
              by (Some number) e = freed number (done_two (k - 1) number less e)

          pub is_pruned : IsPruned sectors superblock image two
          is_pruned = record { home = home_two; named = no_orphans; numbers = numbers_two }

-- by other words for the geometry and the numbers
pub mixed_by : (kind : ℕ) (g h : Geometry) (numbers others : Numbers) (before image : Image) → g ≡ h → numbers ≡ others → IsMixedCleared g kind numbers before image → IsMixedCleared h kind others before image
mixed_by kind g h numbers others before image e f = subst (λ (p : Geometry × Numbers). IsMixedCleared p.0 kind p.1 before image) (λ i. (e i, f i))

pub cleared_by : (kind : ℕ) (g h : Geometry) (numbers others : Numbers) (image : Image) → g ≡ h → numbers ≡ others → AreClearedBelow g kind numbers g.inodes image → AreClearedBelow h kind others h.inodes image
cleared_by kind g h numbers others image e f = subst (λ (p : Geometry × Numbers). AreClearedBelow p.0 kind p.1 p.0.inodes image) (λ i. (e i, f i))

pub on_ok_both : {T E : Type 0} (P Q : Type 0) (r : Result T E) → OnOk r P → OnOk r Q → OnOk r (P × Q)
on_ok_both P Q (Ok x) p q = (p, q)
on_ok_both P Q (Err e) p q = tt

-- ---- where there are none

pub none_pruned : (sectors : ℕ) (superblock : Super) (image : Image) (g : Geometry) (all dirs numbers : Numbers) → MayPrune sectors superblock image g all dirs → numbers ≡ all → HasNone numbers → IsPruned sectors superblock image image
none_pruned sectors superblock image g all dirs numbers may same none = record { home = may.home; named = named; numbers = λ k ranged. refl }
  where
    named : HasNoOrphans (geometry_of superblock) image
    named k ranged used = by (get_or all (k - 1) None) (there_or all (geometry_of superblock).inodes k may.all.sized ranged.from_one ranged.within)
      where
        up : k - 1 + 1 ≡ k
        up = one_up k ranged.from_one

        by : (o : Option ℕ) → slice_get all (k - 1) ≡ Some o → IsReached (catalog_at (geometry_of superblock) image) k
        by (Some number) e = absurd (none (k - 1) number (ap (λ (l : Numbers). slice_get l (k - 1)) same ∙ e))
        by None e = other (may.all.others (k - 1) e)
          where
            other : IsReached (catalog_at (geometry_of superblock) image) (k - 1 + 1) ⊎ ((form_at (geometry_of superblock) image (k - 1 + 1)).kind ≡ 0) → IsReached (catalog_at (geometry_of superblock) image) k
            other (inl is) = subst (IsReached (catalog_at (geometry_of superblock) image)) up is
            other (inr free) = absurd (used (ap (λ n. (form_at (geometry_of superblock) image n).kind) (sym up) ∙ free))

pub always_ok : {T E : Type 0} {P : Type 0} (r : Result T E) → P → OnOk r P
always_ok (Ok x) p = p
always_ok (Err e) p = tt
