-- The orphans among what was read.
use Rattle.std.proofs.Common.{◌≡◌, ◌≢◌, ℕ, ◌+◌, ◌-◌, ◌<◌, ◌≤◌, ◌⊎◌, inl, inr, List, length, get_or, map, Bool, true, false, Option, Some, None, unwrap_or, ap, sym, refl, ◌∙◌, arith}
use Rattle.std.specs.Prelude.{◌==◌, if◌then◌else◌}
use Rattle.std.specs.List.{slice_get}
use Rattle.std.proofs.lemmas.Bool.{eqb-true}
use Rattle.std.proofs.lemmas.Bool.Decides.{nat_tests}
use Rattle.std.proofs.lemmas.List.FromFn.{get_or-map-range_with_len, length-map-range_with_len}
use Rattle.ufs_base.specs.Images.{Image}
use Rattle.ufs_layout.specs.Areas.{all_inodes}
use Rattle.ufs_layout.specs.InodeForm.{InodeForm, free_inode}
use Rattle.ufs_layout.specs.declared.geometry.Geometry.{Geometry}
use Rattle.ufs_image.specs.Catalog.{IsInode, catalog_at}
use Rattle.ufs_image.specs.Changes.{IsReached, IsUnreached}
use Rattle.ufs_image.specs.Images.{inode_at, form_at}
use Rattle.ufs_recovery.specs.Cleared.{Numbers}
use Rattle.ufs_recovery.specs.Recovered.{AreInodesBelow}
use Rattle.std.proofs.lemmas.Option.{get_or_from_slice_get}
use Rattle.ufs_walk.specs.Reached.{AreReachedMarks}
use Rattle.ufs_recovery.specs.Orphans.{AreNumbersBelow, AreOrphans, AreOrphanDirs, AreTold, orphan_number, orphan_dir_number}
use Rattle.ufs_recovery.proofs.Clears.{get_short}
use Rattle.ufs_recovery.proofs.OneMore.{get_there}

-- an inode that is to be cleared
record IsChosen (o : Option InodeForm) (b : Bool) (number : ℕ) : Type 0 where
  form : InodeForm
  unmarked : b ≡ false
  there : o ≡ Some form
  same : number ≡ form.number

chosen : (o : Option InodeForm) (b : Bool) (number : ℕ) → orphan_number o b ≡ Some number → IsChosen o b number
chosen None b number e = let clash = e in absurd cc
chosen (Some f) true number e = let clash = e in absurd cc
chosen (Some f) false number e = by (f.kind == 0) e
  where
    by : (t : Bool) → (if t then None else Some f.number) ≡ Some number → IsChosen (Some f) false number
    by true e = let clash = e in absurd cc
    by false e = record { form = f; unmarked = refl; there = refl; same = cc }

left : (o : Option InodeForm) (b : Bool) → orphan_number o b ≡ None → (b ≡ true) ⊎ ((unwrap_or o (free_inode 0)).kind ≡ 0)
left None b e = inr refl
left (Some f) true e = inl refl
left (Some f) false e = by (f.kind == 0) refl e
  where
    by : (t : Bool) → (f.kind == 0) ≡ t → (if t then None else Some f.number) ≡ None → (false ≡ true) ⊎ (f.kind ≡ 0)
    by true t e = inr (eqb-true f.kind 0 t)
    by false t e = let clash = e in absurd cc

chosen_dir : (o : Option InodeForm) (b : Bool) (number : ℕ) → orphan_dir_number o b ≡ Some number → IsChosen o b number × ((unwrap_or o (free_inode 0)).kind ≡ 2)
chosen_dir None b number e = let clash = e in absurd cc
chosen_dir (Some f) true number e = let clash = e in absurd cc
chosen_dir (Some f) false number e = by (f.kind == 2) refl e
  where
    by : (t : Bool) → (f.kind == 2) ≡ t → (if t then Some f.number else None) ≡ Some number → IsChosen (Some f) false number × (f.kind ≡ 2)
    by true t e = (record { form = f; unmarked = refl; there = refl; same = cc }, eqb-true f.kind 2 t)
    by false t e = let clash = e in absurd cc

left_dir : (o : Option InodeForm) (b : Bool) → orphan_dir_number o b ≡ None → (b ≡ true) ⊎ ((unwrap_or o (free_inode 0)).kind ≢ 2)
left_dir None b e = inr (λ dir. omega (arith, dir))
left_dir (Some f) true e = inl refl
left_dir (Some f) false e = by (f.kind == 2) refl e
  where
    by : (t : Bool) → (f.kind == 2) ≡ t → (if t then Some f.number else None) ≡ None → (false ≡ true) ⊎ (f.kind ≢ 2)
    by true t e = let clash = e in absurd cc
    by false t e = inr (λ dir. grind (arith, nat_tests, t, dir))

module _ (g : Geometry) (image : Image) (forms : List (Option InodeForm)) (are : forms ≡ map (inode_at g image) (all_inodes g)) where
  pub form_there : (place : ℕ) → place < g.inodes → get_or forms place None ≡ inode_at g image (place + 1)
  form_there place less = ap (λ (l : List (Option InodeForm)). get_or l place None) are ∙ get_or-map-range_with_len (inode_at g image) 1 g.inodes place (place + 1) None less (omega arith)

  module _ (marks : List Bool) (reached : AreReachedMarks g (catalog_at g image) marks) where
    mark_there : (place : ℕ) (b : Bool) → place < g.inodes → get_or marks place false ≡ b → slice_get marks place ≡ Some b
    mark_there place b less e = get_there marks place false (let sized = reached.sized in omega (arith, less, sized)) ∙ ap Some e

    module _ (numbers : Numbers) (sized : length numbers ≡ g.inodes) where
      under : (place : ℕ) (o : Option ℕ) → slice_get numbers place ≡ Some o → place < g.inodes
      under place o e = let short = get_short numbers place o e in omega (arith, short, sized)

      unreached_by : (place number : ℕ) → place < g.inodes → IsChosen (get_or forms place None) (get_or marks place false) number → IsUnreached (catalog_at g image) (place + 1) × (number ≡ (form_at g image (place + 1)).number)
      unreached_by place number less is = (
        reached.others place (mark_there place false less is.unmarked),
        is.same ∙ ap (λ o. (unwrap_or o (free_inode 0)).number) (sym (sym (form_there place less) ∙ is.there)),
      )

      test_is : (test : Option InodeForm → Bool → Option ℕ) → AreTold test forms marks numbers → (place : ℕ) (o : Option ℕ) → slice_get numbers place ≡ Some o → test (get_or forms place None) (get_or marks place false) ≡ o
      test_is test told place o e =
          let both : ◌≡◌ {A = Option (Option ℕ)} (Some (test (get_or forms place None) (get_or marks place false))) (Some o) = sym (told place (get_short numbers place o e)) ∙ e in cc

      pub are_orphans : AreTold orphan_number forms marks numbers → AreOrphans g (catalog_at g image) numbers
      are_orphans told = record {
        sized = sized;
        unreached = λ place number e. unreached_by place number (under place (Some number) e) (chosen (get_or forms place None) (get_or marks place false) number (test_is orphan_number told place (Some number) e));
        others = λ place e. by place (under place None e) (left (get_or forms place None) (get_or marks place false) (test_is orphan_number told place None e));
      }
        where
          by : (place : ℕ) → place < g.inodes → (get_or marks place false ≡ true) ⊎ ((unwrap_or (get_or forms place None) (free_inode 0)).kind ≡ 0) → IsReached (catalog_at g image) (place + 1) ⊎ ((form_at g image (place + 1)).kind ≡ 0)
          by place less (inl is) = inl (reached.reached place (mark_there place true less is))
          by place less (inr free) = inr (ap (λ o. (unwrap_or o (free_inode 0)).kind) (sym (form_there place less)) ∙ free)

      pub are_orphan_dirs : AreTold orphan_dir_number forms marks numbers → AreOrphanDirs g (catalog_at g image) numbers
      are_orphan_dirs told = record {
        sized = sized;
        unreached = λ place number e. unreached_by place number (under place (Some number) e) (chosen_dir (get_or forms place None) (get_or marks place false) number (test_is orphan_dir_number told place (Some number) e)).0;
        dirs = λ place number e.
            ap (λ o. (unwrap_or o (free_inode 0)).kind) (sym (form_there place (under place (Some number) e)))
            ∙ (chosen_dir (get_or forms place None) (get_or marks place false) number (test_is orphan_dir_number told place (Some number) e)).1;
        others = λ place e. by place (under place None e) (left_dir (get_or forms place None) (get_or marks place false) (test_is orphan_dir_number told place None e));
      }
        where
          by : (place : ℕ) → place < g.inodes → (get_or marks place false ≡ true) ⊎ ((unwrap_or (get_or forms place None) (free_inode 0)).kind ≢ 2) → IsReached (catalog_at g image) (place + 1) ⊎ ((form_at g image (place + 1)).kind ≢ 2)
          by place less (inl is) = inl (reached.reached place (mark_there place true less is))
          by place less (inr other) = inr (λ dir. other (ap (λ o. (unwrap_or o (free_inode 0)).kind) (form_there place less) ∙ dir))

  -- ---- numbers

  pub numbers_below : (n : ℕ) → AreInodesBelow g image n → AreNumbersBelow forms n
  numbers_below n below place form e =
      let long : length forms ≡ g.inodes = ap length are ∙ length-map-range_with_len (inode_at g image) 1 g.inodes in
      let less : place < g.inodes = omega (arith, get_short forms place (Some form) e, long) in
      let is : inode_at g image (place + 1) ≡ Some form = sym (form_there place less) ∙ get_or_from_slice_get forms place (Some form) None e in
      let number : (form_at g image (place + 1)).number ≡ form.number = ap (λ o. (unwrap_or o (free_inode 0)).number) is in
      let at = below (place + 1) (record { from_one = omega arith; within = omega (arith, less) }) in
      omega (arith, number, at)

  pub number_below : (highest next : ℕ) → ((place : ℕ) (form : InodeForm) → slice_get forms place ≡ Some (Some form) → form.number ≤ highest) → highest < next → (k : ℕ) → IsInode g k → (form_at g image k).number < next
  number_below highest next each above k ranged = by (inode_at g image k) refl
    where
      less : k - 1 < g.inodes
      less = let from = ranged.from_one in let most = ranged.within in omega (arith, from, most)

      up : k - 1 + 1 ≡ k
      up = let from = ranged.from_one in omega (arith, from)

      long : length forms ≡ g.inodes
      long = ap length are ∙ length-map-range_with_len (inode_at g image) 1 g.inodes

      by : (o : Option InodeForm) → inode_at g image k ≡ o → (form_at g image k).number < next
      by None e = let none : (form_at g image k).number ≡ 0 = ap (λ o. (unwrap_or o (free_inode 0)).number) e in omega (arith, none, above)
      by (Some f) e =
          let there : slice_get forms (k - 1) ≡ Some (Some f) = get_there forms (k - 1) None (omega (arith, less, long)) ∙ ap Some (form_there (k - 1) less ∙ ap (inode_at g image) up ∙ e) in
          let number : (form_at g image k).number ≡ f.number = ap (λ o. (unwrap_or o (free_inode 0)).number) e in
          let most = each (k - 1) f there in
          omega (arith, number, most, above)
