-- Files lose the blocks that their sizes don't need, one after the other.
use Rattle.std.proofs.Common.{◌≡◌, ◌≢◌, ℕ, ◌+◌, ◌-◌, ◌*◌, ◌/◌, ◌<◌, ◌≤◌, ◌⊎◌, inl, inr, List, length, Bool, true, false, Option, Some, None, slice_index_or, get_or, ap, sym, refl, ◌∙◌, subst, arith}
use Rattle.std.specs.Prelude.{◌==◌, ◌&&◌, nat_lt}
use Rattle.std.specs.List.{slice_get}
use Rattle.std.proofs.lemmas.Bool.{cases_eq, eqb-true}
use Rattle.std.proofs.lemmas.Bool.Decides.{nat_tests}
use Rattle.std.proofs.lemmas.List.FromFn.{get_or-map-range_with_len}
use Rattle.ufs_base.specs.Images.{Image}
use Rattle.ufs_disk.specs.Disk.{State, IsImage, IsSettled, IsWhole, put, seen}
use Rattle.ufs_disk.proofs.Images.{put_other, put_same, seen_is_image}
use Rattle.ufs_image.specs.Catalog.{IsInode}
use Rattle.ufs_image.specs.Images.{IsImageOf, inode_at, form_at}
use Rattle.ufs_image.specs.Nodes.{blocks_of}
use Rattle.ufs_layout.specs.Areas.{first_of_inodes, sector_of_inode}
use Rattle.ufs_layout.specs.InodeForm.{InodeForm, inode_of}
use Rattle.ufs_layout.specs.Superblock.{geometry_of}
use Rattle.ufs_layout.specs.declared.geometry.Geometry.{Geometry}
use Rattle.ufs_layout.specs.declared.superblock.Super.{Super}
use Rattle.ufs_damage.specs.Findings.{AreFindingsOf, CatalogRead}
use Rattle.ufs_recovery.specs.Cleared.{HasSectorPut, Numbers}
use Rattle.ufs_recovery.specs.Finished.{IsTidy}
use Rattle.ufs_recovery.specs.Fitted.{AreReadFrom, HasFitted, HasFormPut, IsFittedBelow, IsFormPut, MayFit, KeepsInodes, fitted, has_extra}
use Rattle.ufs_recovery.specs.Home.{IsAtHome, OpensAlike}
use Rattle.ufs_recovery.specs.Orphans.{IsPruned, IsReadOf, MayPrune}
use Rattle.ufs_recovery.specs.Recovered.{HasNoOrphans, IsFitted}
use Rattle.ufs_recovery.proofs.Cuts.{cut_home, cut_tree, cut_walks, form_else, form_here, inode_else, kinds, numbers, short_fits}
use Rattle.ufs_recovery.proofs.Home.{home_proper}
use Rattle.ufs_recovery.proofs.OneMore.{any_default, get_there}
use Rattle.ufs_recovery.proofs.SuperblockPut.{alike_same}

-- each image that a disk reads has whole sectors
pub sized : (sectors : ℕ) (state : State) → IsWhole sectors state → IsImageOf sectors (seen state)
sized sectors state whole sector less = whole.within sector less (seen state sector) (seen_is_image state sector)

-- ---- the form that was read

-- A file with room has the blocks for its size, unless it has more.
no_extra : (form : InodeForm) → form.size ≤ 4096 * length (blocks_of form) → has_extra form ≡ false → IsFitted form
no_extra form room none file = by (nat_lt ((form.size + 4095) / 4096) (length (blocks_of form))) refl
  where
    by : (b : Bool) → nat_lt ((form.size + 4095) / 4096) (length (blocks_of form)) ≡ b → (form.size + 4095) / 4096 ≡ length (blocks_of form)
    by true t = let no : true ≡ false = sym t ∙ ap (λ n. (n == 1) && nat_lt ((form.size + 4095) / 4096) (length (blocks_of form))) (sym file) ∙ none in absurd cc
    by false t =
        let n = length (blocks_of form) in
        let most : length (blocks_of form) ≤ (form.size + 4095) / 4096 = grind (arith, nat_tests, t) in omega (arith, most, room)

pub extra_file : (form : InodeForm) → has_extra form ≡ true → form.kind ≡ 1
extra_file form is = by (form.kind == 1) refl
  where
    by : (b : Bool) → (form.kind == 1) ≡ b → form.kind ≡ 1
    by true t = eqb-true form.kind 1 t
    by false t = let no : false ≡ true = ap (λ b. b && nat_lt ((form.size + 4095) / 4096) (length (blocks_of form))) (sym t) ∙ is in absurd cc

module _ (sectors : ℕ) (superblock : Super) (g : Geometry) (forms : List (Option InodeForm)) (place : ℕ) (inside : place < g.inodes) (before image : Image) (below : IsFittedBelow sectors superblock g forms place before image) where
  next : IsInode (geometry_of superblock) (place + 1)
  next = let same = ap (λ (h : Geometry). h.inodes) below.geometry in record { from_one = omega arith; within = omega (arith, inside, same) }

  there : slice_index_or forms place None ≡ Some (form_at (geometry_of superblock) image (place + 1))
  there =
      below.read place (omega arith) inside ∙ ap (λ h. inode_at h image (place + 1)) below.geometry
      ∙ below.kept.home.is.catalog.forms (place + 1) next

  pub form_there : (form : InodeForm) → slice_index_or forms place None ≡ Some form → form ≡ form_at (geometry_of superblock) image (place + 1)
  form_there form is = let both : ◌≡◌ {A = Option InodeForm} (Some form) (Some (form_at (geometry_of superblock) image (place + 1))) = sym is ∙ there in cc

  -- one more that needs no cut
  passed : IsFitted (form_at (geometry_of superblock) image (place + 1)) → IsFittedBelow sectors superblock g forms (place + 1) before image
  passed here = record {
    in_use = below.in_use;
    geometry = below.geometry;
    kept = below.kept;
    done = λ k at most. by k at most (cases_eq k (place + 1));
    read = λ p from less. below.read p (omega (arith, from)) less;
  }
    where
      by : (k : ℕ) → IsInode (geometry_of superblock) k → k ≤ place + 1 → (k ≡ place + 1) ⊎ (k ≢ place + 1) → IsFitted (form_at (geometry_of superblock) image k)
      by k at most (inl e) = subst (λ n. IsFitted (form_at (geometry_of superblock) image n)) (sym e) here
      by k at most (inr other) = below.done k at (omega (arith, most, other))

  pub passes_none : slice_index_or forms place None ≡ None → IsFittedBelow sectors superblock g forms (place + 1) before image
  passes_none is = let no = sym is ∙ there in absurd cc

  pub passes_fitted : (form : InodeForm) → slice_index_or forms place None ≡ Some form → has_extra form ≡ false → IsFittedBelow sectors superblock g forms (place + 1) before image
  passes_fitted form is none =
      let same = form_there form is in
      passed (subst IsFitted same (no_extra form (subst (λ (f : InodeForm). f.size ≤ 4096 * length (blocks_of f)) (sym same) (below.kept.home.is.sound.room (place + 1) next)) none))

  -- one more that is cut
  module _ (whole : IsImageOf sectors image) (form : InodeForm) (is : slice_index_or forms place None ≡ Some form) (extra : has_extra form ≡ true) (mix : Image) (is_put : HasFormPut g (place + 1) (fitted form) image mix) where
    home : IsAtHome sectors superblock image
    home = below.kept.home

    file : (form_at (geometry_of superblock) image (place + 1)).kind ≡ 1
    file = ap (λ (f : InodeForm). f.kind) (sym (form_there form is)) ∙ extra_file form extra

    has : HasFormPut (geometry_of superblock) (place + 1) (fitted (form_at (geometry_of superblock) image (place + 1))) image mix
    has = subst (λ (p : Geometry × InodeForm). HasFormPut p.0 (place + 1) (fitted p.1) image mix) (λ i. (below.geometry i, form_there form is i)) is_put

    pub cut_alike : OpensAlike sectors image mix
    cut_alike = record {
      tree = cut_tree sectors superblock image home whole (place + 1) next file mix has;
      proper = λ was. home_proper sectors superblock mix (cut_home sectors superblock image home whole (place + 1) next file mix has) below.in_use;
    }

    pub one_cut : IsFittedBelow sectors superblock g forms (place + 1) before mix
    one_cut = record {
      in_use = below.in_use;
      geometry = below.geometry;
      kept = record {
        home = cut_home sectors superblock image home whole (place + 1) next file mix has;
        walks = λ names. cut_walks sectors superblock image home whole (place + 1) next file mix has names ∙ below.kept.walks names;
        kinds = λ k at. kinds sectors superblock image home whole (place + 1) next file mix has k at ∙ below.kept.kinds k at;
        numbers = λ k at. numbers sectors superblock image home whole (place + 1) next file mix has k at ∙ below.kept.numbers k at;
      };
      done = λ k at most. by k at most (cases_eq k (place + 1));
      read = λ p from less.
          let same = ap (λ (h : Geometry). h.inodes) below.geometry in
          below.read p (omega (arith, from)) less ∙ ap (λ h. inode_at h image (p + 1)) below.geometry
          ∙ sym (inode_else sectors superblock image home whole (place + 1) next file mix has (p + 1) (record { from_one = omega arith; within = omega (arith, less, same) }) (λ e. omega (arith, e, from)))
          ∙ ap (λ h. inode_at h mix (p + 1)) (sym below.geometry);
    }
      where
        by : (k : ℕ) → IsInode (geometry_of superblock) k → k ≤ place + 1 → (k ≡ place + 1) ⊎ (k ≢ place + 1) → IsFitted (form_at (geometry_of superblock) mix k)
        by k at most (inl e) =
            let here = form_here sectors superblock image home whole (place + 1) next file mix has in
            subst (λ n. IsFitted (form_at (geometry_of superblock) mix n)) (sym e)
            (subst IsFitted (sym here) (λ kind. short_fits (form_at (geometry_of superblock) image (place + 1)) (home.is.sound.room (place + 1) next)))
        by k at most (inr other) = subst IsFitted (sym (form_else sectors superblock image home whole (place + 1) next file mix has k at other)) (below.done k at (omega (arith, most, other)))

-- Whether the inode is written or not, a crash leaves the tree.
pub cut_left : (sectors : ℕ) (superblock : Super) (g : Geometry) (forms : List (Option InodeForm)) (place : ℕ) → place < g.inodes → (before : Image) (state : State) → IsWhole sectors state → IsSettled state
    → IsFittedBelow sectors superblock g forms place before (seen state) → (form : InodeForm) → slice_index_or forms place None ≡ Some form → has_extra form ≡ true
    → (image : Image) → IsFormPut g (place + 1) (fitted form) state image → OpensAlike sectors (seen state) image
cut_left sectors superblock g forms place inside before state whole settled below form is extra image from = by from.is
  where
    was : from.before ≡ seen state
    was = settled from.before from.left

    by : (image ≡ from.before) ⊎ HasFormPut g (place + 1) (fitted form) from.before image → OpensAlike sectors (seen state) image
    by (inl e) = alike_same sectors (seen state) image (e ∙ was)
    by (inr is_put) = cut_alike sectors superblock g forms place inside before (seen state) below (sized sectors state whole) form is extra image (subst (λ (d : Image). HasFormPut g (place + 1) (fitted form) d image) was is_put)

-- ---- from the first to the last

pub none_fitted : (sectors : ℕ) (superblock : Super) (g : Geometry) (forms : List (Option InodeForm)) (image : Image) → MayFit sectors superblock image g forms → IsFittedBelow sectors superblock g forms 0 image image
none_fitted sectors superblock g forms image may = record {
  in_use = may.in_use;
  geometry = may.geometry;
  kept = record { home = may.home; walks = λ names. refl; kinds = λ k at. refl; numbers = λ k at. refl };
  done = λ k at most. let from = at.from_one in absurd (omega (arith, from, most));
  read = may.read;
}

pub all_fitted : (sectors : ℕ) (superblock : Super) (g : Geometry) (forms : List (Option InodeForm)) (place : ℕ) → place ≡ g.inodes → (before image : Image) → IsFittedBelow sectors superblock g forms place before image → HasFitted sectors superblock before image
all_fitted sectors superblock g forms place end before image below = record {
  kept = below.kept;
  fitted = λ k at. below.done k at (let most = at.within in let same = ap (λ (h : Geometry). h.inodes) below.geometry in omega (arith, most, same, end));
}

-- where no form has a block too many
pub is_fitted : (sectors : ℕ) (superblock : Super) (g : Geometry) (forms : List (Option InodeForm)) (image : Image) → MayFit sectors superblock image g forms
    → ((place : ℕ) (form : InodeForm) → place < g.inodes → slice_index_or forms place None ≡ Some form → has_extra form ≡ false) → HasFitted sectors superblock image image
is_fitted sectors superblock g forms image may none = record {
  kept = (none_fitted sectors superblock g forms image may).kept;
  fitted = λ k at.
      let same = ap (λ (h : Geometry). h.inodes) may.geometry in
      let from = at.from_one in let most = at.within in
      let less : k - 1 < g.inodes = omega (arith, from, most, same) in
      let up : k - 1 + 1 ≡ k = omega (arith, from) in
      let there : slice_index_or forms (k - 1) None ≡ Some (form_at (geometry_of superblock) image k) =
      may.read (k - 1) (omega arith) less ∙ (λ i. inode_at (may.geometry i) image (up i)) ∙ may.home.is.catalog.forms k at in
      no_extra (form_at (geometry_of superblock) image k) (may.home.is.sound.room k at) (none (k - 1) (form_at (geometry_of superblock) image k) less there);
}

-- Without orphans it is so still.
pub still_named : (sectors : ℕ) (superblock : Super) (before image : Image) → KeepsInodes sectors superblock before image → HasNoOrphans (geometry_of superblock) before → HasNoOrphans (geometry_of superblock) image
still_named sectors superblock before image kept none k at used =
    let is = none k at (λ free. used (kept.kinds k at ∙ free)) in record { names = is.names; met = kept.walks is.names ∙ is.met }

-- ---- behind the orphans

-- the forms that were read
pub reads_forms : (g : Geometry) (image : Image) (findings : CatalogRead) → IsReadOf g image findings → AreReadFrom 0 g image findings.forms
reads_forms g image findings of place from less =
    ap (λ (l : List (Option InodeForm)). get_or l place None) of.are.forms
    ∙ get_or-map-range_with_len (inode_at g of.read) 1 g.inodes place (place + 1) None less (omega arith) ∙ sym (of.forms (place + 1))

pub may_fit : (sectors : ℕ) (superblock : Super) (g : Geometry) (before mid : Image) (numbers dirs : Numbers) (findings : CatalogRead) → MayPrune sectors superblock before g numbers dirs → IsPruned sectors superblock before mid → IsReadOf g mid findings
    → MayFit sectors superblock mid g findings.forms
may_fit sectors superblock g before mid numbers dirs findings may pruned of = record {
  home = pruned.home;
  in_use = may.in_use;
  geometry = may.geometry;
  read = reads_forms g mid findings of;
}

pub is_tidy : (sectors : ℕ) (superblock : Super) (before mid after : Image) → IsPruned sectors superblock before mid → HasFitted sectors superblock mid after → IsTidy sectors superblock before after
is_tidy sectors superblock before mid after pruned fit = record {
  pruned = record {
    home = fit.kept.home;
    named = still_named sectors superblock mid after fit.kept pruned.named;
    numbers = λ k at. fit.kept.numbers k at ∙ pruned.numbers k at;
  };
  fitted = fit.fitted;
}

-- what was read of the image itself
pub read_itself : (g : Geometry) (image : Image) (findings : CatalogRead) → AreFindingsOf g image findings → IsReadOf g image findings
read_itself g image findings are = record { read = image; are = are; forms = λ k. refl; nodes = refl }

-- ---- a sector that is written

module _ (g : Geometry) (place : ℕ) (form : InodeForm) (sector : ℕ) (bytes : List ℕ) (at : sector ≡ 8 * first_of_inodes g + place) (spelled : inode_of bytes ≡ Some form) where
  here : sector_of_inode g (place + 1) ≡ sector
  here = omega (arith, at)

  pub form_put : (before after : Image) → after ≡ put sector bytes before → HasFormPut g (place + 1) form before after
  form_put before after is = record {
    there = ap inode_of (ap (λ (d : Image). d (sector_of_inode g (place + 1))) is ∙ ap (put sector bytes before) here ∙ put_same sector bytes before) ∙ spelled;
    others = λ s other. ap (λ (d : Image). d s) is ∙ put_other sector s bytes before (λ same. other (same ∙ sym here));
  }

  pub form_left : (state : State) (image : Image) → HasSectorPut sector bytes state image → IsFormPut g (place + 1) form state image
  form_left state image from = record { before = from.before; left = from.left; is = by from.is }
    where
      by : (image ≡ from.before) ⊎ (image ≡ put sector bytes from.before) → (image ≡ from.before) ⊎ HasFormPut g (place + 1) form from.before image
      by (inl e) = inl e
      by (inr e) = inr (form_put from.before image e)

pub no_form_put : (g : Geometry) (inode : ℕ) (form : InodeForm) (state : State) (image : Image) → IsImage state image → IsFormPut g inode form state image
no_form_put g inode form state image left = record { before = image; left = left; is = inl refl }

-- what was read at a place
pub some_there : (forms : List (Option InodeForm)) (place : ℕ) (o : Option InodeForm) (form : InodeForm) → place < length forms → o ≡ get_or forms place o → o ≡ Some form → slice_index_or forms place None ≡ Some form
some_there forms place o form less at is = any_default forms place None o less ∙ sym at ∙ is

pub none_there : (forms : List (Option InodeForm)) (place : ℕ) (o : Option InodeForm) → place < length forms → o ≡ get_or forms place o → ((form : InodeForm) → o ≡ Some form → ⊥) → slice_index_or forms place None ≡ None
none_there forms place o less at none = any_default forms place None o less ∙ sym at ∙ by o none
  where
    by : (o : Option InodeForm) → ((form : InodeForm) → o ≡ Some form → ⊥) → o ≡ None
    by None none = refl
    by (Some form) none = absurd (none form refl)

-- what was told of all forms
pub none_extra : (forms others : List (Option InodeForm)) (count : ℕ) → others ≡ forms → length forms ≡ count → ((place : ℕ) (form : InodeForm) → slice_get others place ≡ Some (Some form) → has_extra form ≡ false)
    → (place : ℕ) (form : InodeForm) → place < count → slice_index_or forms place None ≡ Some form → has_extra form ≡ false
none_extra forms others count same counted all place form less is =
    all place form (ap (λ (l : List (Option InodeForm)). slice_get l place) same ∙ get_there forms place None (omega (arith, less, counted)) ∙ ap (λ (o : Option InodeForm). Some o) is)
