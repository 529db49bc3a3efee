-- An inode's new form is committed.
use Rattle.std.proofs.Common.{◌≡◌, ℕ, List, Bool, true, false, Option, Some, None, length, ap, sym, refl, ◌∙◌, subst, arith}
use Rattle.std.specs.Prelude.{◌==◌, ◌||◌, ◌&&◌, nat_lt, if◌then◌else◌, IsTrue}
use Rattle.std.specs.List.{slice_get}
use Rattle.std.proofs.lemmas.Bool.Decides.{nat_tests}
use Rattle.ufs_disk.specs.Disk.{seen}
use Rattle.ufs_disk.proofs.Images.{seen_is_image}
use Rattle.ufs_layout.specs.Areas.{is_inode_number}
use Rattle.ufs_layout.specs.InodeForm.{InodeForm}
use Rattle.ufs_image.specs.Fold.{after_delta}
use Rattle.ufs_image.specs.Nodes.{blocks_of}
use Rattle.ufs_layout.specs.declared.geometry.Geometry.{Geometry}
use Rattle.ufs_layout.specs.declared.inode.Extent.{Extent}
use Rattle.ufs_layout.specs.declared.records.Committed.{Committed}
use Rattle.ufs_image.specs.Catalog.{Catalog, HasDirBlocks}
use Rattle.ufs_image.specs.Sound.{IsSoundCatalog}
use Rattle.ufs_image.specs.Walks.{inode_of}
use Rattle.ufs_image.specs.Folding.{file_commit, is_newer_in, with_committed_in, with_form}
use Rattle.ufs_image.proofs.Changed.{file_sound, file_walks}
use Rattle.ufs_ledger.specs.Ledger.{CoversDirs, Stand}
use Rattle.ufs_ledger.specs.Changes.{MayCommit}
use Rattle.ufs_ledger.specs.Kept.{shape_of}
use Rattle.ufs_ledger.specs.Laws.{FormsMayCommit, LedgersAreSound, MayCommitForm}
use Rattle.ufs_ledger.proofs.States.{on_one}

module _ (g : Geometry) (s : Stand) (inode number size keep : ℕ) (extents : List Extent) (sound : IsSoundCatalog g s.catalog) (covers : CoversDirs g s) (go : MayCommitForm g s inode number size keep extents) where
  abbrev pub c : Catalog
  c = s.catalog

  abbrev pub form : InodeForm
  form = after_delta (s.catalog.forms inode) number 1 size keep extents

  abbrev pub one : Committed
  one = file_commit number inode size keep extents

  abbrev pub next : Catalog
  next = with_form inode (after_delta (s.catalog.forms inode) number 1 size keep extents) s.catalog

  ranged : is_inode_number g inode ≡ true
  ranged = let from = go.may.in_range.from_one in let most = go.may.in_range.within in grind (arith, nat_tests, from, most)

  later : is_newer_in number c inode ≡ true
  later = let newer = go.newer in grind (arith, nat_tests, newer)

  pub catalog_is : with_committed_in g one c ≡ next
  catalog_is = λ i. if ranged i then (if later i then next else c) else c

  pub here : (k : ℕ) → (k == inode) ≡ true → k ≡ inode
  here k e = grind (arith, nat_tests, e)

  pub form_here : (k : ℕ) → (k == inode) ≡ true → next.forms k ≡ form
  form_here k e = ap (λ b. if b then form else c.forms k) e

  pub form_else : (k : ℕ) → (k == inode) ≡ false → next.forms k ≡ c.forms k
  form_else k e = ap (λ b. if b then form else c.forms k) e

  pub same_kind : (k : ℕ) → (next.forms k).kind ≡ (c.forms k).kind
  same_kind k = by (k == inode) refl
    where
      by : (b : Bool) → (k == inode) ≡ b → (next.forms k).kind ≡ (c.forms k).kind
      by true e = ap (λ (f : InodeForm). f.kind) (form_here k e) ∙ sym (ap (λ i. (c.forms i).kind) (here k e) ∙ go.may.was_file)
      by false e = ap (λ (f : InodeForm). f.kind) (form_else k e)

  covers_next : HasDirBlocks g next s.dirs
  covers_next block of_dir = by (of_dir.inode == inode) refl
    where
      was : (c.forms of_dir.inode).kind ≡ 2
      was = sym (same_kind of_dir.inode) ∙ of_dir.dir

      by : (b : Bool) → (of_dir.inode == inode) ≡ b → IsTrue (s.dirs block)
      by true e = let file' : 1 ≡ 2 = sym go.may.was_file ∙ ap (λ k. (c.forms k).kind) (sym (here of_dir.inode e)) ∙ was in absurd (omega (arith, file'))
      by false e = covers block (record { inode = of_dir.inode; place = of_dir.place; has = record { in_range = of_dir.has.in_range; there = sym (ap (λ f. slice_get (blocks_of f) of_dir.place) (form_else of_dir.inode e)) ∙ of_dir.has.there }; dir = was })

  pub may_commit : MayCommit g one s
  may_commit = record {
    fits = go.fits;
    keeps = let few : nat_lt (length (c.forms inode).extents) keep ≡ false = (let keeps = go.keeps in grind (arith, nat_tests, keeps)) in λ i. (ranged i && (later i && few i)) || false;
    covers = subst (λ (d : Catalog). HasDirBlocks g d s.dirs) (sym catalog_is) covers_next;
    sound = subst (IsSoundCatalog g) (sym catalog_is) (file_sound g c inode form sound go.may);
  }

  -- ---- what the catalog says then

  pub walks : (ns : List (List ℕ)) → inode_of next ns ≡ inode_of c ns
  walks ns = file_walks g c inode form sound go.may ns

  pub shape_else : (o : Option ℕ) → (o ≡ Some inode → ⊥) → shape_of next o ≡ shape_of c o
  shape_else None apart = refl
  shape_else (Some k) apart =
      let off : (k == inode) ≡ false = by (k == inode) refl in
      ap (λ (f : InodeForm). record { size = f.size; holds = blocks_of f }) (form_else k off)
    where
      by : (b : Bool) → (k == inode) ≡ b → (k == inode) ≡ false
      by false e = e
      by true e = absurd (apart (ap Some (here k e)))

  pub shape_here : shape_of next (Some inode) ≡ record { size = size; holds = blocks_of form }
  shape_here =
      let self : (inode == inode) ≡ true = grind (arith, nat_tests) in
      ap (λ (f : InodeForm). record { size = f.size; holds = blocks_of f }) (form_here inode self)

pub forms_may_commit : FormsMayCommit
forms_may_commit g s inode number size keep extents sound covers go = may_commit g s inode number size keep extents sound covers go

-- ---- what a ledger says

pub ledgers_are_sound : LedgersAreSound
ledgers_are_sound sectors state l none is =
    let left = on_one sectors l (seen state) none (is.images (seen state) (seen_is_image state)) in
    (left.sound, left.covers)
