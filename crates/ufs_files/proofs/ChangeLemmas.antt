-- One file of many changes in its place.
use Rattle.std.proofs.Common.{◌≡◌, ◌≢◌, ℕ, Some, sym, ap, ◌∙◌, subst}
use Rattle.std.specs.Prelude.{IsSome}
use Rattle.std.specs.Ordering.{nat_cmp, is_eq}
use Rattle.std.specs.Cmp.{nat_cmp_total}
use Rattle.std.specs.BTreeMap as tree
use Rattle.std.specs.BTreeMap.{BTreeMap}
use Rattle.std.specs.Map.{set_value}
use Rattle.std.specs.FinMap as map
use Rattle.std.specs.FinMap.{nat_cmp-IsAntisymmetric}
use Rattle.ufs_calls.specs.Seen.{seen}
use Rattle.ufs_calls.proofs.Facts.Maps.{get-seen, set-seen}
use Rattle.ufs_extent.specs.Runs.{blocks_of}
use Rattle.ufs_file.specs.Hand.{FileState}
use Rattle.ufs_model.proofs.Facts.Lookups.{same_some}
use Rattle.ufs_files.specs.Files.{Files, blocks_at}
use Rattle.ufs_files.proofs.MapLemmas.{put_here, put_else, is_here, blocks_there}

-- what is borrowed from a search tree is the file's
module _ (m : BTreeMap ℕ FileState) (files : Files) (file : ℕ) (s : FileState) (view : seen nat_cmp (λ k. k) m ≡ files)
    (got : Some s ≡ tree.get_by (λ k. nat_cmp file k) m) where
  pub was : map.get files file ≡ Some s
  was =
      ap (λ (x : Files). map.get x file) (sym view)
      ∙ get-seen nat_cmp (λ k. k) nat_cmp_total nat_cmp-IsAntisymmetric m file
      ∙ sym got

  -- and what it is at the end is put in its place
  pub written : (n : BTreeMap ℕ FileState) (r : FileState) → n.entries ≡ set_value (λ k. is_eq (nat_cmp file k)) m.entries r
      → seen nat_cmp (λ k. k) n ≡ map.insert files file r
  written n r put =
      set-seen nat_cmp (λ k. k) nat_cmp_total nat_cmp-IsAntisymmetric m n file r put (subst IsSome (ap (λ (x : Files). map.get x file) (sym view)) (is_here files file s was))
      ∙ ap (λ (x : Files). map.insert x file r) view

module _ (files new : Files) (file : ℕ) (s r : FileState) (there : map.get files file ≡ Some s) (is : new ≡ map.insert files file r) where
  pub now : map.get new file ≡ Some r
  now = ap (λ (x : Files). map.get x file) is ∙ put_here files file r

  pub same_else : (f : ℕ) → f ≢ file → map.get new f ≡ map.get files f
  same_else f not = ap (λ (x : Files). map.get x f) is ∙ put_else files file r f not

  pub the_old : (t : FileState) → map.get files file ≡ Some t → s ≡ t
  the_old t e = same_some s t (sym there ∙ e)

  pub the_new : (t : FileState) → map.get new file ≡ Some t → r ≡ t
  the_new t e = same_some r t (sym now ∙ e)

  pub old_blocks : blocks_of s.extents ≡ blocks_at files file
  old_blocks = sym (blocks_there files file s there)

  pub new_blocks : blocks_of r.extents ≡ blocks_at new file
  new_blocks = sym (blocks_there new file r now)
