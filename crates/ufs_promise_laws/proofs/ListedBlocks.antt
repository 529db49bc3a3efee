-- Which blocks a list has, and which a file has.
use Rattle.std.proofs.Common.{◌≡◌, ℕ, ◌⊎◌, inl, inr, List, [], ◌∷◌, ◌++◌, Bool, true, false, ◌||◌, eqb, Some, None, ap, sym, refl, ◌∙◌}
use Rattle.std.specs.FinMap as map
use Rattle.std.specs.FinSet as set
use Rattle.std.proofs.lemmas.Bool.{eqb-true, eq-eqb}
use Rattle.ufs_bitmap.specs.Taking.{has}
use Rattle.ufs_bitmap.proofs.SetLemmas.{has-insert}
use Rattle.ufs_bitmap.proofs.TakingLemmas.{has-append, has-none}
use Rattle.ufs_dirs.specs.Directory.{has_block}
use Rattle.ufs_file_commits.specs.State.{DurableState, blocks_held}
use Rattle.ufs_extent.specs.Runs.{blocks_of}
use Rattle.ufs_file.specs.Hand.{FileState}
use Rattle.ufs_files.specs.Files.{Files, blocks_at}
use Rattle.ufs_files.proofs.MapLemmas.{blocks_none, blocks_there}
use Rattle.ufs_model.proofs.Facts.Lookups.{there_or_not}

pub or_case : (a b : Bool) → (a || b) ≡ true → (a ≡ true) ⊎ (b ≡ true)
or_case true b e = inl refl
or_case false b e = inr e

pub or_left : (a b : Bool) → a ≡ true → (a || b) ≡ true
or_left a b e = ap (λ (c : Bool). c || b) e

pub or_right : (a b : Bool) → b ≡ true → (a || b) ≡ true
or_right true b e = refl
or_right false b e = e

pub on_or_off : (b : Bool) → (b ≡ true) ⊎ (b ≡ false)
on_or_off true = inl refl
on_or_off false = inr refl

pub clash : (b : Bool) → b ≡ true → b ≡ false → ⊥
clash b is off = let no = sym is ∙ off in cc

-- ---- lists of blocks

flipped : (a b : ℕ) → eqb a b ≡ eqb b a
flipped a b = by (eqb a b) (eqb b a) refl refl
  where
    by : (x y : Bool) → eqb a b ≡ x → eqb b a ≡ y → x ≡ y
    by true true e f = refl
    by false false e f = refl
    by true false e f = absurd (clash (eqb b a) (eq-eqb b a (sym (eqb-true a b e))) f)
    by false true e f = absurd (clash (eqb a b) (eq-eqb a b (sym (eqb-true b a f))) e)

-- a directory's blocks, by either word
pub has_same : (blocks : List ℕ) (b : ℕ) → has_block blocks b ≡ has blocks b
has_same [] b = sym (has-none b)
has_same (x ∷ xs) b = (λ i. flipped x b i || has_same xs b i) ∙ sym (has-insert (set.from_list xs) x b)

-- ---- a file's

module _ (d : DurableState) (b : ℕ) where
  -- one of its own, or one that it dropped
  pub held_case : has (blocks_held d) b ≡ true → (has (blocks_of d.file.extents) b ≡ true) ⊎ (has (blocks_of d.dropped) b ≡ true)
  held_case e = or_case _ _ (sym (has-append (blocks_of d.file.extents) (blocks_of d.dropped) b) ∙ e)

  pub held_own : has (blocks_of d.file.extents) b ≡ true → has (blocks_held d) b ≡ true
  held_own e = has-append (blocks_of d.file.extents) (blocks_of d.dropped) b ∙ or_left _ _ e

  pub held_dropped : has (blocks_of d.dropped) b ≡ true → has (blocks_held d) b ≡ true
  held_dropped e = has-append (blocks_of d.file.extents) (blocks_of d.dropped) b ∙ or_right _ _ e

module _ (files : Files) (f b : ℕ) where
  pub at_there : (s : FileState) → map.get files f ≡ Some s → has (blocks_of s.extents) b ≡ true → has (blocks_at files f) b ≡ true
  at_there s there e = ap (λ (blocks : List ℕ). has blocks b) (blocks_there files f s there) ∙ e

  -- a file that has a block is here
  pub at_from : has (blocks_at files f) b ≡ true → (s : FileState) × (map.get files f ≡ Some s) × (has (blocks_of s.extents) b ≡ true)
  at_from e = by (there_or_not (map.get files f))
    where
      by : ((s : FileState) × (map.get files f ≡ Some s)) ⊎ (map.get files f ≡ None) → (s : FileState) × (map.get files f ≡ Some s) × (has (blocks_of s.extents) b ≡ true)
      by (inl at) = (at.0, at.1, ap (λ (blocks : List ℕ). has blocks b) (sym (blocks_there files f at.0 at.1)) ∙ e)
      by (inr none) = absurd (clash (has [] b) (ap (λ (blocks : List ℕ). has blocks b) (sym (blocks_none files f none)) ∙ e) (has-none b))
