-- One file of many is put in the place of another, or goes.
use Rattle.std.proofs.Common.{◌≡◌, ◌≢◌, ℕ, ◌⊎◌, inl, inr, [], Some, None, refl, sym, ap, ◌∙◌, subst}
use Rattle.std.specs.Prelude.{IsSome}
use Rattle.std.specs.Ordering.{nat_cmp}
use Rattle.std.specs.Cmp.{nat_cmp_total}
use Rattle.std.specs.FinMap as map
use Rattle.std.specs.FinMap.{nat_cmp-IsAntisymmetric}
use Rattle.ufs_extent.specs.Runs.{blocks_of}
use Rattle.ufs_file.specs.Hand.{FileState}
use Rattle.ufs_model.proofs.Facts.Lookups as lookups
use Rattle.ufs_model.proofs.Facts.Lookups.{same_some}
use Rattle.ufs_files.specs.Files.{Files, AreNumbered, blocks_at}

pub one_or_apart : (f g : ℕ) → (f ≡ g) ⊎ (f ≢ g)
one_or_apart f g = lookups.one_or_apart nat_cmp_total nat_cmp-IsAntisymmetric f g

pub put_here : (files : Files) (f : ℕ) (s : FileState) → map.get (map.insert files f s) f ≡ Some s
put_here files f s = lookups.inserted_here nat_cmp_total nat_cmp-IsAntisymmetric files f s

pub put_else : (files : Files) (f : ℕ) (s : FileState) (g : ℕ) → g ≢ f → map.get (map.insert files f s) g ≡ map.get files g
put_else files f s g not = lookups.inserted_else nat_cmp_total nat_cmp-IsAntisymmetric files f s g not

pub gone_here : (files : Files) (f : ℕ) → map.get (map.remove files f) f ≡ None
gone_here files f = lookups.removed_here nat_cmp_total nat_cmp-IsAntisymmetric files f

pub gone_else : (files : Files) (f g : ℕ) → g ≢ f → map.get (map.remove files f) g ≡ map.get files g
gone_else files f g not = lookups.removed_else nat_cmp_total nat_cmp-IsAntisymmetric files f g not

-- ---- numbers

pub numbered_none : AreNumbered map.empty
numbered_none f s there = let none = map.get-empty {X = FileState} nat_cmp f in cc

pub numbered_with : (files : Files) (f : ℕ) (s : FileState) → AreNumbered files → s.file ≡ f → AreNumbered (map.insert files f s)
numbered_with files f s h e g r there = by (one_or_apart g f)
  where
    by : (g ≡ f) ⊎ (g ≢ f) → r.file ≡ g
    by (inl is) = ap (λ (x : FileState). x.file) (same_some r s (sym there ∙ ap (map.get (map.insert files f s)) is ∙ put_here files f s)) ∙ e ∙ sym is
    by (inr not) = h g r (sym (put_else files f s g not) ∙ there)

pub numbered_without : (files : Files) (f : ℕ) → AreNumbered files → AreNumbered (map.remove files f)
numbered_without files f h g r there = h g r (lookups.left_was nat_cmp_total nat_cmp-IsAntisymmetric files f g r there).1

-- ---- the blocks of one

pub blocks_there : (files : Files) (f : ℕ) (s : FileState) → map.get files f ≡ Some s → blocks_at files f ≡ blocks_of s.extents
blocks_there files f s there = rw there refl

pub blocks_none : (files : Files) (f : ℕ) → map.get files f ≡ None → blocks_at files f ≡ []
blocks_none files f there = rw there refl

pub blocks_same : (files others : Files) (f : ℕ) → map.get others f ≡ map.get files f → blocks_at others f ≡ blocks_at files f
blocks_same files others f e = rw e refl

pub is_here : (files : Files) (f : ℕ) (s : FileState) → map.get files f ≡ Some s → IsSome (map.get files f)
is_here files f s there = subst IsSome (sym there) refl
