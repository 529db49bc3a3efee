-- Blocks that are lent to the names, and come back.
use Rattle.std.proofs.Common.{◌≡◌, ℕ, ◌⊎◌, inl, inr, Bool, true, false, ◌||◌, ◌&&◌, not, eq-eqb, [], ◌∷◌, Option, Some, None, ap, sym, refl, ◌∙◌}
use Rattle.std.specs.Prelude.{IfNone}
use Rattle.std.specs.FinSet as set
use Rattle.std.specs.Ordering.{nat_cmp}
use Rattle.ufs_bitmap.specs.Blocks.{BlockSet}
use Rattle.ufs_bitmap.proofs.SetLemmas.{has-difference, has-empty, has-insert, has-union, same_blocks}
use Rattle.ufs_pouring.specs.Lent.{listed}

true_false : true ≡ false → ⊥
true_false e = cc

-- Where a block was to be lent and none was, the pool has none.
pub spent : (block : Option ℕ) (lends : Bool) (pool lent : BlockSet) → IfNone block ((lends ≡ false) ⊎ (pool ≡ set.empty)) → lent ≡ set.from_list {R = nat_cmp} (listed block) → lends ≡ true → lent ≡ set.empty → pool ≡ set.empty
spent None lends pool lent none is asked bare = by none
  where
    by : (lends ≡ false) ⊎ (pool ≡ set.empty) → pool ≡ set.empty
    by (inl not_asked) = absurd (true_false (sym asked ∙ not_asked))
    by (inr e) = e
spent (Some block) lends pool lent none is asked bare =
    absurd (true_false (sym (ap (λ (b : Bool). b || set.contains (set.empty {R = nat_cmp}) block) (eq-eqb block block refl)) ∙ sym (has-insert (set.empty {R = nat_cmp}) block block) ∙ ap (λ (s : BlockSet). set.contains s block) (sym is ∙ bare) ∙ has-empty block))

-- blocks that were lent and come back
pub given_back : (pool lent : BlockSet) → ((b : ℕ) → set.contains lent b ≡ true → set.contains pool b ≡ true) → set.union (set.difference pool lent) lent ≡ pool
given_back pool lent within =
    same_blocks (set.union (set.difference pool lent) lent) pool (λ b. has-union (set.difference pool lent) lent b ∙ ap (λ (v : Bool). v || set.contains lent b) (has-difference pool lent b) ∙ by (set.contains pool b) (set.contains lent b) (within b))
  where
    by : (p l : Bool) → (l ≡ true → p ≡ true) → ((p && not l) || l) ≡ p
    by true true in_pool = refl
    by true false in_pool = refl
    by false false in_pool = refl
    by false true in_pool = sym (in_pool refl)
