-- Blocks of a list that come into a pool one by one.
use Rattle.std.proofs.Common.{◌≡◌, ℕ, ◌+◌, ◌<◌, ◌≤◌, ◌||◌, List, [], ◌∷◌, ◌++◌, take, length, Bool, true, false, eqb, eq-eqb, add-one, get_or, ap, sym, refl, ◌∙◌, arith, length-take}
use Rattle.std.proofs.Math.Seq.{take-suc}
use Rattle.std.specs.Prelude.{nat_eq}
use Rattle.std.specs.Ordering.{nat_cmp}
use Rattle.std.specs.FinSet as set
use Rattle.std.specs.List.{IsDistinct}
use Rattle.std.proofs.lemmas.Bool.{false_from_ne_true, true≢false, eqb-true, ne_eqb}
use Rattle.std.proofs.lemmas.Bool.Decides.{Decides-eqb}
use Rattle.std.proofs.lemmas.List.{get_or-take}
use Rattle.std.proofs.lemmas.List.Folds.{list_any_at, list_any_none}
use Rattle.std.proofs.lemmas.Grind.{get_or_default_zero}
use Rattle.std.proofs.lemmas.Map.Made.{AllPairs-from_IsDistinct}
use Rattle.ufs_dirs.specs.Directory.{has_block}
use Rattle.ufs_bitmap.specs.Blocks.{BlockSet}
use Rattle.ufs_bitmap.proofs.SetLemmas.{same_blocks, has-union, has-insert}
use Rattle.ufs_dir_tree.proofs.SpaceLemmas.{has-push, listed-is}

-- the pool has these blocks and the first of the list
abbrev pub HasGiven : BlockSet → BlockSet → List ℕ → Type 0
HasGiven pool old blocks = (q : ℕ) → set.contains pool q ≡ (set.contains old q || has_block blocks q)

or_false : (x : Bool) → x ≡ (x || false)
or_false true = refl
or_false false = refl

pub given_none : (s : BlockSet) → HasGiven s s []
given_none s q = or_false (set.contains s q)

same_way : (a b : ℕ) → eqb a b ≡ eqb b a
same_way a b = by (eqb a b) refl
  where
    by : (v : Bool) → eqb a b ≡ v → eqb a b ≡ eqb b a
    by true e = e ∙ sym (eq-eqb b a (sym (eqb-true a b e)))
    by false e = e ∙ sym (false_from_ne_true (eqb b a) (λ f. true≢false (sym (eq-eqb a b (sym (eqb-true b a f))) ∙ e)))

moved : (a o h : Bool) → (a || (o || h)) ≡ (o || (h || a))
moved true true h = refl
moved true false true = refl
moved true false false = refl
moved false true h = refl
moved false false true = refl
moved false false false = refl

pub taken_next : (blocks : List ℕ) (i : ℕ) → i < length blocks → take (i + 1) blocks ≡ take i blocks ++ get_or blocks i 0 ∷ []
taken_next blocks i inside = ap (λ k. take k blocks) (add-one i) ∙ take-suc blocks i 0 inside

pub given_next : (pool old new : BlockSet) (blocks : List ℕ) (i : ℕ) → i < length blocks → HasGiven pool old (take i blocks) → new ≡ set.insert pool (get_or blocks i 0) → HasGiven new old (take (i + 1) blocks)
given_next pool old new blocks i inside before inserted q =
    let b : ℕ = get_or blocks i 0 in
    ap (λ (s : BlockSet). set.contains s q) inserted ∙ has-insert pool b q
    ∙ ap (λ (v : Bool). eqb q b || v) (before q)
    ∙ moved (eqb q b) (set.contains old q) (has_block (take i blocks) q)
    ∙ ap (λ (v : Bool). set.contains old q || (has_block (take i blocks) q || v)) (same_way q b)
    ∙ ap (λ (v : Bool). set.contains old q || v) (sym (has-push (take i blocks) b q))
    ∙ ap (λ (l : List ℕ). set.contains old q || has_block l q) (sym (taken_next blocks i inside))

pub given_all : (pool old : BlockSet) (blocks : List ℕ) → HasGiven pool old blocks → pool ≡ set.union old (set.from_list {R = nat_cmp} blocks)
given_all pool old blocks given = same_blocks pool (set.union old (set.from_list {R = nat_cmp} blocks)) (λ q.
    given q ∙ ap (λ (v : Bool). set.contains old q || v) (sym (listed-is blocks q)) ∙ sym (has-union old (set.from_list {R = nat_cmp} blocks) q))

-- ---- a block of the list that didn't come yet

pub listed : (blocks : List ℕ) (i : ℕ) → i < length blocks → has_block blocks (get_or blocks i 0) ≡ true
listed blocks i inside = list_any_at (λ b. eqb b (get_or blocks i 0)) blocks i 0 inside (eq-eqb (get_or blocks i 0) (get_or blocks i 0) refl)

pub not_given : (pool old : BlockSet) (blocks : List ℕ) (i : ℕ) → i < length blocks → IsDistinct nat_eq blocks → HasGiven pool old (take i blocks) → set.contains old (get_or blocks i 0) ≡ false → set.contains pool (get_or blocks i 0) ≡ false
not_given pool old blocks i inside distinct given absent =
    given (get_or blocks i 0) ∙ ap (λ (v : Bool). v || has_block (take i blocks) (get_or blocks i 0)) absent
    ∙ list_any_none (λ b. eqb b (get_or blocks i 0)) (take i blocks) (λ k d within. ne_eqb (get_or (take i blocks) k d) (get_or blocks i 0) (λ same.
    let below : k < i = omega (arith, length-take_le i blocks, within) in
    AllPairs-from_IsDistinct Decides-eqb blocks distinct k i 0 below inside (sym (get_or-take i blocks k 0 below) ∙ sym (get_or_default_zero (take i blocks) k d within) ∙ same)))
  where
    length-take_le : (n : ℕ) (l : List ℕ) → length (take n l) ≤ n
    length-take_le n l = omega (arith, length-take n l)
