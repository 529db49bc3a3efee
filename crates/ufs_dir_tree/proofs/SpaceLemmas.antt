-- The lowest of a set, and the blocks of a list.
use Rattle.std.proofs.Common.{◌≡◌, ◌≢◌, ℕ, ◌+◌, ◌≤◌, ◌⊎◌, inl, inr, ◌||◌, ◌&&◌, List, [], ◌∷◌, ◌++◌, map, length, Bool, true, false, not, Some, eqb, eq-eqb, ap, sym, refl, ◌∙◌, arith}
use Rattle.std.specs.FinSet as set
use Rattle.std.specs.Ordering.{nat_cmp}
use Rattle.std.specs.FinSet.{contains-from_list_nat, len-empty}
use Rattle.std.proofs.lemmas.Bool.{false_from_ne_true, eqb-true}
use Rattle.ufs_dirs.specs.Directory.{has_block}
use Rattle.ufs_extent.specs.declared.Run.{Run}
use Rattle.ufs_extent.specs.Runs.{IsRun, blocks_from, next_block, appended, appended_all}
use Rattle.ufs_bitmap.specs.Blocks.{BlockSet, HoldsNone, IsLowestRun, run_set}
use Rattle.ufs_bitmap.proofs.SetLemmas.{same_blocks, has-insert, has-remove, union_more, union_none, difference_more, difference_none, empty_from_none, len_some}
use Rattle.ufs_extent.proofs.RunLemmas.{follows_or_not, length-appended_joins, length-appended_adds}
use Rattle.ufs_dir_tree.specs.Space.{TakesLowest, one_block, extents_of}

-- ---- one of a set

one_long : (r : Run) → IsRun r → r.length ≤ 1 → r.length ≡ 1
one_long r is few = omega arith

pub lowest_run : (s new : BlockSet) (r : Run) → IsRun r → IsLowestRun s 1 r → new ≡ set.difference s (run_set r) → TakesLowest s new r.start
lowest_run s new r is low left = record {
  lowest = record { held = low.held r.start (omega arith) (omega (arith, is.0)); lowest = low.lowest };
  left =
      left
      ∙ ap (λ n. set.difference s (set.from_list (blocks_from r.start n))) (one_long r is low.at_most)
      ∙ difference_more s r.start 0
      ∙ (λ i. set.remove (sym (difference_none s r.start) i) (zero_more r.start i));
}
  where
    zero_more : (a : ℕ) → a + 0 ≡ a
    zero_more a = omega arith

pub one_more : (s : BlockSet) (n : ℕ) → set.union s (run_set (one_block n)) ≡ set.insert s n
one_more s n = union_more s n 0 ∙ (λ i. set.insert (sym (union_none s n) i) (zero_more n i))
  where
    zero_more : (a : ℕ) → a + 0 ≡ a
    zero_more a = omega arith

pub holds_none : (s : BlockSet) (n : ℕ) → set.contains s n ≡ false → HoldsNone s (one_block n)
holds_none s n absent b from below = let same : n ≡ b = omega arith in ap (set.contains s) (sym same) ∙ absent

-- what was taken and is given back
pub back_again : (s left new : BlockSet) (n : ℕ) → TakesLowest s left n → new ≡ set.insert left n → new ≡ s
back_again s left new n takes given = same_blocks new s (λ q. ap (λ (x : BlockSet). set.contains x q) (given ∙ ap (λ (x : BlockSet). set.insert x n) takes.left) ∙ has-insert (set.remove s n) n q ∙ by q (eqb q n) refl)
  where
    by : (q : ℕ) (b : Bool) → eqb q n ≡ b → (eqb q n || set.contains (set.remove s n) q) ≡ set.contains s q
    by q true e = ap (λ (x : Bool). x || set.contains (set.remove s n) q) e ∙ sym takes.lowest.held ∙ ap (set.contains s) (sym (eqb-true q n e))
    by q false e = ap (λ (x : Bool). x || set.contains (set.remove s n) q) e ∙ has-remove s n q ∙ ap (λ (x : Bool). not x && set.contains s q) e

pub taken_absent : (s left : BlockSet) (n : ℕ) → TakesLowest s left n → set.contains left n ≡ false
taken_absent s left n takes = ap (λ (x : BlockSet). set.contains x n) takes.left ∙ has-remove s n n ∙ ap (λ (x : Bool). not x && set.contains s n) (eq-eqb n n refl)

-- ---- the blocks of a list

pub listed-is : (blocks : List ℕ) (b : ℕ) → set.contains (set.from_list {R = nat_cmp} blocks) b ≡ has_block blocks b
listed-is blocks b = contains-from_list_nat blocks b

pub has-nil : (b : ℕ) → has_block [] b ≡ false
has-nil b = refl

pub has-push : (blocks : List ℕ) (x b : ℕ) → has_block (blocks ++ x ∷ []) b ≡ (has_block blocks b || eqb x b)
has-push [] x b = by (eqb x b)
  where
    by : (v : Bool) → (v || false) ≡ v
    by true = refl
    by false = refl
has-push (y ∷ ys) x b = by (eqb y b) (has-push ys x b)
  where
    by : (v : Bool) → has_block (ys ++ x ∷ []) b ≡ (has_block ys b || eqb x b) → (v || has_block (ys ++ x ∷ []) b) ≡ ((v || has_block ys b) || eqb x b)
    by true e = refl
    by false e = e

-- ---- extents

extended : (rs : List Run) (xs : List ℕ) (b : ℕ) → appended_all rs (map one_block (xs ++ b ∷ [])) ≡ appended (appended_all rs (map one_block xs)) (one_block b)
extended rs [] b = refl
extended rs (x ∷ xs) b = extended (appended rs (one_block x)) xs b

pub extents-push : (blocks : List ℕ) (b : ℕ) → extents_of (blocks ++ b ∷ []) ≡ appended (extents_of blocks) (one_block b)
extents-push blocks b = extended [] blocks b

extents_next : (rs : List Run) (r : Run) → length (appended rs r) ≤ length rs + 1
extents_next rs r = by (follows_or_not rs r)
  where
    by : (next_block rs ≡ Some r.start) ⊎ (next_block rs ≢ Some r.start) → length (appended rs r) ≤ length rs + 1
    by (inl e) = omega (arith, length-appended_joins rs r e)
    by (inr e) = omega (arith, length-appended_adds rs r e)

-- one block more is one extent more at most
pub few_extents : (blocks : List ℕ) (b : ℕ) → length (extents_of blocks) ≤ 56 → length (extents_of (blocks ++ b ∷ [])) ≤ 57
few_extents blocks b few = let pushed = ap (λ (l : List Run). length l) (extents-push blocks b) in omega (arith, pushed, extents_next (extents_of blocks) (one_block b))

-- ---- none

pub empty_of_none : (s : BlockSet) → set.len s ≡ 0 → s ≡ set.empty
empty_of_none s none = empty_from_none s (λ q. false_from_ne_true (set.contains s q) (λ held. omega (arith, len_some s q held, none)))

pub some_of_len : (s : BlockSet) → set.len s ≢ 0 → s ≢ set.empty
some_of_len s some e = some (ap (λ (x : BlockSet). set.len x) e ∙ len-empty nat_cmp)
