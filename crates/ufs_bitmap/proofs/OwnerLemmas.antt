-- Several owners of blocks beside one pool.
use Rattle.std.proofs.Common.{◌≡◌, ℕ, Bool, true, false, ◌||◌, List, ◌++◌, refl, sym, ap, ◌∙◌}
use Rattle.std.specs.List.{IsDistinct}
use Rattle.std.specs.Prelude.{nat_eq}
use Rattle.std.specs.FinSet as set
use Rattle.std.proofs.lemmas.Bool.{true≢false}
use Rattle.ufs_bitmap.specs.Blocks.{BlockSet}
use Rattle.ufs_bitmap.specs.Taking.{IsApart, has}
use Rattle.ufs_bitmap.specs.Owners.{OwnersAreApart, OwnersStayApart}
use Rattle.ufs_bitmap.proofs.SetLemmas.{has-union}
use Rattle.ufs_bitmap.proofs.TakingLemmas.{has-append, distinct-append, distinct_front, distinct_back, distinct_apart}

neither : (a b : Bool) → (a || b) ≡ false → (a ≡ false) × (b ≡ false)
neither true b h = cc
neither false b h = (refl, h)

or_right : (a : Bool) → (a || true) ≡ true
or_right true = refl
or_right false = refl

in_front : (xs ys : List ℕ) (b : ℕ) → has xs b ≡ true → has (xs ++ ys) b ≡ true
in_front xs ys b e = has-append xs ys b ∙ ap (λ (x : Bool). x || has ys b) e

in_back : (xs ys : List ℕ) (b : ℕ) → has ys b ≡ true → has (xs ++ ys) b ≡ true
in_back xs ys b e = has-append xs ys b ∙ ap (λ (x : Bool). has xs b || x) e ∙ or_right (has xs b)

pub owners_are_apart : OwnersAreApart
owners_are_apart pool front own back h = record {
  absent = λ b e. h.absent b (in_front (front ++ own) back b (in_back front own b e));
  once = distinct_back front own (distinct_front (front ++ own) back h.once);
}

module _ (before after : BlockSet) (front old new back : List ℕ) (h : IsApart before ((front ++ old) ++ back)) (n : IsApart after new)
    (together : set.union after (set.from_list new) ≡ set.union before (set.from_list old)) where
  own : IsDistinct nat_eq (front ++ old)
  own = distinct_front (front ++ old) back h.once

  -- a block that neither the pool nor the owner had, neither has now
  out : (b : ℕ) → set.contains before b ≡ false → has old b ≡ false → (set.contains after b ≡ false) × (has new b ≡ false)
  out b e k = neither (set.contains after b) (has new b)
      (sym (has-union after (set.from_list new) b) ∙ ap (λ (s : BlockSet). set.contains s b) together ∙ has-union before (set.from_list old) b ∙ (λ i. e i || k i))

  not_old : (b : ℕ) → (has old b ≡ true → ⊥) → has old b ≡ false
  not_old b not = by (has old b) refl
    where
      by : (x : Bool) → has old b ≡ x → has old b ≡ false
      by true e = absurd (not e)
      by false e = e

  out_front : (b : ℕ) → has front b ≡ true → (set.contains after b ≡ false) × (has new b ≡ false)
  out_front b e = out b (h.absent b (in_front (front ++ old) back b (in_front front old b e))) (distinct_apart front old own b e)

  out_back : (b : ℕ) → has back b ≡ true → (set.contains after b ≡ false) × (has new b ≡ false)
  out_back b e =
      out b (h.absent b (in_back (front ++ old) back b e))
      (not_old b (λ there. true≢false (sym e ∙ distinct_apart (front ++ old) back h.once b (in_back front old b there))))

  not_back : (b : ℕ) → has (front ++ new) b ≡ true → has back b ≡ false
  not_back b e = by (has front b) refl (has back b) refl (sym (has-append front new b) ∙ e)
    where
      by : (x : Bool) → has front b ≡ x → (y : Bool) → has back b ≡ y → (has front b || has new b) ≡ true → has back b ≡ false
      by true is y there e = distinct_apart (front ++ old) back h.once b (in_front front old b is)
      by false is true there e = absurd (true≢false (sym e ∙ (ap (λ (x : Bool). x || has new b) is ∙ (out_back b there).1)))
      by false is false there e = there

  absent_now : (b : ℕ) → has ((front ++ new) ++ back) b ≡ true → set.contains after b ≡ false
  absent_now b e = by (has front b) refl (has new b) refl (sym (has-append (front ++ new) back b ∙ ap (λ (x : Bool). x || has back b) (has-append front new b)) ∙ e)
    where
      by : (x : Bool) → has front b ≡ x → (y : Bool) → has new b ≡ y → ((has front b || has new b) || has back b) ≡ true → set.contains after b ≡ false
      by true is y there e = (out_front b is).0
      by false is true there e = n.absent b there
      by false is false there e = (out_back b (sym (λ i. (is i || there i) || has back b) ∙ e)).0

  pub stay_apart : IsApart after ((front ++ new) ++ back)
  stay_apart = record {
    absent = absent_now;
    once = distinct-append (front ++ new) back (distinct-append front new (distinct_front front old own) n.once (λ q e. (out_front q e).1)) (distinct_back (front ++ old) back h.once) not_back;
  }

pub owners_stay_apart : OwnersStayApart
owners_stay_apart before after front old new back h n together = stay_apart before after front old new back h n together
