-- The lowest inode that is blamed, damage by damage.
use Rattle.std.proofs.Common.{◌≡◌, inl, inr, ℕ, zero, suc, ◌+◌, ◌<◌, ◌≤◌, List, [], ◌∷◌, ◌++◌, Bool, true, false, Option, Some, None, length, take, get_or, map, refl, ap, sym, ◌∙◌, arith}
use Rattle.std.specs.Prelude.{if◌then◌else◌, ◌==◌, ◌&&◌, ◌||◌, min, nat_le}
use Rattle.std.specs.List.{find, list_any, filter_map, cons_option, range_with_len}
use Rattle.std.proofs.lemmas.Bool.{cases_eq, eq-eqb, ne_eqb}
use Rattle.std.proofs.lemmas.Bool.Decides.{nat_tests}
use Rattle.std.proofs.lemmas.List.{append-nil, map-append}
use Rattle.std.proofs.lemmas.Grind.{take_at_read}
use Rattle.std.proofs.lemmas.List.Elements.{filter_map-append}
use Rattle.ufs_base.specs.Choices.{some_if}
use Rattle.ufs_layout.specs.Areas.{all_inodes, is_inode_number}
use Rattle.ufs_layout.specs.declared.geometry.Geometry.{Geometry}
use Rattle.ufs_image.specs.Damage.{Damage, blamed, lowest_blamed}
use Rattle.ufs_damage.specs.declared.damage.Damage.{Damage as Told}
use Rattle.ufs_damage.specs.Meaning.{meaning}
use Rattle.ufs_damage.specs.Lowest.{lower, if_inode}
use Rattle.ufs_damage.proofs.Lists.{any_append}

find_from : (q : ℕ → Bool) (a n k : ℕ) → find q (range_with_len a n) ≡ Some k → a ≤ k
find_from q a zero k is = let no = is in cc
find_from q a (suc n) k is = by (q a) is (λ rest. find_from q (a + 1) n k rest)
  where
    by : (b : Bool) → (if b then Some a else find q (range_with_len (a + 1) n)) ≡ Some k → (find q (range_with_len (a + 1) n) ≡ Some k → a + 1 ≤ k) → a ≤ k
    by true is more = grind (arith, is)
    by false is more = let le = more is in omega (arith, le)

lower_first : (a : ℕ) (o : Option ℕ) → ((k : ℕ) → o ≡ Some k → a ≤ k) → Some a ≡ lower (Some a) o
lower_first a None ge = refl
lower_first a (Some k) ge = let le = ge k refl in let same : a ≡ min a k = omega (arith, le) in ap Some same

lower_second : (a : ℕ) (o : Option ℕ) → ((k : ℕ) → o ≡ Some k → a ≤ k) → Some a ≡ lower o (Some a)
lower_second a None ge = refl
lower_second a (Some k) ge = let le = ge k refl in let same : a ≡ min k a = omega (arith, le) in ap Some same

find_either : (p q : ℕ → Bool) (a n : ℕ) → find (λ s. p s || q s) (range_with_len a n) ≡ lower (find p (range_with_len a n)) (find q (range_with_len a n))
find_either p q a zero = refl
find_either p q a (suc n) = by (p a) (q a) (find_either p q (a + 1) n)
  where
    by : (x y : Bool) → find (λ s. p s || q s) (range_with_len (a + 1) n) ≡ lower (find p (range_with_len (a + 1) n)) (find q (range_with_len (a + 1) n))
        → (if x || y then Some a else find (λ s. p s || q s) (range_with_len (a + 1) n)) ≡ lower (if x then Some a else find p (range_with_len (a + 1) n)) (if y then Some a else find q (range_with_len (a + 1) n))
    by true true rest = lower_first a (Some a) (λ k is. grind (arith, is))
    by true false rest = lower_first a (find q (range_with_len (a + 1) n)) (λ k is. omega (arith, find_from q (a + 1) n k is))
    by false true rest = lower_second a (find p (range_with_len (a + 1) n)) (λ k is. omega (arith, find_from p (a + 1) n k is))
    by false false rest = rest

lower_none : (o : Option ℕ) → lower o None ≡ o
lower_none None = refl
lower_none (Some a) = refl

find_nothing : (a n : ℕ) → find (λ (s : ℕ). false) (range_with_len a n) ≡ None
find_nothing a zero = refl
find_nothing a (suc n) = find_nothing (a + 1) n

-- one number in a range
find_one : (x a n : ℕ) → find (λ s. x == s || false) (range_with_len a n) ≡ some_if (nat_le a x && nat_le (suc x) (a + n)) x
find_one x a zero = ap (λ b. some_if b x) none
  where
    none : false ≡ (nat_le a x && nat_le (suc x) (a + 0))
    none = grind (arith, nat_tests)
find_one x a (suc n) = elim (cases_eq x a) [
  | inl is ↦ ap (λ b. if b || false then Some a else find (λ s. x == s || false) (range_with_len (a + 1) n)) (eq-eqb x a is) ∙ ap Some (sym is) ∙ ap (λ b. some_if b x) (let e = is in here e)
  | inr ne ↦ ap (λ b. if b || false then Some a else find (λ s. x == s || false) (range_with_len (a + 1) n)) (ne_eqb x a ne) ∙ find_one x (a + 1) n ∙ ap (λ b. some_if b x) (let d = ne in there d)
]
  where
    here : x ≡ a → true ≡ (nat_le a x && nat_le (suc x) (a + suc n))
    here e = grind (arith, nat_tests, e)

    there : (x ≡ a → ⊥) → (nat_le (a + 1) x && nat_le (suc x) (a + 1 + n)) ≡ (nat_le a x && nat_le (suc x) (a + suc n))
    there d = grind (arith, nat_tests, d)

pub lowest_none : (g : Geometry) → lowest_blamed g [] ≡ None
lowest_none g = find_nothing 1 g.inodes

pub lowest_more : (g : Geometry) (xs : List Damage) (d : Damage) → lowest_blamed g (xs ++ d ∷ []) ≡ lower (lowest_blamed g xs) (if_inode g (blamed d))
lowest_more g xs d =
    ap (λ ns. find (λ s. list_any (λ b. b == s) ns) (all_inodes g)) (filter_map-append blamed xs (d ∷ []))
    ∙ by (blamed d)
  where
    ns : List ℕ
    ns = filter_map blamed xs

    in_range : (x : ℕ) → (nat_le 1 x && nat_le (suc x) (1 + g.inodes)) ≡ is_inode_number g x
    in_range x = grind (arith, nat_tests)

    by : (o : Option ℕ) → find (λ s. list_any (λ b. b == s) (ns ++ cons_option o [])) (all_inodes g) ≡ lower (lowest_blamed g xs) (if_inode g o)
    by None = ap (λ (p : ℕ → Bool). find p (all_inodes g)) (λ i s. none s i) ∙ sym (lower_none (lowest_blamed g xs))
      where
        none : (s : ℕ) → list_any (λ b. b == s) (ns ++ []) ≡ list_any (λ b. b == s) ns
        none s = ap (list_any (λ b. b == s)) (append-nil ns)
    by (Some x) =
        ap (λ (p : ℕ → Bool). find p (all_inodes g)) (λ i s. any_append (λ b. b == s) ns (x ∷ []) i)
        ∙ find_either (λ s. list_any (λ b. b == s) ns) (λ s. x == s || false) 1 g.inodes
        ∙ ap (lower (lowest_blamed g xs)) (find_one x 1 g.inodes ∙ ap (λ b. some_if b x) (in_range x))

pub next_lowest : (g : Geometry) (items : List Told) (i : ℕ) (d : Told) → i < length items
    → lowest_blamed g (map meaning (take (i + 1) items)) ≡ lower (lowest_blamed g (map meaning (take i items))) (if_inode g (blamed (meaning (get_or items i d))))
next_lowest g items i d less =
    ap (λ l. lowest_blamed g (map meaning l)) (take_at_read items i d less).1 ∙ ap (lowest_blamed g) (map-append meaning (take i items) (get_or items i d ∷ []))
    ∙ lowest_more g (map meaning (take i items)) (meaning (get_or items i d))
