-- Free slots of a directory.
use Rattle.std.proofs.Common.{◌≡◌, ℕ, suc, ◌*◌, ◌%◌, ◌<◌, ◌≤◌, ◌&&◌, List, [], ◌∷◌, ◌++◌, replicate, sym, Bool, true, false, cond, length, set, ap, refl, ◌∙◌, arith, length-set}
use Rattle.std.specs.List.{list_all, count_by}
use Rattle.std.proofs.lemmas.Bool.{false_from_ne_true, and_parts, true≢false}
use Rattle.std.proofs.lemmas.List.{get_or-set_same}
use Rattle.std.proofs.lemmas.List.Folds.{list_all_at}
use Rattle.std.proofs.lemmas.List.Sums.{sum_by-cons}
use Rattle.ufs_layout.specs.DentryForm.{free_slot, is_named}
use Rattle.ufs_dirs.specs.Directory.{Directory}
use Rattle.ufs_dirs.specs.Names.{AreNamesIn}
use Rattle.ufs_dirs.specs.Changes.{IsSlot, place_of, with_entry}
use Rattle.ufs_dirs.specs.declared.Slot.{Slot}
use Rattle.ufs_dir_tree.specs.DirCalls.{HasRoom, IsFull, IsListed}

abbrev one_if : Bool → ℕ
one_if b = cond b 1 0

all_count : {X : Type 0} (p : X → Bool) (xs : List X) → list_all p xs ≡ true → count_by p xs ≡ length xs
all_count p [] h = refl
all_count p (x ∷ xs) h =
    let parts = and_parts (p x) (list_all p xs) h in
    let one : one_if (p x) ≡ 1 = ap one_if parts.0 in
    omega (arith, sum_by-cons (λ y. one_if (p y)) x xs, one, all_count p xs parts.1)

-- no more elements than there are pass
few : {X : Type 0} (p : X → Bool) (xs : List X) → count_by p xs ≤ length xs
few p [] = omega arith
few p (x ∷ xs) = omega (arith, sum_by-cons (λ y. one_if (p y)) x xs, at_most (p x), few p xs)
  where
    at_most : (b : Bool) → one_if b ≤ 1
    at_most true = omega arith
    at_most false = omega arith

-- fewer names than slots
pub room_left : (d : Directory) → count_by is_named d.slots < length d.slots → HasRoom d
room_left d few = false_from_ne_true (list_all is_named d.slots) (λ all. omega (arith, all_count is_named d.slots all, few))

-- and the other way round
few_named : {X : Type 0} (p : X → Bool) (xs : List X) → list_all p xs ≡ false → count_by p xs < length xs
few_named p [] h = cc
few_named p (x ∷ xs) h = by (p x) refl h (few_named p xs)
  where
    by : (b : Bool) → p x ≡ b → (b && list_all p xs) ≡ false → (list_all p xs ≡ false → count_by p xs < length xs) → count_by p (x ∷ xs) < suc (length xs)
    by true e rest more =
        let one : one_if (p x) ≡ 1 = ap one_if e in
        omega (arith, sum_by-cons (λ y. one_if (p y)) x xs, one, more rest)
    by false e rest more =
        let none : one_if (p x) ≡ 0 = ap one_if e in
        omega (arith, sum_by-cons (λ y. one_if (p y)) x xs, none, few p xs)

pub some_left : (d : Directory) → HasRoom d → count_by is_named d.slots < length d.slots
some_left d room = few_named is_named d.slots room

pub room_cleared : (d new : Directory) (s : Slot) → IsSlot d s → new ≡ with_entry d s free_slot → HasRoom new
room_cleared d new s is e =
    let place = place_of d.blocks s in
    ap (λ (x : Directory). list_all is_named x.slots) e
    ∙ list_all_at is_named (set d.slots place free_slot) place free_slot (omega (arith, length-set d.slots place free_slot, is.in_blocks)) (ap is_named (get_or-set_same d.slots place free_slot free_slot is.in_blocks))

-- as many names as slots
pub all_used : (d : Directory) → length d.slots ≤ count_by is_named d.slots → IsFull d
all_used d all = by (list_all is_named d.slots) refl
  where
    by : (b : Bool) → list_all is_named d.slots ≡ b → list_all is_named d.slots ≡ true
    by true e = e
    by false e = absurd (omega (arith, some_left d e))

all_behind : {X : Type 0} (p : X → Bool) (xs ys : List X) → list_all p ys ≡ false → list_all p (xs ++ ys) ≡ false
all_behind p [] ys h = h
all_behind p (x ∷ xs) ys h = by (p x) (all_behind p xs ys h)
  where
    by : (b : Bool) → list_all p (xs ++ ys) ≡ false → (b && list_all p (xs ++ ys)) ≡ false
    by true e = e
    by false e = refl

-- a block behind the others has free slots
pub room_added : (d new : Directory) → new.slots ≡ d.slots ++ replicate 64 free_slot → HasRoom new
room_added d new e = ap (list_all is_named) e ∙ all_behind is_named d.slots (replicate 64 free_slot) refl

pub full_or_room : (d : Directory) → IsFull d → HasRoom d → ⊥
full_or_room d full room = true≢false (sym full ∙ room)

-- what the count of a directory's names tells
pub is_listed : (d : Directory) (n : ℕ) → n ≡ count_by is_named d.slots → length d.slots ≡ 64 * length d.blocks → ((names : List (List ℕ)) → AreNamesIn d.slots names → n ≡ length names) → (names : List (List ℕ)) × AreNamesIn d.slots names → IsListed d
is_listed d n counted sized each some = record {
  names = some.0;
  listed = some.1;
  whole = λ full. blocks_of (length some.0) (length d.blocks) (omega (arith, each some.0 some.1, counted, all_count is_named d.slots full, sized));
}
  where
    blocks_of : (k m : ℕ) → k ≡ 64 * m → k % 64 ≡ 0
    blocks_of k m e = omega arith
