-- Which steps may change places, and what a step leaves of a directory.
use Rattle.std.proofs.Common.{◌≡◌, ◌≢◌, ℕ, zero, suc, ◌+◌, ◌*◌, ◌/◌, ◌<◌, ◌⊎◌, inl, inr, ◌||◌, ◌&&◌, not, eqb, List, [], ◌∷◌, length, Bool, true, false, set, get_or, ap, sym, refl, ◌∙◌, subst, arith, length-append, length-set, get_or-set_same, get_or-set_other}
use Rattle.std.specs.Prelude.{◌==◌, nat_lt, nat_le, replicate, if◌then◌else◌}
use Rattle.std.specs.FinSet as fin
use Rattle.std.specs.List.{position_or_len}
use Rattle.std.proofs.lemmas.Bool.{cases_eq}
use Rattle.std.proofs.lemmas.Bool.Decides.{nat_tests}
use Rattle.std.proofs.lemmas.List.Sums.{passes_at_first}
use Rattle.ufs_bitmap.proofs.SetLemmas.{has-insert, has-remove}
use Rattle.ufs_layout.specs.DentryForm.{DentryForm, free_slot}
use Rattle.ufs_dirs.specs.Directory.{Directory}
use Rattle.ufs_dirs.specs.Changes.{place_of, IsSlot, with_entry}
use Rattle.ufs_dirs.specs.declared.Slot.{Slot}
use Rattle.ufs_dir_tree.specs.DirTable.{DirTable, IsUsed, no_dir, dir_at, slots_at, blocks_at}
use Rattle.ufs_dir_tree.specs.Steps.{DirState, Born, Grown, Put, Freed, MaySet, grown, with_kind, after, table_after}
use Rattle.ufs_name_tree.specs.Notes.{MayNotePut}
use Rattle.ufs_name_tree.proofs.StepOrder.{MaySwap}

-- ---- a directory through a step

-- The directory is used, and its slots fill its blocks.
pub record IsKnown (t : DirTable) (i : ℕ) : Type 0 where
  pub used : IsUsed t i
  pub sized : length (slots_at t i) ≡ 64 * length (blocks_at t i)

-- The second has the blocks of the first and as many slots.
pub record IsAlike (d e : Directory) : Type 0 where
  pub blocks : e.blocks ≡ d.blocks
  pub slots : length e.slots ≡ length d.slots

alike : (d e : Directory) → e ≡ d → IsAlike d e
alike d e same = record { blocks = ap (λ (x : Directory). x.blocks) same; slots = ap (λ (x : Directory). length x.slots) same }

-- after a slot is set
module _ (t : DirTable) (j : ℕ) (b : Slot) (e : DentryForm) (within : j < length t.dirs) where
  abbrev put : DirTable
  put = table_after (Put j b e) t

  pub put_alike : (i : ℕ) → IsAlike (dir_at t i) (dir_at put i)
  put_alike i = by (cases_eq i j)
    where
      by : (i ≡ j) ⊎ (i ≢ j) → IsAlike (dir_at t i) (dir_at put i)
      by (inl same) =
          let now : dir_at put j ≡ with_entry (dir_at t j) b e = get_or-set_same t.dirs j (with_entry (dir_at t j) b e) no_dir within in
          subst (λ k. IsAlike (dir_at t k) (dir_at put k)) (sym same) (record {
            blocks = ap (λ (x : Directory). x.blocks) now;
            slots = ap (λ (x : Directory). length x.slots) now ∙ length-set (slots_at t j) (place_of (blocks_at t j) b) e;
          })
      by (inr other) = alike (dir_at t i) (dir_at put i) (get_or-set_other t.dirs j i (with_entry (dir_at t j) b e) no_dir other)

  pub put_counted : length put.dirs ≡ length t.dirs
  put_counted = length-set t.dirs j (with_entry (dir_at t j) b e)

  pub put_used : (i : ℕ) → IsUsed t i → IsUsed put i
  put_used i is = record { from_one = is.from_one; within = omega (arith, is.within, put_counted); used = is.used }

  pub was_used : (i : ℕ) → IsUsed put i → IsUsed t i
  was_used i is = record { from_one = is.from_one; within = omega (arith, is.within, put_counted); used = is.used }

  pub put_known : (i : ℕ) → IsKnown t i → IsKnown put i
  put_known i is =
      let like = put_alike i in
      record { used = put_used i is.used; sized = like.slots ∙ is.sized ∙ sym (ap (λ (bs : List ℕ). 64 * length bs) like.blocks) }

-- a slot of a directory is one of another that is like it
pub slot_alike : (d e : Directory) (a : Slot) → IsAlike d e → IsSlot d a → IsSlot e a
slot_alike d e a like is =
    let place = ap (λ (bs : List ℕ). place_of bs a) like.blocks in
    record { in_sector = is.in_sector; in_blocks = omega (arith, is.in_blocks, place, like.slots) }

pub back : (d e : Directory) → IsAlike d e → IsAlike e d
back d e like = record { blocks = sym like.blocks; slots = sym like.slots }

pub put_known_set : (t : DirTable) (i : ℕ) (a : Slot) (d : DentryForm) → IsKnown t i → MaySet t i a d → d.inode < length t.dirs → MayNotePut t i a d
put_known_set t i a d known may inode = record { used = known.used; sized = known.sized; in_dir = may.in_dir; form = may.form; inode = inode }

still_put : (t : DirTable) (i j : ℕ) (a b : Slot) (d e : DentryForm) → j < length t.dirs → MayNotePut t i a d → MayNotePut (table_after (Put j b e) t) i a d
still_put t i j a b d e within may =
    let like = put_alike t j b e within i in
    let known = put_known t j b e within i (record { used = may.used; sized = may.sized }) in
    record { used = known.used; sized = known.sized; in_dir = slot_alike (dir_at t i) (dir_at (table_after (Put j b e) t) i) a like may.in_dir; form = may.form; inode = omega (arith, may.inode, put_counted t j b e within) }

was_put : (t : DirTable) (i j : ℕ) (a b : Slot) (d e : DentryForm) → j < length t.dirs → MayNotePut (table_after (Put j b e) t) i a d → MayNotePut t i a d
was_put t i j a b d e within may =
    let like = put_alike t j b e within i in
    record {
      used = was_used t j b e within i may.used;
      sized = sym like.slots ∙ may.sized ∙ ap (λ (bs : List ℕ). 64 * length bs) like.blocks;
      in_dir = slot_alike (dir_at (table_after (Put j b e) t) i) (dir_at t i) a (back (dir_at t i) (dir_at (table_after (Put j b e) t) i) like) may.in_dir;
      form = may.form;
      inode = omega (arith, may.inode, put_counted t j b e within);
    }

-- ---- two slots

-- a slot's place tells its sector and its number
at_block : (d : Directory) (a : Slot) → length d.slots ≡ 64 * length d.blocks → IsSlot d a → get_or d.blocks (position_or_len (λ b. b == a.sector / 8) d.blocks) 0 ≡ a.sector / 8
at_block d a sized is =
    let first : position_or_len (λ b. b == a.sector / 8) d.blocks < length d.blocks = omega (arith, is.in_blocks, is.in_sector, sized) in
    let passes : (get_or d.blocks (position_or_len (λ b. b == a.sector / 8) d.blocks) 0 == a.sector / 8) ≡ true = passes_at_first (λ b. b == a.sector / 8) d.blocks 0 first in
    grind (arith, nat_tests, passes)

one_place : (d : Directory) (a b : Slot) → length d.slots ≡ 64 * length d.blocks → IsSlot d a → IsSlot d b → place_of d.blocks a ≡ place_of d.blocks b → 8 * a.sector + a.slot ≡ 8 * b.sector + b.slot
one_place d a b sized is also same =
    let p = position_or_len (λ x. x == a.sector / 8) d.blocks in
    let q = position_or_len (λ x. x == b.sector / 8) d.blocks in
    let at : p ≡ q = omega (arith, same, is.in_sector, also.in_sector) in
    let block : a.sector / 8 ≡ b.sector / 8 = sym (at_block d a sized is) ∙ ap (λ n. get_or d.blocks n 0) at ∙ at_block d b sized also in
    omega (arith, same, at, block, is.in_sector, also.in_sector)

set_apart : {X : Type 0} (xs : List X) (i j : ℕ) (x y : X) → (i ≡ j → ⊥) → set (set xs j y) i x ≡ set (set xs i x) j y
set_apart [] i j x y apart = refl
set_apart (z ∷ zs) zero zero x y apart = absurd (apart refl)
set_apart (z ∷ zs) zero (suc j) x y apart = refl
set_apart (z ∷ zs) (suc i) zero x y apart = refl
set_apart (z ∷ zs) (suc i) (suc j) x y apart = ap (λ ws. z ∷ ws) (set_apart zs i j x y (λ same. apart (ap suc same)))

set_twice : {X : Type 0} (xs : List X) (i : ℕ) (x y : X) → set (set xs i y) i x ≡ set xs i x
set_twice [] i x y = refl
set_twice (z ∷ zs) zero x y = refl
set_twice (z ∷ zs) (suc i) x y = ap (λ ws. z ∷ ws) (set_twice zs i x y)

module _ (s : DirState) where
  abbrev with_dirs : List Directory → DirState
  with_dirs dirs = record { table = record { dirs = dirs; free = s.table.free }; kinds = s.kinds; zeroed = s.zeroed }

  abbrev dirs : List Directory
  dirs = s.table.dirs

  -- of two directories
  others : (i j : ℕ) (a b : Slot) (d e : DentryForm) → i ≢ j → after (Put i a d) (after (Put j b e) s) ≡ after (Put j b e) (after (Put i a d) s)
  others i j a b d e apart =
      let x : Directory = with_entry (dir_at s.table i) a d in
      let y : Directory = with_entry (dir_at s.table j) b e in
      let first : dir_at (after (Put j b e) s).table i ≡ dir_at s.table i = get_or-set_other dirs j i y no_dir apart in
      let second : dir_at (after (Put i a d) s).table j ≡ dir_at s.table j = get_or-set_other dirs i j x no_dir (λ same. apart (sym same)) in
      ap (λ (z : Directory). with_dirs (set (set dirs j y) i (with_entry z a d))) first ∙ ap with_dirs (set_apart dirs i j x y apart) ∙ sym (ap (λ (z : Directory). with_dirs (set (set dirs i x) j (with_entry z b e))) second)

  -- of one directory
  one : (i : ℕ) (a b : Slot) (d e : DentryForm) → i < length dirs → place_of (blocks_at s.table i) a ≢ place_of (blocks_at s.table i) b → after (Put i a d) (after (Put i b e) s) ≡ after (Put i b e) (after (Put i a d) s)
  one i a b d e within apart =
      let x : Directory = with_entry (dir_at s.table i) a d in
      let y : Directory = with_entry (dir_at s.table i) b e in
      let first : dir_at (after (Put i b e) s).table i ≡ y = get_or-set_same dirs i y no_dir within in
      let second : dir_at (after (Put i a d) s).table i ≡ x = get_or-set_same dirs i x no_dir within in
      let slots = set_apart (dir_at s.table i).slots (place_of (blocks_at s.table i) a) (place_of (blocks_at s.table i) b) d e apart in
      ap (λ (z : Directory). with_dirs (set (set dirs i y) i (with_entry z a d))) first ∙ ap with_dirs (set_twice dirs i (with_entry y a d) y)
      ∙ ap (λ ss. with_dirs (set dirs i (record { blocks = blocks_at s.table i; slots = ss }))) slots
      ∙ sym (ap (λ (z : Directory). with_dirs (set (set dirs i x) i (with_entry z b e))) second ∙ ap with_dirs (set_twice dirs i (with_entry x b e) x))

apart_marks : (a b : ℕ) → (nat_lt 1 1 || (1 == 1 && nat_le a b)) ≡ false → a ≢ b
apart_marks a b e same = grind (arith, nat_tests)

pub puts_swap : (i j : ℕ) (a b : Slot) (d e : DentryForm) → MaySwap (Put i a d) (Put j b e)
puts_swap i j a b d e s may next at = record {
  first = first;
  second = still_put s.table i j a b d e first.used.within may;
  same = by (cases_eq i j);
  told_first = refl;
  told_second = refl;
}
  where
    first : MayNotePut s.table j b e
    first = was_put s.table j i b a e d may.used.within next

    by : (i ≡ j) ⊎ (i ≢ j) → after (Put i a d) (after (Put j b e) s) ≡ after (Put j b e) (after (Put i a d) s)
    by (inl same) =
        let here : IsSlot (dir_at s.table i) b = subst (λ k. IsSlot (dir_at s.table k) b) (sym same) first.in_dir in
        subst (λ k. after (Put i a d) (after (Put k b e) s) ≡ after (Put k b e) (after (Put i a d) s)) same
        (one s i a b d e may.used.within (λ place. apart_marks (8 * a.sector + a.slot) (8 * b.sector + b.slot) at (one_place (dir_at s.table i) a b may.sized may.in_dir here place)))
    by (inr other) = others s i j a b d e other

-- ---- an inode that is freed

no_slot : (a : Slot) → IsSlot no_dir a → ⊥
no_slot a is = omega (arith, is.in_blocks)

pub freed_swaps : (i j : ℕ) (b : Slot) (e : DentryForm) → MaySwap (Freed i) (Put j b e)
freed_swaps i j b e s may next at = record {
  first = first;
  second = record { used = put_used s.table j b e first.used.within i may.used; no_root = may.no_root };
  same = (λ k. record { table = record { dirs = swapped k; free = fin.insert s.table.free i }; kinds = with_kind i 0 s.kinds; zeroed = s.zeroed });
  told_first = refl;
  told_second = refl;
}
  where
    freed : DirTable
    freed = table_after (Freed i) s.table

    apart : j ≢ i
    apart same = no_slot b (subst (λ (d : Directory). IsSlot d b) (ap (dir_at (table_after (Freed i) s.table)) same ∙ get_or-set_same s.table.dirs i no_dir no_dir may.used.within) next.in_dir)

    here : dir_at (table_after (Freed i) s.table) j ≡ dir_at s.table j
    here = get_or-set_other s.table.dirs i j no_dir no_dir apart

    was_held : (x y : Bool) → (x || y) ≡ false → y ≡ false
    was_held true y is = absurd (cc)
    was_held false y is = is

    first : MayNotePut s.table j b e
    first = record {
      used = record {
        from_one = next.used.from_one;
        within = omega (arith, next.used.within, length-set s.table.dirs i no_dir);
        used = was_held (eqb j i) (fin.contains s.table.free j) (sym (has-insert s.table.free i j) ∙ next.used.used);
      };
      sized = subst (λ (d : Directory). length d.slots ≡ 64 * length d.blocks) here next.sized;
      in_dir = subst (λ (d : Directory). IsSlot d b) here next.in_dir;
      form = next.form;
      inode = omega (arith, next.inode, length-set s.table.dirs i no_dir);
    }

    swapped : set (set s.table.dirs j (with_entry (dir_at s.table j) b e)) i no_dir ≡ set (set s.table.dirs i no_dir) j (with_entry (dir_at (table_after (Freed i) s.table) j) b e)
    swapped =
        set_apart s.table.dirs i j no_dir (with_entry (dir_at s.table j) b e) (λ same. apart (sym same))
        ∙ ap (λ (d : Directory). set (set s.table.dirs i no_dir) j (with_entry d b e)) (sym here)

-- ---- an inode that is born beside a directory that grows

not_bare : (block : ℕ) (d : Directory) → grown block d ≡ no_dir → ⊥
not_bare block d same = let count = ap (λ (x : Directory). length x.slots) same in omega (arith, count, length-append d.slots (replicate 64 free_slot))

pub grown_swaps : (p block i kind : ℕ) → MaySwap (Grown p block) (Born i kind)
grown_swaps p block i kind s may next at = record {
  first = record {
    held = next.held;
    free = record { from_one = next.free.from_one; within = omega (arith, next.free.within, length-set s.table.dirs p (grown block (dir_at s.table p))); bare = sym (get_or-set_other s.table.dirs p i (grown block (dir_at s.table p)) no_dir apart) ∙ next.free.bare };
    known = next.known;
  };
  second = record {
    used = record { from_one = may.used.from_one; within = may.used.within; used = has-remove s.table.free i p ∙ ap (λ (b : Bool). not (eqb p i) && b) may.used.used ∙ and_false (not (eqb p i)) };
    is_dir = kind_still (p == i) refl;
    zeroed = may.zeroed;
    extents = may.extents;
  };
  same = refl;
  told_first = refl;
  told_second = refl;
}
  where
    apart : i ≢ p
    apart same = not_bare block (dir_at s.table p) (sym (get_or-set_same s.table.dirs p (grown block (dir_at s.table p)) no_dir may.used.within) ∙ ap (dir_at (table_after (Grown p block) s.table)) (sym same) ∙ next.free.bare)

    and_false : (b : Bool) → (b && false) ≡ false
    and_false true = refl
    and_false false = refl

    kind_still : (b : Bool) → (p == i) ≡ b → (if b then kind else s.kinds p) ≡ 2
    kind_still true is = absurd (apart (grind (arith, nat_tests, is)))
    kind_still false is = may.is_dir
