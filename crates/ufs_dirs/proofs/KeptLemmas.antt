-- What is kept of a directory, from call to call.
use Rattle.std.proofs.Common.{◌≡◌, ℕ, ◌+◌, ◌-◌, ◌*◌, ◌/◌, ◌%◌, ◌<◌, ◌≤◌, List, [], ◌∷◌, ◌++◌, Bool, true, false, not, cond, length, get_or, set, replicate, ap, sym, refl, ◌∙◌, subst, arith, Some, None, Result, Ok, is_ok, take, inl, inr, length-set, length-append, IsTrue}
use Rattle.std.specs.List.{insert, remove, list_all, count_by, position, position_or_len}
use Rattle.std.specs.Option.{unwrap_or}
use Rattle.std.specs.declared.cmp.Ordering.TheVariants.{Less}
use Rattle.std.proofs.lemmas.Bool.{cases_lt, lt-ltb, le-ltb, false≢true}
use Rattle.std.proofs.lemmas.List.{get_or_append_left, get_or-append_right, get_or-replicate, get_or_past, get_or_default, length-replicate, take_all}
use Rattle.std.proofs.lemmas.List.Elements.{All-get_or, All-from_get_or, All-push, All-set}
use Rattle.std.proofs.lemmas.List.Folds.{sum_by-replicate}
use Rattle.std.proofs.lemmas.List.Sums.{sum_by-append, count_by-le-length, prefix_len-le-length, fails_before_first, passes_at_first, list_all-from_AllPass}
use Rattle.ufs_layout.specs.DentryForm.{DentryForm, free_slot, is_dentry, is_named}
use Rattle.ufs_dirs.specs.Directory.{Directory, IsDirectory, entry_at, entry_of, has_block, has_name, name_cmp}
use Rattle.ufs_dirs.specs.Index.{AreAbove, IsFreeList, IsIndex, IsKept, IsGapFor, IsNextRank, IsRankOf, ranked}
use Rattle.ufs_dirs.specs.Changes.{IsSlot, place_of}
use Rattle.ufs_dirs.proofs.BlockLemmas.{distinct_none, length-distinct, position-distinct, distinct_push}
use Rattle.ufs_dirs.proofs.NameLemmas.{names_once, entry_of-first, entry_of-none, entry_of-rank}
use Rattle.ufs_dirs.proofs.EditLemmas.{is_there}
use Rattle.ufs_dirs.proofs.SlotLemmas.{weight}
use Rattle.ufs_dirs.proofs.FreeLemmas.{free_cleared, free_filled, rank_of_free}
use Rattle.ufs_dirs.proofs.FilledLemmas.{filled_index}
use Rattle.ufs_dirs.proofs.ClearedLemmas.{cleared_index}

-- ---- sizes

pub few_slots : (d : Directory) → IsDirectory d → length d.slots ≤ 4194304
few_slots d is = omega (arith, is.sized, length-distinct 65536 d.blocks is.blocks_once is.blocks_below)

pub few_names : (d : Directory) (order places : List ℕ) → IsKept d order places → length order ≤ length d.slots
few_names d order places kept = omega (arith, kept.index.counted, count_by-le-length is_named d.slots)

-- ---- reads

pub rank_along : (s s' : List DentryForm) (o o' n n' : List ℕ) (rank : ℕ) → s' ≡ s → o' ≡ o → n' ≡ n → IsRankOf s' o' n' rank → IsRankOf s o n rank
rank_along s s' o o' n n' rank at_s at_o at_n is =
    subst (λ (x : List DentryForm). IsRankOf x o n rank) at_s (subst (λ (x : List ℕ). IsRankOf s' x n rank) at_o (subst (λ (x : List ℕ). IsRankOf s' o' x rank) at_n is))

pub gap_along : (s s' : List DentryForm) (o o' n n' : List ℕ) (rank : ℕ) → s' ≡ s → o' ≡ o → n' ≡ n → IsGapFor s' o' n' rank → IsGapFor s o n rank
gap_along s s' o o' n n' rank at_s at_o at_n is =
    subst (λ (x : List DentryForm). IsGapFor x o n rank) at_s (subst (λ (x : List ℕ). IsGapFor s' x n rank) at_o (subst (λ (x : List ℕ). IsGapFor s' o' x rank) at_n is))

pub next_along : (s s' : List DentryForm) (o o' n : List ℕ) (rank : ℕ) → s' ≡ s → o' ≡ o → IsNextRank s' o' n rank → IsNextRank s o n rank
next_along s s' o o' n rank at_s at_o is = subst (λ (x : List DentryForm). IsNextRank x o n rank) at_s (subst (λ (x : List ℕ). IsNextRank s' x n rank) at_o is)

-- what was read at a rank is what its name stands for
pub entry_read : (slots : List DentryForm) (order : List ℕ) → IsIndex slots order → (name : List ℕ) (rank place : ℕ) (e : DentryForm) → IsRankOf slots order name rank → place ≡ get_or order rank place → e ≡ get_or slots place e → Some e ≡ entry_of slots name
entry_read slots order index name rank place e is read_place read =
    let at : place ≡ get_or order rank 0 = read_place ∙ get_or_default order rank place 0 is.in_range in
    let inside : place < length slots = omega (arith, at, index.in_range rank is.in_range) in
    let value : e ≡ ranked slots order rank = read ∙ get_or_default slots place e free_slot inside ∙ ap (entry_at slots) at in
    ap Some value ∙ sym (entry_of-rank slots order index name rank is)

-- ---- places

-- where a number stands, as a search tells it
pub position-or_length : (p : ℕ → Bool) (xs : List ℕ) → unwrap_or (position p xs) (length xs) ≡ position_or_len p xs
position-or_length p xs = elim (cases_lt (position_or_len p xs) (length xs)) [
  | inl inside ↦ ap (λ (b : Bool). unwrap_or (cond b (Some (position_or_len p xs)) None) (length xs)) (lt-ltb (position_or_len p xs) (length xs) inside)
  | inr past ↦
      ap (λ (b : Bool). unwrap_or (cond b (Some (position_or_len p xs)) None) (length xs)) (le-ltb (position_or_len p xs) (length xs) past) ∙ omega (arith, prefix_len-le-length (λ x. not (p x)) xs)
]

pub place_of-slot_at : (d : Directory) → IsDirectory d → (place sector : ℕ) → place < length d.slots → sector ≡ get_or d.blocks (place / 64) 0 * 8 + place % 64 / 8 → place_of d.blocks (record { sector = sector; slot = place % 8 }) ≡ place
place_of-slot_at d is place sector inside at =
    let block : ℕ = get_or d.blocks (place / 64) 0 in
    let within : place / 64 < length d.blocks = omega (arith, is.sized) in
    let of_block : sector / 8 ≡ block = omega (arith, at) in
    let in_block : sector % 8 ≡ place % 64 / 8 = omega (arith, at) in
    let first = position-distinct d.blocks is.blocks_once (place / 64) (sector / 8) within of_block in
    omega (arith, first, in_block)

pub slot_at-is_slot : (d : Directory) → IsDirectory d → (place sector : ℕ) → place < length d.slots → sector ≡ get_or d.blocks (place / 64) 0 * 8 + place % 64 / 8 → IsSlot d (record { sector = sector; slot = place % 8 })
slot_at-is_slot d is place sector inside at = record { in_sector = omega arith; in_blocks = omega (arith, place_of-slot_at d is place sector inside at) }

-- ---- no block

pub kept_none : (blocks : List ℕ) (slots : List DentryForm) (order places : List ℕ) → blocks ≡ [] → slots ≡ [] → order ≡ [] → places ≡ [] → IsKept (record { blocks = blocks; slots = slots }) order places
kept_none blocks slots order places no_blocks no_slots no_order no_places =
    let none : IsKept (record { blocks = []; slots = [] }) [] [] = record {
      directory = record { sized = refl; blocks_once = distinct_none; blocks_below = All-from_get_or (λ b. b < 65536) [] 0 (λ i h. absurd (omega arith)); forms = All-from_get_or (λ e. IsTrue (is_dentry e)) [] free_slot (λ i h. absurd (omega arith)); names_once = λ i j less h. absurd (omega arith) };
      index = record { in_range = λ k h. absurd (omega arith); used = λ k h. absurd (omega arith); rising = λ j k less h. absurd (omega arith); each = λ p h. absurd (omega arith); counted = refl };
      free = record { in_range = λ k h. absurd (omega arith); unused = λ k h. absurd (omega arith); falling = λ j k less h. absurd (omega arith); each = λ p h. absurd (omega arith); counted = refl };
    } in
    subst (λ (f : List ℕ). IsKept (record { blocks = blocks; slots = slots }) order f) (sym no_places)
    (subst (λ (o : List ℕ). IsKept (record { blocks = blocks; slots = slots }) o []) (sym no_order)
    (subst (λ (s : List DentryForm). IsKept (record { blocks = blocks; slots = s }) [] []) (sym no_slots)
    (subst (λ (b : List ℕ). IsKept (record { blocks = b; slots = [] }) [] []) (sym no_blocks) none)))

-- ---- a block more

abbrev name_less : DentryForm → DentryForm → Type 0
name_less a b = name_cmp a.name b.name ≡ Less

abbrev free_block : List DentryForm
free_block = replicate 64 free_slot

-- free slots behind the others change nothing of what stands at a place
pub entry_at-added : (slots : List DentryForm) (p : ℕ) → entry_at (slots ++ free_block) p ≡ entry_at slots p
entry_at-added slots p = elim (cases_lt p (length slots)) [
  | inl inside ↦ get_or_append_left slots free_block free_slot p inside
  | inr behind ↦ get_or-append_right slots free_block (length slots) p free_slot refl behind ∙ free_there (p - length slots) ∙ sym (get_or_past slots p free_slot behind)
]
  where
    free_there : (i : ℕ) → get_or free_block i free_slot ≡ free_slot
    free_there i = elim (cases_lt i 64) [
      | inl inside ↦ get_or-replicate 64 i free_slot free_slot inside
      | inr behind ↦ get_or_past free_block i free_slot (omega (arith, length-replicate 64 free_slot))
    ]

pub size_added : (slots : List DentryForm) → length (slots ++ free_block) ≡ length slots + 64
size_added slots = length-append slots free_block ∙ omega (arith, length-replicate 64 free_slot)

-- nor of what names stand for
pub entry_of-added : (slots : List DentryForm) (name : List ℕ) → entry_of (slots ++ free_block) name ≡ entry_of slots name
entry_of-added slots name = let first = position_or_len (has_name name) slots in elim (cases_lt first (length slots)) [
  | inl found ↦
      entry_of-first (slots ++ free_block) name first (omega (arith, size_added slots)) (same first ∙ passes_at_first (has_name name) slots free_slot found) (λ j h. same j ∙ fails_before_first (has_name name) slots j free_slot h)
      ∙ ap Some (entry_at-added slots first)
      ∙ sym (entry_of-first slots name first found (passes_at_first (has_name name) slots free_slot found) (λ j h. fails_before_first (has_name name) slots j free_slot h))
  | inr past ↦
      entry_of-none (slots ++ free_block) name (λ j h. same j ∙ none_has j past) ∙ sym (entry_of-none slots name (λ j h. none_has j past))
]
  where
    same : (j : ℕ) → has_name name (entry_at (slots ++ free_block) j) ≡ has_name name (entry_at slots j)
    same j = ap (has_name name) (entry_at-added slots j)

    none_has : (j : ℕ) → length slots ≤ position_or_len (has_name name) slots → has_name name (entry_at slots j) ≡ false
    none_has j past = elim (cases_lt j (length slots)) [
      | inl inside ↦ fails_before_first (has_name name) slots j free_slot (omega arith)
      | inr behind ↦ ap (has_name name) (get_or_past slots j free_slot behind)
    ]

-- what a call left that succeeded
pub left_by_ok : {X A E : Type 0} (r : Result A E) (a : A) (now ok err : List X) → now ≡ cond (is_ok r) ok err → r ≡ Ok a → now ≡ ok
left_by_ok r a now ok err is was = is ∙ ap (λ (b : Bool). cond b ok err) (ap is_ok was)

pub resized : (old now : List DentryForm) (size count : ℕ) (e : DentryForm) → now ≡ take size old ++ replicate (size - count) e → count ≡ length old → size ≡ length old + 64 → e ≡ free_slot → now ≡ old ++ replicate 64 free_slot
resized old now size count e is counted sized free =
    let more : size - count ≡ 64 = omega arith in
    is ∙ ap (λ (xs : List DentryForm). xs ++ replicate (size - count) e) (take_all size old (omega arith)) ∙ ap (λ (n : ℕ). old ++ replicate n e) more ∙ ap (λ (x : DentryForm). old ++ replicate 64 x) free

-- The places of a block that comes behind the slots stand before those that were free.
pub record AreAdded (slots : List DentryForm) (old new : List ℕ) : Type 0 where
  pub size : length new ≡ length old + 64
  pub block : (k : ℕ) → k < 64 → get_or new k 0 ≡ length slots + (63 - k)
  pub others : (k : ℕ) → k < length old → get_or new (64 + k) 0 ≡ get_or old k 0

count_added : (slots : List DentryForm) → count_by is_named (slots ++ free_block) ≡ count_by is_named slots
count_added slots = sum_by-append weight slots free_block ∙ omega (arith, sum_by-replicate weight 64 free_slot)

free_added : (slots : List DentryForm) (old new : List ℕ) → IsFreeList slots old → AreAdded slots old new → IsFreeList (slots ++ free_block) new
free_added slots old new free added = record {
  in_range = λ k h. elim (cases_lt k 64) [
    | inl first ↦ omega (arith, size_added slots, added.block k first)
    | inr behind ↦ omega (arith, size_added slots, other k behind h, free.in_range (k - 64) (omega (arith, added.size)))
  ];
  unused = λ k h. ap is_named (entry_at-added slots (get_or new k 0)) ∙ elim (cases_lt k 64) [
    | inl first ↦ ap is_named (get_or_past slots (get_or new k 0) free_slot (omega (arith, added.block k first)))
    | inr behind ↦ ap (λ (p : ℕ). is_named (entry_at slots p)) (other k behind h) ∙ free.unused (k - 64) (omega (arith, added.size))
  ];
  falling = λ j k less h. elim (cases_lt k 64) [
    | inl first ↦ omega (arith, added.block k first, added.block j (omega arith))
    | inr behind ↦ elim (cases_lt j 64) [
      | inl first ↦ omega (arith, added.block j first, other k behind h, free.in_range (k - 64) (omega (arith, added.size)))
      | inr behind_too ↦ omega (arith, other j behind_too (omega arith), other k behind h, free.falling (j - 64) (k - 64) (omega arith) (omega (arith, added.size)))
    ]
  ];
  each = λ p h is. elim (cases_lt p (length slots)) [
    | inl inside ↦
        let k = rank_of_free slots old free p inside (ap is_named (sym (entry_at-added slots p)) ∙ is) in
        is_there new (64 + k.0) p (omega (arith, added.size, k.1)) (added.others k.0 k.1 ∙ k.2)
    | inr behind ↦
        let k : ℕ = length slots + 63 - p in
        is_there new k p (omega (arith, added.size, size_added slots)) (added.block k (omega arith) ∙ omega (arith, size_added slots))
  ];
  counted = omega (arith, size_added slots, added.size, count_added slots, free.counted);
}
  where
    other : (k : ℕ) → 64 ≤ k → k < length new → get_or new k 0 ≡ get_or old (k - 64) 0
    other k h end =
        let back : k ≡ 64 + (k - 64) = omega arith in
        ap (λ (j : ℕ). get_or new j 0) back ∙ added.others (k - 64) (omega (arith, added.size))

pub kept_added : (d : Directory) (order places new : List ℕ) (block : ℕ) → IsKept d order places → block < 65536 → has_block d.blocks block ≡ false → AreAdded d.slots places new → IsKept (record { blocks = d.blocks ++ block ∷ []; slots = d.slots ++ free_block }) order new
kept_added d order places new block kept below absent added = record {
  directory = record {
    sized = omega (arith, size_added d.slots, kept.directory.sized, length-append d.blocks (block ∷ []));
    blocks_once = distinct_push d.blocks block kept.directory.blocks_once absent;
    blocks_below = All-push (λ b. b < 65536) d.blocks block kept.directory.blocks_below below;
    forms = All-from_get_or (λ e. IsTrue (is_dentry e)) (d.slots ++ free_block) free_slot (λ i h. subst (λ e. IsTrue (is_dentry e)) (sym (entry_at-added d.slots i)) (form i));
    names_once = names_once (d.slots ++ free_block) order index;
  };
  index = index;
  free = free_added d.slots places new kept.free added;
}
  where
    form : (i : ℕ) → IsTrue (is_dentry (entry_at d.slots i))
    form i = elim (cases_lt i (length d.slots)) [
      | inl inside ↦ All-get_or (λ e. IsTrue (is_dentry e)) d.slots i free_slot inside kept.directory.forms
      | inr behind ↦ subst (λ e. IsTrue (is_dentry e)) (sym (get_or_past d.slots i free_slot behind)) refl
    ]

    index : IsIndex (d.slots ++ free_block) order
    index = record {
      in_range = λ k h. omega (arith, size_added d.slots, kept.index.in_range k h);
      used = λ k h. ap is_named (entry_at-added d.slots (get_or order k 0)) ∙ kept.index.used k h;
      rising = λ j k less h.
          subst (λ a. name_less a (ranked (d.slots ++ free_block) order k)) (sym (entry_at-added d.slots (get_or order j 0)))
          (subst (name_less (ranked d.slots order j)) (sym (entry_at-added d.slots (get_or order k 0))) (kept.index.rising j k less h));
      each = λ p h is. let used = ap is_named (sym (entry_at-added d.slots p)) ∙ is in elim (cases_lt p (length d.slots)) [
        | inl inside ↦ kept.index.each p inside used
        | inr behind ↦ absurd (false≢true (ap is_named (sym (get_or_past d.slots p free_slot behind)) ∙ used))
      ];
      counted = kept.index.counted ∙ sym (count_added d.slots);
    }

-- ---- slots filled and cleared

pub kept_filled : (d : Directory) (order places : List ℕ) (place rank at : ℕ) (e : DentryForm) → IsKept d order places → place < length d.slots → is_named (entry_at d.slots place) ≡ false → is_named e ≡ true → IsTrue (is_dentry e) → IsGapFor d.slots order e.name rank → AreAbove places place at → IsKept (record d { slots = set d.slots place e }) (insert order rank place) (remove places at)
kept_filled d order places place rank at e kept inside free named form gap above =
    let index = filled_index d.slots place e inside free named order rank kept.index gap in
    record {
      directory = record {
        sized = omega (arith, length-set d.slots place e, kept.directory.sized);
        blocks_once = kept.directory.blocks_once;
        blocks_below = kept.directory.blocks_below;
        forms = All-set (λ x. IsTrue (is_dentry x)) d.slots place e form kept.directory.forms;
        names_once = names_once (set d.slots place e) (insert order rank place) index;
      };
      index = index;
      free = free_filled d.slots places kept.free place at e inside free named above;
    }

pub kept_cleared : (d : Directory) (order places : List ℕ) (rank at : ℕ) → IsKept d order places → rank < length order → AreAbove places (get_or order rank 0) at → IsKept (record d { slots = set d.slots (get_or order rank 0) free_slot }) (remove order rank) (insert places at (get_or order rank 0))
kept_cleared d order places rank at kept inside above =
    let place = get_or order rank 0 in
    let index = cleared_index d.slots order rank kept.index inside in
    record {
      directory = record {
        sized = omega (arith, length-set d.slots place free_slot, kept.directory.sized);
        blocks_once = kept.directory.blocks_once;
        blocks_below = kept.directory.blocks_below;
        forms = All-set (λ x. IsTrue (is_dentry x)) d.slots place free_slot refl kept.directory.forms;
        names_once = names_once (set d.slots place free_slot) (remove order rank) index;
      };
      index = index;
      free = free_cleared d.slots places kept.free place at (kept.index.in_range rank inside) (kept.index.used rank inside) above;
    }

pub all_used : (slots : List DentryForm) → ((p : ℕ) → p < length slots → is_named (entry_at slots p) ≡ true) → list_all is_named slots ≡ true
all_used slots each = list_all-from_AllPass is_named slots (All-from_get_or (λ e. is_named e ≡ true) slots free_slot each)
