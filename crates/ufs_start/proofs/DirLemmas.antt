-- The slots of a directory that is made of what was read.
use Rattle.std.proofs.Common.{◌≡◌, ◌≢◌, ℕ, zero, suc, ◌+◌, ◌*◌, ◌/◌, ◌%◌, ◌<◌, ◌≤◌, Bool, true, false, List, [], ◌∷◌, ◌++◌, length, Option, Some, None, get_or, set, take, map, replicate, refl, ap, sym, ◌∙◌, subst, arith, ⊎_elim, eqb}
use Rattle.std.specs.Prelude.{flat_map, if◌then◌else◌, nat_eq, nat_le, ◌==◌, ◌&&◌, ◌||◌, IsTrue}
use Rattle.std.specs.List.{All, IsDistinct, slice_get, range_with_len, position_or_len}
use Rattle.std.proofs.lemmas.Bool.{and_parts, cases_lt}
use Rattle.std.proofs.lemmas.Bool.Decides.{eqb_tells, nat_tests}
use Rattle.std.proofs.lemmas.Option.{get_or_from_slice_get, slice_get_within, slice_get-get_or}
use Rattle.std.proofs.lemmas.List.{ext_get_or, get_or-set_same, get_or-set_other, get_or-replicate, get_or-take, length-replicate, length-set, length-map, length-take-le, set-get_or}
use Rattle.std.proofs.lemmas.List.Elements.{All-get_or, All-from_get_or}
use Rattle.std.proofs.lemmas.List.Folds.{list_any_none}
use Rattle.std.proofs.lemmas.Map.Keys.{apart_from_distinct}
use Rattle.ufs_extent.specs.Runs as runs
use Rattle.ufs_extent.specs.Runs.{blocks_from}
use Rattle.ufs_layout.specs.DentryForm.{DentryForm, free_slot, is_dentry, is_named}
use Rattle.ufs_layout.specs.declared.inode.Extent.{Extent}
use Rattle.ufs_dirs.specs.Directory.{Directory, IsDirectory, entry_of, has_block, has_name}
use Rattle.ufs_dirs.specs.Changes.{place_of}
use Rattle.ufs_dirs.specs.declared.Slot.{Slot}
use Rattle.ufs_dirs.proofs.BlockLemmas.{length-distinct, position-distinct}
use Rattle.ufs_dirs.proofs.NameLemmas.{entry_of-none}
use Rattle.ufs_model.proofs.Facts.Lookups.{same_some}
use Rattle.ufs_names.proofs.AllowedLemmas.{bytes_differ}
use Rattle.ufs_start.specs.Extents.{run_of}
use Rattle.ufs_start.specs.Tables.{IsWholeDir}

pub never_none : {X : Type 0} (o : Option X) (x : X) → o ≡ Some x → o ≡ None → ⊥
never_none o x some none = let no : None ≡ Some x = sym none ∙ some in cc

-- ---- where the blocks lie

from_range : (a n : ℕ) → blocks_from a n ≡ range_with_len a n
from_range a zero = refl
from_range a (suc n) = ap (λ l. a ∷ l) (from_range (a + 1) n)

pub runs_blocks : (es : List Extent) → runs.blocks_of (map run_of es) ≡ flat_map (λ (e : Extent). range_with_len e.start e.length) es
runs_blocks [] = refl
runs_blocks (e ∷ es) = λ i. from_range e.start e.length i ++ runs_blocks es i

take_suc : (xs : List ℕ) (k x : ℕ) → slice_get xs k ≡ Some x → take (suc k) xs ≡ take k xs ++ x ∷ []
take_suc [] k x e = cc
take_suc (y ∷ xs) zero x e = let same : y ≡ x = cc in ap (λ z. z ∷ []) same
take_suc (y ∷ xs) (suc k) x e = ap (λ l. y ∷ l) (take_suc xs k x e)

pub take_next : (xs : List ℕ) (k x : ℕ) → slice_get xs k ≡ Some x → take (k + 1) xs ≡ take k xs ++ x ∷ []
take_next xs k x e = let next : k + 1 ≡ suc k = omega arith in ap (λ n. take n xs) next ∙ take_suc xs k x e

pub below_at : (xs : List ℕ) (k b : ℕ) → All (λ x. x < 65536) xs → slice_get xs k ≡ Some b → b < 65536
below_at xs k b all there = subst (λ n. n < 65536) (get_or_from_slice_get xs k b 0 there) (All-get_or (λ x. x < 65536) xs k 0 (slice_get_within xs k b there) all)

-- none of different blocks stands among those before it
pub absent_before : (xs : List ℕ) (k b : ℕ) → IsDistinct nat_eq xs → slice_get xs k ≡ Some b → has_block (take k xs) b ≡ false
absent_before xs k b distinct there =
    let within = slice_get_within xs k b there in
    let is : get_or xs k 0 ≡ b = get_or_from_slice_get xs k b 0 there in
    let short : length (take k xs) ≡ k = length-take-le k xs (omega (arith, within)) in
    list_any_none (λ x. x == b) (take k xs) (All-from_get_or (λ x. (x == b) ≡ false) (take k xs) 0 (λ i less.
    let under : i < k = omega (arith, less, short) in
    ap (λ n. n == b) (get_or-take k xs i 0 under) ∙ ap (λ n. get_or xs i 0 == n) (sym is) ∙ apart_from_distinct nat_eq xs i k 0 distinct under within))

-- ---- slots

mapped : (xs : List DentryForm) (k : ℕ) → k < length xs → Some (get_or xs k free_slot) ≡ get_or (map Some xs) k None
mapped [] k less = absurd (omega (arith, less))
mapped (x ∷ xs) zero less = refl
mapped (x ∷ xs) (suc k) less = mapped xs k (omega (arith, less))

-- The first so many slots are what was read, and the others are free.
pub record AreFilled (read : List (Option DentryForm)) (end : ℕ) (slots : List DentryForm) : Type 0 where
  pub counted : length slots ≡ length read
  pub filled : (k : ℕ) → k < end → k < length read → get_or read k None ≡ Some (get_or slots k free_slot)
  pub rest : (k : ℕ) → end ≤ k → k < length read → get_or slots k free_slot ≡ free_slot

pub none_filled : (read : List (Option DentryForm)) (slots : List DentryForm) → slots ≡ replicate (length read) free_slot → AreFilled read 0 slots
none_filled read slots are = record {
  counted = ap length are ∙ length-replicate {A = DentryForm} (length read) free_slot;
  filled = λ k less inside. absurd (omega (arith, less));
  rest = λ k from inside. ap (λ (l : List DentryForm). get_or l k free_slot) are ∙ get_or-replicate (length read) k free_slot free_slot inside;
}

-- a slot without a name is free
unnamed : (d : DentryForm) → is_dentry d ≡ true → is_named d ≡ false → d ≡ free_slot
unnamed d form none =
    let parts = and_parts (nat_le (length d.name) 58) (is_named d || (d.inode == 0 && d.kind == 0)) form in
    let zeros : (d.inode == 0 && d.kind == 0) ≡ true = sym (ap (λ b. b || (d.inode == 0 && d.kind == 0)) none) ∙ parts.1 in
    let each = and_parts (d.inode == 0) (d.kind == 0) zeros in
    let first = each.0 in
    let second = each.1 in
    let inode : d.inode ≡ 0 = grind (arith, nat_tests, first) in
    let kind : d.kind ≡ 0 = grind (arith, nat_tests, second) in
    let size : length d.name ≡ 0 = grind (arith, nat_tests, none) in
    let name = empty d.name size in
    λ i. record { inode = inode i; kind = kind i; name = name i }
  where
    empty : (xs : List ℕ) → length xs ≡ 0 → xs ≡ []
    empty [] e = refl
    empty (x ∷ xs) e = absurd (omega (arith, e))

module _ (read : List (Option DentryForm)) (end : ℕ) (slots after : List DentryForm) (d : DentryForm) (so_far : AreFilled read end slots) (inside : end < length read) (is : get_or read end None ≡ Some d) where
  others : (k : ℕ) → k ≢ end → get_or (set slots end d) k free_slot ≡ get_or slots k free_slot
  others k differ = get_or-set_other slots end k d free_slot differ

  filled_with : AreFilled read (end + 1) (set slots end d)
  filled_with = record {
    counted = length-set slots end d ∙ so_far.counted;
    filled = λ k less within. ⊎_elim
        (λ (same : (eqb k end ≡ true) × (k ≡ end)).
        ap (λ n. get_or read n None) same.1 ∙ is ∙ ap Some (sym (ap (λ n. get_or (set slots end d) n free_slot) same.1 ∙ get_or-set_same slots end d free_slot (let counted = so_far.counted in omega (arith, counted, inside)))))
        (λ (other : (eqb k end ≡ false) × (k ≢ end)). so_far.filled k (below k less other.1) within ∙ ap Some (sym (others k other.1)))
        (eqb_tells k end);
    rest = λ k from within. others k (λ same. omega (arith, from, same)) ∙ so_far.rest k (omega (arith, from)) within;
  }
    where
      below : (k : ℕ) → k < end + 1 → k ≢ end → k < end
      below k less other = ⊎_elim (λ (under : k < end). under) (λ (past : end ≤ k). absurd (other (omega (arith, less, past)))) (cases_lt k end)

  still : d ≡ free_slot → set slots end d ≡ slots
  still free = ap (set slots end) (free ∙ sym (so_far.rest end (omega arith) inside)) ∙ set-get_or slots end free_slot

  pub one_filled : is_dentry d ≡ true → after ≡ (if is_named d then set slots end d else slots) → AreFilled read (end + 1) after
  one_filled form e = by (is_named d) refl e
    where
      by : (b : Bool) → is_named d ≡ b → after ≡ (if b then set slots end d else slots) → AreFilled read (end + 1) after
      by true named is = subst (AreFilled read (end + 1)) (sym is) filled_with
      by false none is = subst (AreFilled read (end + 1)) (still (unnamed d form none) ∙ sym is) filled_with

pub all_filled : (read : List (Option DentryForm)) (end : ℕ) (slots : List DentryForm) → length read ≤ end → AreFilled read end slots → read ≡ map Some slots
all_filled read end slots long so_far =
    ext_get_or None read (map Some slots) (sym so_far.counted ∙ sym (length-map slots Some))
    (λ k inside. so_far.filled k (omega (arith, inside, long)) inside ∙ mapped slots k (let counted = so_far.counted in omega (arith, counted, inside)))

-- ---- what was read makes a directory

and_no : (b : Bool) → (b && false) ≡ false
and_no true = refl
and_no false = refl

module _ (blocks : List ℕ) (read : List (Option DentryForm)) (is : IsWholeDir blocks read) where
  pub slots_counted : length read ≡ 64 * length blocks
  slots_counted = ap length is.all ∙ length-map is.slots Some ∙ is.whole.sized

  pub few_slots : length read ≤ 64 * 65536
  few_slots = let all = slots_counted in let few = length-distinct 65536 blocks is.whole.blocks_once is.whole.blocks_below in omega (arith, all, few)

  within : (k : ℕ) → k < length read → k < length is.slots
  within k less = let same : length read ≡ length is.slots = ap length is.all ∙ length-map is.slots Some in omega (arith, same, less)

  pub slot_read : (k : ℕ) → k < length read → get_or read k None ≡ Some (get_or is.slots k free_slot)
  slot_read k less = ap (λ (l : List (Option DentryForm)). get_or l k None) is.all ∙ sym (mapped is.slots k (within k less))

  slot_is : (k : ℕ) (d : DentryForm) → k < length read → get_or read k None ≡ Some d → get_or is.slots k free_slot ≡ d
  slot_is k d less there = same_some (get_or is.slots k free_slot) d (sym (slot_read k less) ∙ there)

  pub form_read : (k : ℕ) (d : DentryForm) → k < length read → get_or read k None ≡ Some d → is_dentry d ≡ true
  form_read k d less there = subst (λ (e : DentryForm). is_dentry e ≡ true) (slot_is k d less there) (All-get_or (λ (e : DentryForm). IsTrue (is_dentry e)) is.slots k free_slot (within k less) is.whole.forms)

  pub block_read : (k : ℕ) → k < length read → slice_get blocks (k / 64) ≡ Some (get_or blocks (k / 64) 0)
  block_read k less = let all = slots_counted in slice_get-get_or blocks (k / 64) 0 (omega (arith, all, less))

  -- its names differ from those before it
  pub name_absent : (end : ℕ) (slots : List DentryForm) (d : DentryForm) → AreFilled read end slots → end < length read → get_or read end None ≡ Some d → is_named d ≡ true → entry_of slots d.name ≡ None
  name_absent end slots d so_far inside there named = entry_of-none slots d.name (λ k less. ⊎_elim (λ (under : k < end). other k under) (λ (from : end ≤ k). rest k from less) (cases_lt k end))
    where
      here : get_or is.slots end free_slot ≡ d
      here = slot_is end d inside there

      other : (k : ℕ) → k < end → has_name d.name (get_or slots k free_slot) ≡ false
      other k under =
          let less : k < length read = omega (arith, under, inside) in
          let same : get_or is.slots k free_slot ≡ get_or slots k free_slot = slot_is k (get_or slots k free_slot) less (so_far.filled k under less) in
          let differ = is.whole.names_once k end under (within end inside) (ap is_named here ∙ named) in
          ap (λ b. is_named (get_or slots k free_slot) && b)
          (bytes_differ (get_or slots k free_slot).name d.name (λ e. differ (ap (λ (x : DentryForm). x.name) same ∙ e ∙ sym (ap (λ (x : DentryForm). x.name) here))))
          ∙ and_no (is_named (get_or slots k free_slot))

      rest : (k : ℕ) → end ≤ k → k < length slots → has_name d.name (get_or slots k free_slot) ≡ false
      rest k from less = let counted = so_far.counted in ap (has_name d.name) (so_far.rest k from (omega (arith, less, counted)))

-- ---- a slot by its place

pub place_is : (d : Directory) (s : Slot) (block place : ℕ) → IsDirectory d → slice_get d.blocks (place / 64) ≡ Some block → s.sector ≡ 8 * block + place % 64 / 8 → s.slot ≡ place % 8 → place_of d.blocks s ≡ place
place_is d s block place is there sector slot =
    let of_block : s.sector / 8 ≡ block = omega (arith, sector) in
    let in_block : s.sector % 8 ≡ place % 64 / 8 = omega (arith, sector) in
    let first : position_or_len (λ b. b == s.sector / 8) d.blocks ≡ place / 64 = ap (λ n. position_or_len (λ b. b == n) d.blocks) of_block ∙ position-distinct d.blocks is.blocks_once (place / 64) block (slice_get_within d.blocks (place / 64) block there) (sym (get_or_from_slice_get d.blocks (place / 64) block 0 there)) in
    omega (arith, first, in_block, slot)
