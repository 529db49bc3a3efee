-- A slot of a directory is set.
use Rattle.std.proofs.Common.{◌≡◌, ◌≢◌, ℕ, ◌+◌, ◌*◌, ◌/◌, ◌%◌, ◌<◌, ◌⊎◌, inl, inr, List, [], ◌∷◌, Bool, true, false, Some, length, set, get_or, ap, sym, refl, ◌∙◌, subst, arith, length-append}
use Rattle.std.specs.Prelude.{◌==◌, flat_map, if◌then◌else◌}
use Rattle.std.specs.List.{slice_get, position_or_len}
use Rattle.std.proofs.lemmas.Bool.Decides.{nat_tests}
use Rattle.std.proofs.lemmas.List.{get_or-set_same, get_or-set_other, length-set}
use Rattle.std.proofs.lemmas.List.Sums.{passes_at_first}
use Rattle.std.proofs.lemmas.Option.{slice_get-get_or}
use Rattle.ufs_layout.specs.Areas.{is_data_sector}
use Rattle.ufs_layout.specs.DentryForm.{DentryForm}
use Rattle.ufs_layout.specs.declared.geometry.Geometry.{Geometry}
use Rattle.ufs_image.specs.Nodes.{blocks_of}
use Rattle.ufs_image.specs.Catalog.{Catalog, IsInode, HasBlock, slots_in}
use Rattle.ufs_image.specs.Folding.{with_dentry}
use Rattle.ufs_image.proofs.Lists.{IsIn}
use Rattle.ufs_image.proofs.Listed.{place_of_in, in_at_place}
use Rattle.ufs_image.proofs.Empty.{apart_false}
use Rattle.ufs_image.proofs.SlotSet.{touched, untouched}
use Rattle.ufs_dirs.specs.Directory.{Directory}
use Rattle.ufs_dirs.specs.Changes.{place_of, with_entry}
use Rattle.ufs_dirs.specs.declared.Slot.{Slot}
use Rattle.ufs_dir_tree.specs.DirTable.{DirTable, no_dir, dir_at, slots_at, blocks_at}
use Rattle.ufs_dir_tree.specs.Steps.{DirState, with_dir}
use Rattle.ufs_promise_laws.specs.Held.{HasState, HasSoundForms, MayPut}
use Rattle.ufs_promise_laws.proofs.Extents.{LiesIn, blocks_lie}
use Rattle.ufs_promise_laws.proofs.Tabled.{kept_table}

-- 64 slots a block
rows_length : {X : Type 0} (f : ℕ → List X) (bs : List ℕ) → ((b : ℕ) → IsIn b bs → length (f b) ≡ 64) → length (flat_map f bs) ≡ 64 * length bs
rows_length f [] each = refl
rows_length f (b ∷ bs) each =
    let first = each b (inl refl) in
    let rest = rows_length f bs (λ x is. each x (inr is)) in
    let whole = length-append (f b) (flat_map f bs) in
    omega (arith, first, rest, whole)

module _ (g : Geometry) (c : Catalog) (s : DirState) (has : HasState g c s) (inode : ℕ) (slot : Slot) (e : DentryForm) (may : MayPut g s inode slot e) where
  abbrev bs : List ℕ
  bs = blocks_at s.table inode

  abbrev block : ℕ
  block = slot.sector / 8

  abbrev at : ℕ
  at = position_or_len (λ b. b == block) bs

  abbrev k : ℕ
  k = 8 * (slot.sector % 8) + slot.slot

  abbrev d : Catalog
  d = with_dentry slot.sector slot.slot e c

  -- ---- the directory

  was_dir : (b : Bool) → ((c.forms inode).kind == 2) ≡ b → (slots_at s.table inode ≡ []) ⊎ (b ≡ true)
  was_dir true is = inr refl
  was_dir false is = inl (has.table.slots inode may.in_range ∙ ap (λ v. if v then flat_map c.slots (blocks_of (c.forms inode)) else []) is)

  dir_test : ((c.forms inode).kind == 2) ≡ true
  dir_test = by ((c.forms inode).kind == 2) refl
    where
      by : (b : Bool) → ((c.forms inode).kind == 2) ≡ b → b ≡ true
      by true is = refl
      by false is =
          let none : slots_at s.table inode ≡ [] = has.table.slots inode may.in_range ∙ ap (λ v. if v then flat_map c.slots (blocks_of (c.forms inode)) else []) is in
          let count = ap (λ (xs : List DentryForm). length xs) none in
          let inside = may.in_dir.in_blocks in
          absurd (omega (arith, count, inside))

  pub is_dir : (c.forms inode).kind ≡ 2
  is_dir = let t = dir_test in grind (arith, nat_tests, t)

  blocks_were : bs ≡ blocks_of (c.forms inode)
  blocks_were = has.table.blocks inode may.in_range ∙ ap (λ b. if b then blocks_of (c.forms inode) else []) dir_test

  slots_were : slots_at s.table inode ≡ flat_map c.slots bs
  slots_were = has.table.slots inode may.in_range ∙ ap (λ b. if b then flat_map c.slots (blocks_of (c.forms inode)) else []) dir_test ∙ ap (flat_map c.slots) (sym blocks_were)

  had : (p x : ℕ) → slice_get bs p ≡ Some x → HasBlock g c inode p x
  had p x there = record { in_range = may.in_range; there = ap (λ xs. slice_get xs p) (sym blocks_were) ∙ there }

  rows : (b : ℕ) → IsIn b bs → length (c.slots b) ≡ 64
  rows b is = let p = place_of_in b bs is in has.sized inode is_dir b p.0 (had p.0 b p.1)

  first : at < length bs
  first =
      let inside : place_of bs slot < length (slots_at s.table inode) = may.in_dir.in_blocks in
      let count = ap (λ (xs : List DentryForm). length xs) slots_were in
      let all = rows_length c.slots bs rows in
      omega (arith, inside, count, all)

  there : slice_get bs at ≡ Some block
  there =
      let passes : (get_or bs at 0 == block) ≡ true = passes_at_first (λ b. b == block) bs 0 first in
      let same : get_or bs at 0 ≡ block = grind (arith, nat_tests, passes) in
      slice_get-get_or bs at 0 first ∙ ap Some same

  pub holds : HasBlock g c inode at block
  holds = had at block there

  pub lies : LiesIn g block
  lies = blocks_lie g (c.forms inode).extents (has.forms.in_data inode may.in_range) block (in_at_place block (blocks_of (c.forms inode)) at holds.there)

  pub in_range : is_data_sector g slot.sector ≡ true
  in_range = let from = lies.from in let under = lies.under in grind (arith, nat_tests, from, under)

  -- ---- the slots

  less : k < 64
  less = let small = may.in_dir.in_sector in omega (arith, small)

  rows_here : flat_map d.slots bs ≡ set (flat_map c.slots bs) (64 * at + k) e
  rows_here = touched c.slots block k e bs at there (λ p is. (has.forms.blocks_once inode inode p at block (had p block is) holds).1) rows less

  slots_here : slots_in d inode ≡ set (slots_at s.table inode) (place_of bs slot) e
  slots_here =
      let place : 64 * at + k ≡ place_of bs slot = omega arith in
      ap (λ b. if b then flat_map d.slots (blocks_of (c.forms inode)) else []) dir_test ∙ ap (flat_map d.slots) (sym blocks_were) ∙ rows_here
      ∙ ap (λ n. set (flat_map c.slots bs) n e) place ∙ ap (λ xs. set xs (place_of bs slot) e) (sym slots_were)

  slots_else : (j : ℕ) → IsInode g j → j ≢ inode → slots_in d j ≡ slots_in c j
  slots_else j ranged other = ap (λ ys. if (c.forms j).kind == 2 then ys else []) (untouched c.slots block k e (blocks_of (c.forms j))
      (λ p is. other (has.forms.blocks_once j inode p at block (record { in_range = ranged; there = is }) holds).0))

  -- ---- the table

  abbrev u : DirTable
  u = with_dir inode (with_entry (dir_at s.table inode) slot e) s.table

  within : inode < length s.table.dirs
  within = let all = has.table.counted in let most = may.in_range.within in omega (arith, all, most)

  dir_here : dir_at u inode ≡ with_entry (dir_at s.table inode) slot e
  dir_here = get_or-set_same s.table.dirs inode (with_entry (dir_at s.table inode) slot e) no_dir within

  was : (j p x : ℕ) → HasBlock g d j p x → HasBlock g c j p x
  was j p x is = record { in_range = is.in_range; there = is.there }

  forms : HasSoundForms g d
  forms = record {
    root = has.forms.root;
    in_data = has.forms.in_data;
    blocks_once = λ i j p q x a b. has.forms.blocks_once i j p q x (was i p x a) (was j q x b);
    room = has.forms.room;
    whole = has.forms.whole;
  }

  row_length : (x : ℕ) → length (d.slots x) ≡ length (c.slots x)
  row_length x = by (x == block)
    where
      by : (b : Bool) → length (if b then set (c.slots x) k e else c.slots x) ≡ length (c.slots x)
      by true = length-set (c.slots x) k e
      by false = refl

  pub put_state : HasState g d (record { table = u; kinds = s.kinds; zeroed = s.zeroed })
  put_state = record {
    forms = forms;
    table = kept_table g c d s.table u inode may.in_range has.table (length-set s.table.dirs inode (with_entry (dir_at s.table inode) slot e))
        (λ j other. get_or-set_other s.table.dirs inode j (with_entry (dir_at s.table inode) slot e) no_dir other)
        (ap (λ (x : Directory). x.slots) dir_here ∙ sym slots_here) (ap (λ (x : Directory). x.blocks) dir_here ∙ has.table.blocks inode may.in_range)
        slots_else (λ j other. refl) has.table.free;
    kinds = has.kinds;
    sized = λ dir is x p at. row_length x ∙ has.sized dir is x p (was dir p x at);
    zeroed = λ x zero.
        let old = has.zeroed x zero in
        let other : (x == block) ≡ false = apart_false x block (λ same. old.unheld inode at (subst (HasBlock g c inode at) (sym same) holds)) in
        record { from = old.from; under = old.under; slots = ap (λ b. if b then set (c.slots x) k e else c.slots x) other ∙ old.slots; unheld = λ j p is. old.unheld j p (was j p x is) };
  }
