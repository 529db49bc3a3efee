-- A table of which one directory may have got a block of the pool.
use Rattle.std.proofs.Common.{◌≡◌, ◌≢◌, ℕ, ◌≤◌, ◌⊎◌, inl, inr, ◌||◌, ◌&&◌, List, Some, Bool, true, false, eqb, length, ap, sym, refl, ◌∙◌, subst, Result, Ok, Err, OnOk, OnErr}
use Rattle.std.specs.List.{list_all}
use Rattle.std.specs.FinSet as set
use Rattle.std.proofs.lemmas.Bool.{cases_eq, eqb-true, false_from_ne_true, true≢false}
use Rattle.ufs_layout.specs.DentryForm.{is_named}
use Rattle.ufs_dirs.specs.Directory.{Directory, has_block}
use Rattle.ufs_bitmap.specs.Blocks.{BlockSet}
use Rattle.ufs_dir_tree.specs.Space.{extents_of}
use Rattle.ufs_dir_tree.specs.DirTable.{DirTable, IsDirTable, dir_at, blocks_at, found_at}
use Rattle.ufs_dir_tree.specs.DirCalls.{IsApart, GetsRoom, TakesBlock, SpendsBlock}
use Rattle.ufs_dir_tree.specs.DirEdits.{ChangesOne, dir_in}
use Rattle.ufs_dir_tree.specs.declared.found.Found.TheVariants.{Dir}
use Rattle.ufs_dir_tree.proofs.SameWalks.{AreKept}
use Rattle.ufs_dir_tree.proofs.SpaceLemmas.{has-push, taken_absent}
use Rattle.ufs_bitmap.proofs.SetLemmas.{has-remove}

or_cases : (a b : Bool) → (a || b) ≡ true → (a ≡ true) ⊎ (b ≡ true)
or_cases true b e = inl refl
or_cases false b e = inr e

module _ (t new : DirTable) (p : ℕ) (pool after : BlockSet) (one : ChangesOne t.dirs new.dirs p) (gets : GetsRoom (dir_at t p) (dir_at new p) pool after) (apart : IsApart t pool) where
  -- a block was a directory's, or the one took it of the pool
  abbrev Came : ℕ → ℕ → Type 0
  Came i b = (has_block (blocks_at t i) b ≡ true) ⊎ ((i ≡ p) × (set.contains pool b ≡ true) × (set.contains after b ≡ false))

  taken_here : (b : ℕ) → TakesBlock (blocks_at t p) (blocks_at new p) pool after → has_block (blocks_at new p) b ≡ true → Came p b
  taken_here b takes has = by (or_cases (has_block (blocks_at t p) b) (eqb takes.block b) (sym (has-push (blocks_at t p) takes.block b) ∙ ap (λ (l : List ℕ). has_block l b) (sym takes.behind) ∙ has))
    where
      by : (has_block (blocks_at t p) b ≡ true) ⊎ (eqb takes.block b ≡ true) → Came p b
      by (inl old) = inl old
      by (inr same) =
          let at : takes.block ≡ b = eqb-true takes.block b same in
          inr (refl, ap (set.contains pool) (sym at) ∙ takes.lowest.held, ap (set.contains after) (sym at) ∙ taken_absent pool after takes.block (record { lowest = takes.lowest; left = takes.pool }))

  came_here : (b : ℕ) → has_block (blocks_at new p) b ≡ true → Came p b
  came_here b has = by (list_all is_named (dir_at t p).slots) refl
    where
      by : (v : Bool) → list_all is_named (dir_at t p).slots ≡ v → Came p b
      by true full = taken_here b (gets.taken full) has
      by false room = inl (ap (λ (l : List ℕ). has_block l b) (sym (gets.spared room).0) ∙ has)

  came : (i b : ℕ) → has_block (blocks_at new i) b ≡ true → Came i b
  came i b has = by (cases_eq i p)
    where
      by : (i ≡ p) ⊎ (i ≢ p) → Came i b
      by (inl at) = subst (λ j. Came j b) (sym at) (came_here b (ap (λ j. has_block (blocks_at new j) b) (sym at) ∙ has))
      by (inr other) = inl (ap (λ (d : Directory). has_block d.blocks b) (sym (one.others i other)) ∙ has)

  -- what isn't in the pool isn't afterwards
  stays_out : (b : ℕ) → set.contains pool b ≡ false → set.contains after b ≡ false
  stays_out b out = by (list_all is_named (dir_at t p).slots) refl
    where
      by : (v : Bool) → list_all is_named (dir_at t p).slots ≡ v → set.contains after b ≡ false
      by true full =
          let takes = gets.taken full in
          false_from_ne_true (set.contains after b) (λ held. let both = sym (has-remove pool takes.block b) ∙ ap (λ (s : BlockSet). set.contains s b) (sym takes.pool) ∙ held in no_and _ _ both out)
        where
          no_and : (x y : Bool) → (x && y) ≡ true → y ≡ false → ⊥
          no_and true y e f = true≢false (sym e ∙ f)
          no_and false y e f = true≢false (sym e)
      by false room = ap (λ (s : BlockSet). set.contains s b) (gets.spared room).1 ∙ out

  pub room_apart : IsApart new after
  room_apart i b has = by (came i b has)
    where
      by : Came i b → set.contains after b ≡ false
      by (inl old) = stays_out b (apart i b old)
      by (inr taken) = taken.2

  module _ (is : IsDirTable t) (few : length (extents_of (dir_in new.dirs p).blocks) ≤ 56) where
    not_both : (i j b : ℕ) → i ≢ j → Came i b → Came j b → ⊥
    not_both i j b other (inl a) (inl c) = true≢false (sym c ∙ is.apart i j b other a)
    not_both i j b other (inl a) (inr c) = true≢false (sym c.1 ∙ apart i b a)
    not_both i j b other (inr a) (inl c) = true≢false (sym a.1 ∙ apart j b c)
    not_both i j b other (inr a) (inr c) = other (a.0 ∙ sym c.0)

    few_now : (i : ℕ) → length (extents_of (blocks_at new i)) ≤ 56
    few_now i = by (cases_eq i p)
      where
        by : (i ≡ p) ⊎ (i ≢ p) → length (extents_of (blocks_at new i)) ≤ 56
        by (inl at) = subst (λ j. length (extents_of (blocks_at new j)) ≤ 56) (sym at) few
        by (inr other) = subst (λ (d : Directory). length (extents_of d.blocks) ≤ 56) (sym (one.others i other)) (is.extents i)

    pub room_kept : AreKept new
    room_kept = record {
      apart = λ i j b other has. false_from_ne_true (has_block (blocks_at new j) b) (λ too. not_both i j b other (came i b has) (came j b too));
      extents = few_now;
    }

-- what counts of the directory afterwards is its blocks
pub gets_on : (d e f : Directory) (pool after : BlockSet) → f.blocks ≡ e.blocks → GetsRoom d e pool after → GetsRoom d f pool after
gets_on d e f pool after same gets = record {
  taken = λ full. let takes = gets.taken full in record { block = takes.block; lowest = takes.lowest; pool = takes.pool; behind = same ∙ takes.behind };
  spared = λ room. (same ∙ (gets.spared room).0, (gets.spared room).1);
}

-- seen from the names of the directory
pub spends : (t new : DirTable) (p : ℕ) (pool after : BlockSet) → GetsRoom (dir_at t p) (dir_at new p) pool after → ((i : ℕ) → i ≢ p → blocks_at new i ≡ blocks_at t i) → (names : List (List ℕ)) → found_at t names ≡ Some (Dir p) → SpendsBlock t new pool after names
spends t new p pool after gets others names at = record {
  here = λ i met. let same : i ≡ p = same_dir i p (sym met ∙ at) in subst (λ j. GetsRoom (dir_at t j) (dir_at new j) pool after) (sym same) gets;
  others = λ i off. others i (λ same. off (at ∙ ap (λ j. Some (Dir j)) (sym same)));
}
  where
    same_dir : (i j : ℕ) → Some (Dir i) ≡ Some (Dir j) → i ≡ j
    same_dir i j e = cc

-- the same of an answer: a refusal changes nothing
module _ (t new : DirTable) (p : ℕ) (pool after : BlockSet) (one : ChangesOne t.dirs new.dirs p) (apart : IsApart t pool) (is : IsDirTable t) (few : length (extents_of (dir_in new.dirs p).blocks) ≤ 56) where
  same_kept : new.dirs ≡ t.dirs → AreKept new
  same_kept same = subst (λ (l : List Directory). AreKept (record { dirs = l; free = new.free })) (sym same) (record { apart = is.apart; extents = is.extents })

  same_apart : new.dirs ≡ t.dirs → after ≡ pool → IsApart new after
  same_apart same pools = subst (λ (s : BlockSet). IsApart new s) (sym pools) (subst (λ (l : List Directory). IsApart (record { dirs = l; free = new.free }) pool) (sym same) apart)

  pub either_kept : {A E : Type 0} (r : Result A E) → OnOk r (GetsRoom (dir_at t p) (dir_at new p) pool after) → OnErr r (new.dirs ≡ t.dirs) → AreKept new
  either_kept (Ok u) gets same = room_kept t new p pool after one gets apart is few
  either_kept (Err e) gets same = same_kept same

  pub either_apart : {A E : Type 0} (r : Result A E) → OnOk r (GetsRoom (dir_at t p) (dir_at new p) pool after) → OnErr r (new.dirs ≡ t.dirs) → OnErr r (after ≡ pool) → IsApart new after
  either_apart (Ok u) gets same pools = room_apart t new p pool after one gets apart
  either_apart (Err e) gets same pools = same_apart same pools
