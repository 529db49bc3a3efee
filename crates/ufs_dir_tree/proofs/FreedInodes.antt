-- An inode that is free again, and its blocks the pool's.
use Rattle.std.proofs.Common.{◌≡◌, ◌≢◌, ℕ, ◌≤◌, ◌⊎◌, inl, inr, ◌||◌, List, [], Some, None, IsSome, Bool, true, false, length, ap, sym, ◌∙◌, subst, arith}
use Rattle.std.specs.FinSet as set
use Rattle.std.specs.Ordering.{nat_cmp}
use Rattle.std.proofs.lemmas.Bool.{cases_eq, ne_eqb, false_from_ne_true, true≢false}
use Rattle.ufs_dirs.specs.Directory.{Directory, IsDirectory, entry_of, has_block}
use Rattle.ufs_bitmap.specs.Blocks.{BlockSet}
use Rattle.ufs_bitmap.proofs.SetLemmas.{has-insert, has-union}
use Rattle.ufs_dir_tree.specs.Space.{extents_of}
use Rattle.ufs_dir_tree.specs.DirTable.{DirTable, InodeSet, IsDirTable, IsUsed, IsFree, no_dir, slots_at, blocks_at, inode_of, found_at}
use Rattle.ufs_dir_tree.specs.DirCalls.{IsBare, IsUnmet, IsApart, FreesInode}
use Rattle.ufs_dir_tree.specs.DirEdits.{ChangesOne, SameNames, SameEntries, dir_in}
use Rattle.ufs_dir_tree.specs.declared.found.Found.{Found}
use Rattle.ufs_dir_tree.proofs.WalkEdits.{met_past}
use Rattle.ufs_dir_tree.proofs.SameWalks.{same_table}
use Rattle.ufs_dir_tree.proofs.SpaceLemmas.{listed-is}
use Rattle.ufs_dir_tree.proofs.WalkedTables.{whole_none, whole_one}

module _ (t : DirTable) (dirs : List Directory) (free : InodeSet) (k : ℕ) (one : ChangesOne t.dirs dirs k) (cleared : dir_in dirs k ≡ no_dir) (inserted : free ≡ set.insert t.free k) where
  abbrev freed : DirTable
  freed = record { dirs = dirs; free = free }

  same_else : (i : ℕ) → i ≢ k → SameNames (dir_in t.dirs i) (dir_in dirs i)
  same_else i other name = ap (λ (d : Directory). entry_of d.slots name) (one.others i other)

  none_here : (name : List ℕ) → entry_of (slots_at freed k) name ≡ None
  none_here name = ap (λ (d : Directory). entry_of d.slots name) cleared

  blocks_here : blocks_at freed k ≡ []
  blocks_here = ap (λ (d : Directory). d.blocks) cleared

  blocks_else : (i : ℕ) → i ≢ k → blocks_at freed i ≡ blocks_at t i
  blocks_else i other = ap (λ (d : Directory). d.blocks) (one.others i other)

  pub freed_same : IsBare (slots_at t k) → SameEntries t.dirs dirs
  freed_same bare i name = by (cases_eq i k)
    where
      by : (i ≡ k) ⊎ (i ≢ k) → entry_of (slots_at freed i) name ≡ entry_of (slots_at t i) name
      by (inl at) = subst (λ j. entry_of (slots_at freed j) name ≡ entry_of (slots_at t j) name) (sym at) (none_here name ∙ sym (bare name))
      by (inr other) = same_else i other name

  -- a block that a directory has now it had, and isn't the freed one's
  pub has_else : (i b : ℕ) → has_block (blocks_at freed i) b ≡ true → (i ≢ k) × (has_block (blocks_at t i) b ≡ true)
  has_else i b has = by (cases_eq i k)
    where
      by : (i ≡ k) ⊎ (i ≢ k) → (i ≢ k) × (has_block (blocks_at t i) b ≡ true)
      by (inl at) =
          let none = ap (λ (l : List ℕ). has_block l b) (ap (blocks_at freed) at ∙ blocks_here) in
          absurd (true≢false (sym has ∙ none))
      by (inr other) = (other, ap (λ (l : List ℕ). has_block l b) (sym (blocks_else i other)) ∙ has)

  module _ (is : IsDirTable t) (used : IsUsed t k) (unmet : IsUnmet t k) where
    pub freed_met : (names : List (List ℕ)) → found_at freed names ≡ found_at t names
    freed_met names = met_past t freed k same_else unmet names

    in_use : (names : List (List ℕ)) (f : Found) → found_at t names ≡ Some f → set.contains free (inode_of f) ≡ false
    in_use names f at =
        let used = is.met names f at in
        ap (λ (s : InodeSet). set.contains s (inode_of f)) inserted ∙ has-insert t.free k (inode_of f)
        ∙ ap (λ (b : Bool). b || set.contains t.free (inode_of f)) (ne_eqb (inode_of f) k (unmet names f at)) ∙ used.used

    free_now : (i : ℕ) → set.contains free i ≡ true → IsFree freed i
    free_now i held = by (cases_eq i k)
      where
        by : (i ≡ k) ⊎ (i ≢ k) → IsFree freed i
        by (inl at) = subst (λ (j : ℕ). IsFree freed j) (sym at) (record { from_one = used.from_one; within = omega (arith, used.within, one.counted); bare = cleared })
        by (inr other) =
            let was : set.contains t.free i ≡ true =
            ap (λ (b : Bool). b || set.contains t.free i) (sym (ne_eqb i k other)) ∙ sym (has-insert t.free k i) ∙ ap (λ (s : InodeSet). set.contains s i) (sym inserted) ∙ held in
            let free = is.free i was in
            record { from_one = free.from_one; within = omega (arith, free.within, one.counted); bare = one.others i other ∙ free.bare }

    named : (i : ℕ) (name : List ℕ) → IsSome (entry_of (dir_in dirs i).slots name) → IsSome (entry_of (dir_in t.dirs i).slots name)
    named i name some = by (cases_eq i k)
      where
        by : (i ≡ k) ⊎ (i ≢ k) → IsSome (entry_of (dir_in t.dirs i).slots name)
        by (inl at) = let none = ap (λ j. entry_of (slots_at freed j) name) at ∙ none_here name in let gone = subst IsSome none some in absurd cc
        by (inr other) = subst IsSome (same_else i other name) some

    apart_now : (i j b : ℕ) → i ≢ j → has_block (blocks_at freed i) b ≡ true → has_block (blocks_at freed j) b ≡ false
    apart_now i j b other has = false_from_ne_true (has_block (blocks_at freed j) b) (λ too.
        let here = has_else i b has in
        let there = has_else j b too in
        true≢false (sym there.1 ∙ is.apart i j b other here.1))

    extents_now : (i : ℕ) → length (extents_of (blocks_at freed i)) ≤ 56
    extents_now i = by (cases_eq i k)
      where
        by : (i ≡ k) ⊎ (i ≢ k) → length (extents_of (blocks_at freed i)) ≤ 56
        by (inl at) = let none = ap (λ (l : List ℕ). length (extents_of l)) (ap (blocks_at freed) at ∙ blocks_here) in omega (arith, none)
        by (inr other) = let same = ap (λ (l : List ℕ). length (extents_of l)) (blocks_else i other) in omega (arith, same, is.extents i)

    pub freed_table : IsDirTable freed
    freed_table = same_table t freed freed_met is one.counted in_use free_now named (record { apart = apart_now; extents = extents_now })
        (whole_one t freed k one is.whole (subst (λ (d : Directory). IsDirectory d) (sym cleared) whole_none))

    module _ (pool after : BlockSet) (apart : IsApart t pool) (given : after ≡ set.union pool (set.from_list (blocks_at t k))) where
      pub freed_apart : IsApart freed after
      freed_apart i b has =
          let was = has_else i b has in
          ap (λ (s : BlockSet). set.contains s b) given ∙ has-union pool (set.from_list (blocks_at t k)) b
          ∙ ap (λ (x : Bool). x || set.contains (set.from_list {R = nat_cmp} (blocks_at t k)) b) (apart i b was.1)
          ∙ listed-is (blocks_at t k) b ∙ is.apart i k b was.0 was.1

      pub frees : FreesInode t freed pool after k
      frees = record { free = inserted; blocks = blocks_here; pool = given; others = blocks_else }
