-- What walks meet once a name of one directory stands for something else.
use Rattle.std.proofs.Common.{◌≡◌, ◌≢◌, ℕ, ◌≤◌, ◌⊎◌, inl, inr, List, [], ◌∷◌, ◌++◌, Option, Some, IsSome, length, true, ap, sym, ◌∙◌, subst, arith, append_assoc}
use Rattle.std.specs.Option.{option_map}
use Rattle.std.specs.FinSet as set
use Rattle.std.proofs.lemmas.Bool.{cases_eq}
use Rattle.ufs_layout.specs.DentryForm.{DentryForm}
use Rattle.ufs_dirs.specs.Directory.{Directory, entry_of, has_block}
use Rattle.ufs_path.specs.Names.{IsName}
use Rattle.ufs_dir_tree.specs.Space.{extents_of}
use Rattle.ufs_dir_tree.specs.DirTable.{DirTable, IsUsed, IsFree, slots_at, blocks_at, found_of, inode_of, step, walk_from, found_at}
use Rattle.ufs_dir_tree.specs.DirEdits.{SetsEntry}
use Rattle.ufs_dir_tree.specs.declared.found.Found.{Found}
use Rattle.ufs_dir_tree.specs.declared.found.Found.TheVariants.{Dir}
use Rattle.ufs_dir_tree.proofs.Prefixes.{NotBegins, one_name, no_more}
use Rattle.ufs_dir_tree.proofs.WalkLemmas.{walk-append}
use Rattle.ufs_dir_tree.proofs.WalkEdits.{met_off}
use Rattle.ufs_dir_tree.proofs.WalkedTables.{IsWalked}

module _ (t : DirTable) (dirs : List Directory) (p : ℕ) (x : List ℕ) (w : Option DentryForm) (sets : SetsEntry t.dirs dirs p x w) where
  abbrev pub edited : DirTable
  edited = record { dirs = dirs; free = t.free }

  pub step-here : step edited (Some (Dir p)) x ≡ option_map found_of w
  step-here = ap (option_map found_of) sets.names.this

  pub entry-else : (i : ℕ) (name : List ℕ) → (i ≡ p → name ≢ x) → entry_of (slots_at edited i) name ≡ entry_of (slots_at t i) name
  entry-else i name off = by (cases_eq i p)
    where
      by : (i ≡ p) ⊎ (i ≢ p) → entry_of (slots_at edited i) name ≡ entry_of (slots_at t i) name
      by (inl here) = subst (λ j. entry_of (slots_at edited j) name ≡ entry_of (slots_at t j) name) (sym here) (sets.names.others name (off here))
      by (inr other) = ap (λ (d : Directory). entry_of d.slots name) (sets.one.others i other)

  pub step-else : (i : ℕ) (name : List ℕ) → (i ≡ p → name ≢ x) → step edited (Some (Dir i)) name ≡ step t (Some (Dir i)) name
  step-else i name off = ap (option_map found_of) (entry-else i name off)

  -- a name that stands for something now is the one, or stood for something before
  pub entry_was : (i : ℕ) (name : List ℕ) → IsSome (entry_of (slots_at edited i) name) → ((i ≡ p) × (name ≡ x)) ⊎ IsSome (entry_of (slots_at t i) name)
  entry_was i name some = by (cases_eq i p) (one_name name x)
    where
      was : (i ≡ p → name ≢ x) → IsSome (entry_of (slots_at t i) name)
      was off = subst IsSome (entry-else i name off) some

      by : (i ≡ p) ⊎ (i ≢ p) → (name ≡ x) ⊎ (name ≢ x) → ((i ≡ p) × (name ≡ x)) ⊎ IsSome (entry_of (slots_at t i) name)
      by (inl at) (inl same) = inl (at, same)
      by (inl at) (inr other) = inr (was (λ _. other))
      by (inr apart) same = inr (was (λ at. absurd (apart at)))

  -- each directory has the blocks that it had
  pub blocks-same : (i : ℕ) → blocks_at edited i ≡ blocks_at t i
  blocks-same i = by (cases_eq i p)
    where
      by : (i ≡ p) ⊎ (i ≢ p) → blocks_at edited i ≡ blocks_at t i
      by (inl at) = subst (λ j. blocks_at edited j ≡ blocks_at t j) (sym at) sets.blocks
      by (inr other) = ap (λ (d : Directory). d.blocks) (sets.one.others i other)

  pub used-same : (i : ℕ) → IsUsed t i → IsUsed edited i
  used-same i u = record { from_one = u.from_one; within = omega (arith, u.within, sets.one.counted); used = u.used }

  module _ (is : IsWalked t) (above : List (List ℕ)) (met : found_at t above ≡ Some (Dir p)) where
    abbrev pub here : List (List ℕ)
    here = above ++ x ∷ []

    -- a walk that doesn't begin with these names
    pub met_else : (names : List (List ℕ)) → NotBegins here names → found_at edited names ≡ found_at t names
    met_else names off = met_off t edited p x entry-else is above met names off

    pub above_met : found_at edited above ≡ Some (Dir p)
    above_met = met_else above (λ rest. no_more above x rest) ∙ met

    -- a walk that does
    pub met_below : (rest : List (List ℕ)) → found_at edited (here ++ rest) ≡ walk_from edited (option_map found_of w) rest
    met_below rest =
        ap (found_at edited) (append_assoc above (x ∷ []) rest)
        ∙ walk-append edited (Some (Dir 1)) above (x ∷ rest)
        ∙ ap (λ at. walk_from edited at (x ∷ rest)) above_met
        ∙ ap (λ at. walk_from edited at rest) step-here

    -- what it met before
    pub met_before : (e : Option DentryForm) → entry_of (slots_at t p) x ≡ e → (rest : List (List ℕ)) → found_at t (here ++ rest) ≡ walk_from t (option_map found_of e) rest
    met_before e stood rest =
        ap (found_at t) (append_assoc above (x ∷ []) rest)
        ∙ walk-append t (Some (Dir 1)) above (x ∷ rest)
        ∙ ap (λ at. walk_from t at (x ∷ rest)) met
        ∙ ap (λ e. walk_from t (option_map found_of e) rest) stood

    -- ---- what stays true

    pub names_kept : (IsSome w → IsName x) → (i : ℕ) (name : List ℕ) → IsSome (entry_of (slots_at edited i) name) → IsName name
    names_kept allowed i name some = by (cases_eq i p) (one_name name x)
      where
        other : (i ≡ p → name ≢ x) → IsName name
        other off = is.names i name (subst IsSome (entry-else i name off) some)

        by : (i ≡ p) ⊎ (i ≢ p) → (name ≡ x) ⊎ (name ≢ x) → IsName name
        by (inr apart) same = other (λ at. absurd (apart at))
        by (inl at) (inr apart) = other (λ _. apart)
        by (inl at) (inl same) =
            let found : entry_of (slots_at edited i) name ≡ w = (λ k. entry_of (slots_at edited (at k)) (same k)) ∙ sets.names.this in
            subst IsName (sym same) (allowed (subst IsSome found some))

    -- the directory whose name it is isn't free
    not_free : (i : ℕ) → set.contains t.free i ≡ true → i ≢ p
    not_free i held at = let used = is.met above (Dir p) met in let free = ap (set.contains t.free) (sym at) ∙ held in let in_use = used.used in cc

    pub free_kept : (i : ℕ) → set.contains t.free i ≡ true → IsFree edited i
    free_kept i held =
        let free = is.free i held in
        record {
          from_one = free.from_one;
          within = omega (arith, free.within, sets.one.counted);
          bare = sets.one.others i (not_free i held) ∙ free.bare;
        }

    -- where what is met has inodes in use, each by one walk
    pub edited_table : (IsSome w → IsName x) → ((names : List (List ℕ)) (f : Found) → found_at edited names ≡ Some f → IsUsed t (inode_of f))
        → ((names others : List (List ℕ)) (f g : Found) → found_at edited names ≡ Some f → found_at edited others ≡ Some g → inode_of f ≡ inode_of g → names ≡ others) → IsWalked edited
    edited_table allowed used once = record {
      root = omega (arith, is.root, sets.one.counted);
      met = λ names f at. used-same (inode_of f) (used names f at);
      once = once;
      free = free_kept;
      names = names_kept allowed;
      apart = λ i j b other has. ap (λ (l : List ℕ). has_block l b) (blocks-same j) ∙ is.apart i j b other (ap (λ (l : List ℕ). has_block l b) (sym (blocks-same i)) ∙ has);
      extents = λ i. subst (λ (l : List ℕ). length (extents_of l) ≤ 56) (sym (blocks-same i)) (is.extents i);
    }
