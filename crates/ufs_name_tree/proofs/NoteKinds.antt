-- What each inode is after a change.
use Rattle.std.proofs.Common.{◌≡◌, ◌≢◌, ℕ, ◌⊎◌, inl, inr, ◌||◌, ◌&&◌, not, eqb, List, Option, Some, None, IsSome, Bool, true, false, ap, sym, refl, ◌∙◌, arith}
use Rattle.std.specs.Prelude.{◌==◌, if◌then◌else◌}
use Rattle.std.specs.FinSet as set
use Rattle.std.proofs.lemmas.Bool.{cases_eq, true≢false}
use Rattle.std.proofs.lemmas.Bool.Decides.{nat_tests}
use Rattle.ufs_bitmap.specs.Blocks.{BlockSet}
use Rattle.ufs_bitmap.proofs.SetLemmas.{has-insert, has-remove}
use Rattle.ufs_dir_tree.specs.Space.{TakesLowest}
use Rattle.ufs_dir_tree.specs.DirTable.{InodeSet, IsUsed, inode_of, found_at}
use Rattle.ufs_dir_tree.specs.DirCalls.{SetsFound, IsUnmet, Frees}
use Rattle.ufs_dir_tree.specs.Steps.{with_kind}
use Rattle.ufs_dir_tree.specs.declared.found.Found.{Found}
use Rattle.ufs_dir_tree.specs.declared.found.Found.TheVariants.{Dir, File}
use Rattle.ufs_name_tree.specs.NameTable.{NameTable, IsNameTable, file_at}
use Rattle.ufs_name_tree.specs.Notes.{AreKindsOf}
use Rattle.ufs_name_tree.proofs.Founds.{IsMetIn, came_or_was}

kind_here : (i kind : ℕ) (kinds : ℕ → ℕ) (j : ℕ) → j ≡ i → with_kind i kind kinds j ≡ kind
kind_here i kind kinds j same = by (j == i) refl
  where
    by : (b : Bool) → (j == i) ≡ b → (if b then kind else kinds j) ≡ kind
    by true is = refl
    by false is = absurd (grind (arith, nat_tests, is, same))

kind_else : (i kind : ℕ) (kinds : ℕ → ℕ) (j : ℕ) → j ≢ i → with_kind i kind kinds j ≡ kinds j
kind_else i kind kinds j other = by (j == i) refl
  where
    by : (b : Bool) → (j == i) ≡ b → (if b then kind else kinds j) ≡ kinds j
    by true is = absurd (other (grind (arith, nat_tests, is)))
    by false is = refl

-- ---- a new inode

module _ (old new : NameTable) (kinds : ℕ → ℕ) (is : IsNameTable old) (are : AreKindsOf old kinds) (i : ℕ) (takes : TakesLowest old.dirs.free new.dirs.free i) where
  no_used : (j : ℕ) → IsUsed old.dirs j → j ≢ i
  no_used j used same = true≢false (sym takes.lowest.held ∙ ap (set.contains old.dirs.free) (sym same) ∙ used.used)

  both : (a b : Bool) → (a && b) ≡ true → (a ≡ true) × (b ≡ true)
  both true true e = (refl, refl)
  both true false e = absurd (cc)
  both false b e = absurd (cc)

  still_free : (kind j : ℕ) → set.contains new.dirs.free j ≡ true → with_kind i kind kinds j ≡ 0
  still_free kind j free =
      let held = both (not (eqb j i)) (set.contains old.dirs.free j) (sym (has-remove old.dirs.free i j) ∙ ap (λ (s : InodeSet). set.contains s j) (sym takes.left) ∙ free) in
      kind_else i kind kinds j (λ same. true≢false (sym held.0 ∙ ap (λ k. not (eqb k i)) same ∙ self i)) ∙ are.free j held.1
    where
      self : (k : ℕ) → not (eqb k k) ≡ false
      self k = grind (arith, nat_tests)

  pub kinds_of_dir : (path : List (List ℕ)) → SetsFound (found_at old.dirs) (found_at new.dirs) path (Some (Dir i)) → new.files ≡ old.files → AreKindsOf new (with_kind i 2 kinds)
  kinds_of_dir path sets files = record {
    dir = λ j names at. by j names (cases_eq j i) (came_or_was old.dirs new.dirs path names (Dir i) (Dir j) sets at);
    file = λ j f at.
        let was : file_at old j ≡ Some f = ap (λ (fs : List (Option ℕ)). file_at (record old { files = fs }) j) (sym files) ∙ at in
        kind_else i 2 kinds j (no_used j (is.used j f was)) ∙ are.file j f was;
    free = still_free 2;
  }
    where
      by : (j : ℕ) (names : List (List ℕ)) → (j ≡ i) ⊎ (j ≢ i) → (Dir i ≡ Dir j) ⊎ (found_at old.dirs names ≡ Some (Dir j)) → with_kind i 2 kinds j ≡ 2
      by j names (inl same) come = kind_here i 2 kinds j same
      by j names (inr other) (inl e) = let same : i ≡ j = cc in absurd (other (sym same))
      by j names (inr other) (inr was) = kind_else i 2 kinds j other ∙ are.dir j names was

  pub kinds_of_file : (path : List (List ℕ)) (file : ℕ) → SetsFound (found_at old.dirs) (found_at new.dirs) path (Some (File i)) → file_at new i ≡ Some file → ((j : ℕ) → j ≢ i → file_at new j ≡ file_at old j) → AreKindsOf new (with_kind i 1 kinds)
  kinds_of_file path file sets here others = record {
    dir = λ j names at. by j names (came_or_was old.dirs new.dirs path names (File i) (Dir j) sets at);
    file = λ j f at. of_file j f at (cases_eq j i);
    free = still_free 1;
  }
    where
      by : (j : ℕ) (names : List (List ℕ)) → (File i ≡ Dir j) ⊎ (found_at old.dirs names ≡ Some (Dir j)) → with_kind i 1 kinds j ≡ 2
      by j names (inl e) = absurd cc
      by j names (inr was) = kind_else i 1 kinds j (no_used j ((is.table).met names (Dir j) was)) ∙ are.dir j names was

      of_file : (j f : ℕ) → file_at new j ≡ Some f → (j ≡ i) ⊎ (j ≢ i) → with_kind i 1 kinds j ≡ 1
      of_file j f at (inl same) = kind_here i 1 kinds j same
      of_file j f at (inr other) = kind_else i 1 kinds j other ∙ are.file j f (sym (others j other) ∙ at)

-- ---- inodes that stay, or go

module _ (old new : NameTable) (kinds : ℕ → ℕ) (are : AreKindsOf old kinds) (dirs : (j : ℕ) → IsMetIn new.dirs (Dir j) → IsMetIn old.dirs (Dir j)) (files : (j f : ℕ) → file_at new j ≡ Some f → file_at old j ≡ Some f) where
  pub kinds_kept : new.dirs.free ≡ old.dirs.free → AreKindsOf new kinds
  kinds_kept same = record {
    dir = λ j names at. let met = dirs j (names, at) in are.dir j met.0 met.1;
    file = λ j f at. are.file j f (files j f at);
    free = λ j free. are.free j (ap (λ (s : InodeSet). set.contains s j) (sym same) ∙ free);
  }

  pub kinds_without : (i : ℕ) → new.dirs.free ≡ set.insert old.dirs.free i → ((j : ℕ) → IsMetIn new.dirs (Dir j) → j ≢ i) → ((j f : ℕ) → file_at new j ≡ Some f → j ≢ i) → AreKindsOf new (with_kind i 0 kinds)
  kinds_without i free no_dir no_file = record {
    dir = λ j names at. let met = dirs j (names, at) in kind_else i 0 kinds j (no_dir j (names, at)) ∙ are.dir j met.0 met.1;
    file = λ j f at. kind_else i 0 kinds j (no_file j f at) ∙ are.file j f (files j f at);
    free = λ j held. by j (cases_eq j i) (either (eqb j i) (set.contains old.dirs.free j) (sym (has-insert old.dirs.free i j) ∙ ap (λ (s : InodeSet). set.contains s j) (sym free) ∙ held));
  }
    where
      either : (a b : Bool) → (a || b) ≡ true → (a ≡ true) ⊎ (b ≡ true)
      either true b e = inl refl
      either false b e = inr e

      by : (j : ℕ) → (j ≡ i) ⊎ (j ≢ i) → (eqb j i ≡ true) ⊎ (set.contains old.dirs.free j ≡ true) → with_kind i 0 kinds j ≡ 0
      by j (inl same) held = kind_here i 0 kinds j same
      by j (inr other) (inl is) = absurd (other (grind (arith, nat_tests, is)))
      by j (inr other) (inr held) = kind_else i 0 kinds j other ∙ are.free j held

-- ---- by what stood at a name that went

abbrev pub kinds_after : Option Found → (ℕ → ℕ) → ℕ → ℕ
kinds_after (Some (Dir i)) kinds = with_kind i 0 kinds
kinds_after (Some (File i)) kinds = kinds
kinds_after None kinds = kinds

module _ (old new : NameTable) (kinds : ℕ → ℕ) (is : IsNameTable old) (are : AreKindsOf old kinds) (dirs : (j : ℕ) → IsMetIn new.dirs (Dir j) → IsMetIn old.dirs (Dir j)) (files : new.files ≡ old.files) (path : List (List ℕ)) where
  number_was : (j f : ℕ) → file_at new j ≡ Some f → file_at old j ≡ Some f
  number_was j f at = ap (λ (fs : List (Option ℕ)). file_at (record old { files = fs }) j) (sym files) ∙ at

  pub kinds_gone : (before after : BlockSet) (o : Option Found) → o ≡ found_at old.dirs path → ((f : Found) → found_at old.dirs path ≡ Some f → IsUnmet new.dirs (inode_of f)) → (IsSome o → Frees old.dirs new.dirs before after o) → (o ≡ None → new.dirs.free ≡ old.dirs.free)
      → AreKindsOf new (kinds_after o kinds)
  kinds_gone before after (Some (Dir i)) stood unmet frees same =
      let freed = frees refl in
      kinds_without old new kinds are dirs number_was i freed.free (λ j met. unmet (Dir i) (sym stood) met.0 (Dir j) met.1) (λ j f at e. is.no_dir j f path (number_was j f at) (sym stood ∙ ap (λ k. Some (Dir k)) (sym e)))
  kinds_gone before after (Some (File i)) stood unmet frees same = let none = frees refl in kinds_kept old new kinds are dirs number_was none.free
  kinds_gone before after None stood unmet frees same = kinds_kept old new kinds are dirs number_was (same refl)
