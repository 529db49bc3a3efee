-- An inode that is taken: nothing leads to it yet.
use Rattle.std.proofs.Common.{◌≡◌, ℕ, ◌&&◌, List, [], ◌∷◌, Some, true, false, not, eqb, ap, sym, refl, ◌∙◌, subst, arith}
use Rattle.std.specs.Option.{option_map}
use Rattle.std.specs.FinSet as set
use Rattle.std.proofs.lemmas.Bool.{and_parts, false_from_ne_true, true≢false}
use Rattle.ufs_dirs.specs.Directory.{Directory, entry_of}
use Rattle.ufs_bitmap.proofs.SetLemmas.{has-remove}
use Rattle.ufs_dir_tree.specs.Space.{TakesLowest}
use Rattle.ufs_dir_tree.specs.DirTable.{DirTable, InodeSet, IsDirTable, IsUsed, IsFree, no_dir, dir_at, found_of, inode_of, walk_from, found_at}
use Rattle.ufs_dir_tree.specs.DirCalls.{IsUnmet, found_as}
use Rattle.ufs_dir_tree.specs.DirEdits.{IsLoose, NothingFrom}
use Rattle.ufs_dir_tree.specs.declared.found.Found.{Found}
use Rattle.ufs_dir_tree.specs.declared.found.Found.TheVariants.{Dir}
use Rattle.ufs_dir_tree.specs.declared.found.Kind.{Kind}
use Rattle.ufs_dir_tree.specs.declared.found.Kind.TheVariants as kind
use Rattle.ufs_dir_tree.proofs.WalkLemmas.{walk_none}
use Rattle.ufs_dir_tree.proofs.WalkEdits.{walk-same}
use Rattle.ufs_dir_tree.proofs.SameWalks.{same_table}

module _ (t : DirTable) (from : Found) (bare : NothingFrom t (Some from)) where
  only_itself : (names : List (List ℕ)) (f : Found) → walk_from t (Some from) names ≡ Some f → (names ≡ []) × (from ≡ f)
  only_itself [] f at = (refl, cc)
  only_itself (x ∷ names) f at = let none = bare x names in absurd cc

  pub lone_loose : IsUsed t (inode_of from) → IsUnmet t (inode_of from) → IsLoose t from
  lone_loose used unmet = record {
    met = λ names f at. subst (λ (f : Found). IsUsed t (inode_of f)) (only_itself names f at).1 used;
    once = λ names others f g at too same. (only_itself names f at).0 ∙ sym (only_itself others g too).0;
    unmet = λ names others f g at met same. unmet others g met (sym same ∙ ap inode_of (sym (only_itself names f at).1));
  }

pub as_inode : (k : Kind) (i : ℕ) → inode_of (found_as k i) ≡ i
as_inode kind.File i = refl
as_inode kind.Dir i = refl

pub nothing_from : (t : DirTable) (k : Kind) (i : ℕ) → dir_at t i ≡ no_dir → NothingFrom t (Some (found_as k i))
nothing_from t kind.File i bare y ys = walk_none t ys
nothing_from t kind.Dir i bare y ys = ap (λ (d : Directory). walk_from t (option_map found_of (entry_of d.slots y)) ys) bare ∙ walk_none t ys

module _ (dirs : List Directory) (free left : InodeSet) (i : ℕ) (takes : TakesLowest free left i) (is : IsDirTable (record { dirs = dirs; free = free })) where
  abbrev before : DirTable
  before = record { dirs = dirs; free = free }

  abbrev taken : DirTable
  taken = record { dirs = dirs; free = left }

  left_at : (q : ℕ) → set.contains left q ≡ (not (eqb q i) && set.contains free q)
  left_at q = ap (λ (s : InodeSet). set.contains s q) takes.left ∙ has-remove free i q

  left_in : (q : ℕ) → set.contains left q ≡ true → (not (eqb q i) ≡ true) × (set.contains free q ≡ true)
  left_in q held = and_parts (not (eqb q i)) (set.contains free q) (sym (left_at q) ∙ held)

  still_used : (q : ℕ) → set.contains free q ≡ false → set.contains left q ≡ false
  still_used q used = false_from_ne_true (set.contains left q) (λ held. true≢false (sym (left_in q held).1 ∙ used))

  taken_used : set.contains left i ≡ false
  taken_used = false_from_ne_true (set.contains left i) (λ held. not_itself i (left_in i held).0)
    where
      not_itself : (n : ℕ) → not (eqb n n) ≡ true → ⊥
      not_itself n h = grind arith

  met_taken : (names : List (List ℕ)) → found_at taken names ≡ found_at before names
  met_taken names = walk-same before taken (λ j name. refl) (Some (Dir 1)) names

  free_taken : (q : ℕ) → set.contains left q ≡ true → IsFree taken q
  free_taken q held = let free = is.free q (left_in q held).1 in record { from_one = free.from_one; within = free.within; bare = free.bare }

  pub taken_table : IsDirTable taken
  taken_table =
      same_table before taken met_taken is refl
      (λ names f at. let used = is.met names f at in still_used (inode_of f) used.used)
      free_taken (λ j name some. some) (record { apart = is.apart; extents = is.extents }) is.whole

  unmet_taken : IsUnmet taken i
  unmet_taken names f at same =
      let used = is.met names f (sym (met_taken names) ∙ at) in
      true≢false (sym takes.lowest.held ∙ ap (set.contains free) (sym same) ∙ used.used)

  used_taken : IsUsed taken i
  used_taken = let free = is.free i takes.lowest.held in record { from_one = free.from_one; within = free.within; used = taken_used }

  pub taken_bare : (k : Kind) → NothingFrom taken (Some (found_as k i))
  taken_bare k = nothing_from taken k i (let free = is.free i takes.lowest.held in free.bare)

  pub taken_loose : (k : Kind) → IsLoose taken (found_as k i)
  taken_loose k = lone_loose taken (found_as k i) (taken_bare k) (subst (λ (j : ℕ). IsUsed taken j) (sym (as_inode k i)) used_taken) (subst (λ (j : ℕ). IsUnmet taken j) (sym (as_inode k i)) unmet_taken)
