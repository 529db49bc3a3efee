-- The table of the root alone.
use Rattle.std.proofs.Common.{◌≡◌, ◌≢◌, ℕ, ◌<◌, ◌+◌, ◌-◌, List, [], ◌∷◌, length, Some, None, ap, sym, refl, ◌∙◌, subst, arith}
use Rattle.std.specs.Option.{option_map}
use Rattle.std.specs.FinSet as set
use Rattle.ufs_dirs.specs.Directory.{Directory, IsDirectory, entry_of, has_block}
use Rattle.std.proofs.lemmas.Bool.{true≢false}
use Rattle.ufs_bitmap.specs.Blocks.{BlockSet}
use Rattle.ufs_dir_tree.specs.DirCalls.{IsApart}
use Rattle.ufs_extent.specs.Runs.{blocks_from}
use Rattle.ufs_bitmap.proofs.SetLemmas.{has-blocks_between, has-blocks_from, between_below}
use Rattle.ufs_dir_tree.specs.Space.{extents_of}
use Rattle.ufs_dir_tree.specs.DirTable.{DirTable, InodeSet, IsDirTable, IsUsed, no_dir, dir_at, slots_at, walk_from, found_at, found_of, inode_of}
use Rattle.ufs_dir_tree.specs.declared.found.Found.{Found}
use Rattle.ufs_dir_tree.specs.declared.found.Found.TheVariants.{Dir}
use Rattle.ufs_dir_tree.proofs.WalkLemmas.{walk_none}
use Rattle.ufs_dir_tree.proofs.WalkedTables.{whole_none}

module _ (t : DirTable) (bare : (i : ℕ) → dir_at t i ≡ no_dir) where
  no_entry : (i : ℕ) (name : List ℕ) → entry_of (slots_at t i) name ≡ None
  no_entry i name = ap (λ (d : Directory). entry_of d.slots name) (bare i)

  pub nothing_below : (name : List ℕ) (names : List (List ℕ)) → found_at t (name ∷ names) ≡ None
  nothing_below name names = ap (λ o. walk_from t (option_map found_of o) names) (no_entry 1 name) ∙ walk_none t names

  pub nothing_else : (names : List (List ℕ)) → names ≢ [] → found_at t names ≡ None
  nothing_else [] h = absurd (h refl)
  nothing_else (name ∷ names) h = nothing_below name names

  met : (names : List (List ℕ)) (f : Found) → found_at t names ≡ Some f → (names ≡ []) × (f ≡ Dir 1)
  met [] f e = (refl, let same : Some (Dir 1) ≡ Some f = e in cc)
  met (name ∷ names) f e = let none = nothing_below name names in absurd cc

  pub first_is_table : (size : ℕ) → 1 < size → length t.dirs ≡ size → t.free ≡ set.from_list (blocks_from 2 (size - 2)) → IsDirTable t
  first_is_table size some counted free = record {
    root = omega arith;
    met = λ names f e. subst (λ (i : ℕ). IsUsed t i) (sym (ap inode_of (met names f e).1)) (record { from_one = omega arith; within = omega arith; used = ap (λ (s : InodeSet). set.contains s 1) free ∙ has-blocks_from 2 (size - 2) 1 ∙ between_below 2 (2 + (size - 2)) 1 (omega arith) });
    once = λ names others f g e e' same. (met names f e).0 ∙ sym (met others g e').0;
    free = λ i held. let range = has-blocks_between 2 size i (ap (λ (s : InodeSet). set.contains s i) (sym free) ∙ held) in record { from_one = omega arith; within = omega arith; bare = bare i };
    names = λ i name some. let none = no_entry i name in absurd cc;
    apart = λ i j b other has. ap (λ (d : Directory). has_block d.blocks b) (bare j);
    whole = λ i. subst (λ (d : Directory). IsDirectory d) (sym (bare i)) whole_none;
    reached = λ i name some. let none = no_entry i name in absurd cc;
    extents = λ i. let none = ap (λ (d : Directory). length (extents_of d.blocks)) (bare i) in omega (arith, none);
  }

  -- no block is a directory's
  pub nothing_apart : (pool : BlockSet) → IsApart t pool
  nothing_apart pool i b has = let none = ap (λ (d : Directory). has_block d.blocks b) (bare i) in absurd (true≢false (sym has ∙ none))
