-- Each call leaves a table.
use Rattle.std.proofs.Common.{◌≡◌, ℕ, ◌⊎◌, inl, inr, List, Option, Some, None, IsSome, length, true, ap, sym, refl, ◌∙◌}
use Rattle.std.specs.FinSet as set
use Rattle.ufs_bitmap.specs.Blocks.{BlockSet}
use Rattle.ufs_dir_tree.specs.Space.{TakesLowest}
use Rattle.ufs_dir_tree.specs.DirTable.{DirTable, IsDirTable, blocks_at, found_at}
use Rattle.ufs_dir_tree.specs.DirCalls.{SetsFound, MovesFounds, SpendsBlock, Frees}
use Rattle.ufs_dir_tree.specs.declared.found.Found.{Found}
use Rattle.ufs_dir_tree.specs.declared.found.Found.TheVariants.{Dir, File}
use Rattle.ufs_name_tree.specs.NameTable.{NameTable, IsNameTable, file_at}
use Rattle.ufs_name_tree.proofs.Founds.{IsMetIn, came_or_was, was_left, was_moved}
use Rattle.ufs_name_tree.proofs.KeptFiles.{IsAsBefore, kept_files, freed, still_used}

module _ (t : NameTable) (dirs : DirTable) (is : IsNameTable t) (table : IsDirTable dirs) (inodes : length dirs.dirs ≡ length t.dirs.dirs) where
  -- the same files over other directories
  abbrev over : NameTable
  over = record { dirs = dirs; files = t.files; noted = t.noted; lost = t.lost }

  counted_over : length over.files ≡ length over.dirs.dirs
  counted_over = is.counted ∙ sym inodes

  named_if_met : ((f : Found) → IsMetIn dirs f → IsMetIn t.dirs f) → (names : List (List ℕ)) (i : ℕ) → found_at dirs names ≡ Some (File i) → IsSome (file_at t i)
  named_if_met was names i at = let met = was (File i) (names, at) in is.named met.0 i met.1

  -- nothing is met that wasn't
  nothing_came : ((f : Found) → IsMetIn dirs f → IsMetIn t.dirs f) → ((i f : ℕ) → file_at t i ≡ Some f → IsAsBefore t.dirs dirs i) → IsNameTable over
  nothing_came was same = kept_files t over is table counted_over inodes (λ i f at. at) (named_if_met was) (λ i met. inl (was (Dir i) met)) same

  pub removed : (path : List (List ℕ)) (before after : BlockSet) → SetsFound (found_at t.dirs) (found_at dirs) path None → Frees t.dirs dirs before after (found_at t.dirs path) → IsNameTable over
  removed path before after sets frees =
      nothing_came (λ f met. was_left t.dirs dirs path met.0 f sets met.1)
      (λ i f at. freed t.dirs dirs before after (found_at t.dirs path) frees i (is.no_dir i f path at))

  -- a directory that got a block is no file
  spent : (names : List (List ℕ)) (before after : BlockSet) → SpendsBlock t.dirs dirs before after names → (i f : ℕ) → file_at t i ≡ Some f → blocks_at dirs i ≡ blocks_at t.dirs i
  spent names before after spends i f at = spends.others i (is.no_dir i f names at)

  renamed_over : (above to : List (List ℕ)) (before after : BlockSet) (o : Option Found) → o ≡ found_at t.dirs to → (IsSome o → Frees t.dirs dirs before after o) → (o ≡ None → SpendsBlock t.dirs dirs before after above) → (o ≡ None → dirs.free ≡ t.dirs.free)
      → (i f : ℕ) → file_at t i ≡ Some f → IsAsBefore t.dirs dirs i
  renamed_over above to before after (Some w) e frees spends free i f at = freed t.dirs dirs before after (Some w) (frees refl) i (λ here. is.no_dir i f to at (sym e ∙ here))
  renamed_over above to before after None e frees spends free i f at = record {
    used = λ used. ap (λ (s : BlockSet). set.contains s i) (free refl) ∙ used;
    blocks = spent above before after (spends refl) i f at;
  }

  pub renamed : (from to above : List (List ℕ)) (before after : BlockSet) → MovesFounds (found_at t.dirs) (found_at dirs) from to → (IsSome (found_at t.dirs to) → Frees t.dirs dirs before after (found_at t.dirs to))
      → (found_at t.dirs to ≡ None → SpendsBlock t.dirs dirs before after above) → (found_at t.dirs to ≡ None → dirs.free ≡ t.dirs.free) → IsNameTable over
  renamed from to above before after moves frees spends free =
      nothing_came (λ f met. was_moved t.dirs dirs from to met.0 f moves met.1)
      (renamed_over above to before after (found_at t.dirs to) refl frees spends free)

  -- ---- a new inode

  module _ (path above : List (List ℕ)) (before after : BlockSet) (i : ℕ) (takes : TakesLowest t.dirs.free dirs.free i) (spends : SpendsBlock t.dirs dirs before after above) where
    as_before : (j f : ℕ) → file_at t j ≡ Some f → IsAsBefore t.dirs dirs j
    as_before j f at = record { used = still_used t.dirs.free dirs.free j i takes; blocks = spent above before after spends j f at }

    pub added_dir : SetsFound (found_at t.dirs) (found_at dirs) path (Some (Dir i)) → IsNameTable over
    added_dir sets = kept_files t over is table counted_over inodes (λ j f at. at) named_then dirs_were as_before
      where
        named_then : (names : List (List ℕ)) (j : ℕ) → found_at dirs names ≡ Some (File j) → IsSome (file_at t j)
        named_then names j at = by (came_or_was t.dirs dirs path names (Dir i) (File j) sets at)
          where
            by : (Dir i ≡ File j) ⊎ (found_at t.dirs names ≡ Some (File j)) → IsSome (file_at t j)
            by (inl e) = absurd cc
            by (inr was) = is.named names j was

        dirs_were : (j : ℕ) → IsMetIn dirs (Dir j) → IsMetIn t.dirs (Dir j) ⊎ (set.contains t.dirs.free j ≡ true)
        dirs_were j met = by (came_or_was t.dirs dirs path met.0 (Dir i) (Dir j) sets met.1)
          where
            by : (Dir i ≡ Dir j) ⊎ (found_at t.dirs met.0 ≡ Some (Dir j)) → IsMetIn t.dirs (Dir j) ⊎ (set.contains t.dirs.free j ≡ true)
            by (inl e) = let same : i ≡ j = cc in inr (ap (set.contains t.dirs.free) (sym same) ∙ takes.lowest.held)
            by (inr was) = inl (met.0, was)
