-- A directory that took a block, or none.
use Rattle.std.proofs.Common.{◌≡◌, ℕ, ◌<◌, ◌≤◌, List, length, set, Option, Some, None, Result, Ok, Err, OnOk, ap, ◌∙◌, subst}
use Rattle.std.specs.Prelude.{IfOk, IfSome, IfNone}
use Rattle.std.proofs.lemmas.List.{get_or-set_same}
use Rattle.ufs_bitmap.specs.Blocks.{BlockSet}
use Rattle.ufs_dirs.specs.Directory.{Directory}
use Rattle.ufs_dir_tree.specs.Space.{TakesLowest, extents_of}
use Rattle.ufs_dir_tree.specs.DirTable.{DirTable, InodeSet, IsMet, no_dir}
use Rattle.ufs_dir_tree.specs.DirEdits.{ChangesOne, IsSized, KeepsPlaces, dir_in}
use Rattle.ufs_dir_tree.specs.Steps.{GoesBy, grown, growing}
use Rattle.ufs_dir_tree.proofs.StepLemmas.{goes_nowhere}
use Rattle.ufs_dir_tree.proofs.MadeSteps.{grown_made}
use Rattle.ufs_dir_tree.proofs.PlaceLemmas.{places_same, places_grown}

module _ (dirs new : List Directory) (free : InodeSet) (p : ℕ) (there : p < length dirs) where
  abbrev before : DirTable
  before = record { dirs = dirs; free = free }

  abbrev behind : DirTable
  behind = record { dirs = new; free = free }

  IsGrown : ℕ → Type 0
  IsGrown b = new ≡ set dirs p (grown b (dir_in dirs p))

  grown_here : (b : ℕ) → new ≡ set dirs p (grown b (dir_in dirs p)) → dir_in new p ≡ grown b (dir_in dirs p)
  grown_here b at = ap (λ (l : List Directory). dir_in l p) at ∙ get_or-set_same dirs p (grown b (dir_in dirs p)) no_dir there

  module _ {E : Type 0} where
    pub room_steps : (pool after : BlockSet) → IsMet before p → length (extents_of (dir_in new p).blocks) ≤ 56 → (r : Result (Option ℕ) E)
        → IfOk r (λ g. IfNone g (new ≡ dirs)) → IfOk r (λ g. IfNone g (after ≡ pool)) → IfOk r (λ g. IfSome g (λ b. new ≡ set dirs p (grown b (dir_in dirs p)))) → IfOk r (λ g. IfSome g (TakesLowest pool after))
        → IfOk r (λ g. GoesBy before behind pool after (growing p g))
    room_steps pool after met few (Ok None) kept pool_kept at taken = goes_nowhere before behind pool after (ap (λ (l : List Directory). record { dirs = l; free = free }) kept) pool_kept
    room_steps pool after met few (Ok (Some b)) kept pool_kept at taken =
        grown_made before behind p b pool after met taken (subst (λ (d : Directory). length (extents_of d.blocks) ≤ 56) (grown_here b at) few) (ap (λ (l : List Directory). record { dirs = l; free = free }) at)
    room_steps pool after met few (Err e) kept pool_kept at taken = tt

    pub room_places : ChangesOne dirs new p → IsSized (dir_in dirs p) → (r : Result (Option ℕ) E) → IfOk r (λ g. IfNone g (new ≡ dirs)) → IfOk r (λ g. IfSome g (λ b. new ≡ set dirs p (grown b (dir_in dirs p)))) → OnOk r (KeepsPlaces dirs new)
    room_places one sized (Ok None) kept at = places_same dirs new kept
    room_places one sized (Ok (Some b)) kept at = places_grown dirs new p b sized one (grown_here b at)
    room_places one sized (Err e) kept at = tt
