-- A name that is moved to another path at which nothing stands.
use Rattle.std.proofs.Common.{◌≡◌, ℕ, List, [], ◌∷◌, ◌++◌, Some, None, subst, sym}
use Rattle.ufs_layout.specs.DentryForm.{DentryForm}
use Rattle.ufs_dirs.specs.Directory.{Directory, IsDirectory, entry_of}
use Rattle.ufs_path.specs.Names.{IsName}
use Rattle.ufs_dir_tree.specs.DirTable.{DirTable, IsDirTable, slots_at, found_of, found_at}
use Rattle.ufs_dir_tree.specs.DirCalls.{MayMove, MovesFounds, names_above}
use Rattle.ufs_dir_tree.specs.DirEdits.{SetsEntry, dir_in}
use Rattle.ufs_dir_tree.specs.declared.found.Found.TheVariants.{Dir}
use Rattle.ufs_dir_tree.proofs.WalkedTables.{as_table, walked, whole_one}
use Rattle.ufs_dir_tree.proofs.FoundEdits.{entry_absent}
use Rattle.ufs_dir_tree.proofs.MoveEdits.{ends_at, met2_g, absent2, moves_founds, moved_walked, moved_reached}

pub record MayPass (t : DirTable) (i j : ℕ) (from to : List (List ℕ)) : Type 0 where
  pub source : found_at t (names_above from) ≡ Some (Dir i)
  pub target : found_at t (names_above to) ≡ Some (Dir j)
  pub may : MayMove t from to
  pub absent : found_at t to ≡ None

module _ (t : DirTable) (i j : ℕ) (from to : List (List ℕ)) (passes : MayPass t i j from to) (is : IsDirTable t) (x y : List ℕ) (ends_x : from ≡ names_above from ++ x ∷ []) (ends_y : to ≡ names_above to ++ y ∷ []) (left : List Directory) (takes : SetsEntry t.dirs left i x None) where
  may_at : MayMove t (names_above from ++ x ∷ []) (names_above to ++ y ∷ [])
  may_at = ends_at t from to (names_above from) x (names_above to) y ends_x ends_y passes.may

  bare : entry_of (slots_at t j) y ≡ None
  bare = entry_absent t to (names_above to) y j ends_y passes.target passes.absent

  pub passed_target : found_at (record { dirs = left; free = t.free }) (names_above to) ≡ Some (Dir j)
  passed_target = met2_g t (names_above from) x (names_above to) y i j may_at passes.source passes.target (walked t is) bare left takes

  pub passed_absent : entry_of (dir_in left j).slots y ≡ None
  passed_absent = absent2 t (names_above from) x (names_above to) y i j may_at passes.source passes.target (walked t is) bare left takes

  module _ (e named : DentryForm) (was : entry_of (slots_at t i) x ≡ Some e) (same : found_of e ≡ found_of named) (given : List Directory) (gives : SetsEntry left given j y (Some named)) where
    abbrev passed : DirTable
    passed = record { dirs = given; free = t.free }

    pub passed_founds : MovesFounds (found_at t) (found_at passed) from to
    passed_founds = subst (λ (l : List (List ℕ)). MovesFounds (found_at t) (found_at passed) l to) (sym ends_x) (subst (λ (l : List (List ℕ)). MovesFounds (found_at t) (found_at passed) (names_above from ++ x ∷ []) l) (sym ends_y)
        (moves_founds t (names_above from) x (names_above to) y i j may_at passes.source passes.target (walked t is) bare left takes e named was same given gives))

    pub passed_table : IsName y → IsDirectory (dir_in left i) → IsDirectory (dir_in given j) → IsDirTable passed
    passed_table allowed whole_left whole_given =
        let between : DirTable = record { dirs = left; free = t.free } in
        as_table passed (moved_walked t (names_above from) x (names_above to) y i j may_at passes.source passes.target (walked t is) bare left takes e named was same given gives allowed)
        (whole_one between passed j gives.one (whole_one t between i takes.one is.whole whole_left) whole_given)
        (moved_reached t (names_above from) x (names_above to) y i j may_at passes.source passes.target (walked t is) bare left takes e named was same given gives is.reached)
