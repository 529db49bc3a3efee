-- Tables whose walks meet what they met.
use Rattle.std.proofs.Common.{◌≡◌, ◌≢◌, ℕ, ◌≤◌, ◌⊎◌, inl, inr, List, Some, IsSome, length, true, false, ap, sym, ◌∙◌, subst, arith}
use Rattle.std.specs.FinSet as set
use Rattle.std.proofs.lemmas.Bool.{cases_eq}
use Rattle.ufs_dirs.specs.Directory.{Directory, entry_of, has_block}
use Rattle.ufs_dir_tree.specs.Space.{extents_of}
use Rattle.ufs_dir_tree.specs.DirTable.{DirTable, IsDirTable, IsUsed, IsFree, blocks_at, inode_of, found_at}
use Rattle.ufs_dir_tree.specs.DirEdits.{RoomsIn, SameEntries, dir_in}
use Rattle.ufs_dir_tree.specs.declared.found.Found.{Found}
use Rattle.ufs_dir_tree.specs.declared.found.Found.TheVariants.{Dir}
use Rattle.ufs_dir_tree.proofs.WalkEdits.{walk-same}
use Rattle.ufs_dir_tree.proofs.WalkedTables.{AreWhole}

-- what is true of the blocks of directories
pub record AreKept (t : DirTable) : Type 0 where
  pub apart : (i j b : ℕ) → i ≢ j → has_block (blocks_at t i) b ≡ true → has_block (blocks_at t j) b ≡ false
  pub extents : (i : ℕ) → length (extents_of (blocks_at t i)) ≤ 56

-- a table with as many inodes, of which what is met is used
module _ (t new : DirTable) (met_same : (names : List (List ℕ)) → found_at new names ≡ found_at t names) (is : IsDirTable t) (counted : length new.dirs ≡ length t.dirs) where
  pub met_alike : ((names : List (List ℕ)) (f : Found) → found_at t names ≡ Some f → set.contains new.free (inode_of f) ≡ false) → (names : List (List ℕ)) (f : Found) → found_at new names ≡ Some f → IsUsed new (inode_of f)
  met_alike in_use names f at =
      let met : found_at t names ≡ Some f = sym (met_same names) ∙ at in
      let used = is.met names f met in
      record { from_one = used.from_one; within = omega (arith, used.within, counted); used = in_use names f met }

  pub same_table : ((names : List (List ℕ)) (f : Found) → found_at t names ≡ Some f → set.contains new.free (inode_of f) ≡ false) → ((i : ℕ) → set.contains new.free i ≡ true → IsFree new i)
      → ((i : ℕ) (name : List ℕ) → IsSome (entry_of (dir_in new.dirs i).slots name) → IsSome (entry_of (dir_in t.dirs i).slots name)) → AreKept new → AreWhole new → IsDirTable new
  same_table in_use free named kept whole = record {
    root = omega (arith, is.root, counted);
    met = met_alike in_use;
    once = λ names others f g at too same. is.once names others f g (sym (met_same names) ∙ at) (sym (met_same others) ∙ too) same;
    free = free;
    names = λ i name some. is.names i name (named i name some);
    apart = kept.apart;
    extents = kept.extents;
    whole = whole;
    reached = λ i name some. let was = is.reached i name (named i name some) in (was.0, met_same was.0 ∙ was.1);
  }

-- ---- more free slots

module _ (t : DirTable) (dirs : List Directory) (p : ℕ) (rooms : RoomsIn t.dirs dirs p) where
  pub same_rooms : SameEntries t.dirs dirs
  same_rooms i name = by (cases_eq i p)
    where
      by : (i ≡ p) ⊎ (i ≢ p) → entry_of (dir_in dirs i).slots name ≡ entry_of (dir_in t.dirs i).slots name
      by (inl at) = subst (λ j. entry_of (dir_in dirs j).slots name ≡ entry_of (dir_in t.dirs j).slots name) (sym at) (rooms.names name)
      by (inr other) = ap (λ (d : Directory). entry_of d.slots name) (rooms.one.others i other)

  abbrev roomy : DirTable
  roomy = record { dirs = dirs; free = t.free }

  -- where what the one directory is met by is a walk, it isn't free
  pub rooms_table : IsDirTable t → (above : List (List ℕ)) → found_at t above ≡ Some (Dir p) → AreKept roomy → AreWhole roomy → IsDirTable roomy
  rooms_table is above met kept whole =
      same_table t roomy (walk-same t roomy same_rooms (Some (Dir 1))) is rooms.one.counted
      (λ names f at. let used = is.met names f at in used.used)
      (λ i held. let free = is.free i held in record {
        from_one = free.from_one;
        within = omega (arith, free.within, rooms.one.counted);
        bare = rooms.one.others i (λ at. let used = is.met above (Dir p) met in let in_use = used.used in let held = ap (set.contains t.free) (sym at) ∙ held in cc) ∙ free.bare;
      })
      (λ i name some. subst IsSome (same_rooms i name) some)
      kept whole
