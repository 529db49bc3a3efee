-- What is true of a table while a name is on its way: what stood below it isn't met.
use Rattle.std.proofs.Common.{◌≡◌, ◌≢◌, ℕ, ◌<◌, ◌≤◌, ◌⊎◌, inl, inr, List, [], Some, IsSome, length, true, false, sym, refl, subst}
use Rattle.std.specs.FinSet as set
use Rattle.std.proofs.lemmas.Bool.{cases_eq}
use Rattle.ufs_dirs.specs.Directory.{Directory, IsDirectory, entry_of, has_block}
use Rattle.ufs_dirs.proofs.KeptLemmas.{kept_none}
use Rattle.ufs_path.specs.Names.{IsName}
use Rattle.ufs_dir_tree.specs.Space.{extents_of}
use Rattle.ufs_dir_tree.specs.DirTable.{DirTable, IsDirTable, IsReached, IsUsed, IsFree, no_dir, dir_at, slots_at, blocks_at, inode_of, found_at}
use Rattle.ufs_dir_tree.specs.DirEdits.{ChangesOne, dir_in}
use Rattle.ufs_dir_tree.specs.declared.found.Found.{Found}

-- what is true of every table, but that its directories are whole and reached
pub record IsWalked (t : DirTable) : Type 0 where
  pub root : 1 < length t.dirs
  pub met : (names : List (List ℕ)) (f : Found) → found_at t names ≡ Some f → IsUsed t (inode_of f)
  pub once : (names others : List (List ℕ)) (f g : Found) → found_at t names ≡ Some f → found_at t others ≡ Some g → inode_of f ≡ inode_of g → names ≡ others
  pub free : (i : ℕ) → set.contains t.free i ≡ true → IsFree t i
  pub names : (i : ℕ) (name : List ℕ) → IsSome (entry_of (slots_at t i) name) → IsName name
  pub apart : (i j b : ℕ) → i ≢ j → has_block (blocks_at t i) b ≡ true → has_block (blocks_at t j) b ≡ false
  pub extents : (i : ℕ) → length (extents_of (blocks_at t i)) ≤ 56

pub walked : (t : DirTable) → IsDirTable t → IsWalked t
walked t is = record { root = is.root; met = is.met; once = is.once; free = is.free; names = is.names; apart = is.apart; extents = is.extents }

abbrev pub AreWhole : DirTable → Type 0
AreWhole t = (i : ℕ) → IsDirectory (dir_at t i)

pub as_table : (t : DirTable) → IsWalked t → AreWhole t → IsReached t → IsDirTable t
as_table t is whole reached = record { root = is.root; met = is.met; once = is.once; free = is.free; names = is.names; apart = is.apart; extents = is.extents; whole = whole; reached = reached }

pub whole_none : IsDirectory no_dir
whole_none = let none = kept_none [] [] [] [] refl refl refl refl in none.directory

-- where only one directory changed
pub whole_one : (t new : DirTable) (p : ℕ) → ChangesOne t.dirs new.dirs p → AreWhole t → IsDirectory (dir_in new.dirs p) → AreWhole new
whole_one t new p one whole here i = by (cases_eq i p)
  where
    by : (i ≡ p) ⊎ (i ≢ p) → IsDirectory (dir_at new i)
    by (inl at) = subst (λ (j : ℕ). IsDirectory (dir_at new j)) (sym at) here
    by (inr other) = subst (λ (d : Directory). IsDirectory d) (sym (one.others i other)) (whole i)
