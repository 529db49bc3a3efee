-- How many paths and descriptors there are of each file, and how many entries of each directory: so none is searched for.
use Rattle.std.specs.Prelude.{ℕ, List, Bool, ◌≡◌, true, unwrap_or, IsSome}
use Rattle.std.specs.BTreeMap.{is_at}
use Rattle.std.specs.List.{count_by}
use Rattle.std.specs.Map.{lookup, IsKeyTest, AreApart}
use Rattle.std.specs.Ordering.{nat_cmp}
use Rattle.std.specs.declared.alloc.Global.{Global}
use Rattle.std.specs.declared.vec.Vec.{Vec}
use Rattle.std.specs.FinMap as map
use Rattle.ufs_model.specs.Directories.{entry_count}
use Rattle.ufs_model.specs.Order.{path_cmp}
use Rattle.ufs_model.specs.Paths.{IsWhole}
use Rattle.ufs_model.specs.PosixTree.{Paths, Fds, stands, is_node_of, is_desc_of}
use Rattle.ufs_tree.specs.declared.counts.Counts.{Counts}

module _ {K : Type 0} where
  -- the count of the key that passes the test: none where there is no count
  abbrev pub count_at : (K → Bool) → Counts K → ℕ
  count_at test counts = unwrap_or (lookup test counts.entries.entries) 0

  -- there is a count
  abbrev pub IsCounted : (K → Bool) → Counts K → Type 0
  IsCounted test counts = IsSome (lookup test counts.entries.entries)

  -- each key but the test's has the count that it had
  abbrev pub KeepsCounts : (K → K → Bool) → (K → Bool) → Counts K → Counts K → Type 0
  KeepsCounts eq test old new = (other : K → Bool) → IsKeyTest eq other → AreApart test other → count_at other new ≡ count_at other old

abbrev pub CountsByFile : Type 0
CountsByFile = Counts ℕ

abbrev pub CountsByDir : Type 0
CountsByDir = Counts (Vec ℕ Global)

abbrev pub file_count : CountsByFile → ℕ → ℕ
file_count counts f = count_at (is_at (nat_cmp f)) counts

abbrev pub dir_count : CountsByDir → List ℕ → ℕ
dir_count counts dir = count_at (is_at (λ (k : Vec ℕ Global). path_cmp dir k.items)) counts

-- each file's count is that of its descriptors
abbrev pub IsCountedByDesc : Fds → CountsByFile → Type 0
IsCountedByDesc fds opens = (f : ℕ) → file_count opens f ≡ count_by (is_desc_of f) (map.values fds)

-- each directory's count is that of its entries, and each file's that of its paths
pub record IsCountedByPath (paths : Paths) (entries : CountsByDir) (links : CountsByFile) : Type 0 where
  pub whole : (path : List ℕ) → stands paths path ≡ true → IsWhole path
  pub entries_are : (dir : List ℕ) → dir_count entries dir ≡ entry_count paths dir
  pub links_are : (f : ℕ) → file_count links f ≡ count_by (is_node_of f) (map.values paths)
