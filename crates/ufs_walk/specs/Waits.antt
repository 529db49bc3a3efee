-- What a walk has still to note, by the directories that were read.
use Rattle.std.specs.Prelude.{ℕ, zero, suc, List, [], ◌∷◌, ◌++◌, Option, Some, None, flat_map}
use Rattle.std.specs.List.{slice_get}
use Rattle.std.specs.Ordering.{nat_cmp}
use Rattle.std.specs.BTreeMap.{BTreeMap, get}
use Rattle.ufs_image.specs.Nodes.{Dir, NamedSlot, names_of}
use Rattle.ufs_walk.specs.Walked.{Place, place_and_below}
use Rattle.ufs_walk.specs.declared.turns.Waiting.{Waiting}

abbrev pub names_of_dir : Option Dir → List NamedSlot
names_of_dir None = []
names_of_dir (Some d) = names_of d

abbrev pub names_found : List Dir → Option ℕ → List NamedSlot
names_found dirs None = []
names_found dirs (Some place) = names_of_dir (slice_get dirs place)

-- the names in an inode's directory; none in what is no directory
abbrev pub names_at : List Dir → BTreeMap ℕ ℕ → ℕ → List NamedSlot
names_at dirs index inode = names_found dirs (get nat_cmp index inode)

-- what stands below a directory with this path, at most so deep
abbrev pub below_in : ℕ → List Dir → BTreeMap ℕ ℕ → List ℕ → ℕ → List Place
below_in zero dirs index path inode = []
below_in (suc depth) dirs index path inode = flat_map (place_and_below (below_in depth dirs index) path) (names_at dirs index inode)

-- what waits, and what stands below it: the last in the list comes first
abbrev pub left : List Dir → BTreeMap ℕ ℕ → List Waiting → List Place
left dirs index [] = []
left dirs index (w ∷ ws) = left dirs index ws ++ (w.path.items, w.inode) ∷ below_in w.depth dirs index w.path.items w.inode
