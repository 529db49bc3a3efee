-- When a server's directories are those of an image's catalog, and what they tell then.
use Rattle.std.specs.Prelude.{ℕ, ◌≡◌, ◌==◌, List, if◌then◌else◌}
use Rattle.std.specs.Option.{option_map}
use Rattle.ufs_layout.specs.declared.geometry.Geometry.{Geometry}
use Rattle.ufs_image.specs.Catalog.{Catalog, IsInode, slots_in}
use Rattle.ufs_image.specs.Sound.{IsSoundCatalog}
use Rattle.ufs_image.specs.Walks.{inode_of}
use Rattle.ufs_dir_tree.specs.DirTable.{DirTable, slots_at, found_at}
use Rattle.ufs_dir_tree.specs.declared.found.Found.{Found}
use Rattle.ufs_dir_tree.specs.declared.found.Found.TheVariants.{Dir, File}

-- what an inode is by its form
abbrev pub found_in : Catalog → ℕ → Found
found_in c inode = if (c.forms inode).kind == 2 then Dir inode else File inode

-- The table has in each inode's slots what the catalog has.
abbrev pub HasSlotsOf : Geometry → Catalog → DirTable → Type 0
HasSlotsOf g c t = (inode : ℕ) → IsInode g inode → slots_at t inode ≡ slots_in c inode

-- Then a walk through the table meets the inode that one through the catalog meets, as what its form says.
abbrev pub WalksMeet : Geometry → Type 0
WalksMeet g = (c : Catalog) (t : DirTable) → IsSoundCatalog g c → HasSlotsOf g c t → (names : List (List ℕ)) → found_at t names ≡ option_map (found_in c) (inode_of c names)
