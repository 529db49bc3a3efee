-- What a walk through a catalog meets, and the text of a whole path.
use Rattle.std.specs.Prelude.{ℕ, ◌≡◌, List, [], ◌∷◌, Bool, ◌&&◌, ◌==◌, not, nat_lt, length, true, flat_map, Option, Some, None}
use Rattle.std.specs.Option.{option_map}
use Rattle.std.specs.List.{find, list_all, AllByRecursion}
use Rattle.std.specs.Str.{bytes_eq}
use Rattle.ufs_layout.specs.DentryForm.{DentryForm, is_named}
use Rattle.ufs_base.specs.Images.{Image}
use Rattle.ufs_image.specs.Opens.{NodeBytes, node_bytes}
use Rattle.ufs_image.specs.Catalog.{Catalog, slots_in}

abbrev pub has_name : List ℕ → DentryForm → Bool
has_name name d = is_named d && bytes_eq d.name name

-- the inode that a name stands for in a directory
abbrev pub child_of : Catalog → ℕ → List ℕ → Option ℕ
child_of c dir name = option_map (λ (d : DentryForm). d.inode) (find (has_name name) (slots_in c dir))

-- one step of a walk
abbrev pub step : Catalog → Option ℕ → List ℕ → Option ℕ
step c None name = None
step c (Some inode) name = child_of c inode name

abbrev pub walk_from : Catalog → Option ℕ → List (List ℕ) → Option ℕ
walk_from c at [] = at
walk_from c at (name ∷ names) = walk_from c (step c at name) names

-- the inode that a walk from the root along these names meets
abbrev pub inode_of : Catalog → List (List ℕ) → Option ℕ
inode_of c names = walk_from c (Some 1) names

-- Each walk meets what it met.
abbrev pub SameWalks : Catalog → Catalog → Type 0
SameWalks c d = (names : List (List ℕ)) → inode_of d names ≡ inode_of c names

-- a slash before each name
abbrev pub joined : List (List ℕ) → List ℕ
joined = flat_map (λ name. 47 ∷ name)

-- the text of a whole path; that of the root is one slash
abbrev pub path_text : List (List ℕ) → List ℕ
path_text [] = 47 ∷ []
path_text (name ∷ names) = joined (name ∷ names)

-- It has bytes, and no slash among them.
abbrev pub is_piece : List ℕ → Bool
is_piece name = nat_lt 0 (length name) && list_all (λ b. not (b == 47)) name

abbrev pub ArePieces : List (List ℕ) → Type 0
ArePieces = AllByRecursion (λ name. is_piece name ≡ true)

-- what stands at an inode
abbrev pub node_of : Image → Catalog → ℕ → NodeBytes
node_of image c inode = node_bytes image (c.forms inode)
