-- Which inode stands at each path of an image.
use Rattle.std.specs.Prelude.{ℕ, zero, suc, List, [], ◌∷◌, ◌++◌, flat_map, map}
use Rattle.std.specs.List.{AllByRecursion}
use Rattle.ufs_base.specs.Images.{Image}
use Rattle.ufs_image.specs.Catalog.{IsInode}
use Rattle.ufs_image.specs.Images.{form_at}
use Rattle.ufs_image.specs.Nodes.{NamedSlot}
use Rattle.ufs_image.specs.Opens.{PathEntry, names_in, node_bytes}
use Rattle.ufs_layout.specs.declared.geometry.Geometry.{Geometry}
use Rattle.ufs_walk.specs.declared.places.PathAt.{PathAt}

-- a whole path, and the inode that stands there
abbrev pub Place : Type 0
Place = List ℕ × ℕ

abbrev pub pairs_of : List PathAt → List Place
pairs_of es = map {B = Place} (λ (e : PathAt). (e.path.items, e.inode)) es

-- a name below this path, and what stands deeper
abbrev pub place_and_below : (List ℕ → ℕ → List Place) → List ℕ → NamedSlot → List Place
place_and_below deeper path n = let at = path ++ 47 ∷ n.1.name in (at, n.1.inode) ∷ deeper at n.1.inode

-- what stands below a directory with this path, at most so deep
abbrev pub places_below : ℕ → Geometry → Image → List ℕ → ℕ → List Place
places_below zero g image path inode = []
places_below (suc depth) g image path inode = flat_map (place_and_below (places_below depth g image) path) (names_in image inode (form_at g image inode))

-- the root, and what stands below it
abbrev pub places : Geometry → Image → List Place
places g image = (47 ∷ [], 1) ∷ places_below g.inodes g image [] 1

-- An inode of the image stands at each place.
abbrev pub AreInodes : Geometry → List Place → Type 0
AreInodes g = AllByRecursion (λ (p : Place). IsInode g p.1)

-- what stands at a place
abbrev pub entry_of : Geometry → Image → Place → PathEntry
entry_of g image p = (p.0, node_bytes image (form_at g image p.1))
