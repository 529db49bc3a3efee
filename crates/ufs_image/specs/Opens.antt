-- What an image stands for: a tree of whole paths, or none and why.
use Rattle.std.specs.Prelude.{ℕ, zero, suc, List, [], ◌∷◌, ◌++◌, flat_map, length, take, ◌==◌, if◌then◌else◌, Option, Some, None, Result, Ok, Err}
use Rattle.std.specs.declared.cmp.Ordering.{Ordering}
use Rattle.std.specs.Ordering.{nat_cmp}
use Rattle.std.specs.Cmp.Lexicographic.{slice_cmp}
use Rattle.std.specs.FinMap.{FinMap, from_entries}
use Rattle.ufs_layout.specs.InodeForm.{InodeForm}
use Rattle.ufs_base.specs.Images.{Image}
use Rattle.ufs_image.specs.Images.{image_of, form_at, block_at}
use Rattle.ufs_image.specs.Nodes.{NamedSlot, blocks_of, slots_of, names_of}
use Rattle.ufs_image.specs.Damage.{Damage, bad_tree}
use Rattle.ufs_image.specs.Volume.{Refusal, BadTree, Volume, volume, damage_of}
use Rattle.ufs_layout.specs.declared.geometry.Geometry.{Geometry}

-- the bytes of a file, or none for a directory
abbrev pub NodeBytes : Type 0
NodeBytes = Option (List ℕ)

-- a whole path, and what stands there
abbrev pub PathEntry : Type 0
PathEntry = List ℕ × NodeBytes

abbrev pub path_cmp : List ℕ → List ℕ → Ordering
path_cmp = slice_cmp nat_cmp

-- a tree, by its whole paths
abbrev pub ImageTree : Type 0
ImageTree = FinMap path_cmp NodeBytes

abbrev pub file_bytes : Image → InodeForm → List ℕ
file_bytes image form = take form.size (flat_map (block_at image) (blocks_of form))

abbrev pub node_bytes : Image → InodeForm → NodeBytes
node_bytes image form = if form.kind == 2 then None else Some (file_bytes image form)

-- the names in an inode, and none in a file
abbrev pub names_in : Image → ℕ → InodeForm → List NamedSlot
names_in image inode form = names_of (record { inode = inode; slots = if form.kind == 2 then slots_of image form else [] })

-- a name below this path, and what stands deeper
abbrev pub entry_and_below : (List ℕ → ℕ → List PathEntry) → Geometry → Image → List ℕ → NamedSlot → List PathEntry
entry_and_below deeper g image path n =
    let at = path ++ 47 ∷ n.1.name in
    (at, node_bytes image (form_at g image n.1.inode)) ∷ deeper at n.1.inode

-- What stands below a directory with this path, at most so deep; the root's path is empty here.
abbrev pub below : ℕ → Geometry → Image → List ℕ → ℕ → List PathEntry
below zero g image path inode = []
below (suc depth) g image path inode = flat_map (entry_and_below (below depth g image) g image path) (names_in image inode (form_at g image inode))

abbrev pub root_entry : PathEntry
root_entry = (47 ∷ [], None)

-- the root, and what stands below it; no path is deeper than there are inodes
abbrev pub walked : Volume → List PathEntry
walked v = root_entry ∷ below v.geometry.inodes v.geometry v.image [] 1

-- by the lowest inode that a damage is told of
abbrev pub by_damage : Volume → Option ℕ → Result (List PathEntry) Refusal
by_damage v None = Ok (walked v)
by_damage v (Some inode) = Err (BadTree inode)

abbrev pub entries_of : Result Volume Refusal → Result (List PathEntry) Refusal
entries_of (Ok v) = by_damage v (bad_tree v.geometry v.image)
entries_of (Err refusal) = Err refusal

-- whole paths and what stands at each, or why there is no tree
abbrev pub entries : ℕ → Image → Result (List PathEntry) Refusal
entries sectors image = entries_of (volume sectors image)

abbrev pub tree_from : Result (List PathEntry) Refusal → Result ImageTree Refusal
tree_from (Ok paths) = Ok (from_entries paths)
tree_from (Err refusal) = Err refusal

-- the tree, or why there is none
abbrev pub opens : ℕ → Image → Result ImageTree Refusal
opens sectors image = tree_from (entries sectors image)

-- the tree with the root alone
abbrev pub root_tree : ImageTree
root_tree = from_entries (root_entry ∷ [])

abbrev pub damage_in : Result Volume Refusal → Result (List Damage) Refusal
damage_in (Ok v) = Ok (damage_of v)
damage_in (Err refusal) = Err refusal

-- the list of damage, or why the image isn't looked at
abbrev pub damage_list : ℕ → Image → Result (List Damage) Refusal
damage_list sectors image = damage_in (volume sectors image)

-- the same of a list of sectors
abbrev pub opens_list : List (List ℕ) → Result ImageTree Refusal
opens_list sectors = opens (length sectors) (image_of sectors)
