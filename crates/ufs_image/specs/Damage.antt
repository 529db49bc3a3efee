-- What is damaged in an image whose committed records are folded, kind by kind.
use Rattle.std.specs.Prelude.{ℕ, ◌*◌, ◌/◌, ◌%◌, ◌^◌, ◌+◌, List, [], ◌∷◌, ◌++◌, map, filter, filter_map, flat_map, length, Bool, true, false, ◌==◌, ◌&&◌, ◌||◌, not, nat_lt, nat_le, if◌then◌else◌, Option, Some, None}
use Rattle.std.specs.List.{list_all, list_any, range_with_len, find}
use Rattle.std.specs.Str.{bytes_eq}
use Rattle.ufs_base.specs.declared.sizes.TheConstants.{SECTOR, SECTORS_PER_BLOCK, BLOCK}
use Rattle.ufs_layout.specs.Words.{byte_at}
use Rattle.ufs_layout.specs.Areas.{all_inodes, data_blocks, bitmap_blocks, first_of_bitmap}
use Rattle.ufs_layout.specs.InodeForm.{InodeForm}
use Rattle.ufs_layout.specs.DentryForm.{DentryForm, is_named}
use Rattle.ufs_base.specs.Images.{Image}
use Rattle.ufs_image.specs.Nodes.{Node, is_bad_inode, is_bad_extent, sound_nodes, blocks_of, is_taken, ReadSlot, Dir, dirs_of, NamedSlot, names_of, kind_at}
use Rattle.ufs_layout.specs.declared.geometry.TheConstants.{BLOCK_BITS}
use Rattle.ufs_layout.specs.declared.geometry.Geometry.{Geometry}

pub data Damage : Type 0 where
  -- The sector is off its form, or inode 1 is no directory.
  BadInode : (inode : ℕ) → Damage
  -- An extent leaves the data area.
  BadExtent : (inode : ℕ) → Damage
  -- Two inodes hold the block, or one holds it twice.
  SharedBlock : (block first second : ℕ) → Damage
  -- The size doesn't fit the blocks.
  ShortExtents : (inode : ℕ) → Damage
  -- The slot is off its form, or has a name that no path can have.
  BadDentry : (dir slot : ℕ) → Damage
  -- The named inode is out of range, free or of another kind.
  FreeInode : (dir slot inode : ℕ) → Damage
  -- An earlier slot of the directory has the name.
  NameTwice : (dir slot : ℕ) → Damage
  -- Two names name the inode, or one names inode 1.
  TwoNames : (inode : ℕ) → Damage
  -- A bit of a clean image isn't what the inodes say.
  BitmapDiffers : (block : ℕ) → Damage

-- ---- blocks

-- who holds the block, once for each time
abbrev pub holders : List Node → ℕ → List ℕ
holders nodes block = flat_map (λ (n : Node). map (λ b. n.0) (filter (λ b. b == block) (blocks_of n.1))) nodes

-- the two lowest, where it is held twice
abbrev pub shared_block : List Node → ℕ → Option Damage
shared_block nodes block = two (holders nodes block)
  where
    two : List ℕ → Option Damage
    two [] = None
    two (first ∷ []) = None
    two (first ∷ second ∷ others) = Some (SharedBlock block first second)

-- A file's size is above its blocks, or a directory's isn't theirs.
abbrev pub is_short : InodeForm → Bool
is_short form =
    let room = BLOCK * length (blocks_of form) in
    if form.kind == 2 then not (form.size == room) else nat_lt room form.size

-- ---- directories

-- bytes 0x21 to 0x7e but `/`, and neither `.` nor `..`
abbrev pub is_plain_name : List ℕ → Bool
is_plain_name name = list_all (λ b. nat_le 33 b && (nat_le b 126 && not (b == 47))) name && (not (bytes_eq name (46 ∷ [])) && not (bytes_eq name (46 ∷ 46 ∷ [])))

abbrev pub is_bad_dentry : ReadSlot → Bool
is_bad_dentry s = bad s.1
  where
    bad : Option DentryForm → Bool
    bad None = true
    bad (Some d) = is_named d && not (is_plain_name d.name)

-- The name's inode is out of range, free or of another kind.
abbrev pub names_no_inode : Geometry → Image → NamedSlot → Bool
names_no_inode g image n = let kind = kind_at g image n.1.inode in kind == 0 || not (kind == n.1.kind)

-- An earlier slot has the name.
abbrev pub is_name_twice : Dir → NamedSlot → Bool
is_name_twice dir n = list_any (λ (o : NamedSlot). nat_lt o.0 n.0 && bytes_eq o.1.name n.1.name) (names_of dir)

-- how many names an inode has
abbrev pub names_count : List Dir → ℕ → ℕ
names_count dirs inode = length (filter (λ (n : NamedSlot). n.1.inode == inode) (flat_map names_of dirs))

-- two names, or one for the root
abbrev pub has_two_names : List Dir → ℕ → Bool
has_two_names dirs inode = nat_lt (if inode == 1 then 0 else 1) (names_count dirs inode)

-- ---- the bitmap

-- the bit of a block, least first in each byte
abbrev pub is_marked : Image → ℕ → Bool
is_marked image block = byte_at (block / 8 % SECTOR) (image (SECTORS_PER_BLOCK * first_of_bitmap + block / (8 * SECTOR))) / 2 ^ (block % 8) % 2 == 1

abbrev pub same_bool : Bool → Bool → Bool
same_bool true b = b
same_bool false b = not b

-- every bit, those past the last block too
abbrev pub all_bits : Geometry → List ℕ
all_bits g = range_with_len 0 (BLOCK_BITS * bitmap_blocks g)

-- those of these bits that aren't as the nodes have it
abbrev pub differing : Geometry → Image → List Node → List ℕ → List ℕ
differing g image nodes bits = filter (λ b. not (same_bool (is_marked image b) (is_taken g nodes b))) bits

-- ---- the list

abbrev pub inode_damage : Geometry → Image → List Damage
inode_damage g image =
    map BadInode (filter (is_bad_inode g image) (all_inodes g))
    ++ map BadExtent (filter (is_bad_extent g image) (all_inodes g))

abbrev pub block_damage : Geometry → List Node → List Damage
block_damage g nodes =
    filter_map (shared_block nodes) (data_blocks g)
    ++ map (λ (n : Node). ShortExtents n.0) (filter (λ n. is_short n.1) nodes)

abbrev pub name_damage : Geometry → Image → List Dir → List Damage
name_damage g image dirs =
    flat_map (λ (d : Dir). map (λ (s : ReadSlot). BadDentry d.inode s.0) (filter is_bad_dentry d.slots)) dirs
    ++ flat_map (λ (d : Dir). map (λ (n : NamedSlot). FreeInode d.inode n.0 n.1.inode) (filter (names_no_inode g image) (names_of d))) dirs
    ++ flat_map (λ (d : Dir). map (λ (n : NamedSlot). NameTwice d.inode n.0) (filter (is_name_twice d) (names_of d))) dirs
    ++ map TwoNames (filter (has_two_names dirs) (all_inodes g))

-- of the nodes that can be read
abbrev pub node_damage : Geometry → Image → List Node → List Damage
node_damage g image nodes = block_damage g nodes ++ name_damage g image (dirs_of image nodes)

-- all kinds but that of the bitmap
abbrev pub tree_damage : Geometry → Image → List Damage
tree_damage g image = inode_damage g image ++ node_damage g image (sound_nodes g image)

-- The bitmap has a meaning on a clean image alone.
abbrev pub bitmap_damage : Bool → Geometry → Image → List Damage
bitmap_damage false g image = []
bitmap_damage true g image = map BitmapDiffers (differing g image (sound_nodes g image) (all_bits g))

abbrev pub damage : Bool → Geometry → Image → List Damage
damage clean g image = tree_damage g image ++ bitmap_damage clean g image

-- the inode that a damage is told of
abbrev pub blamed : Damage → Option ℕ
blamed (BadInode inode) = Some inode
blamed (BadExtent inode) = Some inode
blamed (SharedBlock block first second) = Some first
blamed (ShortExtents inode) = Some inode
blamed (BadDentry dir slot) = Some dir
blamed (FreeInode dir slot inode) = Some dir
blamed (NameTwice dir slot) = Some dir
blamed (TwoNames inode) = Some inode
blamed (BitmapDiffers block) = None

-- the lowest inode that a damage of the tree is told of
abbrev pub lowest_blamed : Geometry → List Damage → Option ℕ
lowest_blamed g damages = let blames = filter_map blamed damages in find (λ inode. list_any (λ b. b == inode) blames) (all_inodes g)

abbrev pub bad_tree : Geometry → Image → Option ℕ
bad_tree g image = lowest_blamed g (tree_damage g image)
