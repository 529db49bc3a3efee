-- The inodes of an image that can be read, their blocks, and the names in their directories.
use Rattle.std.specs.Prelude.{ℕ, ◌+◌, List, map, filter, filter_map, flat_map, Bool, true, ◌==◌, ◌&&◌, not, nat_lt, nat_le, if◌then◌else◌, Option, Some, None}
use Rattle.std.specs.List.{list_any, range_with_len, enumerate_from}
use Rattle.ufs_base.specs.declared.sizes.TheConstants.{SLOT, SLOTS_PER_SECTOR}
use Rattle.ufs_base.specs.Choices.{some_if}
use Rattle.ufs_layout.specs.Words.{pieces}
use Rattle.ufs_layout.specs.Areas.{all_inodes, first_of_data, sectors_of_block, is_inode_number}
use Rattle.ufs_layout.specs.InodeForm.{InodeForm, is_used}
use Rattle.ufs_layout.specs.DentryForm.{DentryForm, dentry_of, is_named}
use Rattle.ufs_base.specs.Images.{Image}
use Rattle.ufs_image.specs.Images.{inode_at, form_at}
use Rattle.ufs_layout.specs.declared.geometry.Geometry.{Geometry}
use Rattle.ufs_layout.specs.declared.inode.Extent.{Extent}

-- ---- inodes

-- off its form, or the root and no directory
abbrev pub is_bad_form : ℕ → Option InodeForm → Bool
is_bad_form inode None = true
is_bad_form inode (Some form) = inode == 1 && not (form.kind == 2)

abbrev pub is_bad_inode : Geometry → Image → ℕ → Bool
is_bad_inode g image inode = is_bad_form inode (inode_at g image inode)

abbrev pub leaves_data : Geometry → Extent → Bool
leaves_data g e = not (nat_le (first_of_data g) e.start && nat_le (e.start + e.length) g.blocks)

-- An extent leaves the data area; an inode that is bad already isn't looked at.
abbrev pub is_bad_extent : Geometry → Image → ℕ → Bool
is_bad_extent g image inode = not (is_bad_inode g image inode) && list_any (leaves_data g) (form_at g image inode).extents

-- an inode's number and its form
abbrev pub Node : Type 0
Node = ℕ × InodeForm

-- a used inode that is neither
abbrev pub sound_node : Geometry → Image → ℕ → Option Node
sound_node g image inode =
    some_if (not (is_bad_inode g image inode) && (not (is_bad_extent g image inode) && is_used (form_at g image inode))) (inode, form_at g image inode)

-- those inodes, by rising number
abbrev pub sound_nodes : Geometry → Image → List Node
sound_nodes g image = filter_map (sound_node g image) (all_inodes g)

-- ---- blocks

-- the blocks of an inode, in the order of its bytes
abbrev pub blocks_of : InodeForm → List ℕ
blocks_of form = flat_map (λ (e : Extent). range_with_len e.start e.length) form.extents

-- The block is before the data area, or one of the nodes holds it.
abbrev pub is_taken : Geometry → List Node → ℕ → Bool
is_taken g nodes block = if nat_lt block (first_of_data g) then true else list_any (λ (n : Node). list_any (λ b. b == block) (blocks_of n.1)) nodes

-- ---- directories

-- a slot by its place in the directory, and what it is the spelling of
abbrev pub ReadSlot : Type 0
ReadSlot = ℕ × Option DentryForm

-- a directory's number and its slots
pub record Dir : Type 0 where
  pub inode : ℕ
  pub slots : List ReadSlot

-- what the slots of a sector are the spelling of
abbrev pub read_sector : List ℕ → List (Option DentryForm)
read_sector bytes = map dentry_of (pieces SLOTS_PER_SECTOR SLOT bytes)

-- what the slots of a block are the spelling of
abbrev pub read_block : Image → ℕ → List (Option DentryForm)
read_block image block = flat_map (λ s. read_sector (image s)) (sectors_of_block block)

-- the slots by rising place, those of the first block first
abbrev pub slots_of : Image → InodeForm → List ReadSlot
slots_of image form = enumerate_from 0 (flat_map (read_block image) (blocks_of form))

abbrev pub dirs_of : Image → List Node → List Dir
dirs_of image nodes = map (λ (n : Node). record { inode = n.0; slots = slots_of image n.1 }) (filter (λ n. n.1.kind == 2) nodes)

-- a slot's place, and the name in it
abbrev pub NamedSlot : Type 0
NamedSlot = ℕ × DentryForm

abbrev pub names_of : Dir → List NamedSlot
names_of dir = filter_map named dir.slots
  where
    named : ReadSlot → Option NamedSlot
    named s = of_form s.1
      where
        of_form : Option DentryForm → Option NamedSlot
        of_form None = None
        of_form (Some d) = some_if (is_named d) (s.0, d)

-- 0 for an inode that is out of range, free or off its form
abbrev pub kind_at : Geometry → Image → ℕ → ℕ
kind_at g image inode = if is_inode_number g inode then (form_at g image inode).kind else 0
