-- The one spelling of an inode.
use Rattle.ufs_base.specs.declared.sizes.TheConstants.{MAX_EXTENTS}
use Rattle.std.specs.Prelude.{ℕ, zero, suc, ◌<◌, ◌^◌, List, [], ◌∷◌, ◌++◌, length, drop, replicate, Bool, ◌==◌, ◌&&◌, ◌||◌, not, nat_le, if◌then◌else◌, Option, flat_map}
use Rattle.std.specs.List.{list_all}
use Rattle.ufs_layout.specs.Words.{number_at, byte_at, filled_to, spelled}
use Rattle.byteorder.specs.Endian.{little_bytes}
use Rattle.ufs_layout.specs.declared.inode.Extent.{Extent}

-- an inode, with its used extents alone
pub record InodeForm : Type 0 where
  -- 0 free, 1 a file, 2 a directory
  pub kind : ℕ
  pub extents : List Extent
  pub size : ℕ
  -- of the last commit that it contains
  pub number : ℕ

abbrev pub extent_bytes : Extent → List ℕ
extent_bytes e = little_bytes 4 e.start ++ little_bytes 4 e.length

abbrev pub is_used : InodeForm → Bool
is_used i = not (i.kind == 0)

-- the links field: 1 where the inode is used
abbrev pub links_of_kind : ℕ → ℕ
links_of_kind kind = if kind == 0 then 0 else 1

abbrev pub inode_head : InodeForm → List ℕ
inode_head i = filled_to 64 (i.kind ∷ length i.extents ∷ little_bytes 2 (links_of_kind i.kind) ++ replicate 4 0 ++ little_bytes 8 i.size ++ little_bytes 8 i.number)

abbrev pub inode_bytes : InodeForm → List ℕ
inode_bytes i = inode_head i ++ filled_to 448 (flat_map extent_bytes i.extents)

-- A used extent has at least one block.
abbrev pub is_extent : Extent → Bool
is_extent e = nat_le 1 e.length

-- A free inode has 0 everywhere but in its number.
abbrev pub is_inode : InodeForm → Bool
is_inode i = nat_le i.kind 2 && (nat_le (length i.extents) MAX_EXTENTS && (list_all is_extent i.extents
    && (is_used i || length i.extents == 0 && i.size == 0)))

-- The numbers of an extent have 32 bits.
pub record FitsExtent (e : Extent) : Type 0 where
  pub start : e.start < 2 ^ 32
  pub length : e.length < 2 ^ 32

abbrev pub extent_fields : List ℕ → Extent
extent_fields bytes = record { start = number_at 4 0 bytes; length = number_at 4 4 bytes }

-- so many extents, 8 bytes each
abbrev pub extents_at : ℕ → List ℕ → List Extent
extents_at zero bytes = []
extents_at (suc count) bytes = extent_fields bytes ∷ extents_at count (drop 8 bytes)

abbrev pub inode_fields : List ℕ → InodeForm
inode_fields bytes = record {
  kind = byte_at 0 bytes;
  extents = extents_at (byte_at 1 bytes) (drop 64 bytes);
  size = number_at 8 8 bytes;
  number = number_at 8 16 bytes;
}

-- the inode whose spelling the sector is
abbrev pub inode_of : List ℕ → Option InodeForm
inode_of = spelled inode_fields inode_bytes is_inode

abbrev pub free_inode : ℕ → InodeForm
free_inode number = record { kind = 0; extents = []; size = 0; number = number }

-- what stands in an unused place of an inode's extents
abbrev pub no_extent : Extent
no_extent = record { start = 0; length = 0 }
