-- The one spelling of a superblock.
use Rattle.ufs_base.specs.declared.sizes.TheConstants.{SECTOR}
use Rattle.std.specs.Prelude.{ℕ, List, [], ◌∷◌, ◌++◌, Bool, ◌==◌, ◌&&◌, nat_le, if◌then◌else◌, Option, codes, true}
use Rattle.ufs_layout.specs.Words.{number_at, byte_at, filled_to, spelled}
use Rattle.byteorder.specs.Endian.{little_bytes}
use Rattle.ufs_layout.specs.declared.geometry.Geometry.{Geometry}
use Rattle.ufs_layout.specs.declared.superblock.Super.{Super}

abbrev pub magic : List ℕ
magic = codes "uFSIMG01"

-- the magic bytes, the version and the geometry
abbrev pub super_start : Super → List ℕ
super_start s = magic ++ little_bytes 4 s.version ++ little_bytes 4 s.blocks ++ little_bytes 4 s.inodes ++ little_bytes 4 s.journal

abbrev pub clean_byte : Bool → ℕ
clean_byte clean = if clean then 1 else 0

-- the epoch, the next commit number and whether it is clean
abbrev pub super_end : Super → List ℕ
super_end s = little_bytes 8 s.epoch ++ little_bytes 8 s.next ++ clean_byte s.clean ∷ []

abbrev pub super_bytes : Super → List ℕ
super_bytes s = filled_to SECTOR (super_start s ++ super_end s)

-- of this version; the epoch and the next commit number are from 1
abbrev pub is_super : ℕ → Super → Bool
is_super version s = s.version == version && (nat_le 1 s.epoch && nat_le 1 s.next)

-- what stands in the fields, be the rest what it may
abbrev pub super_fields : List ℕ → Super
super_fields bytes = record {
  version = number_at 4 8 bytes;
  blocks = number_at 4 12 bytes;
  inodes = number_at 4 16 bytes;
  journal = number_at 4 20 bytes;
  epoch = number_at 8 24 bytes;
  next = number_at 8 32 bytes;
  clean = byte_at 40 bytes == 1;
}

-- the superblock of this version whose spelling the sector is
abbrev pub super_of : ℕ → List ℕ → Option Super
super_of version = spelled super_fields super_bytes (is_super version)

abbrev pub geometry_of : Super → Geometry
geometry_of s = record { blocks = s.blocks; inodes = s.inodes; journal = s.journal }

-- the superblock of a new image: epoch and commit numbers begin at 1
abbrev pub new_super : Geometry → Super
new_super g = record { version = 1; blocks = g.blocks; inodes = g.inodes; journal = g.journal; epoch = 1; next = 1; clean = true }
