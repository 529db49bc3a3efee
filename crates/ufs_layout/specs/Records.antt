-- The one spelling of a journal record, and of a list of them.
use Rattle.ufs_base.specs.declared.sizes.TheConstants.{MAX_EXTENTS, MAX_NAME, SLOTS_PER_SECTOR}
use Rattle.std.specs.Prelude.{ℕ, zero, suc, ◌+◌, ◌*◌, ◌<◌, ◌≤◌, ◌^◌, List, [], ◌∷◌, ◌++◌, length, take, drop, Bool, true, ◌&&◌, nat_le, nat_lt, Option, Some, None, flat_map}
use Rattle.std.specs.List.{list_all, AllByRecursion}
use Rattle.std.specs.Str.{bytes_eq}
use Rattle.ufs_base.specs.Choices.{some_if}
use Rattle.ufs_layout.specs.Words.{number_at, byte_at, spelled}
use Rattle.ufs_layout.specs.InodeForm.{extent_bytes, extents_at, is_extent, FitsExtent}
use Rattle.ufs_layout.specs.DentryForm.{dentry_bytes, dentry_fields, is_dentry}
use Rattle.byteorder.specs.Endian.{little_bytes}
use Rattle.ufs_layout.specs.declared.records.LogRecord.{LogRecord}
use Rattle.ufs_layout.specs.declared.records.LogRecord.TheVariants.{Delta, Place, Free}

-- Of the inode's extents the first `keep` stay, and the given ones follow.
abbrev pub record_bytes : LogRecord → List ℕ
record_bytes (Delta inode kind size keep extents) =
    1 ∷ little_bytes 4 inode ++ kind ∷ little_bytes 8 size ++ keep ∷ length extents ∷ flat_map extent_bytes extents
record_bytes (Place sector slot dentry) = 2 ∷ little_bytes 4 sector ++ slot ∷ dentry_bytes dentry
record_bytes (Free inode) = 3 ∷ little_bytes 4 inode

-- A delta gives a file or a directory.
abbrev pub is_record : LogRecord → Bool
is_record (Delta inode kind size keep extents) = (nat_le 1 kind && nat_le kind 2) && (nat_le (keep + length extents) MAX_EXTENTS && list_all is_extent extents)
is_record (Place sector slot dentry) = nat_lt slot SLOTS_PER_SECTOR && is_dentry dentry
is_record (Free inode) = true

-- The numbers of a record are in the ranges of their types.
abbrev pub FitsRecord : LogRecord → Type 0
FitsRecord (Delta inode kind size keep extents) = (inode < 2 ^ 32) × (size < 2 ^ 64) × AllByRecursion FitsExtent extents
FitsRecord (Place sector slot dentry) = (sector < 2 ^ 32) × (dentry.inode < 2 ^ 32) × (length dentry.name ≤ MAX_NAME)
FitsRecord (Free inode) = inode < 2 ^ 32

abbrev pub records_bytes : List LogRecord → List ℕ
records_bytes records = flat_map record_bytes records

-- the record that begins the bytes by its tag, be it well spelled or not, and the bytes behind it
abbrev pub record_by_tag : List ℕ → ℕ → Option (LogRecord × List ℕ)
record_by_tag bytes zero = None
record_by_tag bytes (suc zero) = Some (
  Delta (number_at 4 1 bytes) (byte_at 5 bytes) (number_at 8 6 bytes) (byte_at 14 bytes) (extents_at (byte_at 15 bytes) (drop 16 bytes)),
  drop (16 + 8 * byte_at 15 bytes) bytes,
)
record_by_tag bytes (suc (suc zero)) = Some (Place (number_at 4 1 bytes) (byte_at 5 bytes) (dentry_fields (take 64 (drop 6 bytes))), drop 70 bytes)
record_by_tag bytes (suc (suc (suc zero))) = Some (Free (number_at 4 1 bytes), drop 5 bytes)
record_by_tag bytes (suc (suc (suc (suc n)))) = None

abbrev pub first_record : List ℕ → Option (LogRecord × List ℕ)
first_record bytes = record_by_tag bytes (byte_at 0 bytes)

-- the first record, and those that are read behind it
abbrev pub and_more : (List ℕ → List LogRecord) → Option (LogRecord × List ℕ) → List LogRecord
and_more more None = []
and_more more (Some r) = r.0 ∷ more r.1

-- the records that stand in the bytes, at most so many
abbrev pub record_fields : ℕ → List ℕ → List LogRecord
record_fields zero bytes = []
record_fields (suc most) bytes = and_more (record_fields most) (first_record bytes)

-- the records whose spelling the bytes are
abbrev pub records_of : List ℕ → Option (List LogRecord)
records_of bytes = spelled (record_fields (length bytes)) records_bytes (list_all is_record) bytes

-- the record of these two, where the bytes are its spelling and those behind it
abbrev pub spelled_in : List ℕ → Option (LogRecord × List ℕ) → Option LogRecord
spelled_in bytes None = None
spelled_in bytes (Some r) = some_if (is_record r.0 && bytes_eq (record_bytes r.0 ++ r.1) bytes) r.0

-- the record that begins the bytes, where it is well spelled
abbrev pub leading_record : List ℕ → Option LogRecord
leading_record bytes = spelled_in bytes (first_record bytes)
