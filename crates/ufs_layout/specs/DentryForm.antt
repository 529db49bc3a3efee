-- The one spelling of a dentry.
use Rattle.ufs_base.specs.declared.sizes.TheConstants.{MAX_NAME}
use Rattle.std.specs.Prelude.{ℕ, List, [], ◌∷◌, ◌++◌, length, take, drop, Bool, ◌==◌, ◌&&◌, ◌||◌, nat_lt, nat_le, Option}
use Rattle.ufs_layout.specs.Words.{number_at, byte_at, filled_to, spelled}
use Rattle.byteorder.specs.Endian.{little_bytes}

-- a name in a directory; a free slot has no name, and all of it is 0
pub record DentryForm : Type 0 where
  pub inode : ℕ
  pub kind : ℕ
  pub name : List ℕ

abbrev pub dentry_bytes : DentryForm → List ℕ
dentry_bytes d = little_bytes 4 d.inode ++ d.kind ∷ length d.name ∷ filled_to MAX_NAME d.name

abbrev pub is_named : DentryForm → Bool
is_named d = nat_lt 0 (length d.name)

abbrev pub is_dentry : DentryForm → Bool
is_dentry d = nat_le (length d.name) MAX_NAME && (is_named d || d.inode == 0 && d.kind == 0)

abbrev pub dentry_fields : List ℕ → DentryForm
dentry_fields bytes = record { inode = number_at 4 0 bytes; kind = byte_at 4 bytes; name = take (byte_at 5 bytes) (drop 6 bytes) }

-- the dentry whose spelling the slot is
abbrev pub dentry_of : List ℕ → Option DentryForm
dentry_of = spelled dentry_fields dentry_bytes is_dentry

abbrev pub free_slot : DentryForm
free_slot = record { inode = 0; kind = 0; name = [] }
