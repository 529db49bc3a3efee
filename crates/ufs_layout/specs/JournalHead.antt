-- The one spelling of the head of a journal sector.
use Rattle.std.specs.Prelude.{ℕ, List, ◌∷◌, ◌++◌, Bool, ◌&&◌, nat_le, Option}
use Rattle.ufs_layout.specs.Words.{number_at, byte_at, filled_to, spelled}
use Rattle.byteorder.specs.Endian.{little_bytes}
use Rattle.ufs_layout.specs.declared.header.Header.{Header}

abbrev pub header_bytes : Header → List ℕ
header_bytes h = filled_to 24 (little_bytes 8 h.epoch ++ little_bytes 4 h.txn ++ little_bytes 2 h.index ++ h.kind ∷ 0 ∷ little_bytes 2 h.used)

-- Transactions are counted from 1; the kind is 1 for records and 2 for a commit; at most 488 bytes are used.
abbrev pub is_header : Header → Bool
is_header h = nat_le 1 h.txn && (nat_le 1 h.kind && nat_le h.kind 2 && nat_le h.used 488)

abbrev pub header_fields : List ℕ → Header
header_fields bytes = record {
  epoch = number_at 8 0 bytes;
  txn = number_at 4 8 bytes;
  index = number_at 2 12 bytes;
  kind = byte_at 14 bytes;
  used = number_at 2 16 bytes;
}

-- the head whose spelling the bytes are
abbrev pub header_of : List ℕ → Option Header
header_of = spelled header_fields header_bytes is_header
