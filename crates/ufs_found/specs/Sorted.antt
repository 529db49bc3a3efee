-- Sectors in the order of a number.
use Rattle.std.specs.Prelude.{ℕ, ◌+◌, ◌*◌, Bool, ◌&&◌, not, nat_lt, nat_le, unwrap_or}
use Rattle.ufs_image.specs.Journal.{FoundSector, commit_in}

-- its transaction and its index, as one number
abbrev pub place_of : FoundSector → ℕ
place_of f = f.1.txn * 65536 + f.1.index

-- the number of a commit; 0 for records
abbrev pub number_of : FoundSector → ℕ
number_of f = unwrap_or (commit_in f.1.content) 0

abbrev pub is_between : ℕ → ℕ → FoundSector → Bool
is_between low high f = not (nat_lt (place_of f) low) && nat_lt (place_of f) high

abbrev pub is_numbered : ℕ → FoundSector → Bool
is_numbered number f = not (nat_lt (number_of f) number) && nat_le (number_of f) number
