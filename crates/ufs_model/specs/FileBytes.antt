-- The bytes of files.
use Rattle.std.specs.Prelude.{ℕ, ◌+◌, ◌-◌, List, [], ◌++◌, Bool, ◌==◌, ◌&&◌, nat_lt, length, take, drop, replicate, if◌then◌else◌, Option, Some, None, unwrap_or}
use Rattle.std.specs.FinMap as map
use Rattle.ufs_model.specs.PosixTree.{Files}
use Rattle.ufs_model.specs.declared.data.Desc.{Desc}

-- the greatest size of a file
abbrev pub max_size : ℕ
max_size = 16777216

abbrev pub bytes_of : Files → ℕ → List ℕ
bytes_of bytes file = unwrap_or (map.get bytes file) []

-- the bytes of the file that a descriptor is of; a directory has none
abbrev pub content : Files → Option ℕ → List ℕ
content bytes None = []
content bytes (Some file) = bytes_of bytes file

-- at most n bytes from a place on
abbrev pub part : List ℕ → ℕ → ℕ → List ℕ
part bytes at n = take n (drop at bytes)

-- data over old from a place on; a gap reads as zeros
abbrev pub put_at : List ℕ → ℕ → List ℕ → List ℕ
put_at old at data' = take at (old ++ replicate (at - length old) 0) ++ data' ++ drop (at + length data') old

-- cut, or extended with zeros
abbrev pub resized : List ℕ → ℕ → List ℕ
resized old size = take size (old ++ replicate (size - length old) 0)

-- where a `write` begins: at the offset, or at the end
abbrev pub place_of : Desc → List ℕ → ℕ
place_of d old = if d.append then length old else d.at

-- a write of at least one byte ends past the greatest size
abbrev pub is_past : ℕ → List ℕ → Bool
is_past at data' = nat_lt 0 (length data') && nat_lt max_size (at + length data')

-- the size after a write, which changes nothing where it has no byte
abbrev pub size_after : ℕ → ℕ → ℕ → ℕ
size_after old at count = if count == 0 then old else (if nat_lt old (at + count) then at + count else old)

-- a block, in bytes
abbrev pub block_size : ℕ
block_size = 4096
