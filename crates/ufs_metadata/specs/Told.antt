-- Bytes of a block, read as inodes and as slots.
use Rattle.std.specs.Prelude.{ℕ, ◌*◌, List, map, take, drop, Option}
use Rattle.std.specs.List.{range_with_len}
use Rattle.ufs_layout.specs.InodeForm.{InodeForm, inode_of}
use Rattle.ufs_layout.specs.DentryForm.{DentryForm, dentry_of}
use Rattle.ufs_layout.specs.Words.{pieces}

abbrev pub piece : List ℕ → ℕ → List ℕ
piece bytes i = take 512 (drop (512 * i) bytes)

-- the forms in the first sectors of a block
abbrev pub forms_in : ℕ → List ℕ → List (Option InodeForm)
forms_in count bytes = map (λ i. inode_of (piece bytes i)) (range_with_len 0 count)

-- what the first slots of a block are the spelling of
abbrev pub slots_in : ℕ → List ℕ → List (Option DentryForm)
slots_in count bytes = map dentry_of (pieces count 64 bytes)
