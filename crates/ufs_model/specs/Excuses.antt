-- Which excuses fit a request, as far as the tree and the request tell it.
use Rattle.std.specs.Prelude.{ℕ, ◌+◌, ◌-◌, ◌/◌, ◌%◌, ◌≤◌, ◌==◌, List, Bool, true, false, ◌&&◌, ◌≡◌, ◌<◌, length, None, is_none, ⊤, if◌then◌else◌}
use Rattle.ufs_base.specs.declared.sizes.TheConstants.{SLOTS_PER_BLOCK}
use Rattle.ufs_model.specs.Paths.{parent_of}
use Rattle.ufs_model.specs.PosixTree.{PosixTree, root}
use Rattle.ufs_model.specs.Directories.{entry_count}
use Rattle.ufs_model.specs.Walk.{node_at}
use Rattle.ufs_model.specs.Descriptors.{opened}
use Rattle.ufs_model.specs.FileBytes.{place_of, size_after, block_size}
use Rattle.ufs_model.specs.Refusals.{refusal}
use Rattle.ufs_model.specs.Posix.{file_bytes}
use Rattle.ufs_model.specs.declared.data.Op.{Op}
use Rattle.ufs_model.specs.declared.data.Op.TheVariants as op
use Rattle.ufs_model.specs.declared.data.Excuse.{Excuse}
use Rattle.ufs_model.specs.declared.data.Excuse.TheVariants as excuse

-- the request makes a file or a directory
abbrev pub makes_node : PosixTree → Op → Bool
makes_node t (op.OpenFile path read write creat excl trunc append) = creat && is_none (node_at t.paths path)
makes_node t (op.Mkdir path) = true
makes_node t _ = false

-- the request adds a name to a directory
abbrev pub adds_name : PosixTree → Op → Bool
adds_name t (op.Rename from to) = is_none (node_at t.paths to)
adds_name t request = makes_node t request

-- the size of its file after a request
abbrev pub new_size : PosixTree → ℕ → Op → ℕ → ℕ
new_size t client (op.Write fd data') size = size_after size (place_of (opened t client fd) (file_bytes t client fd)) (length data')
new_size t client (op.Pwrite fd data' at) size = size_after size at (length data')
new_size t client (op.Trunc fd size') size = size'
new_size t client _ size = size

-- the size of its file before
abbrev pub old_size : PosixTree → ℕ → Op → ℕ
old_size t client (op.Write fd data') = length (file_bytes t client fd)
old_size t client (op.Pwrite fd data' at) = length (file_bytes t client fd)
old_size t client (op.Trunc fd size) = length (file_bytes t client fd)
old_size t client _ = 0

-- the blocks of so many bytes
abbrev pub blocks_of : ℕ → ℕ
blocks_of size = (size + 4095) / block_size

-- the directory to which a request may add a name
abbrev pub grown_dir : Op → List ℕ
grown_dir (op.OpenFile path read write creat excl trunc append) = parent_of path
grown_dir (op.Mkdir path) = parent_of path
grown_dir (op.Rename from to) = parent_of to
grown_dir _ = root

-- Each slot of the directory may be used: it takes a block only for a name that finds every slot used.
abbrev pub may_be_full : PosixTree → List ℕ → Bool
may_be_full t dir = entry_count t.paths dir % SLOTS_PER_BLOCK == 0

-- The blocks that a request may need: one for a name that it adds where the directory may be full, else those by which its file grows.
abbrev pub needed : PosixTree → ℕ → Op → ℕ
needed t client request =
    if adds_name t request then (if may_be_full t (grown_dir request) then 1 else 0)
    else blocks_of (new_size t client request (old_size t client request)) - blocks_of (old_size t client request)

-- the most extents of a file or directory
abbrev pub max_extents : ℕ
max_extents = 56

-- what an excuse says of its request
abbrev pub IsExcuseOf : PosixTree → ℕ → Op → Excuse → Type 0
IsExcuseOf t client request excuse.Memory = ⊤
IsExcuseOf t client request (excuse.Device fault) = ⊤
IsExcuseOf t client request (excuse.Stopped fault) = ⊤
IsExcuseOf t client request (excuse.Blocks need had) = (need ≡ needed t client request) × (had < need)
IsExcuseOf t client request excuse.Inodes = makes_node t request ≡ true
IsExcuseOf t client request (excuse.Extents need) = (max_extents < need) × (need ≤ max_extents + needed t client request)

-- want of memory excuses any request
abbrev pub is_memory : Excuse → Bool
is_memory excuse.Memory = true
is_memory _ = false

-- The excuse fits. One other than memory stands only where the request isn't refused.
pub record ExcuseFits (t : PosixTree) (client : ℕ) (request : Op) (x : Excuse) : Type 0 where
  pub due : is_memory x ≡ false → refusal t client request ≡ None
  pub told : IsExcuseOf t client request x
