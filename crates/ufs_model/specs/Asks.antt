-- What a server is told with a request, and what it tells of the request's descriptor.
use Rattle.std.specs.Prelude.{ℕ, ◌≡◌, ◌≢◌, ◌⊎◌, Bool, false, not, Option, Some, None, unwrap_or}
use Rattle.std.specs.FinMap as map
use Rattle.ufs_model.specs.PosixTree.{PosixTree, Fds}
use Rattle.ufs_model.specs.Descriptors.{lowest_free}
use Rattle.ufs_model.specs.Touched.{holds}
use Rattle.ufs_model.specs.declared.data.Op.{Op}
use Rattle.ufs_model.specs.declared.data.Op.TheVariants as op
use Rattle.ufs_model.specs.declared.data.Reply.{Reply}
use Rattle.ufs_model.specs.declared.data.Reply.TheVariants as reply
use Rattle.ufs_model.specs.declared.data.Desc.{Desc}
use Rattle.ufs_model.specs.declared.data.Ask.{Ask}

-- ---- before

-- the descriptor that a request names
abbrev pub fd_named : Op → Option ℕ
fd_named (op.Close fd) = Some fd
fd_named (op.Read fd n) = Some fd
fd_named (op.Write fd data') = Some fd
fd_named (op.Pread fd n at) = Some fd
fd_named (op.Pwrite fd data' at) = Some fd
fd_named (op.Seek fd from by) = Some fd
fd_named (op.Trunc fd size) = Some fd
fd_named (op.Fsync fd) = Some fd
fd_named _ = None

-- what a client's descriptor stands for, if there is one
abbrev pub desc_of_fd : Fds → ℕ → Option ℕ → Option Desc
desc_of_fd fds client None = None
desc_of_fd fds client (Some fd) = map.get fds (client, fd)

-- the client's lowest free descriptor for an `open`, and 0 for any other request, and where none is free
abbrev pub fd_asked : Fds → ℕ → Op → ℕ
fd_asked fds client (op.OpenFile path read write creat excl trunc append) = unwrap_or (lowest_free fds client) 0
fd_asked fds client _ = 0

-- the client has no other descriptor of the file
abbrev pub is_last_of : Fds → ℕ → ℕ → Option ℕ → Bool
is_last_of fds client fd None = false
is_last_of fds client fd (Some file) = not (holds (map.remove fds (client, fd)) client file)

-- the file of a descriptor
abbrev pub file_in : Option Desc → Option ℕ
file_in None = None
file_in (Some d) = d.file

-- the request is a `close` that ends the client's hold of the file
abbrev pub is_last : Fds → ℕ → Op → Bool
is_last fds client (op.Close fd) = is_last_of fds client fd (file_in (map.get fds (client, fd)))
is_last fds client _ = false

-- What is told with the request is so in the tree.
pub record IsAsk (t : PosixTree) (ask : Ask) : Type 0 where
  pub desc : ask.desc ≡ desc_of_fd t.fds ask.client (fd_named ask.op)
  pub fd : ask.fd ≡ fd_asked t.fds ask.client ask.op
  pub last : ask.last ≡ is_last t.fds ask.client ask.op

-- ---- afterwards

-- the descriptor of a request that has a reply: the one that it names, or the one that it opened
abbrev pub fd_opened : Reply → Option ℕ
fd_opened (reply.Fd fd) = Some fd
fd_opened _ = None

abbrev pub fd_told : Op → Reply → Option ℕ
fd_told (op.OpenFile path read write creat excl trunc append) r = fd_opened r
fd_told request r = fd_named request

-- Of the descriptors a request changes its own alone, which afterwards is this.
pub record IsDescAfter (old new : Fds) (client : ℕ) (fd : Option ℕ) (d : Option Desc) : Type 0 where
  pub this : d ≡ desc_of_fd new client fd
  pub others : (c n : ℕ) → (c ≢ client) ⊎ (fd ≢ Some n) → map.get new (c, n) ≡ map.get old (c, n)
