-- The file calls: which tree and which reply a request of a client gives.
use Rattle.std.specs.Prelude.{ℕ, ◌+◌, List, [], ◌==◌, length, if◌then◌else◌, Option, Some, None, unwrap_or}
use Rattle.std.specs.Str.{bytes_eq}
use Rattle.std.specs.FinMap as map
use Rattle.ufs_model.specs.Paths.{whole_of}
use Rattle.ufs_model.specs.PosixTree.{PosixTree, is_live}
use Rattle.ufs_model.specs.Walk.{node_at, file_of}
use Rattle.ufs_model.specs.Directories.{entry_count, entry_names, renamed}
use Rattle.ufs_model.specs.Descriptors.{Mode, opened, with_offset, desc_of, lowest_free, seek_to, mode_of_open}
use Rattle.ufs_model.specs.FileBytes.{content, part, put_at, resized, place_of}
use Rattle.ufs_model.specs.Refusals.{refusal}
use Rattle.ufs_model.specs.declared.data.Op.{Op}
use Rattle.ufs_model.specs.declared.data.Op.TheVariants as op
use Rattle.ufs_model.specs.declared.data.Reply.{Reply}
use Rattle.ufs_model.specs.declared.data.Reply.TheVariants.{Done, Fd, Count, At, Got, IsFile, IsDir, Names, Refused}
use Rattle.ufs_model.specs.declared.data.Errno.{Errno}
use Rattle.ufs_model.specs.declared.data.Desc.{Desc}
use Rattle.ufs_model.specs.declared.data.Node.{Node}
use Rattle.ufs_model.specs.declared.data.Node.TheVariants.{Dir, File}

-- ---- the reply to a request that isn't refused

-- the descriptor that an `open` gives
abbrev pub new_fd : PosixTree → ℕ → ℕ
new_fd t client = unwrap_or (lowest_free t.fds client) 0

-- the bytes of the file of a client's descriptor
abbrev pub file_bytes : PosixTree → ℕ → ℕ → List ℕ
file_bytes t client fd = content t.bytes (opened t client fd).file

-- what a `read` gives
abbrev pub bytes_read : PosixTree → ℕ → ℕ → ℕ → List ℕ
bytes_read t client fd n = part (file_bytes t client fd) (opened t client fd).at n

-- where a `seek` leads
abbrev pub new_offset : PosixTree → ℕ → Op → ℕ
new_offset t client (op.Seek fd from by) = unwrap_or (seek_to from by (opened t client fd) (length (file_bytes t client fd))) 0
new_offset t client _ = 0

-- a file's size, or the number of a directory's entries
abbrev pub stat_reply : PosixTree → List ℕ → Option Node → Reply
stat_reply t whole None = Done
stat_reply t whole (Some Dir) = IsDir (entry_count t.paths whole)
stat_reply t whole (Some (File f)) = IsFile (length (content t.bytes (Some f)))

abbrev pub answer : PosixTree → ℕ → Op → Reply
answer t client (op.OpenFile path read write creat excl trunc append) = Fd (new_fd t client)
answer t client (op.Close fd) = Done
answer t client (op.Read fd n) = Got (bytes_read t client fd n)
answer t client (op.Write fd data') = Count (length data')
answer t client (op.Pread fd n at) = Got (part (file_bytes t client fd) at n)
answer t client (op.Pwrite fd data' at) = Count (length data')
answer t client (op.Seek fd from by) = At (new_offset t client (op.Seek fd from by))
answer t client (op.Trunc fd size) = Done
answer t client (op.Fsync fd) = Done
answer t client op.Sync = Done
answer t client (op.Mkdir path) = Done
answer t client (op.Rmdir path) = Done
answer t client (op.Unlink path) = Done
answer t client (op.Rename from to) = Done
answer t client (op.Stat path) = stat_reply t (whole_of path) (node_at t.paths path)
answer t client (op.List path) = Names (entry_names t.paths (whole_of path))

-- ---- the tree after a request that isn't refused

abbrev pub with_fd : PosixTree → ℕ → ℕ → Desc → PosixTree
with_fd t client fd desc = record t { fds = map.insert t.fds (client, fd) desc }

-- a file's bytes change; a directory has none
abbrev pub with_bytes : PosixTree → Option ℕ → List ℕ → PosixTree
with_bytes t None bytes = t
with_bytes t (Some file) bytes = record t { bytes = map.insert t.bytes file bytes }

-- a new file with no bytes at a whole path
abbrev pub with_file : PosixTree → List ℕ → PosixTree
with_file t whole = record t { paths = map.insert t.paths whole (File t.next); bytes = map.insert t.bytes t.next []; next = t.next + 1 }

-- a file that is live no more leaves the bytes
abbrev pub forget : PosixTree → Option ℕ → PosixTree
forget t None = t
forget t (Some file) = if is_live t.paths t.fds file then t else record t { bytes = map.remove t.bytes file }

-- what stands at a whole path is opened: a missing file is made, and `trunc` empties one
abbrev pub open_node : PosixTree → ℕ → List ℕ → Mode → Option Node → PosixTree
open_node t client whole m None = with_fd (with_file t whole) client (new_fd t client) (desc_of m (Some t.next))
open_node t client whole m (Some Dir) = with_fd t client (new_fd t client) (desc_of m None)
open_node t client whole m (Some (File f)) =
    with_fd (if m.trunc then with_bytes t (Some f) [] else t) client (new_fd t client) (desc_of m (Some f))

abbrev pub close_fd : PosixTree → ℕ → ℕ → PosixTree
close_fd t client fd = forget (record t { fds = map.remove t.fds (client, fd) }) (opened t client fd).file

-- bytes are written from a place on; no byte changes nothing
abbrev pub written : PosixTree → Option ℕ → ℕ → List ℕ → PosixTree
written t file at data' = if length data' == 0 then t else with_bytes t file (put_at (content t.bytes file) at data')

-- the same, from the descriptor's place on; the offset becomes the end of the bytes
abbrev pub write_fd : PosixTree → ℕ → ℕ → List ℕ → PosixTree
write_fd t client fd data' =
    let d = opened t client fd in
    let at = place_of d (content t.bytes d.file) in
    if length data' == 0 then t else with_fd (written t d.file at data') client fd (with_offset d (at + length data'))

-- a name goes, and what stood there with it
abbrev pub without_path : PosixTree → List ℕ → PosixTree
without_path t whole = forget (record t { paths = map.remove t.paths whole }) (file_of (map.get t.paths whole))

-- a new name in one step; what stood there goes; a name onto itself changes nothing
abbrev pub rename_path : PosixTree → List ℕ → List ℕ → PosixTree
rename_path t from to =
    if bytes_eq from to then t
    else forget (record t { paths = renamed t.paths from to }) (file_of (map.get t.paths to))

abbrev pub change : PosixTree → ℕ → Op → PosixTree
change t client (op.OpenFile path read write creat excl trunc append) =
    open_node t client (whole_of path) (mode_of_open read write creat excl trunc append) (node_at t.paths path)
change t client (op.Close fd) = close_fd t client fd
change t client (op.Read fd n) =
    let d = opened t client fd in
    with_fd t client fd (with_offset d (d.at + length (bytes_read t client fd n)))
change t client (op.Write fd data') = write_fd t client fd data'
change t client (op.Pread fd n at) = t
change t client (op.Pwrite fd data' at) = written t (opened t client fd).file at data'
change t client (op.Seek fd from by) = with_fd t client fd (with_offset (opened t client fd) (new_offset t client (op.Seek fd from by)))
change t client (op.Trunc fd size) = with_bytes t (opened t client fd).file (resized (file_bytes t client fd) size)
change t client (op.Fsync fd) = t
change t client op.Sync = t
change t client (op.Mkdir path) = record t { paths = map.insert t.paths (whole_of path) Dir }
change t client (op.Rmdir path) = without_path t (whole_of path)
change t client (op.Unlink path) = without_path t (whole_of path)
change t client (op.Rename from to) = rename_path t (whole_of from) (whole_of to)
change t client (op.Stat path) = t
change t client (op.List path) = t

-- ---- all requests

-- a refused request leaves the tree as it was
abbrev pub served : PosixTree → ℕ → Op → Option Errno → PosixTree × Reply
served t client request (Some e) = (t, Refused e)
served t client request None = (change t client request, answer t client request)

abbrev pub posix : PosixTree → ℕ → Op → PosixTree × Reply
posix t client request = served t client request (refusal t client request)
