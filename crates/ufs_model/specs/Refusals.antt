-- Why a request is refused, in the order in which it is looked at.
use Rattle.std.specs.Prelude.{ℕ, List, ◌&&◌, ◌||◌, not, nat_lt, length, Option, Some, None, is_some, is_none}
use Rattle.std.specs.Str.{bytes_eq}
use Rattle.std.specs.FinMap as map
use Rattle.ufs_base.specs.Choices.{first_of, refused_if}
use Rattle.ufs_model.specs.Paths.{text_refusal, whole_of, is_root}
use Rattle.ufs_model.specs.PosixTree.{PosixTree, Paths, desc_at, is_dir}
use Rattle.ufs_model.specs.Walk.{walk_refusal, node_at, is_file}
use Rattle.ufs_model.specs.Directories.{has_entries, is_below}
use Rattle.ufs_model.specs.Descriptors.{Mode, opened, lowest_free, is_mode, seek_to, is_offset, mode_of_open}
use Rattle.ufs_model.specs.FileBytes.{content, place_of, is_past, max_size}
use Rattle.ufs_model.specs.declared.data.Op.{Op}
use Rattle.ufs_model.specs.declared.data.Op.TheVariants as op
use Rattle.ufs_model.specs.declared.data.Desc.{Desc}
use Rattle.ufs_model.specs.declared.data.Node.{Node}
use Rattle.ufs_model.specs.declared.data.Node.TheVariants.{Dir, File}
use Rattle.ufs_model.specs.declared.data.Errno.{Errno}
use Rattle.ufs_model.specs.declared.data.Errno.TheVariants.{Enoent, Einval, Enotdir, Eexist, Eisdir, Enotempty, Ebusy, Eperm, Ebadf, Emfile, Efbig}

-- ---- by flags, descriptors and texts, which the client itself can tell

abbrev pub read_refusal : Option Desc → Option Errno
read_refusal None = Some Ebadf
read_refusal (Some d) = first_of (refused_if (not d.read) Ebadf) (refused_if (is_none d.file) Eisdir)

abbrev pub write_refusal : Option Desc → Option Errno
write_refusal None = Some Ebadf
write_refusal (Some d) = refused_if (not d.write || is_none d.file) Ebadf

abbrev pub seek_refusal : Option Desc → Option Errno
seek_refusal None = Some Ebadf
seek_refusal (Some d) = refused_if (is_none d.file) Einval

abbrev pub trunc_refusal : Option Desc → Option Errno
trunc_refusal None = Some Ebadf
trunc_refusal (Some d) = refused_if (not d.write || is_none d.file) Einval

abbrev pub own_refusal : PosixTree → ℕ → Op → Option Errno
own_refusal t client (op.OpenFile path read write creat excl trunc append) =
    first_of (refused_if (not (is_mode (mode_of_open read write creat excl trunc append))) Einval)
    (first_of (refused_if (is_none (lowest_free t.fds client)) Emfile) (text_refusal path))
own_refusal t client (op.Close fd) = refused_if (is_none (desc_at t client fd)) Ebadf
own_refusal t client (op.Read fd n) = read_refusal (desc_at t client fd)
own_refusal t client (op.Write fd data') = write_refusal (desc_at t client fd)
own_refusal t client (op.Pread fd n at) = read_refusal (desc_at t client fd)
own_refusal t client (op.Pwrite fd data' at) = write_refusal (desc_at t client fd)
own_refusal t client (op.Seek fd from by) = seek_refusal (desc_at t client fd)
own_refusal t client (op.Trunc fd size) = trunc_refusal (desc_at t client fd)
own_refusal t client (op.Fsync fd) = refused_if (is_none (desc_at t client fd)) Ebadf
own_refusal t client op.Sync = None
own_refusal t client (op.Mkdir path) = text_refusal path
own_refusal t client (op.Rmdir path) = text_refusal path
own_refusal t client (op.Unlink path) = text_refusal path
own_refusal t client (op.Rename from to) = first_of (text_refusal from) (text_refusal to)
own_refusal t client (op.Stat path) = text_refusal path
own_refusal t client (op.List path) = text_refusal path

-- ---- by what stands in the tree

-- an `open` of what stands at the path
abbrev pub open_refusal : Mode → Option Node → Option Errno
open_refusal m None = refused_if (not m.creat) Enoent
open_refusal m (Some Dir) = first_of (refused_if (m.creat && m.excl) Eexist) (refused_if (m.write || m.creat) Eisdir)
open_refusal m (Some (File f)) = refused_if (m.creat && m.excl) Eexist

abbrev pub rmdir_refusal : Paths → List ℕ → Option Errno
rmdir_refusal paths path =
    first_of (refused_if (is_root path) Ebusy)
    (first_of (refused_if (is_none (node_at paths path)) Enoent)
    (first_of (refused_if (is_file (node_at paths path)) Enotdir)
    (refused_if (has_entries paths (whole_of path)) Enotempty)))

abbrev pub unlink_refusal : Option Node → Option Errno
unlink_refusal node = first_of (refused_if (is_none node) Enoent) (refused_if (is_dir node) Eperm)

-- a new name for what stands at one whole path, where another may stand
abbrev pub replace_refusal : Paths → List ℕ → List ℕ → Option Errno
replace_refusal paths from to =
    first_of (refused_if (is_dir (map.get paths from) && is_below from to) Einval)
    (first_of (refused_if (is_file (map.get paths from) && is_dir (map.get paths to)) Eisdir)
    (first_of (refused_if (is_dir (map.get paths from) && is_file (map.get paths to)) Enotdir)
    (refused_if (not (bytes_eq from to) && (is_dir (map.get paths to) && has_entries paths to)) Enotempty)))

abbrev pub rename_refusal : Paths → List ℕ → List ℕ → Option Errno
rename_refusal paths from to =
    first_of (refused_if (is_root from || is_root to) Ebusy)
    (first_of (walk_refusal paths from)
    (first_of (refused_if (is_none (node_at paths from)) Enoent)
    (first_of (walk_refusal paths to) (replace_refusal paths (whole_of from) (whole_of to)))))

abbrev pub list_refusal : Option Node → Option Errno
list_refusal node = first_of (refused_if (is_none node) Enoent) (refused_if (is_file node) Enotdir)

abbrev pub tree_refusal : PosixTree → ℕ → Op → Option Errno
tree_refusal t client (op.OpenFile path read write creat excl trunc append) =
    first_of (walk_refusal t.paths path)
    (open_refusal (mode_of_open read write creat excl trunc append) (node_at t.paths path))
tree_refusal t client (op.Close fd) = None
tree_refusal t client (op.Read fd n) = None
tree_refusal t client (op.Write fd data') =
    refused_if (is_past (place_of (opened t client fd) (content t.bytes (opened t client fd).file)) data') Efbig
tree_refusal t client (op.Pread fd n at) = None
tree_refusal t client (op.Pwrite fd data' at) = refused_if (is_past at data') Efbig
tree_refusal t client (op.Seek fd from by) =
    refused_if (not (is_offset (seek_to from by (opened t client fd) (length (content t.bytes (opened t client fd).file))))) Einval
tree_refusal t client (op.Trunc fd size) = refused_if (nat_lt max_size size) Efbig
tree_refusal t client (op.Fsync fd) = None
tree_refusal t client op.Sync = None
tree_refusal t client (op.Mkdir path) = first_of (walk_refusal t.paths path) (refused_if (is_some (node_at t.paths path)) Eexist)
tree_refusal t client (op.Rmdir path) = first_of (walk_refusal t.paths path) (rmdir_refusal t.paths path)
tree_refusal t client (op.Unlink path) = first_of (walk_refusal t.paths path) (unlink_refusal (node_at t.paths path))
tree_refusal t client (op.Rename from to) = rename_refusal t.paths from to
tree_refusal t client (op.Stat path) = first_of (walk_refusal t.paths path) (refused_if (is_none (node_at t.paths path)) Enoent)
tree_refusal t client (op.List path) = first_of (walk_refusal t.paths path) (list_refusal (node_at t.paths path))

-- ---- both

abbrev pub refusal : PosixTree → ℕ → Op → Option Errno
refusal t client request = first_of (own_refusal t client request) (tree_refusal t client request)
