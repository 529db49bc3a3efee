-- What a request changes, in steps.
use Rattle.std.specs.Prelude.{ℕ, List, [], Bool, if◌then◌else◌, Option, Some, None}
use Rattle.std.specs.FinMap as map
use Rattle.ufs_model.specs.PosixTree.{PosixTree}
use Rattle.ufs_model.specs.Posix.{with_file, with_bytes, change}
use Rattle.ufs_model.specs.declared.data.Op.{Op}
use Rattle.ufs_model.specs.declared.data.Op.TheVariants as op
use Rattle.ufs_model.specs.declared.data.Node.{Node}
use Rattle.ufs_model.specs.declared.data.Node.TheVariants.{Dir, File}

-- the missing file is made, or the one that is there emptied
abbrev pub made_or_emptied : PosixTree → List ℕ → Option Node → Bool → PosixTree
made_or_emptied t whole None trunc = with_file t whole
made_or_emptied t whole (Some Dir) trunc = t
made_or_emptied t whole (Some (File f)) trunc = if trunc then with_bytes t (Some f) [] else t

abbrev pub with_dir : PosixTree → List ℕ → PosixTree
with_dir t whole = record t { paths = map.insert t.paths whole Dir }

-- what a request on a descriptor changes; one on a path isn't among them
abbrev pub change_open : PosixTree → ℕ → Op → PosixTree
change_open t client (op.OpenFile path read write creat excl trunc append) = t
change_open t client (op.Mkdir path) = t
change_open t client (op.Rmdir path) = t
change_open t client (op.Unlink path) = t
change_open t client (op.Rename from to) = t
change_open t client request = change t client request
