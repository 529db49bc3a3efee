-- What the requests on paths answer and change, by what is found there.
use Rattle.std.specs.Prelude.{ℕ, ◌≡◌, List, length, Bool, Option, Some, None, is_some, is_none}
use Rattle.std.specs.FinMap as map
use Rattle.std.specs.Option.{option_map}
use Rattle.ufs_base.specs.Choices.{first_of, refused_if}
use Rattle.ufs_dir_tree.specs.DirTable.{slots_at, found_at}
use Rattle.ufs_dir_tree.specs.declared.found.Found.{Found}
use Rattle.ufs_dir_tree.specs.declared.found.Found.TheVariants.{Dir, File}
use Rattle.ufs_dirs.specs.Names.{AreNamesIn}
use Rattle.ufs_file.specs.Hand.{FileState}
use Rattle.ufs_files.specs.Files.{Files}
use Rattle.ufs_model.specs.Paths.{components, text_refusal}
use Rattle.ufs_model.specs.PosixTree.{PosixTree}
use Rattle.ufs_model.specs.Walk.{is_file}
use Rattle.ufs_model.specs.Refusals.{open_refusal, unlink_refusal, list_refusal, rename_refusal, refusal}
use Rattle.ufs_model.specs.declared.data.Ask.{Ask}
use Rattle.ufs_model.specs.declared.data.Errno.{Errno}
use Rattle.ufs_model.specs.declared.data.Errno.TheVariants.{Eexist, Enoent, Ebusy, Enotdir, Enotempty}
use Rattle.ufs_model.specs.declared.data.Node.{Node}
use Rattle.ufs_model.specs.declared.data.Op.{Op}
use Rattle.ufs_model.specs.declared.data.Op.TheVariants as op
use Rattle.ufs_model.specs.declared.data.Reply.{Reply}
use Rattle.ufs_model.specs.declared.data.Reply.TheVariants as reply
use Rattle.ufs_name_tree.specs.NameTable.{IsNameTable, file_at}
use Rattle.ufs_names.specs.Calls.{IsAsked}
use Rattle.ufs_names.specs.NamesPart.{NamesPart, IsNamesPart}

-- the path of a request on one path
abbrev pub path_asked : Op → Option (List ℕ)
path_asked (op.OpenFile path read write creat excl trunc append) = Some path
path_asked (op.Mkdir path) = Some path
path_asked (op.Rmdir path) = Some path
path_asked (op.Unlink path) = Some path
path_asked (op.Stat path) = Some path
path_asked (op.List path) = Some path
path_asked _ = None

-- Why a request on one path is refused, by whether the path is the root's, what stands at its end, and whether that has
-- entries.
abbrev pub end_refusal : Bool → Option Node → Bool → Op → Option Errno
end_refusal at_root node has_entries (op.OpenFile path read write creat excl trunc append) =
    open_refusal (record { read = read; write = write; creat = creat; excl = excl; trunc = trunc; append = append }) node
end_refusal at_root node has_entries (op.Mkdir path) = refused_if (is_some node) Eexist
end_refusal at_root node has_entries (op.Rmdir path) =
    first_of (refused_if at_root Ebusy) (first_of (refused_if (is_none node) Enoent) (first_of (refused_if (is_file node) Enotdir) (refused_if has_entries Enotempty)))
end_refusal at_root node has_entries (op.Unlink path) = unlink_refusal node
end_refusal at_root node has_entries (op.Stat path) = refused_if (is_none node) Enoent
end_refusal at_root node has_entries (op.List path) = list_refusal node
end_refusal at_root _ has_entries _ = None

-- ---- answers

-- What a `stat` is answered: the number of a directory's names, or the number of a file's bytes.
abbrev pub IsStat : NamesPart → Files → Option Found → Reply → Type 0
IsStat n fs None r = r ≡ reply.Done
IsStat n fs (Some (Dir i)) r = (names : List (List ℕ)) → AreNamesIn (slots_at n.tree.dirs i) names → r ≡ reply.IsDir (length names)
IsStat n fs (Some (File i)) r = (f : ℕ) (s : FileState) → file_at n.tree i ≡ Some f → map.get fs f ≡ Some s → r ≡ reply.IsFile (length s.content.bytes)

-- What a `list` is answered: a directory's names.
abbrev pub IsList : NamesPart → Option Found → Reply → Type 0
IsList n (Some (Dir i)) r = (names : List (List ℕ)) × (AreNamesIn (slots_at n.tree.dirs i) names × (r ≡ reply.Names names))
IsList n _ r = Unit {0}

-- The request is on the path of these names, at which this was found, and isn't refused.
pub record IsAllowed (t : PosixTree) (ask : Ask) (n : NamesPart) (fs : Files) (names : List (List ℕ)) (found : Option Found) : Type 0 where
  pub all : IsAsked t n ask fs
  pub allowed : refusal t ask.client ask.op ≡ None
  pub path : option_map components (path_asked ask.op) ≡ Some names
  pub met : found ≡ found_at n.tree.dirs names
  pub table : IsNameTable n.tree

-- In each tree of the part a `rename` between paths of these names, whose texts aren't refused, is refused so.
abbrev pub RefusesRename : NamesPart → List (List ℕ) → List (List ℕ) → Option Errno → Type 0
RefusesRename n from to r = (t : PosixTree) (old new : List ℕ) → IsNamesPart n t → text_refusal old ≡ None → text_refusal new ≡ None → from ≡ components old → to ≡ components new → rename_refusal t.paths old new ≡ r
