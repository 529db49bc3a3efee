-- Why a request is refused by what stands at the end of its one path.
use Rattle.std.specs.Prelude.{ℕ, List, Option, None, is_some, is_none}
use Rattle.ufs_base.specs.Choices.{refused_if}
use Rattle.ufs_model.specs.PosixTree.{Paths}
use Rattle.ufs_model.specs.Descriptors.{mode_of_open}
use Rattle.ufs_model.specs.Walk.{node_at}
use Rattle.ufs_model.specs.Refusals.{open_refusal, rmdir_refusal, unlink_refusal, list_refusal}
use Rattle.ufs_model.specs.declared.data.Op.{Op}
use Rattle.ufs_model.specs.declared.data.Op.TheVariants as op
use Rattle.ufs_model.specs.declared.data.Errno.{Errno}
use Rattle.ufs_model.specs.declared.data.Errno.TheVariants.{Eexist, Enoent}

abbrev pub end_refusal : Paths → List ℕ → Op → Option Errno
end_refusal paths path (op.OpenFile _ read write creat excl trunc append) =
    open_refusal (mode_of_open read write creat excl trunc append) (node_at paths path)
end_refusal paths path (op.Mkdir _) = refused_if (is_some (node_at paths path)) Eexist
end_refusal paths path (op.Rmdir _) = rmdir_refusal paths path
end_refusal paths path (op.Unlink _) = unlink_refusal (node_at paths path)
end_refusal paths path (op.Stat _) = refused_if (is_none (node_at paths path)) Enoent
end_refusal paths path (op.List _) = list_refusal (node_at paths path)
end_refusal paths path _ = None
