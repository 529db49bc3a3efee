-- The names that POSIX gives to errors.
use Rattle.std.specs.Prelude.{ℕ, List, codes}
use Rattle.ufs_model.specs.declared.data.Errno.{Errno}
use Rattle.ufs_model.specs.declared.data.Errno.TheVariants as errno

abbrev pub errno_name : Errno → List ℕ
errno_name errno.Enoent = codes "ENOENT"
errno_name errno.Einval = codes "EINVAL"
errno_name errno.Enametoolong = codes "ENAMETOOLONG"
errno_name errno.Enotdir = codes "ENOTDIR"
errno_name errno.Eexist = codes "EEXIST"
errno_name errno.Eisdir = codes "EISDIR"
errno_name errno.Enotempty = codes "ENOTEMPTY"
errno_name errno.Ebusy = codes "EBUSY"
errno_name errno.Eperm = codes "EPERM"
errno_name errno.Ebadf = codes "EBADF"
errno_name errno.Emfile = codes "EMFILE"
errno_name errno.Efbig = codes "EFBIG"
