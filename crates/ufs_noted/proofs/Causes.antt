-- Want of memory is a cause of any request's excuse.
use Rattle.std.proofs.Common.{◌≡◌, ℕ, true, ap, sym, ◌∙◌, subst}
use Rattle.std.specs.FinSet as set
use Rattle.ufs_bitmap.specs.Blocks.{BlockSet}
use Rattle.ufs_dir_tree.specs.DirTable.{DirTable}
use Rattle.ufs_model.specs.declared.data.Excuse.{Excuse}
use Rattle.ufs_model.specs.declared.data.Excuse.TheVariants as excuse
use Rattle.ufs_model.specs.declared.data.Op.{Op}
use Rattle.ufs_model.specs.declared.data.Op.TheVariants as op
use Rattle.ufs_model.specs.declared.data.Reply.{Reply}
use Rattle.ufs_model.specs.declared.data.Reply.TheVariants as reply
use Rattle.ufs_names.specs.Space.{IsCause}

memory_causes : (t : DirTable) (pool : BlockSet) (request : Op) → IsCause t pool request excuse.Memory
memory_causes t pool (op.OpenFile path read write creat excl trunc append) = tt
memory_causes t pool (op.Close fd) = tt
memory_causes t pool (op.Read fd n) = tt
memory_causes t pool (op.Write fd fresh) = tt
memory_causes t pool (op.Pread fd n at) = tt
memory_causes t pool (op.Pwrite fd fresh at) = tt
memory_causes t pool (op.Seek fd from by) = tt
memory_causes t pool (op.Trunc fd size) = tt
memory_causes t pool (op.Fsync fd) = tt
memory_causes t pool op.Sync = tt
memory_causes t pool (op.Mkdir path) = tt
memory_causes t pool (op.Rmdir path) = tt
memory_causes t pool (op.Unlink path) = tt
memory_causes t pool (op.Rename from to) = tt
memory_causes t pool (op.Stat path) = tt
memory_causes t pool (op.List path) = tt

abbrev excuse_or : Excuse → Reply → Excuse
excuse_or x (reply.Excused y) = y
excuse_or x _ = x

pub memory_is : (r : Reply) (x : Excuse) → r ≡ reply.Excused excuse.Memory → r ≡ reply.Excused x → excuse.Memory ≡ x
memory_is r x is also = ap (excuse_or x) (sym is ∙ also)

pub caused_by_memory : (t : DirTable) (pool : BlockSet) (request : Op) (r : Reply) (x : Excuse) → r ≡ reply.Excused excuse.Memory → r ≡ reply.Excused x → IsCause t pool request x
caused_by_memory t pool request r x is also = subst (IsCause t pool request) (memory_is r x is also) (memory_causes t pool request)
