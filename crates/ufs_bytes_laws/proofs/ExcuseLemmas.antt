-- An excuse that fits a request in one tree fits it in each that is alike.
use Rattle.std.proofs.Common.{◌≡◌, ℕ, ◌-◌, ◌≤◌, ◌+◌, length, ap, sym, refl, ◌∙◌, subst}
use Rattle.ufs_model.specs.PosixTree.{PosixTree, Files}
use Rattle.ufs_model.specs.FileBytes.{size_after}
use Rattle.ufs_model.specs.Excuses.{ExcuseFits, IsExcuseOf, needed, makes_node, blocks_of, max_extents}
use Rattle.ufs_model.specs.declared.data.Op.{Op}
use Rattle.ufs_model.specs.declared.data.Op.TheVariants as op
use Rattle.ufs_model.specs.declared.data.Excuse.{Excuse}
use Rattle.ufs_model.specs.declared.data.Excuse.TheVariants as excuse
use Rattle.ufs_bytes_laws.specs.Alike.{HaveSameSizes}
use Rattle.ufs_bytes_laws.specs.Laws.{ExcusesAreAlike}
use Rattle.ufs_bytes_laws.proofs.TreeLemmas.{with_files, by_files}
use Rattle.ufs_bytes_laws.proofs.StepLemmas.{file_size, write_place, refused}

module _ (t : PosixTree) (bytes : Files) (same : HaveSameSizes t.bytes bytes) (client : ℕ) where
  abbrev u : PosixTree
  u = with_files t bytes

  needed_same : (request : Op) → needed t client request ≡ needed u client request
  needed_same (op.OpenFile path read write creat excl trunc append) = refl
  needed_same (op.Close fd) = refl
  needed_same (op.Read fd n) = refl
  needed_same (op.Write fd fresh) = λ i.
      blocks_of (size_after (file_size t bytes same client fd i) (write_place t bytes same client fd i) (length fresh)) - blocks_of (file_size t bytes same client fd i)
  needed_same (op.Pread fd n at) = refl
  needed_same (op.Pwrite fd fresh at) = ap (λ size. blocks_of (size_after size at (length fresh)) - blocks_of size) (file_size t bytes same client fd)
  needed_same (op.Seek fd from by) = refl
  needed_same (op.Trunc fd size) = ap (λ old. blocks_of size - blocks_of old) (file_size t bytes same client fd)
  needed_same (op.Fsync fd) = refl
  needed_same op.Sync = refl
  needed_same (op.Mkdir path) = refl
  needed_same (op.Rmdir path) = refl
  needed_same (op.Unlink path) = refl
  needed_same (op.Rename from to) = refl
  needed_same (op.Stat path) = refl
  needed_same (op.List path) = refl

  made_same : (request : Op) → makes_node t request ≡ makes_node u request
  made_same (op.OpenFile path read write creat excl trunc append) = refl
  made_same (op.Mkdir path) = refl
  made_same _ = refl

  told : (request : Op) (x : Excuse) → IsExcuseOf t client request x → IsExcuseOf u client request x
  told request excuse.Memory is = tt
  told request (excuse.Device fault) is = tt
  told request (excuse.Stopped fault) is = tt
  told request (excuse.Blocks need had) is = (is.0 ∙ needed_same request, is.1)
  told request excuse.Inodes is = sym (made_same request) ∙ is
  told request (excuse.Extents need) is = (is.0, subst (λ n. need ≤ max_extents + n) (needed_same request) is.1)

  fits : (request : Op) (x : Excuse) → ExcuseFits t client request x → ExcuseFits u client request x
  fits request x is = record { due = λ e. sym (refused t bytes same client request) ∙ is.due e; told = told request x is.told }

pub excuses : ExcusesAreAlike
excuses t u' client request x is so = by_files (λ u. ExcuseFits u client request x) t u' is (fits t u'.bytes is.sizes client request x so)
