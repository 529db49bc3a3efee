-- The tree that maps stand for, and what is undone in it.
use Rattle.std.proofs.Common.{◌≡◌, ℕ, List, Bool, true, None, Result, Ok, Err, OnErr, ap, ◌∙◌}
use Rattle.std.specs.Prelude.{is_err}
use Rattle.std.specs.FinMap as map
use Rattle.ufs_model.specs.PosixTree.{PosixTree, Paths, Files, Fds}
use Rattle.ufs_model.specs.declared.data.Desc.{Desc}
use Rattle.ufs_model.specs.declared.data.Node.{Node}
use Rattle.ufs_model.proofs.Facts.Orders.{path_total, path_same, fd_total, fd_same}
use Rattle.ufs_calls.proofs.Facts.Inserts.{remove_inserted}

abbrev pub tree_by : Paths → Files → Fds → ℕ → PosixTree
tree_by paths bytes fds next = record { paths = paths; bytes = bytes; fds = fds; next = next }

pub same_tree : (paths paths' : Paths) (bytes bytes' : Files) (fds fds' : Fds) (next next' : ℕ) → paths ≡ paths' → bytes ≡ bytes' → fds ≡ fds' → next ≡ next' → tree_by paths bytes fds next ≡ tree_by paths' bytes' fds' next'
same_tree paths paths' bytes bytes' fds fds' next next' p b f n i = record { paths = p i; bytes = b i; fds = f i; next = n i }

-- a path that was added is removed again
pub path_undone : (old added now : Paths) (path path' : List ℕ) (n : Node) → map.get old path ≡ None → path' ≡ path → added ≡ map.insert old path n → now ≡ map.remove added path' → now ≡ old
path_undone old added now path path' n none same add remove =
    remove ∙ ap (map.remove added) same ∙ ap (λ (m : Paths). map.remove m path) add ∙ remove_inserted path_total path_same old path n none

-- a descriptor that was opened is closed again
pub fd_undone : (old added now : Fds) (client fd : ℕ) (d : Desc) → map.get old (client, fd) ≡ None → added ≡ map.insert old (client, fd) d → now ≡ map.remove added (client, fd) → now ≡ old
fd_undone old added now client fd d none add remove =
    remove ∙ ap (λ (m : Fds). map.remove m (client, fd)) add ∙ remove_inserted fd_total fd_same old (client, fd) d none

-- what holds of an error, where there is one
pub on_is_err : {T E P : Type 0} (r : Result T E) → (b : Bool) → b ≡ is_err r → b ≡ true → OnErr r P → P
on_is_err (Ok x) b is true_of p = cc
on_is_err (Err e) b is true_of p = p
