-- What holds of a request on a path that isn't refused.
use Rattle.std.proofs.Common.{◌≡◌, ℕ, List, Bool, true, false, not, Option, Some, None, is_none, refl, bytes_eq}
use Rattle.std.specs.FinMap as map
use Rattle.ufs_base.specs.Choices.{refused_if}
use Rattle.ufs_model.specs.Paths.{text_refusal, is_root}
use Rattle.ufs_model.specs.PosixTree.{PosixTree, Paths, is_dir}
use Rattle.ufs_model.specs.Walk.{walk_refusal, node_at, is_file}
use Rattle.ufs_model.specs.Descriptors.{Mode, lowest_free, is_mode}
use Rattle.ufs_model.specs.Posix.{new_fd}
use Rattle.ufs_model.specs.Refusals.{own_refusal, refusal}
use Rattle.ufs_model.specs.declared.data.Errno.TheVariants.{Einval, Ebusy, Enoent, Enotdir, Emfile}
use Rattle.ufs_model.specs.declared.data.Node.{Node}
use Rattle.ufs_model.specs.declared.data.Node.TheVariants.{Dir, File}
use Rattle.ufs_model.specs.declared.data.Op.TheVariants as op
use Rattle.ufs_model.proofs.Facts.Pieces.{same_bytes}
use Rattle.ufs_model.proofs.Facts.Allowed.{first_none, passed, missing}
use Rattle.ufs_model.proofs.KeepLemmas.{new_is_free}
use Rattle.ufs_model.proofs.NewNameLemmas.{IsRenamed}
use Rattle.ufs_names.proofs.NameLists.{AreNames}

-- neither a file nor nothing
a_dir : (o : Option Node) → is_none o ≡ false → is_file o ≡ false → o ≡ Some Dir
a_dir None e h = cc
a_dir (Some Dir) e h = refl
a_dir (Some (File f)) e h = cc

-- neither a directory nor nothing
a_file : (o : Option Node) → is_none o ≡ false → is_dir o ≡ false → (f : ℕ) × (o ≡ Some (File f))
a_file None e h = cc
a_file (Some Dir) e h = cc
a_file (Some (File f)) e h = (f, refl)

-- ---- a path comes or goes

-- The text and the walk to it are fine.
pub record IsReached (paths : Paths) (path : List ℕ) : Type 0 where
  pub text : text_refusal path ≡ None
  pub walk : walk_refusal paths path ≡ None

module _ (t : PosixTree) (client : ℕ) (path : List ℕ) where
  pub mkdir_allowed : refusal t client (op.Mkdir path) ≡ None → IsReached t.paths path × (node_at t.paths path ≡ None)
  mkdir_allowed e =
      let own = first_none (text_refusal path) _ e in
      let walk = first_none (walk_refusal t.paths path) _ own.1 in
      (record { text = own.0; walk = walk.0 }, missing (node_at t.paths path) (passed _ _ walk.1))

  pub rmdir_allowed : refusal t client (op.Rmdir path) ≡ None → IsReached t.paths path × (is_root path ≡ false) × (node_at t.paths path ≡ Some Dir)
  rmdir_allowed e =
      let own = first_none (text_refusal path) _ e in
      let walk = first_none (walk_refusal t.paths path) _ own.1 in
      let at_root = first_none (refused_if (is_root path) Ebusy) _ walk.1 in
      let there = first_none (refused_if (is_none (node_at t.paths path)) Enoent) _ at_root.1 in
      let file = first_none (refused_if (is_file (node_at t.paths path)) Enotdir) _ there.1 in
      (record { text = own.0; walk = walk.0 }, passed _ _ at_root.0, a_dir (node_at t.paths path) (passed _ _ there.0) (passed _ _ file.0))

  pub unlink_allowed : refusal t client (op.Unlink path) ≡ None → IsReached t.paths path × ((f : ℕ) × (node_at t.paths path ≡ Some (File f)))
  unlink_allowed e =
      let own = first_none (text_refusal path) _ e in
      let walk = first_none (walk_refusal t.paths path) _ own.1 in
      let there = first_none (refused_if (is_none (node_at t.paths path)) Enoent) _ walk.1 in
      (record { text = own.0; walk = walk.0 }, a_file (node_at t.paths path) (passed _ _ there.0) (passed _ _ there.1))

-- ---- a path is opened

pub open_allowed : (t : PosixTree) (client : ℕ) (path : List ℕ) (read write creat excl trunc append : Bool) → refusal t client (op.OpenFile path read write creat excl trunc append) ≡ None
    → IsReached t.paths path × (map.get t.fds (client, new_fd t client) ≡ None)
open_allowed t client path read write creat excl trunc append e =
    let m : Mode = record { read = read; write = write; creat = creat; excl = excl; trunc = trunc; append = append } in
    let both = first_none (own_refusal t client (op.OpenFile path read write creat excl trunc append)) _ e in
    let mode = first_none (refused_if (not (is_mode m)) Einval) _ both.0 in
    let free = first_none (refused_if (is_none (lowest_free t.fds client)) Emfile) (text_refusal path) mode.1 in
    let walk = first_none (walk_refusal t.paths path) _ both.1 in
    (record { text = free.1; walk = walk.0 }, new_is_free t client (passed (is_none (lowest_free t.fds client)) Emfile free.0))

-- ---- a new name

-- the names of the old path..
pub old_names : (paths : Paths) (old new : List (List ℕ)) → IsRenamed paths old new → AreNames old
old_names paths old new is = record { plain = is.old_plain; allowed = is.old_allowed }

-- ..and of the new one
pub new_names : (paths : Paths) (old new : List (List ℕ)) → IsRenamed paths old new → AreNames new
new_names paths old new is = record { plain = is.new_plain; allowed = is.new_allowed }

-- two paths that differ
pub bytes_differ : (a b : List ℕ) → (a ≡ b → ⊥) → bytes_eq a b ≡ false
bytes_differ a b not = by (bytes_eq a b) refl
  where
    by : (c : Bool) → bytes_eq a b ≡ c → bytes_eq a b ≡ false
    by true e = absurd (not (same_bytes a b e))
    by false e = e
