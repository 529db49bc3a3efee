-- Of the descriptors a request changes its own alone.
use Rattle.std.proofs.Common.{◌≡◌, ◌≢◌, ℕ, ◌+◌, ◌⊎◌, inl, inr, List, [], Bool, true, false, cond, eqb, length, Option, Some, None, ap, refl, sym, ◌∙◌, bytes_eq}
use Rattle.std.specs.FinMap as map
use Rattle.ufs_model.specs.Paths.{whole_of}
use Rattle.ufs_model.specs.PosixTree.{PosixTree, Fds, is_live}
use Rattle.ufs_model.specs.Walk.{node_at, file_of}
use Rattle.ufs_model.specs.Directories.{renamed}
use Rattle.ufs_model.specs.FileBytes.{content, place_of, put_at}
use Rattle.ufs_model.specs.Descriptors.{Mode, opened, with_offset, desc_of}
use Rattle.ufs_model.specs.Posix.{posix, served, change, answer, forget, with_fd, with_bytes, written, open_node, write_fd, new_fd, rename_path}
use Rattle.ufs_model.specs.Refusals.{refusal}
use Rattle.ufs_model.specs.Asks.{IsDescAfter, desc_of_fd, fd_told}
use Rattle.ufs_model.specs.declared.data.Desc.{Desc}
use Rattle.ufs_model.specs.declared.data.Errno.{Errno}
use Rattle.ufs_model.specs.declared.data.Node.{Node}
use Rattle.ufs_model.specs.declared.data.Node.TheVariants.{Dir, File}
use Rattle.ufs_model.specs.declared.data.Op.{Op}
use Rattle.ufs_model.specs.declared.data.Op.TheVariants as op
use Rattle.ufs_model.proofs.Facts.Orders.{fd_total, fd_same}
use Rattle.ufs_model.proofs.Facts.Lookups.{inserted_else, removed_else}

module _ (client : ℕ) (fd : ℕ) (c n : ℕ) (apart : (c ≢ client) ⊎ (Some fd ≢ Some n)) where
  key_apart : ◌≡◌ {A = ℕ × ℕ} (c, n) (client, fd) → ⊥
  key_apart e = by apart
    where
      by : (c ≢ client) ⊎ (Some fd ≢ Some n) → ⊥
      by (inl not) = not (ap (λ (k : ℕ × ℕ). k.0) e)
      by (inr not) = not (ap (λ (k : ℕ × ℕ). Some k.1) (sym e))

  others_put : (fds : Fds) (d : Desc) → map.get (map.insert fds (client, fd) d) (c, n) ≡ map.get fds (c, n)
  others_put fds d = inserted_else fd_total fd_same fds (client, fd) d (c, n) key_apart

  others_gone : (fds : Fds) → map.get (map.remove fds (client, fd)) (c, n) ≡ map.get fds (c, n)
  others_gone fds = removed_else fd_total fd_same fds (client, fd) (c, n) key_apart

-- ---- what leaves the descriptors

pub forget_fds : (t : PosixTree) (lost : Option ℕ) → (forget t lost).fds ≡ t.fds
forget_fds t None = refl
forget_fds t (Some g) = by (is_live t.paths t.fds g)
  where
    by : (b : Bool) → (cond {A = PosixTree} b t (record t { bytes = map.remove t.bytes g })).fds ≡ t.fds
    by true = refl
    by false = refl

bytes_fds : (t : PosixTree) (file : Option ℕ) (bytes : List ℕ) → (with_bytes t file bytes).fds ≡ t.fds
bytes_fds t None bytes = refl
bytes_fds t (Some f) bytes = refl

written_fds : (t : PosixTree) (file : Option ℕ) (at : ℕ) (data' : List ℕ) → (written t file at data').fds ≡ t.fds
written_fds t file at data' = by (eqb (length data') 0)
  where
    by : (b : Bool) → (cond {A = PosixTree} b t (with_bytes t file (put_at (content t.bytes file) at data'))).fds ≡ t.fds
    by true = refl
    by false = bytes_fds t file (put_at (content t.bytes file) at data')

rename_fds : (t : PosixTree) (from to : List ℕ) → (rename_path t from to).fds ≡ t.fds
rename_fds t from to = by (bytes_eq from to)
  where
    by : (b : Bool) → (cond {A = PosixTree} b t (forget (record t { paths = renamed t.paths from to }) (file_of (map.get t.paths to)))).fds ≡ t.fds
    by true = refl
    by false = forget_fds (record t { paths = renamed t.paths from to }) (file_of (map.get t.paths to))

-- ---- each request

-- a path is opened
open_others : (t : PosixTree) (client : ℕ) (whole : List ℕ) (m : Mode) (o : Option Node) (c n : ℕ) → (c ≢ client) ⊎ (Some (new_fd t client) ≢ Some n)
    → map.get (open_node t client whole m o).fds (c, n) ≡ map.get t.fds (c, n)
open_others t client whole m None c n apart = others_put client (new_fd t client) c n apart t.fds _
open_others t client whole m (Some Dir) c n apart = others_put client (new_fd t client) c n apart t.fds _
open_others t client whole m (Some (File f)) c n apart = by m.trunc
  where
    by : (b : Bool) → map.get (with_fd (cond {A = PosixTree} b (with_bytes t (Some f) []) t) client (new_fd t client) (desc_of m (Some f))).fds (c, n) ≡ map.get t.fds (c, n)
    by true = others_put client (new_fd t client) c n apart t.fds _
    by false = others_put client (new_fd t client) c n apart t.fds _

-- bytes are written at a descriptor's place
write_others : (t : PosixTree) (client fd : ℕ) (data' : List ℕ) (c n : ℕ) → (c ≢ client) ⊎ (Some fd ≢ Some n) → map.get (write_fd t client fd data').fds (c, n) ≡ map.get t.fds (c, n)
write_others t client fd data' c n apart = by (eqb (length data') 0)
  where
    by : (b : Bool) → map.get (cond {A = PosixTree} b t (with_fd (written t (opened t client fd).file (place_of (opened t client fd) (content t.bytes (opened t client fd).file)) data') client fd
        (with_offset (opened t client fd) (place_of (opened t client fd) (content t.bytes (opened t client fd).file) + length data')))).fds (c, n) ≡ map.get t.fds (c, n)
    by true = refl
    by false =
        others_put client fd c n apart (written t (opened t client fd).file (place_of (opened t client fd) (content t.bytes (opened t client fd).file)) data').fds _
        ∙ ap (λ (fds : Fds). map.get fds (c, n)) (written_fds t (opened t client fd).file (place_of (opened t client fd) (content t.bytes (opened t client fd).file)) data')

change_others : (t : PosixTree) (client : ℕ) (request : Op) (c n : ℕ) → (c ≢ client) ⊎ (fd_told request (answer t client request) ≢ Some n) → map.get (change t client request).fds (c, n) ≡ map.get t.fds (c, n)
change_others t client (op.OpenFile path read write creat excl trunc append) c n apart =
    open_others t client (whole_of path) (record { read = read; write = write; creat = creat; excl = excl; trunc = trunc; append = append }) (node_at t.paths path) c n apart
change_others t client (op.Close fd) c n apart =
    ap (λ (fds : Fds). map.get fds (c, n)) (forget_fds (record t { fds = map.remove t.fds (client, fd) }) (opened t client fd).file) ∙ others_gone client fd c n apart t.fds
change_others t client (op.Read fd count) c n apart = others_put client fd c n apart t.fds _
change_others t client (op.Write fd data') c n apart = write_others t client fd data' c n apart
change_others t client (op.Pread fd count at) c n apart = refl
change_others t client (op.Pwrite fd data' at) c n apart = ap (λ (fds : Fds). map.get fds (c, n)) (written_fds t (opened t client fd).file at data')
change_others t client (op.Seek fd from by) c n apart = others_put client fd c n apart t.fds _
change_others t client (op.Trunc fd size) c n apart = ap (λ (fds : Fds). map.get fds (c, n)) (bytes_fds t (opened t client fd).file _)
change_others t client (op.Fsync fd) c n apart = refl
change_others t client op.Sync c n apart = refl
change_others t client (op.Mkdir path) c n apart = refl
change_others t client (op.Rmdir path) c n apart =
    ap (λ (fds : Fds). map.get fds (c, n)) (forget_fds (record t { paths = map.remove t.paths (whole_of path) }) (file_of (map.get t.paths (whole_of path))))
change_others t client (op.Unlink path) c n apart =
    ap (λ (fds : Fds). map.get fds (c, n)) (forget_fds (record t { paths = map.remove t.paths (whole_of path) }) (file_of (map.get t.paths (whole_of path))))
change_others t client (op.Rename from to) c n apart = ap (λ (fds : Fds). map.get fds (c, n)) (rename_fds t (whole_of from) (whole_of to))
change_others t client (op.Stat path) c n apart = refl
change_others t client (op.List path) c n apart = refl

served_others : (t : PosixTree) (client : ℕ) (request : Op) (r : Option Errno) (c n : ℕ) → (c ≢ client) ⊎ (fd_told request (served t client request r).1 ≢ Some n)
    → map.get (served t client request r).0.fds (c, n) ≡ map.get t.fds (c, n)
served_others t client request (Some e) c n apart = refl
served_others t client request None c n apart = change_others t client request c n apart

-- of every request
pub desc_after_posix : (t : PosixTree) (client : ℕ) (request : Op)
    → IsDescAfter t.fds (posix t client request).0.fds client (fd_told request (posix t client request).1) (desc_of_fd (posix t client request).0.fds client (fd_told request (posix t client request).1))
desc_after_posix t client request = record { this = refl; others = served_others t client request (refusal t client request) }
