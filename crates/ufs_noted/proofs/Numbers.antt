-- The next file number behind a request: one more exactly where a file has that number then.
use Rattle.std.proofs.Common.{◌≡◌, ℕ, ◌+◌, ◌≤◌, ◌<◌, ◌⊎◌, inl, inr, Bool, true, false, cond, eqb, List, [], length, Option, Some, None, is_some, ap, sym, refl, ◌∙◌, arith}
use Rattle.std.specs.Prelude.{IsSome}
use Rattle.std.specs.Cmp.{nat_cmp_total}
use Rattle.std.specs.FinMap as map
use Rattle.std.specs.FinMap.{nat_cmp-IsAntisymmetric}
use Rattle.ufs_model.specs.Descriptors.{Mode, mode_of_open, opened, with_offset}
use Rattle.ufs_model.specs.Directories.{renamed}
use Rattle.ufs_model.specs.FileBytes.{content, place_of, put_at, resized}
use Rattle.std.specs.Str.{bytes_eq}
use Rattle.ufs_model.specs.Paths.{whole_of}
use Rattle.ufs_model.specs.Posix.{change, file_bytes, forget, open_node, posix, rename_path, served, with_bytes, with_fd, without_path, write_fd, written}
use Rattle.ufs_model.specs.PosixTree.{IsTree, PosixTree, is_live}
use Rattle.ufs_model.specs.Refusals.{refusal}
use Rattle.ufs_model.specs.Walk.{file_of, node_at}
use Rattle.ufs_model.specs.declared.data.Errno.{Errno}
use Rattle.ufs_model.specs.declared.data.Node.{Node}
use Rattle.ufs_model.specs.declared.data.Node.TheVariants.{Dir, File}
use Rattle.ufs_model.specs.declared.data.Op.{Op}
use Rattle.ufs_model.specs.declared.data.Op.TheVariants as op
use Rattle.ufs_model.proofs.Facts.Lookups.{inserted_here}

forget_next : (t : PosixTree) (file : Option ℕ) → (forget t file).next ≡ t.next
forget_next t None = refl
forget_next t (Some f) = by_live (is_live t.paths t.fds f)
  where
    by_live : (live : Bool) → (cond live t (record t { bytes = map.remove t.bytes f })).next ≡ t.next
    by_live true = refl
    by_live false = refl

bytes_next : (t : PosixTree) (file : Option ℕ) (bytes : List ℕ) → (with_bytes t file bytes).next ≡ t.next
bytes_next t None bytes = refl
bytes_next t (Some f) bytes = refl

either_next : (t a b : PosixTree) (test : Bool) → a.next ≡ t.next → b.next ≡ t.next → (cond test a b).next ≡ t.next
either_next t a b true p q = p
either_next t a b false p q = q

written_next : (t : PosixTree) (file : Option ℕ) (at : ℕ) (fresh : List ℕ) → (written t file at fresh).next ≡ t.next
written_next t file at fresh = either_next t t (with_bytes t file (put_at (content t.bytes file) at fresh)) (eqb (length fresh) 0) refl (bytes_next t file _)

write_next : (t : PosixTree) (client fd : ℕ) (fresh : List ℕ) → (write_fd t client fd fresh).next ≡ t.next
write_next t client fd fresh =
    let d = opened t client fd in
    let at = place_of d (content t.bytes d.file) in
    either_next t t (with_fd (written t d.file at fresh) client fd (with_offset d (at + length fresh))) (eqb (length fresh) 0) refl (written_next t d.file at fresh)

without_next : (t : PosixTree) (whole : List ℕ) → (without_path t whole).next ≡ t.next
without_next t whole = forget_next (record t { paths = map.remove t.paths whole }) (file_of (map.get t.paths whole))

rename_next : (t : PosixTree) (from to : List ℕ) → (rename_path t from to).next ≡ t.next
rename_next t from to = either_next t t (forget (record t { paths = renamed t.paths from to }) (file_of (map.get t.paths to))) (bytes_eq from to) refl (forget_next _ (file_of (map.get t.paths to)))

-- It stays, or a file has it.
abbrev Goes : PosixTree → PosixTree → Type 0
Goes t u = (u.next ≡ t.next) ⊎ ((u.next ≡ t.next + 1) × IsSome (map.get u.bytes t.next))

opens : (t : PosixTree) (client : ℕ) (whole : List ℕ) (m : Mode) (node : Option Node) → Goes t (open_node t client whole m node)
opens t client whole m None = inr (refl, ap is_some (inserted_here nat_cmp_total nat_cmp-IsAntisymmetric t.bytes t.next []))
opens t client whole m (Some Dir) = inl refl
opens t client whole m (Some (File f)) = inl (either_next t (with_bytes t (Some f) []) t m.trunc refl refl)

changes : (t : PosixTree) (client : ℕ) (request : Op) → Goes t (change t client request)
changes t client (op.OpenFile path read write creat excl trunc append) = opens t client (whole_of path) (mode_of_open read write creat excl trunc append) (node_at t.paths path)
changes t client (op.Close fd) = inl (forget_next (record t { fds = map.remove t.fds (client, fd) }) (opened t client fd).file)
changes t client (op.Read fd n) = inl refl
changes t client (op.Write fd fresh) = inl (write_next t client fd fresh)
changes t client (op.Pread fd n at) = inl refl
changes t client (op.Pwrite fd fresh at) = inl (written_next t (opened t client fd).file at fresh)
changes t client (op.Seek fd from by) = inl refl
changes t client (op.Trunc fd size) = inl (bytes_next t (opened t client fd).file (resized (file_bytes t client fd) size))
changes t client (op.Fsync fd) = inl refl
changes t client op.Sync = inl refl
changes t client (op.Mkdir path) = inl refl
changes t client (op.Rmdir path) = inl (without_next t (whole_of path))
changes t client (op.Unlink path) = inl (without_next t (whole_of path))
changes t client (op.Rename from to) = inl (rename_next t (whole_of from) (whole_of to))
changes t client (op.Stat path) = inl refl
changes t client (op.List path) = inl refl

goes : (t : PosixTree) (client : ℕ) (request : Op) → Goes t (posix t client request).0
goes t client request = by (refusal t client request)
  where
    by : (r : Option Errno) → Goes t (served t client request r).0
    by (Some e) = inl refl
    by None = changes t client request

pub next_then : (t : PosixTree) (client : ℕ) (request : Op) → IsTree (posix t client request).0 → (posix t client request).0.next ≡ cond (is_some (map.get (posix t client request).0.bytes t.next)) (t.next + 1) t.next
next_then t client request tree = by (goes t client request) (is_some (map.get (posix t client request).0.bytes t.next)) refl
  where
    by : Goes t (posix t client request).0 → (b : Bool) → is_some (map.get (posix t client request).0.bytes t.next) ≡ b → (posix t client request).0.next ≡ cond b (t.next + 1) t.next
    by (inl same) false here = same
    by (inl same) true here = absurd (let low = tree.numbered t.next here in omega (arith, low, same))
    by (inr up) true here = up.0
    by (inr up) false here = (let clash : true ≡ false = sym up.1 ∙ here in cc)
