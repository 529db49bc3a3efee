-- A refused request changes nothing, and one that isn't makes one file at most.
use Rattle.std.proofs.Common.{◌≡◌, ◌≤◌, ℕ, ◌+◌, List, [], Bool, true, false, cond, Option, Some, None, refl, arith, length, eqb}
use Rattle.std.specs.FinMap as map
use Rattle.ufs_model.specs.PosixTree.{PosixTree, is_live}
use Rattle.ufs_model.specs.Paths.{whole_of}
use Rattle.ufs_model.specs.Walk.{node_at, file_of}
use Rattle.std.specs.Str.{bytes_eq}
use Rattle.ufs_model.specs.Posix.{served, answer, change, forget, with_bytes, with_fd, open_node, written, write_fd, without_path, rename_path, stat_reply, file_bytes}
use Rattle.ufs_model.specs.Descriptors.{Mode, opened, with_offset, mode_of_open}
use Rattle.ufs_model.specs.Directories.{renamed}
use Rattle.ufs_model.specs.FileBytes.{content, put_at, place_of, resized}
use Rattle.ufs_model.specs.Refusals.{refusal}
use Rattle.ufs_model.specs.Laws.{RefusalsChangeNothing, MakesOneFile}
use Rattle.ufs_model.specs.declared.data.Errno.{Errno}
use Rattle.ufs_model.specs.declared.data.Node.{Node}
use Rattle.ufs_model.specs.declared.data.Node.TheVariants.{Dir, File}
use Rattle.ufs_model.specs.declared.data.Op.{Op}
use Rattle.ufs_model.specs.declared.data.Op.TheVariants as op
use Rattle.ufs_model.specs.declared.data.Reply.TheVariants.{Refused}

stat_answers : (t : PosixTree) (whole : List ℕ) (node : Option Node) (e : Errno) → stat_reply t whole node ≡ Refused e → ⊥
stat_answers t whole None e is = cc
stat_answers t whole (Some Dir) e is = cc
stat_answers t whole (Some (File f)) e is = cc

-- a request that isn't refused has another reply
answers : (t : PosixTree) (client : ℕ) (request : Op) (e : Errno) → answer t client request ≡ Refused e → ⊥
answers t client (op.OpenFile path read write creat excl trunc append) e is = cc
answers t client (op.Close fd) e is = cc
answers t client (op.Read fd n) e is = cc
answers t client (op.Write fd fresh) e is = cc
answers t client (op.Pread fd n at) e is = cc
answers t client (op.Pwrite fd fresh at) e is = cc
answers t client (op.Seek fd from by) e is = cc
answers t client (op.Trunc fd size) e is = cc
answers t client (op.Fsync fd) e is = cc
answers t client op.Sync e is = cc
answers t client (op.Mkdir path) e is = cc
answers t client (op.Rmdir path) e is = cc
answers t client (op.Unlink path) e is = cc
answers t client (op.Rename from to) e is = cc
answers t client (op.Stat path) e is = stat_answers t (whole_of path) (node_at t.paths path) e is
answers t client (op.List path) e is = cc

pub stays : RefusalsChangeNothing
stays t client request e is = by_refusal (refusal t client request) is
  where
    by_refusal : (r : Option Errno) → (served t client request r).1 ≡ Refused e → (served t client request r).0 ≡ t
    by_refusal (Some x) is = refl
    by_refusal None is = absurd (answers t client request e is)

-- ---- the next file number

forget_next : (t : PosixTree) (file : Option ℕ) → (forget t file).next ≡ t.next
forget_next t None = refl
forget_next t (Some f) = by_live (is_live t.paths t.fds f)
  where
    by_live : (live : Bool) → (cond live t (record t { bytes = map.remove t.bytes f })).next ≡ t.next
    by_live true = refl
    by_live false = refl

bytes_next : (t : PosixTree) (file : Option ℕ) (bytes : List ℕ) → (with_bytes t file bytes).next ≡ t.next
bytes_next t None bytes = refl
bytes_next t (Some f) bytes = refl

either_next : (t a b : PosixTree) (test : Bool) → a.next ≡ t.next → b.next ≡ t.next → (cond test a b).next ≡ t.next
either_next t a b true p q = p
either_next t a b false p q = q

few_made : (t : PosixTree) (client : ℕ) (whole : List ℕ) (m : Mode) (node : Option Node) → (open_node t client whole m node).next ≤ t.next + 1
few_made t client whole m None = omega arith
few_made t client whole m (Some Dir) = omega arith
few_made t client whole m (Some (File f)) = let same = either_next t (with_bytes t (Some f) []) t m.trunc refl refl in omega (arith, same)

written_next : (t : PosixTree) (file : Option ℕ) (at : ℕ) (fresh : List ℕ) → (written t file at fresh).next ≡ t.next
written_next t file at fresh = either_next t t (with_bytes t file (put_at (content t.bytes file) at fresh)) (eqb (length fresh) 0) refl (bytes_next t file _)

write_next : (t : PosixTree) (client fd : ℕ) (fresh : List ℕ) → (write_fd t client fd fresh).next ≡ t.next
write_next t client fd fresh =
    let d = opened t client fd in
    let at = place_of d (content t.bytes d.file) in
    either_next t t (with_fd (written t d.file at fresh) client fd (with_offset d (at + length fresh))) (eqb (length fresh) 0) refl (written_next t d.file at fresh)

without_next : (t : PosixTree) (whole : List ℕ) → (without_path t whole).next ≡ t.next
without_next t whole = forget_next (record t { paths = map.remove t.paths whole }) (file_of (map.get t.paths whole))

rename_next : (t : PosixTree) (from to : List ℕ) → (rename_path t from to).next ≡ t.next
rename_next t from to = either_next t t (forget (record t { paths = renamed t.paths from to }) (file_of (map.get t.paths to))) (bytes_eq from to) refl (forget_next _ (file_of (map.get t.paths to)))

few : (t : PosixTree) (client : ℕ) (request : Op) → (change t client request).next ≤ t.next + 1
few t client (op.OpenFile path read write creat excl trunc append) = few_made t client (whole_of path) (mode_of_open read write creat excl trunc append) (node_at t.paths path)
few t client (op.Close fd) = let same = forget_next (record t { fds = map.remove t.fds (client, fd) }) (opened t client fd).file in omega (arith, same)
few t client (op.Read fd n) = omega arith
few t client (op.Write fd fresh) = let same = write_next t client fd fresh in omega (arith, same)
few t client (op.Pread fd n at) = omega arith
few t client (op.Pwrite fd fresh at) = let same = written_next t (opened t client fd).file at fresh in omega (arith, same)
few t client (op.Seek fd from by) = omega arith
few t client (op.Trunc fd size) = let same = bytes_next t (opened t client fd).file (resized (file_bytes t client fd) size) in omega (arith, same)
few t client (op.Fsync fd) = omega arith
few t client op.Sync = omega arith
few t client (op.Mkdir path) = omega arith
few t client (op.Rmdir path) = let same = without_next t (whole_of path) in omega (arith, same)
few t client (op.Unlink path) = let same = without_next t (whole_of path) in omega (arith, same)
few t client (op.Rename from to) = let same = rename_next t (whole_of from) (whole_of to) in omega (arith, same)
few t client (op.Stat path) = omega arith
few t client (op.List path) = omega arith

pub makes_one : MakesOneFile
makes_one t client request = by_refusal (refusal t client request)
  where
    by_refusal : (r : Option Errno) → (served t client request r).0.next ≤ t.next + 1
    by_refusal (Some e) = omega arith
    by_refusal None = few t client request
