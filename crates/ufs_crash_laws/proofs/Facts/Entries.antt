-- What one entry of a legal history changes: the names, and the bytes of each file.
use Rattle.std.proofs.Common.{◌≡◌, ◌≤◌, ℕ, ◌+◌, inl, inr, Bool, true, false, cond, not, eqb, ◌&&◌, List, [], length, Option, Some, None, is_none, ap, sym, refl, ◌∙◌, arith, bytes_eq}
use Rattle.std.specs.FinMap as map
use Rattle.ufs_model.specs.Paths.{whole_of}
use Rattle.ufs_model.specs.PosixTree.{PosixTree, is_live}
use Rattle.ufs_model.specs.Walk.{node_at, file_of}
use Rattle.ufs_model.specs.Directories.{renamed}
use Rattle.ufs_model.specs.Descriptors.{Mode, opened, with_offset, desc_of, mode_of_open}
use Rattle.ufs_model.specs.FileBytes.{content, put_at, place_of}
use Rattle.ufs_model.specs.Refusals.{refusal}
use Rattle.ufs_model.specs.Posix.{posix, served, answer, change, with_fd, with_bytes, forget, open_node, written, write_fd, rename_path, new_fd, stat_reply}
use Rattle.ufs_model.specs.History.{IsReplyTo, IsExcused, goes_on, tree_with}
use Rattle.ufs_model.specs.declared.data.Desc.{Desc}
use Rattle.ufs_model.specs.declared.data.Entry.{Entry}
use Rattle.ufs_model.specs.declared.data.Errno.{Errno}
use Rattle.ufs_model.specs.declared.data.Node.{Node}
use Rattle.ufs_model.specs.declared.data.Node.TheVariants.{Dir, File}
use Rattle.ufs_model.specs.declared.data.Op.{Op}
use Rattle.ufs_model.specs.declared.data.Op.TheVariants as op
use Rattle.ufs_model.specs.declared.data.Reply.{Reply}
use Rattle.ufs_model.specs.declared.data.Reply.TheVariants as reply
use Rattle.ufs_crash_laws.specs.Steps.{is_served}
use Rattle.ufs_crash_laws.specs.Changes.{NameState, names_of, changes_names}

-- ---- what an entry does

-- it leaves the tree, or it is served
pub data IsDone (t : PosixTree) (entry : Entry) : Type 0 where
  Left : goes_on t entry ≡ t → is_served entry.reply ≡ false → IsDone t entry
  Went : refusal t entry.client entry.op ≡ None → goes_on t entry ≡ change t entry.client entry.op → is_served entry.reply ≡ true → IsDone t entry

stat_served : (t : PosixTree) (whole : List ℕ) (o : Option Node) → is_served (stat_reply t whole o) ≡ true
stat_served t whole None = refl
stat_served t whole (Some Dir) = refl
stat_served t whole (Some (File f)) = refl

pub answer_served : (t : PosixTree) (client : ℕ) (request : Op) → is_served (answer t client request) ≡ true
answer_served t client (op.OpenFile path read write creat excl trunc append) = refl
answer_served t client (op.Close fd) = refl
answer_served t client (op.Read fd n) = refl
answer_served t client (op.Write fd data') = refl
answer_served t client (op.Pread fd n at) = refl
answer_served t client (op.Pwrite fd data' at) = refl
answer_served t client (op.Seek fd from by) = refl
answer_served t client (op.Trunc fd size) = refl
answer_served t client (op.Fsync fd) = refl
answer_served t client op.Sync = refl
answer_served t client (op.Mkdir path) = refl
answer_served t client (op.Rmdir path) = refl
answer_served t client (op.Unlink path) = refl
answer_served t client (op.Rename from to) = refl
answer_served t client (op.Stat path) = stat_served t (whole_of path) (node_at t.paths path)
answer_served t client (op.List path) = refl

-- a reply that is no excuse lets the tree go on by POSIX
pub with_served : (t : PosixTree) (client : ℕ) (request : Op) (r : Reply) → is_served r ≡ true → tree_with t client request r ≡ (posix t client request).0
with_served t client request (reply.Excused x) e = cc
with_served t client request (reply.Refused x) e = refl
with_served t client request reply.Done e = refl
with_served t client request (reply.Fd n) e = refl
with_served t client request (reply.Count n) e = refl
with_served t client request (reply.At n) e = refl
with_served t client request (reply.Got bytes) e = refl
with_served t client request (reply.IsFile n) e = refl
with_served t client request (reply.IsDir n) e = refl
with_served t client request (reply.Names names) e = refl

excused_left : (t : PosixTree) (client : ℕ) (request : Op) (r : Reply) → IsExcused t client request r → (tree_with t client request r ≡ t) × (is_served r ≡ false)
excused_left t client request (reply.Excused x) e = (refl, refl)
excused_left t client request (reply.Refused x) e = absurd e
excused_left t client request reply.Done e = absurd e
excused_left t client request (reply.Fd n) e = absurd e
excused_left t client request (reply.Count n) e = absurd e
excused_left t client request (reply.At n) e = absurd e
excused_left t client request (reply.Got bytes) e = absurd e
excused_left t client request (reply.IsFile n) e = absurd e
excused_left t client request (reply.IsDir n) e = absurd e
excused_left t client request (reply.Names names) e = absurd e

pub done : (t : PosixTree) (entry : Entry) → IsReplyTo t entry → IsDone t entry
done t entry (inr excused) = let is = excused_left t entry.client entry.op entry.reply excused in Left is.0 is.1
done t entry (inl e) = by (refusal t entry.client entry.op) refl
  where
    by : (o : Option Errno) → refusal t entry.client entry.op ≡ o → IsDone t entry
    by (Some x) h =
        let told : entry.reply ≡ reply.Refused x = e ∙ ap (λ o. (served t entry.client entry.op o).1) h in
        Left (ap (tree_with t entry.client entry.op) told ∙ ap (λ o. (served t entry.client entry.op o).0) h) (ap is_served told)
    by None h =
        let told : entry.reply ≡ answer t entry.client entry.op = e ∙ ap (λ o. (served t entry.client entry.op o).1) h in
        let is : is_served entry.reply ≡ true = ap is_served told ∙ answer_served t entry.client entry.op in
        Went h (with_served t entry.client entry.op entry.reply is ∙ ap (λ o. (served t entry.client entry.op o).0) h) is

-- ---- names

names_with_bytes : (t : PosixTree) (o : Option ℕ) (v : List ℕ) → names_of (with_bytes t o v) ≡ names_of t
names_with_bytes t None v = refl
names_with_bytes t (Some f) v = refl

pub names_forget : (t : PosixTree) (o : Option ℕ) → names_of (forget t o) ≡ names_of t
names_forget t None = refl
names_forget t (Some f) = elim (is_live t.paths t.fds f) as (λ b. names_of (cond b t (record t { bytes = map.remove t.bytes f })) ≡ names_of t) [ true ↦ refl | false ↦ refl ]

names_written : (t : PosixTree) (o : Option ℕ) (at : ℕ) (data' : List ℕ) → names_of (written t o at data') ≡ names_of t
names_written t o at data' =
    elim (eqb (length data') 0) as (λ b. names_of (cond b t (with_bytes t o (put_at (content t.bytes o) at data'))) ≡ names_of t) [
      | true ↦ refl
      | false ↦ names_with_bytes t o _
    ]

names_write_fd : (t : PosixTree) (client fd : ℕ) (data' : List ℕ) → names_of (write_fd t client fd data') ≡ names_of t
names_write_fd t client fd data' = by (eqb (length data') 0)
  where
    d : Desc
    d = opened t client fd

    by : (b : Bool) → names_of (cond b t (with_fd (written t (opened t client fd).file (place_of (opened t client fd) (content t.bytes (opened t client fd).file)) data') client fd (with_offset (opened t client fd) (place_of (opened t client fd) (content t.bytes (opened t client fd).file) + length data')))) ≡ names_of t
    by true = refl
    by false = names_written t (opened t client fd).file (place_of (opened t client fd) (content t.bytes (opened t client fd).file)) data'

names_open : (t : PosixTree) (client : ℕ) (whole : List ℕ) (m : Mode) (o : Option Node) → is_none o ≡ false → names_of (open_node t client whole m o) ≡ names_of t
names_open t client whole m None e = cc
names_open t client whole m (Some Dir) e = refl
names_open t client whole m (Some (File f)) e = elim m.trunc as (λ b. names_of (with_fd (cond b (with_bytes t (Some f) []) t) client (new_fd t client) (desc_of m (Some f))) ≡ names_of t) [ true ↦ refl | false ↦ refl ]

names_renamed : (t : PosixTree) (from to : List ℕ) → not (bytes_eq from to) ≡ false → names_of (rename_path t from to) ≡ names_of t
names_renamed t from to e = by (bytes_eq from to) e
  where
    by : (b : Bool) → not b ≡ false → names_of (cond b t (forget (record t { paths = renamed t.paths from to }) (file_of (map.get t.paths to)))) ≡ names_of t
    by true e = refl
    by false e = cc

names_kept : (t : PosixTree) (client : ℕ) (request : Op) → changes_names t request ≡ false → names_of (change t client request) ≡ names_of t
names_kept t client (op.OpenFile path read write creat excl trunc append) e = names_open t client (whole_of path) (mode_of_open read write creat excl trunc append) (node_at t.paths path) e
names_kept t client (op.Close fd) e = names_forget _ (opened t client fd).file
names_kept t client (op.Read fd n) e = refl
names_kept t client (op.Write fd data') e = names_write_fd t client fd data'
names_kept t client (op.Pread fd n at) e = refl
names_kept t client (op.Pwrite fd data' at) e = names_written t (opened t client fd).file at data'
names_kept t client (op.Seek fd from by) e = refl
names_kept t client (op.Trunc fd size) e = names_with_bytes t (opened t client fd).file _
names_kept t client (op.Fsync fd) e = refl
names_kept t client op.Sync e = refl
names_kept t client (op.Mkdir path) e = cc
names_kept t client (op.Rmdir path) e = cc
names_kept t client (op.Unlink path) e = cc
names_kept t client (op.Rename from to) e = names_renamed t (whole_of from) (whole_of to) e
names_kept t client (op.Stat path) e = refl
names_kept t client (op.List path) e = refl

-- An entry that changes no names leaves them.
pub names_still : (t : PosixTree) (entry : Entry) → IsReplyTo t entry → (is_served entry.reply && changes_names t entry.op) ≡ false → names_of (goes_on t entry) ≡ names_of t
names_still t entry legal e = by (done t entry legal)
  where
    by : IsDone t entry → names_of (goes_on t entry) ≡ names_of t
    by (Left stays not_served) = ap names_of stays
    by (Went passed goes is) = ap names_of goes ∙ names_kept t entry.client entry.op (sym (ap (λ b. b && changes_names t entry.op) is) ∙ e)

-- ---- the next number

next_open : (t : PosixTree) (client : ℕ) (whole : List ℕ) (m : Mode) (o : Option Node) → t.next ≤ (open_node t client whole m o).next
next_open t client whole m None = omega arith
next_open t client whole m (Some n) = let e = ap (λ (n : NameState). n.next) (names_open t client whole m (Some n) refl) in omega (arith, e)

next_renamed : (t : PosixTree) (from to : List ℕ) → (rename_path t from to).next ≡ t.next
next_renamed t from to =
    elim (bytes_eq from to) as (λ b. (cond b t (forget (record t { paths = renamed t.paths from to }) (file_of (map.get t.paths to)))).next ≡ t.next) [
      | true ↦ refl
      | false ↦ ap (λ (n : NameState). n.next) (names_forget (record t { paths = renamed t.paths from to }) (file_of (map.get t.paths to)))
    ]

next_change : (t : PosixTree) (client : ℕ) (request : Op) → t.next ≤ (change t client request).next
next_change t client (op.OpenFile path read write creat excl trunc append) = next_open t client (whole_of path) (mode_of_open read write creat excl trunc append) (node_at t.paths path)
next_change t client (op.Mkdir path) = omega arith
next_change t client (op.Rmdir path) = let e = ap (λ (n : NameState). n.next) (names_forget (record t { paths = map.remove t.paths (whole_of path) }) (file_of (map.get t.paths (whole_of path)))) in omega (arith, e)
next_change t client (op.Unlink path) = let e = ap (λ (n : NameState). n.next) (names_forget (record t { paths = map.remove t.paths (whole_of path) }) (file_of (map.get t.paths (whole_of path)))) in omega (arith, e)
next_change t client (op.Rename from to) = omega (arith, next_renamed t (whole_of from) (whole_of to))
next_change t client (op.Close fd) = let e = ap (λ (n : NameState). n.next) (names_kept t client (op.Close fd) refl) in omega (arith, e)
next_change t client (op.Write fd data') = let e = ap (λ (n : NameState). n.next) (names_kept t client (op.Write fd data') refl) in omega (arith, e)
next_change t client (op.Pwrite fd data' at) = let e = ap (λ (n : NameState). n.next) (names_kept t client (op.Pwrite fd data' at) refl) in omega (arith, e)
next_change t client (op.Trunc fd size) = let e = ap (λ (n : NameState). n.next) (names_kept t client (op.Trunc fd size) refl) in omega (arith, e)
next_change t client (op.Read fd n) = omega arith
next_change t client (op.Pread fd n at) = omega arith
next_change t client (op.Seek fd from by) = omega arith
next_change t client (op.Fsync fd) = omega arith
next_change t client op.Sync = omega arith
next_change t client (op.Stat path) = omega arith
next_change t client (op.List path) = omega arith

pub next_rises : (t : PosixTree) (entry : Entry) → IsReplyTo t entry → t.next ≤ (goes_on t entry).next
next_rises t entry legal = by (done t entry legal)
  where
    by : IsDone t entry → t.next ≤ (goes_on t entry).next
    by (Left stays not_served) = let e = ap (λ (t : PosixTree). t.next) stays in omega (arith, e)
    by (Went passed goes is) = let e = ap (λ (t : PosixTree). t.next) goes in omega (arith, e, next_change t entry.client entry.op)
