-- In trees that are alike a request is refused alike, answered alike and changes them alike.
use Rattle.std.proofs.Common.{◌≡◌, ℕ, ◌+◌, List, [], cond, eqb, length, Option, Some, None, ap, refl, unwrap_or, not, ◌∙◌}
use Rattle.std.specs.FinMap as fin
use Rattle.ufs_base.specs.Choices.{first_of, refused_if}
use Rattle.ufs_model.specs.Paths.{whole_of}
use Rattle.ufs_model.specs.PosixTree.{PosixTree, Files}
use Rattle.ufs_model.specs.Walk.{node_at, file_of}
use Rattle.ufs_model.specs.Directories.{renamed}
use Rattle.std.specs.Str.{bytes_eq}
use Rattle.ufs_model.specs.Descriptors.{Mode, opened, with_offset, desc_of, seek_to, is_offset, mode_of_open}
use Rattle.ufs_model.specs.FileBytes.{content, put_at, resized, place_of, is_past}
use Rattle.ufs_model.specs.Refusals.{refusal, own_refusal}
use Rattle.ufs_model.specs.Posix.{served, answer, change, file_bytes, bytes_read, new_fd, new_offset, stat_reply, with_fd, with_bytes, with_file, open_node, written, write_fd, without_path, rename_path}
use Rattle.ufs_model.specs.Asks.{IsAsk}
use Rattle.ufs_model.specs.declared.data.Op.{Op}
use Rattle.ufs_model.specs.declared.data.Op.TheVariants as op
use Rattle.ufs_model.specs.declared.data.Ask.{Ask}
use Rattle.ufs_model.specs.declared.data.Errno.{Errno}
use Rattle.ufs_model.specs.declared.data.Errno.TheVariants.{Efbig, Einval}
use Rattle.ufs_model.specs.declared.data.Node.{Node}
use Rattle.ufs_model.specs.declared.data.Node.TheVariants.{Dir, File}
use Rattle.ufs_model.specs.declared.data.Reply.TheVariants.{At, IsFile}
use Rattle.ufs_bytes_laws.specs.Alike.{AreAlike, AreRepliesAlike, HaveSameSizes}
use Rattle.ufs_bytes_laws.specs.Laws.{RefusalsAreSame, AreStepsAlike, StepsAreAlike, AsksAreAlike}
use Rattle.ufs_bytes_laws.proofs.SizeLemmas.{content_size, sizes_put, part_size, resized_size, put_size, place_same}
use Rattle.ufs_bytes_laws.proofs.ReplyLemmas.{got}
use Rattle.ufs_bytes_laws.proofs.TreeLemmas.{with_files, with_sizes, by_files, put_fd, put_bytes, choose, forget_both}

module _ (t : PosixTree) (bytes : Files) (same : HaveSameSizes t.bytes bytes) where
  abbrev u : PosixTree
  u = with_files t bytes

  alike : AreAlike t u
  alike = with_sizes t bytes same

  pub file_size : (client fd : ℕ) → length (file_bytes t client fd) ≡ length (file_bytes u client fd)
  file_size client fd = content_size t.bytes bytes same (opened t client fd).file

  -- where a write begins
  pub write_place : (client fd : ℕ) → place_of (opened t client fd) (file_bytes t client fd) ≡ place_of (opened t client fd) (file_bytes u client fd)
  write_place client fd = place_same (file_bytes t client fd) (file_bytes u client fd) (file_size client fd) (opened t client fd)

  -- ---- refusals

  pub refused : (client : ℕ) (request : Op) → refusal t client request ≡ refusal u client request
  refused client (op.OpenFile path read write creat excl trunc append) = refl
  refused client (op.Close fd) = refl
  refused client (op.Read fd n) = refl
  refused client (op.Write fd fresh) = ap (λ at. first_of (own_refusal t client (op.Write fd fresh)) (refused_if (is_past at fresh) Efbig)) (write_place client fd)
  refused client (op.Pread fd n at) = refl
  refused client (op.Pwrite fd fresh at) = refl
  refused client (op.Seek fd from by) =
      ap (λ size. first_of (own_refusal t client (op.Seek fd from by)) (refused_if (not (is_offset (seek_to from by (opened t client fd) size))) Einval)) (file_size client fd)
  refused client (op.Trunc fd size) = refl
  refused client (op.Fsync fd) = refl
  refused client op.Sync = refl
  refused client (op.Mkdir path) = refl
  refused client (op.Rmdir path) = refl
  refused client (op.Unlink path) = refl
  refused client (op.Rename from to) = refl
  refused client (op.Stat path) = refl
  refused client (op.List path) = refl

  -- ---- replies

  offset_same : (client : ℕ) (request : Op) → new_offset t client request ≡ new_offset u client request
  offset_same client (op.Seek fd from by) = ap (λ size. unwrap_or (seek_to from by (opened t client fd) size) 0) (file_size client fd)
  offset_same client _ = refl

  stat_alike : (whole : List ℕ) (node : Option Node) → AreRepliesAlike (stat_reply t whole node) (stat_reply u whole node)
  stat_alike whole None = refl
  stat_alike whole (Some Dir) = refl
  stat_alike whole (Some (File f)) = ap IsFile (content_size t.bytes bytes same (Some f))

  read_size : (client fd n : ℕ) → length (bytes_read t client fd n) ≡ length (bytes_read u client fd n)
  read_size client fd n = part_size (file_bytes t client fd) (file_bytes u client fd) (file_size client fd) (opened t client fd).at n

  answered : (client : ℕ) (request : Op) → AreRepliesAlike (answer t client request) (answer u client request)
  answered client (op.OpenFile path read write creat excl trunc append) = refl
  answered client (op.Close fd) = refl
  answered client (op.Read fd n) = got (bytes_read t client fd n) (bytes_read u client fd n) (read_size client fd n)
  answered client (op.Write fd fresh) = refl
  answered client (op.Pread fd n at) = got _ _ (part_size (file_bytes t client fd) (file_bytes u client fd) (file_size client fd) at n)
  answered client (op.Pwrite fd fresh at) = refl
  answered client (op.Seek fd from by) = ap At (offset_same client (op.Seek fd from by))
  answered client (op.Trunc fd size) = refl
  answered client (op.Fsync fd) = refl
  answered client op.Sync = refl
  answered client (op.Mkdir path) = refl
  answered client (op.Rmdir path) = refl
  answered client (op.Unlink path) = refl
  answered client (op.Rename from to) = refl
  answered client (op.Stat path) = stat_alike (whole_of path) (node_at t.paths path)
  answered client (op.List path) = refl

  -- ---- changes

  file_made : (whole : List ℕ) → AreAlike (with_file t whole) (with_file u whole)
  file_made whole = record { paths = refl; sizes = sizes_put t.bytes bytes same t.next [] [] refl; fds = refl; next = refl }

  node_opened : (client : ℕ) (whole : List ℕ) (m : Mode) (node : Option Node) → AreAlike (open_node t client whole m node) (open_node u client whole m node)
  node_opened client whole m None = put_fd (with_file t whole) (with_file u whole) (file_made whole) client (new_fd t client) (desc_of m (Some t.next)) (desc_of m (Some t.next)) refl
  node_opened client whole m (Some Dir) = put_fd t u alike client (new_fd t client) (desc_of m None) (desc_of m None) refl
  node_opened client whole m (Some (File f)) =
      put_fd (cond m.trunc (with_bytes t (Some f) []) t) (cond m.trunc (with_bytes u (Some f) []) u)
      (choose m.trunc (with_bytes t (Some f) []) t (with_bytes u (Some f) []) u (put_bytes t u alike (Some f) [] [] refl) alike)
      client (new_fd t client) (desc_of m (Some f)) (desc_of m (Some f)) refl

  file_written : (file : Option ℕ) (at at' : ℕ) (fresh : List ℕ) → at ≡ at' → AreAlike (written t file at fresh) (written u file at' fresh)
  file_written file at at' fresh e =
      choose (eqb (length fresh) 0) t (with_bytes t file (put_at (content t.bytes file) at fresh)) u (with_bytes u file (put_at (content bytes file) at' fresh))
      alike
      (put_bytes t u alike file (put_at (content t.bytes file) at fresh) (put_at (content bytes file) at' fresh)
      (put_size (content t.bytes file) (content bytes file) (content_size t.bytes bytes same file) at fresh ∙ ap (λ at. length (put_at (content bytes file) at fresh)) e))

  fd_written : (client fd : ℕ) (fresh : List ℕ) → AreAlike (write_fd t client fd fresh) (write_fd u client fd fresh)
  fd_written client fd fresh =
      let d = opened t client fd in
      let at = place_of d (file_bytes t client fd) in
      let at' = place_of d (file_bytes u client fd) in
      choose (eqb (length fresh) 0) t (with_fd (written t d.file at fresh) client fd (with_offset d (at + length fresh))) u (with_fd (written u d.file at' fresh) client fd (with_offset d (at' + length fresh)))
      alike
      (put_fd (written t d.file at fresh) (written u d.file at' fresh) (file_written d.file at at' fresh (write_place client fd))
      client fd (with_offset d (at + length fresh)) (with_offset d (at' + length fresh)) (ap (λ at. with_offset d (at + length fresh)) (write_place client fd)))

  path_gone : (whole : List ℕ) → AreAlike (without_path t whole) (without_path u whole)
  path_gone whole = forget_both (record t { paths = fin.remove t.paths whole }) bytes same (file_of (fin.get t.paths whole))

  path_renamed : (from to : List ℕ) → AreAlike (rename_path t from to) (rename_path u from to)
  path_renamed from to = choose (bytes_eq from to) t _ u _ alike (forget_both (record t { paths = renamed t.paths from to }) bytes same (file_of (fin.get t.paths to)))

  pub changed : (client : ℕ) (request : Op) → AreAlike (change t client request) (change u client request)
  changed client (op.OpenFile path read write creat excl trunc append) =
      node_opened client (whole_of path) (mode_of_open read write creat excl trunc append) (node_at t.paths path)
  changed client (op.Close fd) = forget_both (record t { fds = fin.remove t.fds (client, fd) }) bytes same (opened t client fd).file
  changed client (op.Read fd n) =
      let d = opened t client fd in
      put_fd t u alike client fd (with_offset d (d.at + length (bytes_read t client fd n))) (with_offset d (d.at + length (bytes_read u client fd n)))
      (ap (λ count. with_offset d (d.at + count)) (read_size client fd n))
  changed client (op.Write fd fresh) = fd_written client fd fresh
  changed client (op.Pread fd n at) = alike
  changed client (op.Pwrite fd fresh at) = file_written (opened t client fd).file at at fresh refl
  changed client (op.Seek fd from by) =
      let d = opened t client fd in
      put_fd t u alike client fd (with_offset d (new_offset t client (op.Seek fd from by))) (with_offset d (new_offset u client (op.Seek fd from by)))
      (ap (with_offset d) (offset_same client (op.Seek fd from by)))
  changed client (op.Trunc fd size) =
      put_bytes t u alike (opened t client fd).file (resized (file_bytes t client fd) size) (resized (file_bytes u client fd) size)
      (resized_size (file_bytes t client fd) (file_bytes u client fd) (file_size client fd) size)
  changed client (op.Fsync fd) = alike
  changed client op.Sync = alike
  changed client (op.Mkdir path) = record { paths = refl; sizes = same; fds = refl; next = refl }
  changed client (op.Rmdir path) = path_gone (whole_of path)
  changed client (op.Unlink path) = path_gone (whole_of path)
  changed client (op.Rename from to) = path_renamed (whole_of from) (whole_of to)
  changed client (op.Stat path) = alike
  changed client (op.List path) = alike

  -- ---- both

  served_alike : (client : ℕ) (request : Op) (r r' : Option Errno) → r ≡ r'
      → AreAlike (served t client request r).0 (served u client request r').0 × AreRepliesAlike (served t client request r).1 (served u client request r').1
  served_alike client request None None e = (changed client request, answered client request)
  served_alike client request None (Some e') e = cc
  served_alike client request (Some e') None e = cc
  served_alike client request (Some e') (Some e'') e = (alike, cc)

  stepped : (client : ℕ) (request : Op) → AreStepsAlike t u client request
  stepped client request =
      let both = served_alike client request (refusal t client request) (refusal u client request) (refused client request) in
      record { tree = both.0; reply = both.1 }

  asked : (ask : Ask) → IsAsk t ask → IsAsk u ask
  asked ask is = record { desc = is.desc; fd = is.fd; last = is.last }

pub refusals : RefusalsAreSame
refusals t u' client request is = by_files (λ u. refusal t client request ≡ refusal u client request) t u' is (refused t u'.bytes is.sizes client request)

pub steps : StepsAreAlike
steps t u' client request is = by_files (λ u. AreStepsAlike t u client request) t u' is (stepped t u'.bytes is.sizes client request)

pub asks : AsksAreAlike
asks t u' ask is so = by_files (λ u. IsAsk u ask) t u' is (asked t u'.bytes is.sizes ask so)
