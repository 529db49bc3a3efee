-- What a client is told, a refusal or an answer, is told by the parts that its request touches.
use Rattle.std.proofs.Common.{◌≡◌, ℕ, ◌+◌, List, [], ◌∷◌, cond, not, Option, Some, None, ap, refl, ◌∙◌, inl, inr, zero, suc, length}
use Rattle.std.specs.Prelude.{is_some, is_none, unwrap_or, ℤ}
use Rattle.std.specs.FinMap as fin
use Rattle.ufs_base.specs.Choices.{first_of, refused_if}
use Rattle.ufs_model.specs.Paths.{text_refusal, whole_of}
use Rattle.ufs_model.specs.PosixTree.{PosixTree, Paths, Files, desc_at}
use Rattle.ufs_model.specs.Walk.{walk_refusal, node_at, file_of}
use Rattle.ufs_model.specs.Directories.{entry_count, entry_names}
use Rattle.ufs_model.specs.Descriptors.{opened, closed, free_from, lowest_free, is_mode, is_offset, moved_by, mode_of_open}
use Rattle.ufs_model.specs.FileBytes.{content, part, place_of, is_past}
use Rattle.ufs_model.specs.Refusals.{own_refusal, tree_refusal, read_refusal, write_refusal, seek_refusal, trunc_refusal, open_refusal, rmdir_refusal, unlink_refusal, rename_refusal, list_refusal}
use Rattle.ufs_model.specs.Posix.{answer, file_bytes, new_fd, new_offset, stat_reply}
use Rattle.ufs_model.specs.Touched.{IsSamePart, IsPartOf, file_part, reached}
use Rattle.ufs_model.specs.Laws.{AgreeOn}
use Rattle.ufs_model.specs.declared.data.Desc.{Desc}
use Rattle.ufs_model.specs.declared.data.Errno.TheVariants.{Enoent, Einval, Eexist, Ebadf, Emfile, Efbig}
use Rattle.ufs_model.specs.declared.data.Node.{Node}
use Rattle.ufs_model.specs.declared.data.Node.TheVariants.{Dir, File}
use Rattle.ufs_model.specs.declared.data.Op.{Op}
use Rattle.ufs_model.specs.declared.data.Op.TheVariants as op
use Rattle.ufs_model.specs.declared.data.PartName.{PartName}
use Rattle.ufs_model.specs.declared.data.PartName.TheVariants as name
use Rattle.ufs_model.specs.declared.data.Reply.TheVariants.{Fd, At, Got, IsFile, IsDir, Names}
use Rattle.ufs_model.specs.declared.data.Whence.{Whence}
use Rattle.ufs_model.specs.declared.data.Whence.TheVariants as whence

-- ---- by the client alone

module _ (t u : PosixTree) (client : ℕ) (same : (fd : ℕ) → desc_at t client fd ≡ desc_at u client fd) where
  free_same : (fd count : ℕ) → free_from t.fds client fd count ≡ free_from u.fds client fd count
  free_same fd zero = refl
  free_same fd (suc count) = λ i. cond (is_some (same fd i)) (free_same (fd + 1) count i) (Some fd)

  pub lowest_same : lowest_free t.fds client ≡ lowest_free u.fds client
  unfolding lowest_free
  lowest_same = free_same 3 64

  pub own_same : (request : Op) → own_refusal t client request ≡ own_refusal u client request
  own_same (op.OpenFile path read write creat excl trunc append) =
      ap (λ o. first_of (refused_if (not (is_mode (mode_of_open read write creat excl trunc append))) Einval)
      (first_of (refused_if (is_none o) Emfile) (text_refusal path))) lowest_same
  own_same (op.Close fd) = ap (λ o. refused_if (is_none o) Ebadf) (same fd)
  own_same (op.Read fd n) = ap read_refusal (same fd)
  own_same (op.Write fd fresh) = ap write_refusal (same fd)
  own_same (op.Pread fd n at) = ap read_refusal (same fd)
  own_same (op.Pwrite fd fresh at) = ap write_refusal (same fd)
  own_same (op.Seek fd from by) = ap seek_refusal (same fd)
  own_same (op.Trunc fd size) = ap trunc_refusal (same fd)
  own_same (op.Fsync fd) = ap (λ o. refused_if (is_none o) Ebadf) (same fd)
  own_same op.Sync = refl
  own_same (op.Mkdir path) = refl
  own_same (op.Rmdir path) = refl
  own_same (op.Unlink path) = refl
  own_same (op.Rename from to) = refl
  own_same (op.Stat path) = refl
  own_same (op.List path) = refl

-- ---- by the client, the names and the file

pub content_same : (a b : Files) (file : Option ℕ) → ((f : ℕ) → IsPartOf (file_part file) (name.File f) → fin.get a f ≡ fin.get b f) → content a file ≡ content b file
content_same a b None same = refl
content_same a b (Some f) same = ap (λ o. unwrap_or o []) (same f (inl refl))

module _ (t u : PosixTree) (client : ℕ) where
  pub own_of : (rest : List PartName) → AgreeOn (name.Client client ∷ rest) t u → (fd : ℕ) → desc_at t client fd ≡ desc_at u client fd
  own_of rest agree = agree (name.Client client) (inl refl)

  pub names_of : (rest : List PartName) → AgreeOn (name.Client client ∷ name.Names ∷ rest) t u → IsSamePart name.Names t u
  names_of rest agree = agree name.Names (inr (inl refl))

  pub opened_same : (rest : List PartName) (fd : ℕ) → AgreeOn (name.Client client ∷ rest) t u → opened t client fd ≡ opened u client fd
  opened_same rest fd agree = ap (λ o. unwrap_or o closed) (own_of rest agree fd)

  pub bytes_same : (fd : ℕ) → AgreeOn (name.Client client ∷ file_part (opened t client fd).file) t u → file_bytes t client fd ≡ file_bytes u client fd
  bytes_same fd agree =
      content_same t.bytes u.bytes (opened t client fd).file (λ f among. agree (name.File f) (inr among))
      ∙ ap (λ (d : Desc). content u.bytes d.file) (opened_same (file_part (opened t client fd).file) fd agree)

  pub new_fd_same : (rest : List PartName) → AgreeOn (name.Client client ∷ rest) t u → new_fd t client ≡ new_fd u client
  new_fd_same rest agree = ap (λ o. unwrap_or o 0) (lowest_same t u client (own_of rest agree))

  pub tree_same : (request : Op) → AgreeOn (name.Client client ∷ reached t client request) t u → tree_refusal t client request ≡ tree_refusal u client request
  tree_same (op.OpenFile path read write creat excl trunc append) agree =
      ap (λ (p : Paths). first_of (walk_refusal p path)
      (open_refusal (mode_of_open read write creat excl trunc append) (node_at p path))) (names_of _ agree).0
  tree_same (op.Close fd) agree = refl
  tree_same (op.Read fd n) agree = refl
  tree_same (op.Write fd fresh) agree = λ i. refused_if (is_past (place_of (opened_same _ fd agree i) (bytes_same fd agree i)) fresh) Efbig
  tree_same (op.Pread fd n at) agree = refl
  tree_same (op.Pwrite fd fresh at) agree = refl
  tree_same (op.Seek fd whence.Set by) agree = refl
  tree_same (op.Seek fd whence.Cur by) agree = ap (λ (d : Desc). refused_if (not (is_offset (moved_by d.at by))) Einval) (opened_same [] fd agree)
  tree_same (op.Seek fd whence.End by) agree = ap (λ (b : List ℕ). refused_if (not (is_offset (moved_by (length b) by))) Einval) (bytes_same fd agree)
  tree_same (op.Trunc fd size) agree = refl
  tree_same (op.Fsync fd) agree = refl
  tree_same op.Sync agree = refl
  tree_same (op.Mkdir path) agree = ap (λ (p : Paths). first_of (walk_refusal p path) (refused_if (is_some (node_at p path)) Eexist)) (names_of [] agree).0
  tree_same (op.Rmdir path) agree = ap (λ (p : Paths). first_of (walk_refusal p path) (rmdir_refusal p path)) (names_of [] agree).0
  tree_same (op.Unlink path) agree = ap (λ (p : Paths). first_of (walk_refusal p path) (unlink_refusal (node_at p path))) (names_of _ agree).0
  tree_same (op.Rename from to) agree = ap (λ (p : Paths). rename_refusal p from to) (names_of _ agree).0
  tree_same (op.Stat path) agree = ap (λ (p : Paths). first_of (walk_refusal p path) (refused_if (is_none (node_at p path)) Enoent)) (names_of _ agree).0
  tree_same (op.List path) agree = ap (λ (p : Paths). first_of (walk_refusal p path) (list_refusal (node_at p path))) (names_of [] agree).0

  stat_same : (whole : List ℕ) (node : Option Node) → t.paths ≡ u.paths → ((f : ℕ) → IsPartOf (file_part (file_of node)) (name.File f) → fin.get t.bytes f ≡ fin.get u.bytes f)
      → stat_reply t whole node ≡ stat_reply u whole node
  stat_same whole None paths same = refl
  stat_same whole (Some Dir) paths same = ap (λ (p : Paths). IsDir (entry_count p whole)) paths
  stat_same whole (Some (File f)) paths same = ap (λ (b : List ℕ). IsFile (length b)) (content_same t.bytes u.bytes (Some f) same)

  pub offset_same : (fd : ℕ) (from : Whence) (by : ℤ) → AgreeOn (name.Client client ∷ reached t client (op.Seek fd from by)) t u → new_offset t client (op.Seek fd from by) ≡ new_offset u client (op.Seek fd from by)
  offset_same fd whence.Set by agree = refl
  offset_same fd whence.Cur by agree = ap (λ (d : Desc). unwrap_or (moved_by d.at by) 0) (opened_same [] fd agree)
  offset_same fd whence.End by agree = ap (λ (b : List ℕ). unwrap_or (moved_by (length b) by) 0) (bytes_same fd agree)

  pub answer_same : (request : Op) → AgreeOn (name.Client client ∷ reached t client request) t u → answer t client request ≡ answer u client request
  answer_same (op.OpenFile path read write creat excl trunc append) agree = ap Fd (new_fd_same (reached t client (op.OpenFile path read write creat excl trunc append)) agree)
  answer_same (op.Close fd) agree = refl
  answer_same (op.Read fd n) agree = λ i. Got (part (bytes_same fd agree i) (opened_same _ fd agree i).at n)
  answer_same (op.Write fd fresh) agree = refl
  answer_same (op.Pread fd n at) agree = ap (λ (b : List ℕ). Got (part b at n)) (bytes_same fd agree)
  answer_same (op.Pwrite fd fresh at) agree = refl
  answer_same (op.Seek fd from by) agree = ap At (offset_same fd from by agree)
  answer_same (op.Trunc fd size) agree = refl
  answer_same (op.Fsync fd) agree = refl
  answer_same op.Sync agree = refl
  answer_same (op.Mkdir path) agree = refl
  answer_same (op.Rmdir path) agree = refl
  answer_same (op.Unlink path) agree = refl
  answer_same (op.Rename from to) agree = refl
  answer_same (op.Stat path) agree =
      let names = names_of _ agree in
      stat_same (whole_of path) (node_at t.paths path) names.0 (λ f among. agree (name.File f) (inr (inr among)))
      ∙ ap (λ (p : Paths). stat_reply u (whole_of path) (node_at p path)) names.0
  answer_same (op.List path) agree = ap (λ (p : Paths). Names (entry_names p (whole_of path))) (names_of [] agree).0
