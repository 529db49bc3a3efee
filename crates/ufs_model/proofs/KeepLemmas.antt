-- A request leaves a tree a tree.
use Rattle.std.proofs.Common.{◌≡◌, ℕ, zero, suc, ◌+◌, inl, inr, List, [], Bool, true, false, cond, not, eqb, length, Option, Some, None, is_some, is_none, unwrap_or, ap, sym, refl, subst, ◌∙◌}
use Rattle.std.specs.FinMap as map
use Rattle.ufs_base.specs.Choices.{refused_if}
use Rattle.ufs_model.specs.Paths.{components, whole_of, parent_of, text_refusal, has_component, is_root}
use Rattle.ufs_model.specs.PosixTree.{PosixTree, Fds, IsTree, desc_at, stands, has_dir, root}
use Rattle.ufs_model.specs.Walk.{walk_refusal, node_at, is_file}
use Rattle.ufs_model.specs.Directories.{has_entries}
use Rattle.ufs_model.specs.Descriptors.{Mode, opened, closed, with_offset, desc_of, lowest_free, free_from, is_mode, mode_of_open}
use Rattle.ufs_model.specs.FileBytes.{content, place_of, put_at}
use Rattle.ufs_model.specs.Refusals.{read_refusal, write_refusal, seek_refusal, trunc_refusal, own_refusal, refusal}
use Rattle.ufs_model.specs.Posix.{served, change, with_fd, with_bytes, with_file, open_node, close_fd, write_fd, written, new_fd}
use Rattle.ufs_model.specs.Laws.{KeepsTrees}
use Rattle.ufs_model.specs.declared.data.Desc.{Desc}
use Rattle.ufs_model.specs.declared.data.Errno.{Errno}
use Rattle.ufs_model.specs.declared.data.Errno.TheVariants.{Einval, Ebusy, Enoent, Enotdir, Emfile}
use Rattle.ufs_model.specs.declared.data.Node.{Node}
use Rattle.ufs_model.specs.declared.data.Node.TheVariants.{Dir, File}
use Rattle.ufs_model.specs.declared.data.Op.{Op}
use Rattle.ufs_model.specs.declared.data.Op.TheVariants as op
use Rattle.ufs_model.proofs.Facts.Lookups.{same_some}
use Rattle.ufs_model.proofs.Facts.Walks.{entry_there, parent_is_dir}
use Rattle.ufs_model.proofs.Facts.Allowed.{missing, first_none, passed, names_of_whole, whole_is}
use Rattle.ufs_model.proofs.Facts.Live.{HasBytes, bytes_there, held_has, keeps_bytes, keeps_fd, keeps_closed, forget_lost}
use Rattle.ufs_model.proofs.NamespaceLemmas.{keeps_new_dir, keeps_new_file, keeps_without}
use Rattle.ufs_model.proofs.NewNameLemmas.{keeps_renamed}

-- ---- an open descriptor

is_open : (o : Option Desc) → is_none o ≡ false → o ≡ Some (unwrap_or o closed)
is_open None e = cc
is_open (Some d) e = refl

may_read : (o : Option Desc) → read_refusal o ≡ None → is_none o ≡ false
may_read None e = cc
may_read (Some d) e = refl

may_write : (o : Option Desc) → write_refusal o ≡ None → is_none o ≡ false
may_write None e = cc
may_write (Some d) e = refl

may_seek : (o : Option Desc) → seek_refusal o ≡ None → is_none o ≡ false
may_seek None e = cc
may_seek (Some d) e = refl

may_cut : (o : Option Desc) → trunc_refusal o ≡ None → is_none o ≡ false
may_cut None e = cc
may_cut (Some d) e = refl

-- a descriptor moves on
keeps_moved : (t : PosixTree) → IsTree t → (client fd : ℕ) (d : Desc) (at : ℕ) → map.get t.fds (client, fd) ≡ Some d → IsTree (with_fd t client fd (with_offset d at))
keeps_moved t is client fd d at there =
    keeps_fd t is client fd (with_offset d at)
    (λ f e. held_has t is f (inr ((client, fd), d, there, e)))
    (λ old e. ap (λ (d : Desc). d.file) (same_some d old (sym there ∙ e)))

module _ (t : PosixTree) (is : IsTree t) (client fd : ℕ) (is_there : is_none (desc_at t client fd) ≡ false) where
  there : desc_at t client fd ≡ Some (opened t client fd)
  there = is_open (desc_at t client fd) is_there

  live : (f : ℕ) → (opened t client fd).file ≡ Some f → HasBytes t.bytes f
  live f e = held_has t is f (inr ((client, fd), opened t client fd, there, e))

  keeps_close : IsTree (close_fd t client fd)
  keeps_close = forget_lost (record t { fds = map.remove t.fds (client, fd) }) (opened t client fd).file (keeps_closed t is client fd (opened t client fd) there)

  keeps_step : (at : ℕ) → IsTree (with_fd t client fd (with_offset (opened t client fd) at))
  keeps_step at = keeps_moved t is client fd (opened t client fd) at there

  keeps_content : (v : List ℕ) → IsTree (with_bytes t (opened t client fd).file v)
  keeps_content v = by (opened t client fd).file refl
    where
      by : (o : Option ℕ) → (opened t client fd).file ≡ o → IsTree (with_bytes t o v)
      by None e = is
      by (Some f) e = keeps_bytes t is f v (live f e)

  keeps_content_step : (v : List ℕ) (at : ℕ) → IsTree (with_fd (with_bytes t (opened t client fd).file v) client fd (with_offset (opened t client fd) at))
  keeps_content_step v at = by (opened t client fd).file refl
    where
      by : (o : Option ℕ) → (opened t client fd).file ≡ o → IsTree (with_fd (with_bytes t o v) client fd (with_offset (opened t client fd) at))
      by None e = keeps_step at
      by (Some f) e = keeps_moved (with_bytes t (Some f) v) (keeps_bytes t is f v (live f e)) client fd (opened t client fd) at there

  keeps_pwrite : (data' : List ℕ) (at : ℕ) → IsTree (written t (opened t client fd).file at data')
  keeps_pwrite data' at = by (eqb (length data') 0)
    where
      by : (b : Bool) → IsTree (cond b t (with_bytes t (opened t client fd).file (put_at (content t.bytes (opened t client fd).file) at data')))
      by true = is
      by false = keeps_content (put_at (content t.bytes (opened t client fd).file) at data')

  -- where a write begins
  abbrev place : ℕ
  place = place_of (opened t client fd) (content t.bytes (opened t client fd).file)

  keeps_write : (data' : List ℕ) → IsTree (write_fd t client fd data')
  keeps_write data' = by (eqb (length data') 0)
    where
      by : (b : Bool) → IsTree (cond b t (with_fd (cond b t (with_bytes t (opened t client fd).file (put_at (content t.bytes (opened t client fd).file) place data'))) client fd (with_offset (opened t client fd) (place + length data'))))
      by true = is
      by false = keeps_content_step (put_at (content t.bytes (opened t client fd).file) place data') (place + length data')

-- ---- a directory is made

keeps_mkdir : (t : PosixTree) (client : ℕ) (path : List ℕ) → IsTree t → refusal t client (op.Mkdir path) ≡ None → IsTree (change t client (op.Mkdir path))
keeps_mkdir t client path is e =
    let own = first_none (text_refusal path) _ e in
    let walk = first_none (walk_refusal t.paths path) _ own.1 in
    keeps_new_dir t is (whole_of path) (missing (node_at t.paths path) (passed _ _ walk.1)) (whole_is path own.0) (parent_is_dir t.paths path is.namespace walk.0)

-- ---- a path goes

not_root : (path : List ℕ) → is_root path ≡ false → whole_of path ≡ root → ⊥
not_root path e h = let none = ap (λ names. not (has_component names)) (sym (names_of_whole path) ∙ ap components h) in cc

keeps_rmdir : (t : PosixTree) (client : ℕ) (path : List ℕ) → IsTree t → refusal t client (op.Rmdir path) ≡ None → IsTree (change t client (op.Rmdir path))
keeps_rmdir t client path is e =
    let own = first_none (text_refusal path) _ e in
    let walk = first_none (walk_refusal t.paths path) _ own.1 in
    let at_root = first_none (refused_if (is_root path) Ebusy) _ walk.1 in
    let there = first_none (refused_if (is_none (node_at t.paths path)) Enoent) _ at_root.1 in
    let file = first_none (refused_if (is_file (node_at t.paths path)) Enotdir) _ there.1 in
    let empty : has_entries t.paths (whole_of path) ≡ false = passed _ _ file.1 in
    let other = not_root path (passed (is_root path) _ at_root.0) in
    keeps_without t is (whole_of path) other (leaf other empty)
  where
    leaf : (whole_of path ≡ root → ⊥) → has_entries t.paths (whole_of path) ≡ false → (q : List ℕ) → stands t.paths q ≡ true → parent_of q ≡ whole_of path → ⊥
    leaf other empty q there parent =
        let entry = entry_there t.paths q (whole_of path) there parent (λ e. other (sym parent ∙ ap parent_of e)) in cc

keeps_unlink : (t : PosixTree) (client : ℕ) (path : List ℕ) → IsTree t → refusal t client (op.Unlink path) ≡ None → IsTree (change t client (op.Unlink path))
keeps_unlink t client path is e =
    let own = first_none (text_refusal path) _ e in
    let walk = first_none (walk_refusal t.paths path) _ own.1 in
    let there = first_none (refused_if (is_none (node_at t.paths path)) Enoent) _ walk.1 in
    let file : has_dir t.paths (whole_of path) ≡ false = passed _ _ there.1 in
    keeps_without t is (whole_of path) (other file) (leaf file)
  where
    other : has_dir t.paths (whole_of path) ≡ false → whole_of path ≡ root → ⊥
    other file e = let dir = ap (has_dir t.paths) e ∙ is.namespace.root_is_dir in cc

    leaf : has_dir t.paths (whole_of path) ≡ false → (q : List ℕ) → stands t.paths q ≡ true → parent_of q ≡ whole_of path → ⊥
    leaf file q there parent = let dir = ap (has_dir t.paths) (sym parent) ∙ is.namespace.parents q there in cc

-- ---- a path is opened

is_free : (fds : Fds) (client fd count k : ℕ) → free_from fds client fd count ≡ Some k → map.get fds (client, k) ≡ None
is_free fds client fd zero k e = cc
is_free fds client fd (suc count) k e = by (map.get fds (client, fd)) refl (is_free fds client (fd + 1) count k) e
  where
    by : (o : Option Desc) → map.get fds (client, fd) ≡ o → (free_from fds client (fd + 1) count ≡ Some k → map.get fds (client, k) ≡ None)
        → cond (is_some o) (free_from fds client (fd + 1) count) (Some fd) ≡ Some k → map.get fds (client, k) ≡ None
    by (Some d) at more e = more e
    by None at more e = ap (λ k. map.get fds (client, k)) (sym (same_some fd k e)) ∙ at

some_number : (o : Option ℕ) → is_none o ≡ false → o ≡ Some (unwrap_or o 0)
some_number None e = cc
some_number (Some n) e = refl

pub new_is_free : (t : PosixTree) (client : ℕ) → is_none (lowest_free t.fds client) ≡ false → map.get t.fds (client, new_fd t client) ≡ None
unfolding lowest_free
new_is_free t client e = is_free t.fds client 3 64 (new_fd t client) (some_number (free_from t.fds client 3 64) e)

module _ (t : PosixTree) (is : IsTree t) (client : ℕ) (m : Mode) (free : map.get t.fds (client, new_fd t client) ≡ None) where
  opens_file : (f : ℕ) → HasBytes t.bytes f → (b : Bool) → IsTree (with_fd (cond b (with_bytes t (Some f) []) t) client (new_fd t client) (desc_of m (Some f)))
  opens_file f has true =
      keeps_fd (with_bytes t (Some f) []) (keeps_bytes t is f [] has) client (new_fd t client) (desc_of m (Some f))
      (λ g e. subst (HasBytes (with_bytes t (Some f) []).bytes) (same_some f g e) (bytes_there t.bytes f [])) (λ old h. cc)
  opens_file f has false = keeps_fd t is client (new_fd t client) (desc_of m (Some f)) (λ g e. subst (HasBytes t.bytes) (same_some f g e) has) (λ old h. cc)

  opens_new : (path : List ℕ) → node_at t.paths path ≡ None → text_refusal path ≡ None → walk_refusal t.paths path ≡ None → IsTree (open_node t client (whole_of path) m None)
  opens_new path absent text walk =
      keeps_fd (with_file t (whole_of path)) (keeps_new_file t is (whole_of path) absent (whole_is path text) (parent_is_dir t.paths path is.namespace walk)) client (new_fd t client) (desc_of m (Some t.next))
      (λ f e. subst (HasBytes (with_file t (whole_of path)).bytes) (same_some t.next f e) (bytes_there t.bytes t.next [])) (λ old h. cc)

  opens : (path : List ℕ) → text_refusal path ≡ None → walk_refusal t.paths path ≡ None → (o : Option Node) → node_at t.paths path ≡ o → IsTree (open_node t client (whole_of path) m o)
  opens path text walk None at = opens_new path at text walk
  opens path text walk (Some Dir) at = keeps_fd t is client (new_fd t client) (desc_of m None) (λ f e. cc) (λ old h. cc)
  opens path text walk (Some (File f)) at = opens_file f (held_has t is f (inl (whole_of path, at))) m.trunc

keeps_open : (t : PosixTree) (client : ℕ) (path : List ℕ) (read write creat excl trunc append : Bool) → IsTree t → refusal t client (op.OpenFile path read write creat excl trunc append) ≡ None
    → IsTree (change t client (op.OpenFile path read write creat excl trunc append))
keeps_open t client path read write creat excl trunc append is e =
    let m : Mode = mode_of_open read write creat excl trunc append in
    let both = first_none (own_refusal t client (op.OpenFile path read write creat excl trunc append)) _ e in
    let mode = first_none (refused_if (not (is_mode m)) Einval) _ both.0 in
    let free = first_none (refused_if (is_none (lowest_free t.fds client)) Emfile) (text_refusal path) mode.1 in
    let walk = first_none (walk_refusal t.paths path) _ both.1 in
    opens t is client m (new_is_free t client (passed (is_none (lowest_free t.fds client)) Emfile free.0)) path free.1 walk.0 (node_at t.paths path) refl

-- ---- each request

pub keeps_change : (t : PosixTree) (client : ℕ) (request : Op) → IsTree t → refusal t client request ≡ None → IsTree (change t client request)
keeps_change t client (op.OpenFile path read write creat excl trunc append) is e = keeps_open t client path read write creat excl trunc append is e
keeps_change t client (op.Close fd) is e = keeps_close t is client fd (passed _ _ (first_none _ None e).0)
keeps_change t client (op.Read fd n) is e = keeps_step t is client fd (may_read _ (first_none _ None e).0) _
keeps_change t client (op.Write fd data') is e = keeps_write t is client fd (may_write _ (first_none (write_refusal (desc_at t client fd)) _ e).0) data'
keeps_change t client (op.Pread fd n at) is e = is
keeps_change t client (op.Pwrite fd data' at) is e = keeps_pwrite t is client fd (may_write _ (first_none (write_refusal (desc_at t client fd)) _ e).0) data' at
keeps_change t client (op.Seek fd from by) is e = keeps_step t is client fd (may_seek _ (first_none (seek_refusal (desc_at t client fd)) _ e).0) _
keeps_change t client (op.Trunc fd size) is e = keeps_content t is client fd (may_cut _ (first_none (trunc_refusal (desc_at t client fd)) _ e).0) _
keeps_change t client (op.Fsync fd) is e = is
keeps_change t client op.Sync is e = is
keeps_change t client (op.Mkdir path) is e = keeps_mkdir t client path is e
keeps_change t client (op.Rmdir path) is e = keeps_rmdir t client path is e
keeps_change t client (op.Unlink path) is e = keeps_unlink t client path is e
keeps_change t client (op.Rename from to) is e = keeps_renamed t client from to is e
keeps_change t client (op.Stat path) is e = is
keeps_change t client (op.List path) is e = is

pub keeps : KeepsTrees
keeps t client request is = by (refusal t client request) refl
  where
    by : (r : Option Errno) → refusal t client request ≡ r → IsTree (served t client request r).0
    by (Some e) h = is
    by None h = keeps_change t client request is h
