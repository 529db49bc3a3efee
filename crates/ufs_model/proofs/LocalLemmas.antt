-- A request is local, request by request: two trees that agree on what it touches change alike.
use Rattle.std.proofs.Common.{◌≡◌, ℕ, ◌+◌, List, [], ◌∷◌, true, false, cond, Option, Some, None, ap, sym, refl, ◌∙◌, subst, inl, inr, length, eqb}
use Rattle.std.specs.Prelude.{is_some, is_none, unwrap_or}
use Rattle.std.specs.FinMap as fin
use Rattle.ufs_base.specs.Choices.{first_of, refused_if}
use Rattle.ufs_model.specs.Paths.{whole_of, is_root}
use Rattle.ufs_model.specs.PosixTree.{PosixTree, Paths, desc_at}
use Rattle.ufs_model.specs.Walk.{node_at, file_of, is_file, walk_refusal}
use Rattle.ufs_model.specs.Directories.{has_entries}
use Rattle.ufs_model.specs.Descriptors.{Mode, opened, closed, with_offset, mode_of_open}
use Rattle.ufs_model.specs.FileBytes.{part, put_at, place_of, resized}
use Rattle.ufs_model.specs.Refusals.{refusal, own_refusal, tree_refusal, read_refusal, write_refusal, seek_refusal, rmdir_refusal}
use Rattle.ufs_model.specs.Posix.{posix, served, change, with_fd, with_bytes, forget, open_node, file_bytes, new_offset, bytes_read}
use Rattle.ufs_model.specs.Touched.{IsSamePart, IsPartOf, file_part, dropped_part, opened_part, reached, touched_parts}
use Rattle.ufs_model.specs.Laws.{AgreeOn, IsLocal, Locality}
use Rattle.ufs_model.specs.declared.data.Desc.{Desc}
use Rattle.ufs_model.specs.declared.data.Errno.{Errno}
use Rattle.ufs_model.specs.declared.data.Errno.TheVariants.{Enoent, Ebusy, Enotdir, Enotempty}
use Rattle.ufs_model.specs.declared.data.Node.{Node}
use Rattle.ufs_model.specs.declared.data.Node.TheVariants.{Dir, File}
use Rattle.ufs_model.specs.declared.data.Op.{Op}
use Rattle.ufs_model.specs.declared.data.Op.TheVariants as op
use Rattle.ufs_model.specs.declared.data.PartName.{PartName}
use Rattle.ufs_model.specs.declared.data.PartName.TheVariants as name
use Rattle.ufs_model.proofs.Facts.Allowed.{first_none, passed}
use Rattle.ufs_model.proofs.AlikeLemmas.{fds_stay, fds_gone, Alike, touched_alike, others_alike}
use Rattle.ufs_model.proofs.ToldLemmas.{own_same, opened_same, bytes_same, tree_same, offset_same, answer_same}
use Rattle.ufs_model.proofs.ChangeLemmas.{with_names, nothing, bytes_and_fd, bytes_alone, fd_alone, forgotten, open_alike, rename_alike}

-- ---- refusals

-- what isn't refused has a descriptor
read_open : (o : Option Desc) → read_refusal o ≡ None → (d : Desc) × (o ≡ Some d)
read_open None e = cc
read_open (Some d) e = (d, refl)

pub write_open : (o : Option Desc) → write_refusal o ≡ None → (d : Desc) × (o ≡ Some d)
write_open None e = cc
write_open (Some d) e = (d, refl)

seek_open : (o : Option Desc) → seek_refusal o ≡ None → (d : Desc) × (o ≡ Some d)
seek_open None e = cc
seek_open (Some d) e = (d, refl)

no_file : (node : Option Node) → is_file node ≡ false → file_of node ≡ None
no_file None e = refl
no_file (Some Dir) e = refl
no_file (Some (File f)) e = cc

-- what is removed as a directory is no file
rmdir_no_file : (paths : Paths) (path : List ℕ) → first_of (walk_refusal paths path) (rmdir_refusal paths path) ≡ None → file_of (node_at paths path) ≡ None
rmdir_no_file paths path e =
    let walked = first_none (walk_refusal paths path) (rmdir_refusal paths path) e in
    let named = first_none (refused_if (is_root path) Ebusy) _ walked.1 in
    let there = first_none (refused_if (is_none (node_at paths path)) Enoent) _ named.1 in
    let dir = first_none (refused_if (is_file (node_at paths path)) Enotdir) (refused_if (has_entries paths (whole_of path)) Enotempty) there.1 in
    no_file (node_at paths path) (passed (is_file (node_at paths path)) Enotdir dir.0)

-- ---- each request

module _ (t u : PosixTree) (client : ℕ) where
  -- the parts of a request on names that isn't refused
  allowed_part : (o : Option Errno) (parts : List PartName) (part : PartName) → o ≡ None → IsPartOf parts part → IsPartOf (cond (is_some o) [] parts) part
  allowed_part o parts part none at = subst (λ (o : Option Errno). IsPartOf (cond (is_some o) [] parts) part) (sym none) at

  change_alike : (request : Op) → own_refusal t client request ≡ None → tree_refusal t client request ≡ None → refusal t client request ≡ None → AgreeOn (name.Client client ∷ reached t client request) t u
      → Alike (name.Client client ∷ reached t client request) client t u (change t client request) (change u client request)
  change_alike (op.OpenFile path read write creat excl trunc append) own tree none agree =
      let m : Mode = mode_of_open read write creat excl trunc append in
      let request = op.OpenFile path read write creat excl trunc append in
      let rest : List PartName = cond (is_some (refusal t client request)) [] (opened_part t.next (is_some (node_at t.paths path)) (file_of (node_at t.paths path)) trunc) in
      subst (λ (node : Option Node). Alike (name.Client client ∷ name.Names ∷ rest) client t u (open_node t client (whole_of path) m (node_at t.paths path)) (open_node u client (whole_of path) m node))
      (ap (λ (p : Paths). node_at p path) (agree name.Names (inr (inl refl))).0)
      (open_alike t u client rest agree (whole_of path) m (node_at t.paths path)
      (λ f at. allowed_part (refusal t client request) (opened_part t.next (is_some (node_at t.paths path)) (file_of (node_at t.paths path)) trunc) (name.File f) none at))
  change_alike (op.Close fd) own tree none agree =
      forgotten t u client _ agree t.paths u.paths (fin.remove t.fds (client, fd)) (fin.remove u.fds (client, fd)) (opened t client fd).file (opened u client fd).file
      (agree name.Names (inr (inl refl))).0 (fds_gone client t.fds u.fds (agree (name.Client client) (inl refl)) fd) (ap (λ (d : Desc). d.file) (opened_same t u client (reached t client (op.Close fd)) fd agree)) (λ f at. at)
  change_alike (op.Read fd n) own tree none agree =
      let desc = read_open (desc_at t client fd) own in
      let o = opened_same t u client _ fd agree in
      let b = bytes_same t u client fd agree in
      fd_alone t u client _ agree fd desc.0 (with_offset (opened t client fd) ((opened t client fd).at + length (bytes_read t client fd n))) (with_offset (opened u client fd) ((opened u client fd).at + length (bytes_read u client fd n)))
      desc.1 (ap (λ (o : Option Desc). (unwrap_or o closed).file) desc.1) (λ i. with_offset (o i) ((o i).at + length (part (b i) (o i).at n)))
  change_alike (op.Write fd fresh) own tree none agree =
      let desc = write_open (desc_at t client fd) own in
      let o = opened_same t u client _ fd agree in
      let b = bytes_same t u client fd agree in
      elim (eqb (length fresh) 0) as (λ b. Alike (name.Client client ∷ file_part (opened t client fd).file) client t u
      (cond b t (with_fd (cond b t (with_bytes t (opened t client fd).file (put_at (file_bytes t client fd) (place_of (opened t client fd) (file_bytes t client fd)) fresh))) client fd (with_offset (opened t client fd) (place_of (opened t client fd) (file_bytes t client fd) + length fresh))))
      (cond b u (with_fd (cond b u (with_bytes u (opened u client fd).file (put_at (file_bytes u client fd) (place_of (opened u client fd) (file_bytes u client fd)) fresh))) client fd (with_offset (opened u client fd) (place_of (opened u client fd) (file_bytes u client fd) + length fresh))))) [
        | true ↦ nothing t u client _ agree
        | false ↦ bytes_and_fd t u client _ agree fd (opened t client fd).file (opened u client fd).file _ _ desc.0 _ _
            (ap (λ (d : Desc). d.file) o) (λ i. put_at (b i) (place_of (o i) (b i)) fresh) (λ f at. at)
            desc.1 (ap (λ (o : Option Desc). (unwrap_or o closed).file) desc.1) (λ i. with_offset (o i) (place_of (o i) (b i) + length fresh))
      ]
  change_alike (op.Pread fd n at) own tree none agree = nothing t u client _ agree
  change_alike (op.Pwrite fd fresh at) own tree none agree =
      let o = opened_same t u client _ fd agree in
      let b = bytes_same t u client fd agree in
      elim (eqb (length fresh) 0) as (λ b. Alike (name.Client client ∷ file_part (opened t client fd).file) client t u
      (cond b t (with_bytes t (opened t client fd).file (put_at (file_bytes t client fd) at fresh)))
      (cond b u (with_bytes u (opened u client fd).file (put_at (file_bytes u client fd) at fresh)))) [
        | true ↦ nothing t u client _ agree
        | false ↦ bytes_alone t u client _ agree (opened t client fd).file (opened u client fd).file _ _ (ap (λ (d : Desc). d.file) o) (λ i. put_at (b i) at fresh) (λ f at. at)
      ]
  change_alike (op.Seek fd from by) own tree none agree =
      let desc = seek_open (desc_at t client fd) own in
      let request = op.Seek fd from by in
      let o = opened_same t u client (reached t client request) fd agree in
      fd_alone t u client (reached t client request) agree fd desc.0 (with_offset (opened t client fd) (new_offset t client request)) (with_offset (opened u client fd) (new_offset u client request))
      desc.1 (ap (λ (o : Option Desc). (unwrap_or o closed).file) desc.1) (λ i. with_offset (o i) (offset_same t u client fd from by agree i))
  change_alike (op.Trunc fd size) own tree none agree =
      let o = opened_same t u client _ fd agree in
      let b = bytes_same t u client fd agree in
      bytes_alone t u client _ agree (opened t client fd).file (opened u client fd).file _ _ (ap (λ (d : Desc). d.file) o) (λ i. resized (b i) size) (λ f at. at)
  change_alike (op.Fsync fd) own tree none agree = nothing t u client _ agree
  change_alike op.Sync own tree none agree = nothing t u client _ agree
  change_alike (op.Mkdir path) own tree none agree =
      let names = agree name.Names (inr (inl refl)) in
      forgotten t u client [] agree (fin.insert t.paths (whole_of path) Dir) (fin.insert u.paths (whole_of path) Dir) t.fds u.fds None None
      (ap (λ (p : Paths). fin.insert p (whole_of path) Dir) names.0) (fds_stay client t.fds u.fds (agree (name.Client client) (inl refl))) refl (λ f at. at)
  change_alike (op.Rmdir path) own tree none agree =
      let names = agree name.Names (inr (inl refl)) in
      let whole = whole_of path in
      forgotten t u client [] agree (fin.remove t.paths whole) (fin.remove u.paths whole) t.fds u.fds (file_of (fin.get t.paths whole)) (file_of (fin.get u.paths whole))
      (ap (λ (p : Paths). fin.remove p whole) names.0) (fds_stay client t.fds u.fds (agree (name.Client client) (inl refl))) (ap (λ (p : Paths). file_of (fin.get p whole)) names.0)
      (λ f at. subst (λ o. IsPartOf (dropped_part (forget (with_names t (fin.remove t.paths whole) t.fds) o) o) (name.File f)) (rmdir_no_file t.paths path tree) at)
  change_alike (op.Unlink path) own tree none agree =
      let names = agree name.Names (inr (inl refl)) in
      let whole = whole_of path in
      forgotten t u client _ agree (fin.remove t.paths whole) (fin.remove u.paths whole) t.fds u.fds (file_of (fin.get t.paths whole)) (file_of (fin.get u.paths whole))
      (ap (λ (p : Paths). fin.remove p whole) names.0) (fds_stay client t.fds u.fds (agree (name.Client client) (inl refl))) (ap (λ (p : Paths). file_of (fin.get p whole)) names.0)
      (λ f at. allowed_part (refusal t client (op.Unlink path)) _ (name.File f) none at)
  change_alike (op.Rename from to) own tree none agree =
      rename_alike t u client _ agree (whole_of from) (whole_of to) (λ f at. allowed_part (refusal t client (op.Rename from to)) _ (name.File f) none at)
  change_alike (op.Stat path) own tree none agree = nothing t u client _ agree
  change_alike (op.List path) own tree none agree = nothing t u client _ agree

-- ---- all requests

module _ (t u : PosixTree) (client : ℕ) (request : Op) where
  -- trees that change alike, as the request leaves them
  from_alike : (rest : List PartName) (x y : PosixTree) → touched_parts t client request ≡ name.Client client ∷ rest
      → x ≡ (posix t client request).0 → y ≡ (posix u client request).0 → (posix t client request).1 ≡ (posix u client request).1
      → AgreeOn (name.Client client ∷ rest) t u → Alike (name.Client client ∷ rest) client t u x y → IsLocal t u client request
  from_alike rest x y parts left right reply agree alike = record {
    reply = reply;
    touched = subst (λ (p : PosixTree × PosixTree). AgreeOn (touched_parts t client request) p.0 p.1) (λ i. (left i, right i))
        (subst (λ (l : List PartName). AgreeOn l x y) (sym parts) (touched_alike client rest t u x y agree alike));
    others = λ other out. subst (λ (x : PosixTree). IsSamePart other t x) left
        (others_alike client rest t u x y agree alike other (λ among. out (subst (λ (l : List PartName). IsPartOf l other) (sym parts) among)));
  }

  -- both are refused alike, or neither is
  by_refusal : (rest : List PartName) (r : Option Errno) → touched_parts t client request ≡ name.Client client ∷ rest → refusal t client request ≡ r → refusal u client request ≡ r
      → AgreeOn (name.Client client ∷ rest) t u → Alike (name.Client client ∷ rest) client t u (served t client request r).0 (served u client request r).0
      → (served t client request r).1 ≡ (served u client request r).1 → IsLocal t u client request
  by_refusal rest r parts is is' agree alike reply =
      from_alike rest (served t client request r).0 (served u client request r).0 parts
      (ap (λ r. (served t client request r).0) (sym is)) (ap (λ r. (served u client request r).0) (sym is'))
      (ap (λ r. (served t client request r).1) is ∙ reply ∙ ap (λ r. (served u client request r).1) (sym is')) agree alike

  agree_when : (o : Option Errno) → own_refusal t client request ≡ o → AgreeOn (touched_parts t client request) t u → AgreeOn (name.Client client ∷ cond (is_some o) [] (reached t client request)) t u
  agree_when o is agree = subst (λ (o : Option Errno). AgreeOn (name.Client client ∷ cond (is_some o) [] (reached t client request)) t u) is agree

  parts_when : (o : Option Errno) → own_refusal t client request ≡ o → touched_parts t client request ≡ name.Client client ∷ cond (is_some o) [] (reached t client request)
  parts_when o is = ap (λ (o : Option Errno). name.Client client ∷ cond (is_some o) [] (reached t client request)) is

  -- where the client can't refuse it
  by_tree : own_refusal t client request ≡ None → own_refusal u client request ≡ None → (r : Option Errno) → tree_refusal t client request ≡ r
      → AgreeOn (name.Client client ∷ reached t client request) t u → IsLocal t u client request
  by_tree own own' (Some e) tree agree =
      by_refusal (reached t client request) (Some e) (parts_when None own)
      (λ i. first_of (own i) (tree i)) (λ i. first_of (own' i) ((sym (tree_same t u client request agree) ∙ tree) i)) agree (nothing t u client (reached t client request) agree) refl
  by_tree own own' None tree agree =
      let none : refusal t client request ≡ None = λ i. first_of (own i) (tree i) in
      by_refusal (reached t client request) None (parts_when None own)
      none (λ i. first_of (own' i) ((sym (tree_same t u client request agree) ∙ tree) i)) agree
      (change_alike t u client request own tree none agree) (answer_same t u client request agree)

  by_own : (o : Option Errno) → own_refusal t client request ≡ o → own_refusal u client request ≡ o → AgreeOn (name.Client client ∷ cond (is_some o) [] (reached t client request)) t u → IsLocal t u client request
  by_own (Some e) own own' agree =
      by_refusal [] (Some e) (parts_when (Some e) own)
      (ap (λ (o : Option Errno). first_of o (tree_refusal t client request)) own) (ap (λ (o : Option Errno). first_of o (tree_refusal u client request)) own')
      agree (nothing t u client [] agree) refl
  by_own None own own' agree = by_tree own own' (tree_refusal t client request) refl agree

pub local : Locality
local t u client request is is' agree =
    let o = own_refusal t client request in
    by_own t u client request o refl (sym (own_same t u client (agree (name.Client client) (inl refl)) request)) (agree_when t u client request o refl agree)
