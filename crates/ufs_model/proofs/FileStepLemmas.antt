-- A request on a descriptor of a file is a step of the file's bytes and the descriptor.
use Rattle.std.proofs.Common.{◌≡◌, ◌≢◌, ℕ, ◌+◌, ◌⊎◌, inl, inr, List, Bool, true, false, cond, eqb, length, [], Option, Some, None, ap, refl, sym, subst, ◌∙◌}
use Rattle.std.specs.Prelude.{unwrap_or, not, nat_lt, is_none, ℤ}
use Rattle.ufs_model.specs.declared.data.Whence.{Whence}
use Rattle.std.specs.Cmp.{nat_cmp_total}
use Rattle.std.specs.FinMap as map
use Rattle.std.specs.FinMap.{nat_cmp-IsAntisymmetric}
use Rattle.ufs_base.specs.Choices.{first_of, refused_if}
use Rattle.ufs_model.specs.PosixTree.{PosixTree}
use Rattle.ufs_model.specs.Descriptors.{opened, closed, with_offset, seek_to, is_offset}
use Rattle.ufs_model.specs.FileBytes.{content, part, put_at, resized, place_of, is_past, max_size}
use Rattle.ufs_model.specs.Refusals.{refusal, read_refusal, write_refusal, seek_refusal, trunc_refusal}
use Rattle.ufs_model.specs.Asks.{IsDescAfter}
use Rattle.ufs_model.specs.Posix.{served, change, answer, with_fd, with_bytes}
use Rattle.ufs_model.specs.declared.data.Desc.{Desc}
use Rattle.ufs_model.specs.declared.data.Errno.{Errno}
use Rattle.ufs_model.specs.declared.data.Errno.TheVariants.{Efbig, Einval, Ebadf}
use Rattle.ufs_model.specs.declared.data.Op.{Op}
use Rattle.ufs_model.specs.declared.data.Op.TheVariants as op
use Rattle.ufs_model.specs.declared.data.Reply.{Reply}
use Rattle.ufs_model.specs.declared.data.Reply.TheVariants.{Done, Count, At, Got, Refused}
use Rattle.ufs_model.proofs.Facts.Orders.{fd_total, fd_same}
use Rattle.ufs_model.proofs.Facts.Lookups.{inserted_here, inserted_else}
use Rattle.ufs_model.specs.FileCalls.{GoesOnBy, StepsArePosix, RefusalsArePosix, OwnRefusalsAreByDesc, file_refusal, file_answer, step_by, desc_after, bytes_after}

module _ (t : PosixTree) (client fd file : ℕ) (d : Desc) (there : map.get t.fds (client, fd) ≡ Some d) (named : d.file ≡ Some file) (bytes : List ℕ) (held : map.get t.bytes file ≡ Some bytes) where
  pub open_is : opened t client fd ≡ d
  open_is = ap (λ (o : Option Desc). unwrap_or o closed) there

  file_is : (opened t client fd).file ≡ Some file
  file_is = ap (λ (d : Desc). d.file) open_is ∙ named

  pub bytes_is : content t.bytes (opened t client fd).file ≡ bytes
  bytes_is = ap (content t.bytes) file_is ∙ ap (λ (o : Option (List ℕ)). unwrap_or o []) held

  key_apart : (c n : ℕ) → (c ≢ client) ⊎ (Some fd ≢ Some n) → ◌≡◌ {A = ℕ × ℕ} (c, n) (client, fd) → ⊥
  key_apart c n (inl not) e = not (ap (λ (k : ℕ × ℕ). k.0) e)
  key_apart c n (inr not) e = not (ap (λ (k : ℕ × ℕ). Some k.1) (sym e))

  -- ---- what changes

  abbrev to : PosixTree → List ℕ → Desc → Reply → Type 0
  to u b e r = GoesOnBy t u client (Some fd) file (record { reply = r; bytes = b; desc = e })

  fds_stay : IsDescAfter t.fds t.fds client (Some fd) (Some d)
  fds_stay = record { this = sym there; others = λ c n apart. refl }

  fds_put : (e : Desc) → IsDescAfter t.fds (map.insert t.fds (client, fd) e) client (Some fd) (Some e)
  fds_put e = record { this = sym (inserted_here fd_total fd_same t.fds (client, fd) e); others = λ c n apart. inserted_else fd_total fd_same t.fds (client, fd) e (c, n) (key_apart c n apart) }

  stays : (r : Reply) → to t bytes d r
  stays r = record { bytes = held; others = λ f not. refl; desc = fds_stay; paths = refl; next = refl }

  moves : (e : Desc) (r : Reply) → to (with_fd t client fd e) bytes e r
  moves e r = record { bytes = held; others = λ f not. refl; desc = fds_put e; paths = refl; next = refl }

  put_bytes : (b : List ℕ) → map.get (map.insert t.bytes file b) file ≡ Some b
  put_bytes b = inserted_here nat_cmp_total nat_cmp-IsAntisymmetric t.bytes file b

  writes : (b : List ℕ) (r : Reply) → to (with_bytes t (Some file) b) b d r
  writes b r = record { bytes = put_bytes b; others = λ f not. inserted_else nat_cmp_total nat_cmp-IsAntisymmetric t.bytes file b f not; desc = fds_stay; paths = refl; next = refl }

  both : (b : List ℕ) (e : Desc) (r : Reply) → to (with_fd (with_bytes t (Some file) b) client fd e) b e r
  both b e r = record { bytes = put_bytes b; others = λ f not. inserted_else nat_cmp_total nat_cmp-IsAntisymmetric t.bytes file b f not; desc = fds_put e; paths = refl; next = refl }

  -- ---- request by request

  refuses_read : (n : ℕ) → refusal t client (op.Read fd n) ≡ file_refusal bytes d (op.Read fd n)
  refuses_read n = ap (λ (o : Option Desc). first_of (read_refusal o) None) there

  refuses_pread : (n at : ℕ) → refusal t client (op.Pread fd n at) ≡ file_refusal bytes d (op.Pread fd n at)
  refuses_pread n at = ap (λ (o : Option Desc). first_of (read_refusal o) None) there

  refuses_write : (fresh : List ℕ) → refusal t client (op.Write fd fresh) ≡ file_refusal bytes d (op.Write fd fresh)
  refuses_write fresh = λ i. first_of (write_refusal (there i)) (refused_if (is_past (place_of (open_is i) (bytes_is i)) fresh) Efbig)

  refuses_pwrite : (fresh : List ℕ) (at : ℕ) → refusal t client (op.Pwrite fd fresh at) ≡ file_refusal bytes d (op.Pwrite fd fresh at)
  refuses_pwrite fresh at = λ i. first_of (write_refusal (there i)) (refused_if (is_past at fresh) Efbig)

  refuses_seek : (from : Whence) (by : ℤ) → refusal t client (op.Seek fd from by) ≡ file_refusal bytes d (op.Seek fd from by)
  refuses_seek from by = λ i. first_of (seek_refusal (there i)) (refused_if (not (is_offset (seek_to from by (open_is i) (length (bytes_is i))))) Einval)

  refuses_trunc : (size : ℕ) → refusal t client (op.Trunc fd size) ≡ file_refusal bytes d (op.Trunc fd size)
  refuses_trunc size = λ i. first_of (trunc_refusal (there i)) (refused_if (nat_lt max_size size) Efbig)

  refuses_fsync : refusal t client (op.Fsync fd) ≡ file_refusal bytes d (op.Fsync fd)
  refuses_fsync = λ i. first_of (refused_if (is_none (there i)) Ebadf) None

  -- the reply and the tree of a request whose refusal is this
  abbrev Fits : Op → Option Errno → Option Errno → Type 0
  Fits request o p = ((served t client request o).1 ≡ (step_by bytes d request p).reply) × GoesOnBy t (served t client request o).0 client (Some fd) file (step_by bytes d request p)

  fits : (request : Op) → refusal t client request ≡ file_refusal bytes d request → answer t client request ≡ file_answer bytes d request
      → to (change t client request) (bytes_after bytes d request) (desc_after bytes d request) (file_answer bytes d request)
      → Fits request (refusal t client request) (file_refusal bytes d request)
  fits request same answered changed = subst (λ (p : Option Errno). Fits request (refusal t client request) p) same (at (refusal t client request))
    where
      at : (o : Option Errno) → Fits request o o
      at (Some e) = (refl, stays (Refused e))
      at None = (answered, changed)

  moved_to : (old new : Desc) (r : Reply) → old ≡ new → to (with_fd t client fd old) bytes new r
  moved_to old new r is = subst (λ (e : Desc). to (with_fd t client fd e) bytes new r) (sym is) (moves new r)

  on_read : (n : ℕ) → Fits (op.Read fd n) (refusal t client (op.Read fd n)) (file_refusal bytes d (op.Read fd n))
  on_read n =
      fits (op.Read fd n) (refuses_read n) (λ i. Got (part (bytes_is i) (open_is i).at n))
      (moved_to _ _ _ (λ i. with_offset (open_is i) ((open_is i).at + length (part (bytes_is i) (open_is i).at n))))

  on_pread : (n at : ℕ) → Fits (op.Pread fd n at) (refusal t client (op.Pread fd n at)) (file_refusal bytes d (op.Pread fd n at))
  on_pread n at =
      fits (op.Pread fd n at) (refuses_pread n at) (λ i. Got (part (bytes_is i) at n)) (stays _)

  on_write : (fresh : List ℕ) → Fits (op.Write fd fresh) (refusal t client (op.Write fd fresh)) (file_refusal bytes d (op.Write fd fresh))
  on_write fresh =
      fits (op.Write fd fresh) (refuses_write fresh) refl (by (eqb (length fresh) 0))
    where
      by : (b : Bool) → to (cond {A = PosixTree} b t (with_fd (cond {A = PosixTree} b t (with_bytes t (opened t client fd).file (put_at (content t.bytes (opened t client fd).file) (place_of (opened t client fd) (content t.bytes (opened t client fd).file)) fresh))) client fd
          (with_offset (opened t client fd) (place_of (opened t client fd) (content t.bytes (opened t client fd).file) + length fresh))))
          (cond {A = List ℕ} b bytes (put_at bytes (place_of d bytes) fresh)) (cond {A = Desc} b d (with_offset d (place_of d bytes + length fresh))) (Count (length fresh))
      by true = stays _
      by false =
          subst (λ (u : PosixTree). to u (put_at bytes (place_of d bytes) fresh) (with_offset d (place_of d bytes + length fresh)) (Count (length fresh)))
          (sym (λ i. with_fd (with_bytes t (file_is i) (put_at (bytes_is i) (place_of (open_is i) (bytes_is i)) fresh)) client fd (with_offset (open_is i) (place_of (open_is i) (bytes_is i) + length fresh))))
          (both (put_at bytes (place_of d bytes) fresh) (with_offset d (place_of d bytes + length fresh)) (Count (length fresh)))

  on_pwrite : (fresh : List ℕ) (at : ℕ) → Fits (op.Pwrite fd fresh at) (refusal t client (op.Pwrite fd fresh at)) (file_refusal bytes d (op.Pwrite fd fresh at))
  on_pwrite fresh at =
      fits (op.Pwrite fd fresh at) (refuses_pwrite fresh at) refl (by (eqb (length fresh) 0))
    where
      by : (b : Bool) → to (cond {A = PosixTree} b t (with_bytes t (opened t client fd).file (put_at (content t.bytes (opened t client fd).file) at fresh)))
          (cond {A = List ℕ} b bytes (put_at bytes at fresh)) d (Count (length fresh))
      by true = stays _
      by false =
          subst (λ (u : PosixTree). to u (put_at bytes at fresh) d (Count (length fresh)))
          (sym (λ i. with_bytes t (file_is i) (put_at (bytes_is i) at fresh))) (writes (put_at bytes at fresh) (Count (length fresh)))

  on_seek : (from : Whence) (by : ℤ) → Fits (op.Seek fd from by) (refusal t client (op.Seek fd from by)) (file_refusal bytes d (op.Seek fd from by))
  on_seek from by =
      fits (op.Seek fd from by) (refuses_seek from by)
      (λ i. At (unwrap_or (seek_to from by (open_is i) (length (bytes_is i))) 0))
      (moved_to _ _ _ (λ i. with_offset (open_is i) (unwrap_or (seek_to from by (open_is i) (length (bytes_is i))) 0)))

  on_trunc : (size : ℕ) → Fits (op.Trunc fd size) (refusal t client (op.Trunc fd size)) (file_refusal bytes d (op.Trunc fd size))
  on_trunc size =
      fits (op.Trunc fd size) (refuses_trunc size) refl
      (subst (λ (u : PosixTree). to u (resized bytes size) d Done) (sym (λ i. with_bytes t (file_is i) (resized (bytes_is i) size))) (writes (resized bytes size) Done))

  on_fsync : Fits (op.Fsync fd) (refusal t client (op.Fsync fd)) (file_refusal bytes d (op.Fsync fd))
  on_fsync = fits (op.Fsync fd) refuses_fsync refl (stays _)

pub steps_are_posix : StepsArePosix
steps_are_posix t client (op.Read fd n) d file bytes kind there named held = (let p = on_read t client fd file d there named bytes held n in record { reply = p.0; tree = p.1 })
steps_are_posix t client (op.Write fd fresh) d file bytes kind there named held = (let p = on_write t client fd file d there named bytes held fresh in record { reply = p.0; tree = p.1 })
steps_are_posix t client (op.Pread fd n at) d file bytes kind there named held = (let p = on_pread t client fd file d there named bytes held n at in record { reply = p.0; tree = p.1 })
steps_are_posix t client (op.Pwrite fd fresh at) d file bytes kind there named held = (let p = on_pwrite t client fd file d there named bytes held fresh at in record { reply = p.0; tree = p.1 })
steps_are_posix t client (op.Seek fd from by) d file bytes kind there named held = (let p = on_seek t client fd file d there named bytes held from by in record { reply = p.0; tree = p.1 })
steps_are_posix t client (op.Trunc fd size) d file bytes kind there named held = (let p = on_trunc t client fd file d there named bytes held size in record { reply = p.0; tree = p.1 })
steps_are_posix t client (op.Fsync fd) d file bytes kind there named held = (let p = on_fsync t client fd file d there named bytes held in record { reply = p.0; tree = p.1 })
steps_are_posix t client (op.OpenFile path read write creat excl trunc append) d file bytes kind there named held = cc
steps_are_posix t client (op.Close fd) d file bytes kind there named held = cc
steps_are_posix t client op.Sync d file bytes kind there named held = cc
steps_are_posix t client (op.Mkdir path) d file bytes kind there named held = cc
steps_are_posix t client (op.Rmdir path) d file bytes kind there named held = cc
steps_are_posix t client (op.Unlink path) d file bytes kind there named held = cc
steps_are_posix t client (op.Rename from to) d file bytes kind there named held = cc
steps_are_posix t client (op.Stat path) d file bytes kind there named held = cc
steps_are_posix t client (op.List path) d file bytes kind there named held = cc

pub refusals_are_posix : RefusalsArePosix
refusals_are_posix t client (op.Read fd n) d file bytes kind there named held = refuses_read t client fd file d there named bytes held n
refusals_are_posix t client (op.Pread fd n at) d file bytes kind there named held = refuses_pread t client fd file d there named bytes held n at
refusals_are_posix t client (op.Write fd fresh) d file bytes kind there named held = refuses_write t client fd file d there named bytes held fresh
refusals_are_posix t client (op.Pwrite fd fresh at) d file bytes kind there named held = refuses_pwrite t client fd file d there named bytes held fresh at
refusals_are_posix t client (op.Seek fd from by) d file bytes kind there named held = refuses_seek t client fd file d there named bytes held from by
refusals_are_posix t client (op.Trunc fd size) d file bytes kind there named held = refuses_trunc t client fd file d there named bytes held size
refusals_are_posix t client (op.Fsync fd) d file bytes kind there named held = refuses_fsync t client fd file d there named bytes held
refusals_are_posix t client (op.OpenFile path read write creat excl trunc append) d file bytes kind there named held = cc
refusals_are_posix t client (op.Close fd) d file bytes kind there named held = cc
refusals_are_posix t client op.Sync d file bytes kind there named held = cc
refusals_are_posix t client (op.Mkdir path) d file bytes kind there named held = cc
refusals_are_posix t client (op.Rmdir path) d file bytes kind there named held = cc
refusals_are_posix t client (op.Unlink path) d file bytes kind there named held = cc
refusals_are_posix t client (op.Rename from to) d file bytes kind there named held = cc
refusals_are_posix t client (op.Stat path) d file bytes kind there named held = cc
refusals_are_posix t client (op.List path) d file bytes kind there named held = cc

pub own_is_by_desc : OwnRefusalsAreByDesc
own_is_by_desc t client (op.Read fd n) kind = refl
own_is_by_desc t client (op.Write fd fresh) kind = refl
own_is_by_desc t client (op.Pread fd n at) kind = refl
own_is_by_desc t client (op.Pwrite fd fresh at) kind = refl
own_is_by_desc t client (op.Seek fd from by) kind = refl
own_is_by_desc t client (op.Trunc fd size) kind = refl
own_is_by_desc t client (op.Fsync fd) kind = refl
own_is_by_desc t client (op.Close fd) kind = refl
own_is_by_desc t client (op.OpenFile path read write creat excl trunc append) kind = cc
own_is_by_desc t client op.Sync kind = cc
own_is_by_desc t client (op.Mkdir path) kind = cc
own_is_by_desc t client (op.Rmdir path) kind = cc
own_is_by_desc t client (op.Unlink path) kind = cc
own_is_by_desc t client (op.Rename from to) kind = cc
own_is_by_desc t client (op.Stat path) kind = cc
own_is_by_desc t client (op.List path) kind = cc
