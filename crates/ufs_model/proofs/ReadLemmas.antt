-- What was written at a place is read there.
use Rattle.std.proofs.Common.{◌≡◌, ℕ, ◌+◌, ◌-◌, List, [], ◌∷◌, ◌++◌, Bool, true, false, cond, not, Option, Some, None, ap, sym, refl, ◌∙◌, arith, append_assoc, eqb, length, take, drop, replicate}
use Rattle.std.proofs.lemmas.List.{length-append, length-take-le, length-replicate}
use Rattle.std.proofs.Math.Seq.{drop-append_seam, take-append_seam}
use Rattle.std.specs.Prelude.{is_none, unwrap_or}
use Rattle.std.specs.Cmp.{nat_cmp_total}
use Rattle.std.specs.FinMap as fin
use Rattle.std.specs.FinMap.{nat_cmp-IsAntisymmetric}
use Rattle.ufs_base.specs.Choices.{first_of, refused_if}
use Rattle.ufs_model.specs.PosixTree.{PosixTree, desc_at}
use Rattle.ufs_model.specs.Descriptors.{opened, closed, with_offset}
use Rattle.ufs_model.specs.FileBytes.{content, part, put_at, place_of}
use Rattle.ufs_model.specs.Refusals.{refusal, own_refusal, read_refusal}
use Rattle.ufs_model.specs.Posix.{posix, served, with_fd, with_bytes, written}
use Rattle.ufs_model.specs.Laws.{MayRead, WrittenIsRead, AppendedIsRead}
use Rattle.ufs_model.specs.declared.data.Desc.{Desc}
use Rattle.ufs_model.specs.declared.data.Errno.{Errno}
use Rattle.ufs_model.specs.declared.data.Errno.TheVariants.{Ebadf, Eisdir}
use Rattle.ufs_model.specs.declared.data.Op.{Op}
use Rattle.ufs_model.specs.declared.data.Op.TheVariants as op
use Rattle.ufs_model.specs.declared.data.Reply.TheVariants.{Count, Got}
use Rattle.ufs_model.proofs.Facts.Orders.{fd_total, fd_same}
use Rattle.ufs_model.proofs.Facts.Allowed.{first_none}
use Rattle.ufs_model.proofs.Facts.Lookups.{inserted_here}
use Rattle.ufs_model.proofs.LocalLemmas.{write_open}

-- ---- bytes

-- the bytes before the place, with zeros in a gap
front_length : (old : List ℕ) (at : ℕ) → length (take at (old ++ replicate (at - length old) 0)) ≡ at
front_length old at =
    length-take-le at (old ++ replicate (at - length old) 0)
    (let long = length-append old (replicate (at - length old) 0) ∙ ap (λ n. length old + n) (length-replicate (at - length old) 0) in omega (arith, long))

from_middle : (front fresh rest : List ℕ) (at : ℕ) → length front ≡ at → part (front ++ fresh ++ rest) at (length fresh) ≡ fresh
from_middle front fresh rest at is =
    ap (λ n. take (length fresh) (drop n (front ++ fresh ++ rest))) (sym is)
    ∙ ap (λ l. take (length fresh) (drop (length front) l)) (append_assoc front fresh rest)
    ∙ ap (take (length fresh)) (drop-append_seam front (fresh ++ rest))
    ∙ take-append_seam fresh rest

put_there : (old : List ℕ) (at : ℕ) (fresh : List ℕ) → part (put_at old at fresh) at (length fresh) ≡ fresh
put_there old at fresh = from_middle (take at (old ++ replicate (at - length old) 0)) fresh (drop (at + length fresh) old) at (front_length old at)

no_bytes : (fresh old : List ℕ) (at : ℕ) → eqb (length fresh) 0 ≡ true → part old at (length fresh) ≡ fresh
no_bytes [] old at e = refl
no_bytes (x ∷ fresh) old at e = absurd (grind arith)

-- ---- requests

-- a request that has an answer wasn't refused
counted : (t : PosixTree) (client : ℕ) (request : Op) (n : ℕ) → (posix t client request).1 ≡ Count n → refusal t client request ≡ None
counted t client request n is = by_refusal (refusal t client request) refl is
  where
    by_refusal : (r : Option Errno) → refusal t client request ≡ r → (served t client request r).1 ≡ Count n → refusal t client request ≡ None
    by_refusal (Some e) p is = cc
    by_refusal None p is = p

-- what a `pread` of an open file gives
reads : (t : PosixTree) (client fd file n at : ℕ) (d : Desc) → desc_at t client fd ≡ Some d → d.file ≡ Some file → d.read ≡ true
    → (posix t client (op.Pread fd n at)).1 ≡ Got (part (content t.bytes (Some file)) at n)
reads t client fd file n at d there named read =
    let none : refusal t client (op.Pread fd n at) ≡ None =
    ap (λ o. first_of (read_refusal o) None) there
    ∙ (λ i. first_of (first_of (refused_if (not (read i)) Ebadf) (refused_if (is_none (named i)) Eisdir)) None) in
    ap (λ r. (served t client (op.Pread fd n at) r).1) none
    ∙ ap (λ o. Got (part (content t.bytes (unwrap_or o closed).file) at n)) there
    ∙ ap (λ f. Got (part (content t.bytes f) at n)) named

-- bytes that were put into a file are read there
reads_put : (t : PosixTree) (client fd file at : ℕ) (old fresh : List ℕ) (d : Desc) → desc_at t client fd ≡ Some d → d.file ≡ Some file → d.read ≡ true
    → fin.get t.bytes file ≡ Some (put_at old at fresh) → (posix t client (op.Pread fd (length fresh) at)).1 ≡ Got fresh
reads_put t client fd file at old fresh d there named read has =
    reads t client fd file (length fresh) at d there named read
    ∙ ap (λ o. Got (part (unwrap_or o []) at (length fresh))) has
    ∙ ap Got (put_there old at fresh)

module _ (t : PosixTree) (client fd : ℕ) (fresh : List ℕ) where
  pub written_is_read : (at reader fd' file : ℕ) → (posix t client (op.Pwrite fd fresh at)).1 ≡ Count (length fresh)
      → ((d : Desc) → desc_at t client fd ≡ Some d → d.file ≡ Some file) → MayRead t reader fd' file
      → (posix (posix t client (op.Pwrite fd fresh at)).0 reader (op.Pread fd' (length fresh) at)).1 ≡ Got fresh
  written_is_read at reader fd' file is named may =
      let none = counted t client (op.Pwrite fd fresh at) (length fresh) is in
      let desc = write_open (desc_at t client fd) (first_none (own_refusal t client (op.Pwrite fd fresh at)) _ none).0 in
      let of_file : (opened t client fd).file ≡ Some file = ap (λ o. (unwrap_or o closed).file) desc.1 ∙ named desc.0 desc.1 in
      ap (λ r. (posix (served t client (op.Pwrite fd fresh at) r).0 reader (op.Pread fd' (length fresh) at)).1) none
      ∙ ap (λ f. (posix (written t f at fresh) reader (op.Pread fd' (length fresh) at)).1) of_file
      ∙ by_test (eqb (length fresh) 0) refl
    where
      by_test : (b : Bool) → eqb (length fresh) 0 ≡ b → (posix (cond b t (with_bytes t (Some file) (put_at (content t.bytes (Some file)) at fresh))) reader (op.Pread fd' (length fresh) at)).1 ≡ Got fresh
      by_test true empty = reads t reader fd' file (length fresh) at may.desc may.is may.named may.read ∙ ap Got (no_bytes fresh (content t.bytes (Some file)) at empty)
      by_test false some = reads_put (with_bytes t (Some file) (put_at (content t.bytes (Some file)) at fresh)) reader fd' file at (content t.bytes (Some file)) fresh may.desc may.is may.named may.read
          (inserted_here nat_cmp_total nat_cmp-IsAntisymmetric t.bytes file (put_at (content t.bytes (Some file)) at fresh))

  -- the tree after a `write` through a descriptor
  abbrev after_write : Bool → Option ℕ → Desc → PosixTree
  after_write none file d =
      let at = place_of d (content t.bytes file) in
      cond none t (with_fd (cond none t (with_bytes t file (put_at (content t.bytes file) at fresh))) client fd (with_offset d (at + length fresh)))

  pub appended_is_read : (d : Desc) (file : ℕ) → (posix t client (op.Write fd fresh)).1 ≡ Count (length fresh) → desc_at t client fd ≡ Some d → d.file ≡ Some file → d.read ≡ true
      → (posix (posix t client (op.Write fd fresh)).0 client (op.Pread fd (length fresh) (place_of d (content t.bytes (Some file))))).1 ≡ Got fresh
  appended_is_read d file is there named read =
      let none = counted t client (op.Write fd fresh) (length fresh) is in
      let at = place_of d (content t.bytes (Some file)) in
      ap (λ r. (posix (served t client (op.Write fd fresh) r).0 client (op.Pread fd (length fresh) at)).1) none
      ∙ ap (λ o. (posix (after_write (eqb (length fresh) 0) (unwrap_or o closed).file (unwrap_or o closed)) client (op.Pread fd (length fresh) at)).1) there
      ∙ ap (λ f. (posix (after_write (eqb (length fresh) 0) f d) client (op.Pread fd (length fresh) at)).1) named
      ∙ by_test (eqb (length fresh) 0) refl
    where
      by_test : (b : Bool) → eqb (length fresh) 0 ≡ b → (posix (after_write b (Some file) d) client (op.Pread fd (length fresh) (place_of d (content t.bytes (Some file))))).1 ≡ Got fresh
      by_test true empty = reads t client fd file (length fresh) (place_of d (content t.bytes (Some file))) d there named read ∙ ap Got (no_bytes fresh (content t.bytes (Some file)) (place_of d (content t.bytes (Some file))) empty)
      by_test false some =
          let at = place_of d (content t.bytes (Some file)) in
          reads_put (after_write false (Some file) d) client fd file at (content t.bytes (Some file)) fresh (with_offset d (at + length fresh))
          (inserted_here fd_total fd_same t.fds (client, fd) (with_offset d (at + length fresh))) named read
          (inserted_here nat_cmp_total nat_cmp-IsAntisymmetric t.bytes file (put_at (content t.bytes (Some file)) at fresh))

pub written_read : WrittenIsRead
written_read t client fd fresh at reader fd' file is named may = written_is_read t client fd fresh at reader fd' file is named may

pub appended_read : AppendedIsRead
appended_read t client fd fresh d file is there named read = appended_is_read t client fd fresh d file is there named read
