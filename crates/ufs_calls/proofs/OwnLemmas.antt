-- Why an `open` is refused before the tree is looked at, when a descriptor of 0 says that none is free.
use Rattle.std.proofs.Common.{◌≡◌, ◌<◌, ◌+◌, ℕ, zero, suc, List, Bool, true, false, cond, not, Option, Some, is_some, is_none, unwrap_or, eqb, refl, sym, ◌∙◌, ap, subst, arith}
use Rattle.std.proofs.lemmas.Bool.{ne_eqb}
use Rattle.std.specs.FinMap as map
use Rattle.ufs_model.specs.Asks.{fd_asked}
use Rattle.ufs_model.specs.Descriptors.{Mode, free_from, lowest_free, is_mode}
use Rattle.ufs_base.specs.Choices.{first_of, refused_if}
use Rattle.ufs_model.specs.Paths.{text_refusal}
use Rattle.ufs_model.specs.PosixTree.{PosixTree, Fds}
use Rattle.ufs_model.specs.Refusals.{own_refusal}
use Rattle.ufs_model.proofs.Facts.Lookups.{same_some}
use Rattle.ufs_model.specs.declared.data.Op.{Op}
use Rattle.ufs_model.specs.declared.data.Op.TheVariants as op
use Rattle.ufs_model.specs.declared.data.Errno.{Errno}
use Rattle.ufs_model.specs.declared.data.Errno.TheVariants.{Einval, Emfile}
use Rattle.ufs_calls.specs.Modes.{mode_asked}

none_from : (fds : Fds) (client fd count : ℕ) → 0 < fd → eqb (unwrap_or (free_from fds client fd count) 0) 0 ≡ is_none (free_from fds client fd count)
none_from fds client fd zero h = refl
none_from fds client fd (suc count) h =
    elim (is_some (map.get fds (client, fd))) as (λ b. eqb (unwrap_or (cond b (free_from fds client (fd + 1) count) (Some fd)) 0) 0 ≡ is_none (cond b (free_from fds client (fd + 1) count) (Some fd))) [
      | true ↦ none_from fds client (fd + 1) count (omega arith)
      | false ↦ ne_eqb fd 0 (λ e. omega (arith, e))
    ]

zero_is_none : (fds : Fds) (client : ℕ) → eqb (unwrap_or (lowest_free fds client) 0) 0 ≡ is_none (lowest_free fds client)
unfolding lowest_free
zero_is_none fds client = none_from fds client 3 64 (omega arith)

-- by its mode, its client's free descriptor and its text
abbrev by_these : Mode → ℕ → List ℕ → Option Errno
by_these m fd path = first_of (refused_if (not (is_mode m)) Einval) (first_of (refused_if (eqb fd 0) Emfile) (text_refusal path))

pub open_is : (t : PosixTree) (client fd : ℕ) (path : List ℕ) (m : Mode) (read write creat excl trunc append : Bool) (request : Op)
    → request ≡ op.OpenFile path read write creat excl trunc append → Some m ≡ mode_asked request → fd ≡ fd_asked t.fds client request
    → by_these m fd path ≡ own_refusal t client request
open_is t client fd path m read write creat excl trunc append request is =
    subst (λ (o : Op). Some m ≡ mode_asked o → fd ≡ fd_asked t.fds client o → by_these m fd path ≡ own_refusal t client o) (sym is) (λ asked low i.
    first_of (refused_if (not (is_mode (same_some m _ asked i))) Einval)
    (first_of (refused_if ((ap (λ n. eqb n 0) low ∙ zero_is_none t.fds client) i) Emfile) (text_refusal path)))
