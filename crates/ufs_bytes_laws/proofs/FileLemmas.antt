-- A request on a file's descriptor, by bytes and others of their number.
use Rattle.std.proofs.Common.{◌≡◌, ℕ, ◌+◌, List, Bool, true, false, cond, eqb, length, not, Option, Some, None, ap, refl, unwrap_or, ◌∙◌}
use Rattle.ufs_base.specs.Choices.{first_of, refused_if}
use Rattle.ufs_model.specs.Descriptors.{with_offset, seek_to, is_offset}
use Rattle.ufs_model.specs.FileBytes.{put_at, place_of, is_past}
use Rattle.ufs_model.specs.FileCalls.{desc_refusal, file_refusal, file_answer, desc_after, bytes_after, step_by}
use Rattle.ufs_model.specs.declared.data.Op.{Op}
use Rattle.ufs_model.specs.declared.data.Op.TheVariants as op
use Rattle.ufs_model.specs.declared.data.Desc.{Desc}
use Rattle.ufs_model.specs.declared.data.Errno.{Errno}
use Rattle.ufs_model.specs.declared.data.Errno.TheVariants.{Efbig, Einval}
use Rattle.ufs_model.specs.declared.data.Reply.TheVariants.{At}
use Rattle.ufs_bytes_laws.specs.Alike.{AreRepliesAlike}
use Rattle.ufs_bytes_laws.specs.Laws.{AreFileStepsAlike, FileStepsAreAlike, FileRefusalsAreSame}
use Rattle.ufs_bytes_laws.proofs.SizeLemmas.{part_size, resized_size, put_size, place_same}
use Rattle.ufs_bytes_laws.proofs.ReplyLemmas.{got}

module _ (a b : List ℕ) (d : Desc) (e : length a ≡ length b) where
  refused : (request : Op) → file_refusal a d request ≡ file_refusal b d request
  refused (op.Write fd fresh) = ap (λ at. first_of (desc_refusal (Some d) (op.Write fd fresh)) (refused_if (is_past at fresh) Efbig)) (place_same a b e d)
  refused (op.Seek fd from by) = ap (λ size. first_of (desc_refusal (Some d) (op.Seek fd from by)) (refused_if (not (is_offset (seek_to from by d size))) Einval)) e
  refused _ = refl

  answered : (request : Op) → AreRepliesAlike (file_answer a d request) (file_answer b d request)
  answered (op.Read fd n) = got _ _ (part_size a b e d.at n)
  answered (op.Pread fd n at) = got _ _ (part_size a b e at n)
  answered (op.Seek fd from by) = ap (λ size. At (unwrap_or (seek_to from by d size) 0)) e
  answered _ = refl

  moved : (request : Op) → desc_after a d request ≡ desc_after b d request
  moved (op.Read fd n) = ap (λ count. with_offset d (d.at + count)) (part_size a b e d.at n)
  moved (op.Write fd fresh) = ap (λ at. cond (eqb (length fresh) 0) d (with_offset d (at + length fresh))) (place_same a b e d)
  moved (op.Seek fd from by) = ap (λ size. with_offset d (unwrap_or (seek_to from by d size) 0)) e
  moved _ = refl

  choose_size : (none : Bool) (v w : List ℕ) → length v ≡ length w → length (cond none a v) ≡ length (cond none b w)
  choose_size true v w same = e
  choose_size false v w same = same

  sized : (request : Op) → length (bytes_after a d request) ≡ length (bytes_after b d request)
  sized (op.Write fd fresh) =
      choose_size (eqb (length fresh) 0) (put_at a (place_of d a) fresh) (put_at b (place_of d b) fresh)
      (put_size a b e (place_of d a) fresh ∙ ap (λ at. length (put_at b at fresh)) (place_same a b e d))
  sized (op.Pwrite fd fresh at) = choose_size (eqb (length fresh) 0) (put_at a at fresh) (put_at b at fresh) (put_size a b e at fresh)
  sized (op.Trunc fd size) = resized_size a b e size
  sized _ = e

  stepped : (request : Op) (r r' : Option Errno) → r ≡ r' → AreFileStepsAlike (step_by a d request r) (step_by b d request r')
  stepped request None None same = record { reply = answered request; size = sized request; desc = moved request }
  stepped request None (Some f) same = cc
  stepped request (Some f) None same = cc
  stepped request (Some f) (Some g) same = record { reply = cc; size = e; desc = refl }

pub file_refusals : FileRefusalsAreSame
file_refusals a b d request e = refused a b d e request

pub file_steps : FileStepsAreAlike
file_steps a b d request e = stepped a b d e request (file_refusal a d request) (file_refusal b d request) (refused a b d e request)
