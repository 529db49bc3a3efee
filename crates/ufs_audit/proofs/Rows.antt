-- A few lines and texts, worked by computation.
use Rattle.std.proofs.Common.{◌≡◌, ℕ, List, [], ◌∷◌, Some, None, refl, sym, inl, arith, zero, suc, ap, length}
use Rattle.ufs_model.proofs.Facts.Histories.{others-push}
use Rattle.std.specs.Prelude.{codes, slice_get}
use Rattle.std.specs.Fmt.{digits}
use Rattle.ufs_model.specs.PosixTree.{root_alone}
use Rattle.ufs_model.specs.declared.data.Actor.TheVariants as actor
use Rattle.ufs_model.specs.declared.data.Excuse.TheVariants as excuse
use Rattle.ufs_model.specs.declared.data.Op.TheVariants as op
use Rattle.ufs_model.specs.declared.data.Reply.TheVariants as reply
use Rattle.ufs_lines.specs.declared.told.Why.TheVariants as why
use Rattle.ufs_lines.specs.Trace.{told_text, Tells}
use Rattle.ufs_audit.specs.Audit.{IsLegalText, IsVerdict, entry_of}
use Rattle.ufs_audit.specs.declared.verdict.Verdict.TheVariants as verdict

a_line : told_text 4 record { client = 0; seq = 2; by = actor.Primary; why = why.Served } [] ≡ codes "# 4 0.2 by p"
unfolding digits
a_line = refl

sent_on : told_text 12 record { client = 15; seq = 65535; by = actor.Worker 2; why = why.Excused (excuse.Blocks 3 1) } (actor.Primary ∷ actor.Worker 7 ∷ []) ≡ codes "# 12 15.65535 by w2 via p,w7 excuse blocks 3 1"
unfolding digits
sent_on = refl

-- no client, and an empty text
nothing : IsLegalText root_alone [] 0 []
nothing = ([], [], (tt, refl), (refl, λ client. refl))

told_ok : (seq : ℕ) (l : List ℕ) → slice_get (codes "0.0 ok\n" ∷ []) seq ≡ Some l → Rattle.ufs_lines.specs.Replies.IsReplyLine 0 seq l
unfolding digits
told_ok zero l is = let same : codes "0.0 ok\n" ≡ l = cc in (reply.Done, tt, sym same)
told_ok (suc seq) l is = cc

-- one client asks for one `sync`
one_request : IsLegalText root_alone ((op.Sync ∷ []) ∷ []) 1 (codes "0.0 ok\n# 0 0.0 by c0\n")
unfolding digits
one_request = (
  (codes "0.0 ok\n" ∷ []) ∷ [],
  codes "# 0 0.0 by c0\n",
  ((record { ended = ((codes "0.0 ok", line, refl), tt); each = refl; told = told_ok }, tt), refl),
  (
    codes "# 0 0.0 by c0",
    [],
    record { client = 0; seq = 0; by = actor.Client 0; why = why.Served },
    op.Sync,
    (trace_line, refl),
    record {
      tells = ([], tt, record { client = omega arith; seq = omega arith; by = omega arith; why = tt }, refl);
      next = record { numbered = refl; asked = refl };
      answered = refl;
      allowed = (inl refl, tt);
    },
    (refl, complete),
  ),
)
  where
    line : Rattle.ufs_audit.specs.Audit.IsLine (codes "0.0 ok")
    line = grind arith

    trace_line : Rattle.ufs_audit.specs.Audit.IsLine (codes "# 0 0.0 by c0")
    trace_line = grind arith

    complete : Rattle.ufs_model.specs.History.IsComplete ((op.Sync ∷ []) ∷ []) (entry_of 0 root_alone record { client = 0; seq = 0; by = actor.Client 0; why = why.Served } op.Sync ∷ [])
    complete zero = refl
    complete (suc client) = ap length (others-push (suc client) [] (entry_of 0 root_alone record { client = 0; seq = 0; by = actor.Client 0; why = why.Served } op.Sync) (λ same. omega (arith, same)))
