use Rattle.std.proofs.Common.{◌≡◌, ◌∙◌, ◌++◌, ◌∷◌, [], ℕ, List, Option, Some, None, sym, ap, subst, refl, true, false}
use Rattle.std.specs.Prelude.{codes}
use Rattle.std.specs.Fmt.{decimal}
use Rattle.std.proofs.lemmas.List.{append_assoc}
use Rattle.ufs_model.specs.declared.data.Excuse.TheVariants as excuse
use Rattle.ufs_model.specs.declared.data.Reply.TheVariants as reply
use Rattle.ufs_script.specs.Output.{line_text, reply_text}
use Rattle.ufs_audit.proofs.state.is_starved.Goals as goal

starved_line : (client seq : ℕ) → decimal client ++ 46 ∷ (decimal seq ++ codes " err ENOMEM\n") ≡ line_text client seq (reply.Excused excuse.Memory)
starved_line client seq = sym
    (append_assoc (decimal client ++ 46 ∷ decimal seq) (32 ∷ reply_text (reply.Excused excuse.Memory)) (10 ∷ [])
    ∙ append_assoc (decimal client) (46 ∷ decimal seq) ((32 ∷ reply_text (reply.Excused excuse.Memory)) ++ 10 ∷ []))

pub returns-in_default : goal.returns-in_default
returns-in_default c = ((λ bad. cc), (λ answered. let none = c.in_default.ensures.none refl in let bad = sym none ∙ answered in cc))

pub returns : goal.returns
returns c =
    let bytes = c.as_bytes.ensures.value in
    let printed = c.in_ok-text.ensures.ok in
    let flat : c.as_bytes.result.now ≡ decimal c.args.client ++ 46 ∷ (decimal c.args.seq ++ codes " err ENOMEM\n") = cc in
    let text = flat ∙ starved_line c.args.client c.args.seq in
    let line = c.as_slice.ensures in (
      (λ t. let same = c.same_bytes.ensures.0 t in c.in-Some.ensures.some ∙ ap (λ (l : List ℕ). Some l) (sym line ∙ sym same ∙ text)),
      (λ answered.
          let both : Some c.in-Some.line.now ≡ Some (line_text c.args.client c.args.seq (reply.Excused excuse.Memory)) = sym c.in-Some.ensures.some ∙ answered in
          let same : c.in-Some.line.now ≡ line_text c.args.client c.args.seq (reply.Excused excuse.Memory) = cc in
          c.same_bytes.ensures.1 (text ∙ sym same ∙ sym line)),
    )
