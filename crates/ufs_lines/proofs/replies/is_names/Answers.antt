use Rattle.std.proofs.Common.{◌≡◌, ◌<◌, ◌^◌, ℕ, List, refl, Ok, None, Option, IfSome, ap, subst, ◌∙◌}
use Rattle.std.specs.Fmt.{decimal}
use Rattle.ufs_lines.proofs.ReplyLemmas.{names_none, names_number, names_are}
use Rattle.ufs_lines.proofs.replies.is_names.Goals as goal

pub returns-in_default : goal.returns-in_default
returns-in_default c = ((λ bad. cc), (λ n. absurd (names_none c.args.text.now (c.in_default.ensures.none refl) n)))

pub returns-in_default-2 : goal.returns-in_default-2
returns-in_default-2 c = (
  (λ bad. cc),
  (λ n. absurd (names_number c.args.text.now c.in-Some.names.now c.first_word-word.result.front.now c.first_word-word.result.rest.now c.in-Some.ensures.some c.first_word-word.ensures
      (c.in_ok-count.ensures.none (ap Ok c.in_default-2.is)) n)),
)

pub returns : goal.returns
returns c =
    let printed = subst (λ (o : Option ℕ). IfSome o (λ n. c.first_word-word.result.front.now ≡ decimal n)) c.in-Some-2.is c.in_ok-count.ensures.some in
    let few = subst (λ (o : Option ℕ). IfSome o (λ n. n < 2 ^ 64)) c.in-Some-2.is c.in_ok-count.ensures.few in
    let are = names_are c.args.text.now c.in-Some.names.now c.first_word-word.result.front.now c.first_word-word.result.rest.now c.in-Some-2.count c.in-Some.ensures.some c.first_word-word.ensures printed few in
    ((λ t. are.0 (c.are_names.ensures.0 t)), (λ n. c.are_names.ensures.1 (are.1 n)))
