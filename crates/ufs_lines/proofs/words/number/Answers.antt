use Rattle.std.proofs.Common.{◌≡◌, ℕ, List, Ok, ◌∙◌, ◌^◌, ◌<◌, subst, sym, ap, true, false, refl}
use Rattle.std.specs.Fmt.{decimal}
use Rattle.std.proofs.lemmas.Fmt.{parse-decimal, IsAscii-decimal}
use Rattle.std.proofs.lemmas.Str.{IsUtf8-from_ascii}
use Rattle.std.specs.Str.{IsUtf8}
use Rattle.ufs_lines.proofs.words.number.Goals as goal

pub returns-in_default-clause-none : goal.returns-in_default-clause-none
returns-in_default-clause-none c = λ none n few is. c.in_default.ensures.cases.0 (subst IsUtf8 (sym is) (IsUtf8-from_ascii (decimal n) (IsAscii-decimal n few)))

pub returns-in_default-parse-clause-none : goal.returns-in_default-parse-clause-none
returns-in_default-parse-clause-none c = λ none n few is.
    let same : c.in-Ok.text.now ≡ c.args.bytes.now = c.in-Ok.ensures.cases.0 in
    c.in_default-parse.not-Ok n (parse-decimal 64 n c.in-Ok.text.now c.parse.result few few (same ∙ is) c.parse.ensures.value.0)

pub returns-else-branch-clause-none : goal.returns-else-branch-clause-none
returns-else-branch-clause-none c = λ none n few is.
    let text_is : c.in-Ok.text.now ≡ c.args.bytes.now = c.in-Ok.ensures.cases.0 in
    let parsed : Ok c.in-Ok-parse.n ≡ Ok n = sym c.in-Ok-parse.is ∙ parse-decimal 64 n c.in-Ok.text.now c.parse.result few few (text_is ∙ is) c.parse.ensures.value.0 in
    let same : c.in-Ok-parse.n ≡ n = cc in
    let yes = c.in_ok-is_number.ensures.1 (is ∙ ap decimal (sym same)) in
    let bad : true ≡ false = sym yes ∙ c.if-branch.false in
    cc
