use Rattle.std.proofs.Common.{◌≡◌, ◌∷◌, ◌++◌, [], ℕ, List, Ok, None, ap, sym, ◌∙◌}
use Rattle.std.specs.Fmt.{decimal}
use Rattle.std.proofs.lemmas.List.{append_assoc}
use Rattle.ufs_lines.proofs.trace.behind_ticket.Goals as goal

pub returns-clause-none : goal.returns-clause-none
returns-clause-none c = λ none rest is.
    let missing : c.behind.result ≡ None = cc in
    let bytes = c.as_bytes.ensures.value in
    let printed = c.in_ok-front.ensures.ok in
    let front : c.as_bytes.result.now ≡ 35 ∷ 32 ∷ (decimal c.args.ticket ++ 32 ∷ []) = cc in
    c.behind.ensures.none missing rest
    (is ∙ ap (λ (l : List ℕ). 35 ∷ 32 ∷ l) (sym (append_assoc (decimal c.args.ticket) (32 ∷ []) rest)) ∙ ap (λ (l : List ℕ). l ++ rest) (sym front))
