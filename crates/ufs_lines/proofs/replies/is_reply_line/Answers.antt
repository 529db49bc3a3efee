use Rattle.std.proofs.Common.{◌≡◌, ◌∙◌, ◌++◌, ◌∷◌, [], ℕ, List, sym, subst, ap, refl, true, false}
use Rattle.std.specs.Fmt.{decimal}
use Rattle.std.proofs.lemmas.List.{append_assoc}
use Rattle.ufs_lines.proofs.Results.{if_ok}
use Rattle.ufs_lines.proofs.ReplyLemmas.{line_front, line_none, line_last, line_is}
use Rattle.ufs_lines.proofs.replies.is_reply_line.Goals as goal

pub returns-in_default : goal.returns-in_default
returns-in_default c =
    let bytes = c.as_bytes.ensures.value in
    let printed = c.in_ok-front.ensures.ok in
    let flat : c.as_bytes.result.now ≡ decimal c.args.client ++ 46 ∷ (decimal c.args.seq ++ 32 ∷ []) = cc in
    let front : c.as_bytes.result.now ≡ line_front c.args.client c.args.seq = flat ∙ sym (append_assoc (decimal c.args.client) (46 ∷ decimal c.args.seq) (32 ∷ [])) in
    ((λ bad. cc), (λ l. absurd (line_none c.args.client c.args.seq c.args.line.now (subst (λ (w : List ℕ). (rest : List ℕ) → c.args.line.now ≡ w ++ rest → ⊥) front (c.in_default.ensures.none refl)) l)))

pub returns-in_default-without_last : goal.returns-in_default-without_last
returns-in_default-without_last c =
    let bytes = c.as_bytes.ensures.value in
    let printed = c.in_ok-front.ensures.ok in
    let flat : c.as_bytes.result.now ≡ decimal c.args.client ++ 46 ∷ (decimal c.args.seq ++ 32 ∷ []) = cc in
    let front : c.as_bytes.result.now ≡ line_front c.args.client c.args.seq = flat ∙ sym (append_assoc (decimal c.args.client) (46 ∷ decimal c.args.seq) (32 ∷ [])) in
    let is = c.in-Some.ensures.some ∙ ap (λ (w : List ℕ). w ++ c.in-Some.rest.now) front in
    ((λ bad. cc), (λ l. absurd (line_last c.args.client c.args.seq c.args.line.now c.in-Some.rest.now is (c.in_default-without_last.ensures.none refl) l)))

pub returns : goal.returns
returns c =
    let bytes = c.as_bytes.ensures.value in
    let printed = c.in_ok-front.ensures.ok in
    let flat : c.as_bytes.result.now ≡ decimal c.args.client ++ 46 ∷ (decimal c.args.seq ++ 32 ∷ []) = cc in
    let front : c.as_bytes.result.now ≡ line_front c.args.client c.args.seq = flat ∙ sym (append_assoc (decimal c.args.client) (46 ∷ decimal c.args.seq) (32 ∷ [])) in
    let is = line_is c.args.client c.args.seq c.args.line.now c.in-Some.rest.now c.in-Some-without_last.text.now (c.in-Some.ensures.some ∙ ap (λ (w : List ℕ). w ++ c.in-Some.rest.now) front) c.in-Some-without_last.ensures.some in
    if_ok c.is_reply.result (λ yes e. ((λ t. is.0 (e.0 t)), (λ l. e.1 (is.1 l)))) c.is_reply.ensures
