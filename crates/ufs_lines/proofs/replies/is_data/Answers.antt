use Rattle.std.proofs.Common.{◌≡◌, ℕ, List, Bool, IsTrue, false, true, refl}
use Rattle.std.specs.Prelude.{◌↔◌}
use Rattle.ufs_lines.proofs.CutLemmas.{none_left, some_left}
use Rattle.ufs_lines.proofs.ReplyLemmas.{IsDataText, AreDigits, data_none, data_empty, data_digits}
use Rattle.ufs_lines.proofs.Results.{if_ok}
use Rattle.ufs_lines.proofs.replies.is_data.Goals as goal

pub returns-in_default : goal.returns-in_default
returns-in_default c = ((λ bad. cc), (λ d. absurd (data_none c.args.text.now (c.in_default.ensures.none refl) d)))

pub returns-then-is_empty : goal.returns-then-is_empty
returns-then-is_empty c = ((λ bad. cc), (λ d. absurd (data_empty c.args.text.now c.in-Some.digits.now c.in-Some.ensures.some (none_left c.in-Some.digits.now c.if-is_empty.ensures) d)))

pub returns : goal.returns
returns c =
    let are = data_digits c.args.text.now c.in-Some.digits.now c.in-Some.ensures.some (some_left c.in-Some.digits.now c.if-is_empty.ensures)
    (λ dash. let bad = c.if-same_bytes.ensures.1 dash in cc) in
    if_ok c.are_digits.result (λ (is : Bool) (e : IsTrue is ↔ AreDigits c.in-Some.digits.now). ((λ t. are.0 (e.0 t)), (λ d. e.1 (are.1 d)))) c.are_digits.ensures
