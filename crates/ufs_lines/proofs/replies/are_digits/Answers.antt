use Rattle.std.proofs.Common.{◌≡◌, ◌∙◌, ℕ, List, Option, sym, ap, refl, true, false}
use Rattle.std.specs.Option.{option_map}
use Rattle.hex.specs.Hex.{encode_lower}
use Rattle.ufs_lines.proofs.ReplyLemmas.{digits_none, digits_same, digits_bytes}
use Rattle.ufs_lines.proofs.replies.are_digits.Goals as goal

pub returns-in_default : goal.returns-in_default
returns-in_default c = ((λ bad. cc), (λ d. absurd (digits_none c.args.digits.now _ c.in_ok-bytes.ensures (ap (option_map (λ v. v.items)) c.in_default.is) d)))

pub returns : goal.returns
returns c =
    let some = ap (option_map (λ v. v.items)) c.in-Some.is in
    let printed = c.as_bytes.ensures.value in
    let encoded = c.in_ok-text.ensures in
    let items = c.as_slice.ensures in
    let text : c.as_bytes.result.now ≡ encode_lower c.in-Some.bytes.items = cc in (
      (λ t. (c.in-Some.bytes.items, digits_bytes c.args.digits.now _ c.in-Some.bytes.items c.in_ok-bytes.ensures some, c.same_bytes.ensures.0 t ∙ text)),
      (λ d. c.same_bytes.ensures.1 (digits_same c.args.digits.now _ c.in-Some.bytes.items c.in_ok-bytes.ensures some d ∙ sym text)),
    )
