use Rattle.std.proofs.Common.{rules, ◌≡◌, ◌+◌, ◌-◌, ap, sym, ◌∙◌, subst, false, true, Some, None, take, drop, IfOk, arith, Option}
use Rattle.std.specs.Option.{option_map}
use Rattle.std.proofs.lemmas.List.{take_rest}
use Rattle.ufs_layout.specs.Words.{is_zeros}
use Rattle.ufs_layout.specs.JournalHead.{header_of}
use Rattle.ufs_layout.specs.JournalSector.{JournalSector}
use Rattle.ufs_image.specs.Journal.{FoundSector}
use Rattle.ufs_found.specs.Parts.{content_read, with_head}
use Rattle.ufs_found.proofs.ReadThere.{by_head}
use Rattle.ufs_found.proofs.ReadSector.{read_agrees, zeros_no, on_content}
use Rattle.ufs_found.proofs.found.read_found.Goals as goal

pub returns-in_default : goal.returns-in_default
returns-in_default c =
    let head : header_of (take 24 c.args.bytes.now) ≡ None = sym c.get_header.ensures.value ∙ c.in_default.is in
    sym (ap (option_map {U = FoundSector} (λ (j : JournalSector). (c.args.sector, j))) (read_agrees c.args.bytes.now c.requires (search rules) ∙ ap (by_head c.args.bytes.now) head))

pub returns-then-not-has_only_zeros : goal.returns-then-not-has_only_zeros
returns-then-not-has_only_zeros c =
    let head : header_of (take 24 c.args.bytes.now) ≡ Some c.in-Some.head = sym c.get_header.ensures.value ∙ c.in-Some.is in
    let zeros : is_zeros (drop (24 + c.in-Some.head.used) c.args.bytes.now) ≡ false =
    ap (λ n. is_zeros (drop (24 + n) c.args.bytes.now)) (sym c.from-end.ensures) ∙ ap is_zeros (sym (take_rest c.args.bytes.now (24 + c.from-end.result))) ∙ sym c.has_only_zeros.ensures ∙ c.if-not-has_only_zeros.true in
    sym (ap (option_map {U = FoundSector} (λ (j : JournalSector). (c.args.sector, j))) (read_agrees c.args.bytes.now c.requires (search rules) ∙ ap (by_head c.args.bytes.now) head ∙ zeros_no c.args.bytes.now c.in-Some.head zeros))

pub returns : goal.returns
returns c =
    let head : header_of (take 24 c.args.bytes.now) ≡ Some c.in-Some.head = sym c.get_header.ensures.value ∙ c.in-Some.is in
    let zeros : is_zeros (drop (24 + c.in-Some.head.used) c.args.bytes.now) ≡ true =
    ap (λ n. is_zeros (drop (24 + n) c.args.bytes.now)) (sym c.from-end.ensures) ∙ ap is_zeros (sym (take_rest c.args.bytes.now (24 + c.from-end.result))) ∙ sym c.has_only_zeros.ensures ∙ c.if-not-has_only_zeros.false in
    let whole = ap (option_map {U = FoundSector} (λ (j : JournalSector). (c.args.sector, j))) (read_agrees c.args.bytes.now c.requires (search rules) ∙ ap (by_head c.args.bytes.now) head) ∙ on_content c.args.sector c.args.bytes.now c.in-Some.head zeros in
    let used : 24 + c.from-end.result - 24 ≡ c.in-Some.head.used = omega (arith, c.from-end.ensures) in
    subst (λ (o : Option FoundSector). IfOk c.read_content.result (λ found. found ≡ o))
    (ap (λ n. option_map {U = FoundSector} (λ d. (c.args.sector, with_head c.in-Some.head d)) (content_read c.in-Some.head (take n (drop 24 c.args.bytes.now)))) used ∙ sym whole)
    c.read_content.ensures
