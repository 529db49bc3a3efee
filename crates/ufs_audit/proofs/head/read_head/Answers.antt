use Rattle.std.proofs.Common.{◌≡◌, ◌∷◌, ap, ◌+◌, ◌-◌, ◌++◌, ◌∙◌, [], ℕ, List, refl, sym, subst, arith, length, true, false, Bool}
use Rattle.std.proofs.lemmas.List.{length-append}
use Rattle.ufs_audit.specs.Sources.{IsEndLine}
use Rattle.ufs_audit.specs.Ends.{HasHead}
use Rattle.ufs_audit.proofs.HeadLemmas.{IsHead, head_begins, head_more, head_closed, head_open, head_long}
use Rattle.ufs_audit.proofs.RequestLemmas.{ended_front, no_front}
use Rattle.ufs_audit.proofs.head.read_head.Goals as goal

pub loop-alloc-init : goal.loop-alloc-init
loop-alloc-init g c = record {
  same = refl;
  head = subst (λ (l : List ℕ). IsHead (g.S.Source.left c.args.source.now) (g.S.Source.left c.args.source.now) c.args.ahead.now l) (sym c.new-text.ensures.items)
      (head_begins (g.S.Source.left c.args.source.now) c.args.ahead.now c.requires.none);
}

pub returns-then-is_end_line-clause-head : goal.returns-then-is_end_line-clause-head
returns-then-is_end_line-clause-head g c =
    let left = g.S.Source.left in
    let line = c.in_ok-line.line.items in
    let text = c.loop-alloc.text.items in
    let extended = c.in_ok-extend_from_slice.ensures.items ∙ ap (λ (l : List ℕ). text ++ l) c.as_slice.ensures.value in
    let i = c.loop-alloc.invariant in
    subst (λ (l : List ℕ). HasHead (left c.args.source.now) (left c.next_line.new.source) c.next_line.new.ahead l true) (sym extended)
    (head_closed (left c.args.source.now) (left c.loop-alloc.source) (left c.next_line.new.source) c.loop-alloc.ahead c.next_line.new.ahead c.loop-alloc.text.items i.head c.in_ok-line.line.items (16777216 - c.len-in-loop-alloc.result) c.in_ok-line.ensures.line (subst IsEndLine c.as_slice-in-loop-alloc.ensures.value (c.if-is_end_line.ensures.0 refl)))

pub returns-then-is_none-clause-head : goal.returns-then-is_none-clause-head
returns-then-is_none-clause-head g c =
    let left = g.S.Source.left in
    let line = c.in_ok-line.line.items in
    let text = c.loop-alloc.text.items in
    let extended = c.in_ok-extend_from_slice.ensures.items ∙ ap (λ (l : List ℕ). text ++ l) c.as_slice.ensures.value in
    let nowhere = no_front c.as_slice-in-loop-alloc-2.result.now c.without_last.result c.if-is_none.ensures c.without_last.ensures.none in
    let i = c.loop-alloc.invariant in
    let test = c.loop-alloc-test.true in
    subst (λ (l : List ℕ). HasHead (left c.args.source.now) (left c.next_line.new.source) c.next_line.new.ahead l false) (sym extended)
    (head_open (left c.args.source.now) (left c.loop-alloc.source) (left c.next_line.new.source) c.loop-alloc.ahead c.next_line.new.ahead c.loop-alloc.text.items i.head c.in_ok-line.line.items (16777216 - c.len-in-loop-alloc.result) c.in_ok-line.ensures.line (omega (arith, test, c.len.ensures, c.len-in-loop-alloc.ensures, c.loop-alloc.text.ok.0))
    (λ front is. nowhere front (c.as_slice-in-loop-alloc-2.ensures.value ∙ is)))

pub loop-alloc-preserved : goal.loop-alloc-preserved
loop-alloc-preserved g c =
    let left = g.S.Source.left in
    let i = c.loop-alloc.invariant in
    let text = c.loop-alloc.text.items in
    let extended = c.in_ok-extend_from_slice.ensures.items ∙ ap (λ (l : List ℕ). text ++ l) c.as_slice.ensures.value in
    let front = ended_front c.as_slice-in-loop-alloc-2.result.now c.without_last.result c.if-is_none.ensures c.without_last.ensures.some in
    record {
      same = c.in_ok-line.ensures.counted (λ bad. cc) ∙ i.same;
      head = subst (λ (l : List ℕ). IsHead (left c.args.source.now) (left c.next_line.new.source) c.next_line.new.ahead l) (sym extended)
          (head_more (left c.args.source.now) (left c.loop-alloc.source) (left c.next_line.new.source) c.loop-alloc.ahead c.next_line.new.ahead c.loop-alloc.text.items i.head c.in_ok-line.line.items front.0 (16777216 - c.len-in-loop-alloc.result) c.in_ok-line.ensures.line (sym c.as_slice-in-loop-alloc-2.ensures.value ∙ front.1) (λ e. let yes = c.if-is_end_line.ensures.1 (subst IsEndLine (sym c.as_slice-in-loop-alloc.ensures.value) e) in cc));
    }

pub loop-alloc-smaller : goal.loop-alloc-smaller
loop-alloc-smaller g c =
    let test = c.loop-alloc-test.true in
    let text = c.loop-alloc.text.items in
    let line = c.in_ok-line.line.items in
    let front = ended_front c.as_slice-in-loop-alloc-2.result.now c.without_last.result c.if-is_none.ensures c.without_last.ensures.some in
    let some = ap length (sym c.as_slice-in-loop-alloc-2.ensures.value ∙ front.1) in
    let one = length-append front.0 (10 ∷ []) in
    let extended = ap length (c.in_ok-extend_from_slice.ensures.items ∙ ap (λ (l : List ℕ). text ++ l) c.as_slice.ensures.value) in
    let longer = length-append text line in
    omega (arith, test, longer, some, one, extended, c.len.ensures, c.loop-alloc.text.ok.0)

pub returns-clause-head : goal.returns-clause-head
returns-clause-head g c =
    let left = g.S.Source.left in
    let long = c.loop-alloc-test.false in
    head_long (left c.args.source.now) (left c.loop-alloc.source) c.loop-alloc.ahead c.loop-alloc.text.items c.loop-alloc.invariant.head (omega (arith, long, c.len.ensures, c.loop-alloc.text.ok.0))
