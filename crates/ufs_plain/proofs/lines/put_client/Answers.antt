use Rattle.std.proofs.Common.{◌++◌, sym, ap, ◌∙◌, append_assoc}
use Rattle.std.proofs.lemmas.Bool.{eq-eqb, ne_eqb}
use Rattle.ufs_plain.proofs.LineLemmas.{own_line, with_own, with_other}
use Rattle.ufs_plain.proofs.lines.put_client.Goals as goal
use Rattle.ufs_plain.proofs.lines.put_client.Goals.{then-entry-client+in_ok-line+in_ok-extend_from_slice, else-entry-client}

pub loop-entry-preserved : goal.loop-entry-preserved
loop-entry-preserved c =
    let client = c.args.client in
    let h = c.args.history.now in
    let i = c.loop-entry.entry-index in
    let e = c.entry-item.result in
    let before = c.args.text.now.items in
    elim c.if-entry-client.branch [
      | then-entry-client+in_ok-line+in_ok-extend_from_slice w ↦
          ap (λ t. t.items) w.text-is ∙ w.in_ok-extend_from_slice.ensures.items ∙ (λ j. c.loop-entry.invariant j ++ (w.as_slice.ensures ∙ w.in_ok-line.ensures) j)
          ∙ append_assoc before _ (own_line e)
          ∙ ap (λ l. before ++ l) (sym (with_own client h i e c.loop-entry-test.true c.entry-item.is (eq-eqb e.client client w.if-entry-client.true)))
      | else-entry-client w ↦
          ap (λ t. t.items) w.text-is ∙ c.loop-entry.invariant
          ∙ ap (λ l. before ++ l) (sym (with_other client h i e c.loop-entry-test.true c.entry-item.is (ne_eqb e.client client w.if-entry-client.false)))
    ]
