use Rattle.std.proofs.Common.{rules, List, ℕ, ◌++◌, sym, subst}
use Rattle.ufs_model.specs.History.{joined}
use Rattle.ufs_print.specs.declared.transcripts.LineKind.TheVariants as kind
use Rattle.ufs_print.specs.Pieces.{GotFront, IsPassed, PutLines}
use Rattle.ufs_print.specs.Printed.{entry_lines}
use Rattle.ufs_print.specs.Printed.{trace_part}
use Rattle.ufs_print.proofs.PieceLemmas.{front_more, front_passed, lines_more, lines_passed, passed_both}
use Rattle.ufs_print.proofs.PrintLemmas.{entries_ended, first_lines, traced}
use Rattle.ufs_print.proofs.transcripts.print_session.Goals as goal

pub returns-in_err-print_lists-clause-memory : goal.returns-in_err-print_lists-clause-memory
returns-in_err-print_lists-clause-memory g c is =
    let held = g.K.Sink.held in
    let h = joined c.args.told.now in
    let replies = entry_lines kind.Reply h in
    subst (λ (whole : List ℕ). PutLines (held c.args.sink.now) (held c.print_lists.new.sink) c.print_lists.new.waiting c.args.waiting.now whole) (sym (first_lines c.args.trace h))
    (lines_more (held c.args.sink.now) (held c.print_lists.new.sink) c.print_lists.new.waiting c.args.waiting.now replies (trace_part c.args.trace h) (c.in_err-print_lists.ensures.memory (search rules)))

pub returns-in_err-print_lists-clause-cut : goal.returns-in_err-print_lists-clause-cut
returns-in_err-print_lists-clause-cut g c is =
    let held = g.K.Sink.held in
    let h = joined c.args.told.now in
    let replies = entry_lines kind.Reply h in
    subst (λ (whole : List ℕ). GotFront (held c.args.sink.now) (held c.print_lists.new.sink) (c.args.waiting.now ++ whole)) (sym (first_lines c.args.trace h))
    (front_more (held c.args.sink.now) (held c.print_lists.new.sink) c.args.waiting.now replies (trace_part c.args.trace h) (c.in_err-print_lists.ensures.cut (search rules)))

pub returns-in_err-print_lists-2-clause-memory : goal.returns-in_err-print_lists-2-clause-memory
returns-in_err-print_lists-2-clause-memory g c is =
    let held = g.K.Sink.held in
    let h = joined c.args.told.now in
    let replies = entry_lines kind.Reply h in
    subst (λ (whole : List ℕ). PutLines (held c.args.sink.now) (held c.print_lists-2.new.sink) c.print_lists-2.new.waiting c.args.waiting.now whole) (sym (traced c.args.trace h c.if-not-trace.false))
    (lines_passed (held c.args.sink.now) (held c.print_lists.new.sink) (held c.print_lists-2.new.sink) c.args.waiting.now c.print_lists.new.waiting c.print_lists-2.new.waiting replies c.in_ok-print_lists.ensures.ok (entry_lines kind.Trace h) (entries_ended kind.Reply h)
    (c.in_err-print_lists-2.ensures.memory (search rules)))

pub returns-in_err-print_lists-2-clause-cut : goal.returns-in_err-print_lists-2-clause-cut
returns-in_err-print_lists-2-clause-cut g c is =
    let held = g.K.Sink.held in
    let h = joined c.args.told.now in
    let replies = entry_lines kind.Reply h in
    subst (λ (whole : List ℕ). GotFront (held c.args.sink.now) (held c.print_lists-2.new.sink) (c.args.waiting.now ++ whole)) (sym (traced c.args.trace h c.if-not-trace.false))
    (front_passed (held c.args.sink.now) (held c.print_lists.new.sink) (held c.print_lists-2.new.sink) c.args.waiting.now c.print_lists.new.waiting c.print_lists-2.new.waiting replies c.in_ok-print_lists.ensures.ok (entry_lines kind.Trace h)
    (c.in_err-print_lists-2.ensures.cut (search rules)))

pub returns-clause-ok : goal.returns-clause-ok
returns-clause-ok g c =
    let held = g.K.Sink.held in
    let h = joined c.args.told.now in
    let replies = entry_lines kind.Reply h in
    subst (λ (whole : List ℕ). IsPassed (held c.args.sink.now) (held c.print_lists-2.new.sink) c.print_lists-2.new.waiting (c.args.waiting.now ++ whole)) (sym (traced c.args.trace h c.if-not-trace.false))
    (passed_both (held c.args.sink.now) (held c.print_lists.new.sink) (held c.print_lists-2.new.sink) c.args.waiting.now c.print_lists.new.waiting c.print_lists-2.new.waiting replies c.in_ok-print_lists.ensures.ok (entry_lines kind.Trace h)
    c.in_ok-print_lists-2.ensures.ok)
