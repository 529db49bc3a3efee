use Rattle.std.proofs.Common.{ap, rules, ◌∙◌}
use Rattle.ufs_print.specs.TreeLines.{head_line}
use Rattle.ufs_print.proofs.ListLines.{cut_there, more_put, starved_there}
use Rattle.ufs_print.proofs.TextLemmas.{head_ended}
use Rattle.ufs_print.proofs.tree_lines.put_heads.Goals as goal

pub returns-in_err-print_head-clause-memory : goal.returns-in_err-print_head-clause-memory
returns-in_err-print_head-clause-memory g c is =
    let held = g.K.Sink.held in
    starved_there head_line c.args.heads.now c.loop-head.head-index c.head-item.result c.loop-head-test.true c.head-item.is
    (held c.args.sink.now) (held c.loop-head.sink) (held c.print_head.new.sink) c.args.waiting.now c.loop-head.waiting c.print_head.new.waiting c.loop-head.invariant.put
    head_ended (ap held (c.in_err-print_head.ensures.memory (search rules))) (c.in_err-print_head.ensures.waits (search rules))

pub returns-in_err-print_head-clause-cut : goal.returns-in_err-print_head-clause-cut
returns-in_err-print_head-clause-cut g c is =
    let held = g.K.Sink.held in
    cut_there head_line c.args.heads.now c.loop-head.head-index c.head-item.result c.loop-head-test.true c.head-item.is
    (held c.args.sink.now) (held c.loop-head.sink) (held c.print_head.new.sink) c.args.waiting.now c.loop-head.waiting c.print_head.new.waiting c.loop-head.invariant.put
    (c.in_err-print_head.ensures.cut (search rules))

pub loop-head-preserved : goal.loop-head-preserved
loop-head-preserved g c =
    let held = g.K.Sink.held in
    record {
      same = c.in_ok-print_head.ensures.told (λ x. cc) ∙ c.loop-head.invariant.same;
      put = more_put head_line c.args.heads.now c.loop-head.head-index c.head-item.result c.loop-head-test.true c.head-item.is
          (held c.args.sink.now) (held c.loop-head.sink) (held c.print_head.new.sink) c.args.waiting.now c.loop-head.waiting c.print_head.new.waiting c.loop-head.invariant.put
          c.in_ok-print_head.ensures.ok;
    }
