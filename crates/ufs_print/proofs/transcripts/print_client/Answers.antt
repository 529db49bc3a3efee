use Rattle.std.proofs.Common.{ap, rules, ◌∙◌}
use Rattle.ufs_print.specs.Printed.{entry_line}
use Rattle.ufs_print.proofs.ListLines.{cut_there, more_put, starved_there}
use Rattle.ufs_print.proofs.PrintLemmas.{entry_ended}
use Rattle.ufs_print.proofs.transcripts.print_client.Goals as goal

pub returns-in_err-print_entry-clause-memory : goal.returns-in_err-print_entry-clause-memory
returns-in_err-print_entry-clause-memory g c is =
    let held = g.K.Sink.held in
    starved_there (entry_line c.args.kind) c.args.entries.now c.loop-entry.entry-index c.entry-item.result c.loop-entry-test.true c.entry-item.is
    (held c.args.sink.now) (held c.loop-entry.sink) (held c.print_entry.new.sink) c.args.waiting.now c.loop-entry.waiting c.print_entry.new.waiting c.loop-entry.invariant.put
    (entry_ended c.args.kind) (ap held (c.in_err-print_entry.ensures.memory (search rules))) (c.in_err-print_entry.ensures.waits (search rules))

pub returns-in_err-print_entry-clause-cut : goal.returns-in_err-print_entry-clause-cut
returns-in_err-print_entry-clause-cut g c is =
    let held = g.K.Sink.held in
    cut_there (entry_line c.args.kind) c.args.entries.now c.loop-entry.entry-index c.entry-item.result c.loop-entry-test.true c.entry-item.is
    (held c.args.sink.now) (held c.loop-entry.sink) (held c.print_entry.new.sink) c.args.waiting.now c.loop-entry.waiting c.print_entry.new.waiting c.loop-entry.invariant.put
    (c.in_err-print_entry.ensures.cut (search rules))

pub loop-entry-preserved : goal.loop-entry-preserved
loop-entry-preserved g c =
    let held = g.K.Sink.held in
    record {
      same = c.in_ok-print_entry.ensures.told (λ x. cc) ∙ c.loop-entry.invariant.same;
      put = more_put (entry_line c.args.kind) c.args.entries.now c.loop-entry.entry-index c.entry-item.result c.loop-entry-test.true c.entry-item.is
          (held c.args.sink.now) (held c.loop-entry.sink) (held c.print_entry.new.sink) c.args.waiting.now c.loop-entry.waiting c.print_entry.new.waiting c.loop-entry.invariant.put
          c.in_ok-print_entry.ensures.ok;
    }
