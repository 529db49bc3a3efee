use Rattle.std.proofs.Common.{Err, ap}
use Rattle.ufs_print.specs.TreeLines.{head_lines}
use Rattle.ufs_print.proofs.PieceLemmas.{front_of_lines_out, front_out}
use Rattle.ufs_print.proofs.tree_lines.print_heads.Goals as goal

pub returns-in_err-write_waiting-in-Ok-clause-cut : goal.returns-in_err-write_waiting-in-Ok-clause-cut
returns-in_err-write_waiting-in-Ok-clause-cut g c is =
    let held = g.K.Sink.held in
    front_out (held c.args.sink.now) (held c.put_heads.new.sink) (held c.write_waiting.new.sink) c.new-waiting.result c.put_heads.new.waiting (head_lines c.args.heads.now) c.new-waiting.ensures
    c.in-Ok.ensures.ok c.in_err-write_waiting-in-Ok.ensures.err

pub returns-in_err-write_waiting-in-Err-Memory-clause-cut : goal.returns-in_err-write_waiting-in-Err-Memory-clause-cut
returns-in_err-write_waiting-in-Err-Memory-clause-cut g c is =
    let held = g.K.Sink.held in
    front_of_lines_out (held c.args.sink.now) (held c.put_heads.new.sink) (held c.write_waiting-in-Err-Memory.new.sink) c.new-waiting.result c.put_heads.new.waiting (head_lines c.args.heads.now) c.new-waiting.ensures
    (c.in-Err-Memory.ensures.memory (ap Err c.in-Err-Memory.field-0-is)) c.in_err-write_waiting-in-Err-Memory.ensures.err
