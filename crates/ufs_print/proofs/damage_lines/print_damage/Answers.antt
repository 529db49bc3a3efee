use Rattle.ufs_print.proofs.DamageLemmas.{on_err, told_lines}
use Rattle.ufs_print.proofs.PieceLemmas.{all_out, front_before, front_out}
use Rattle.ufs_print.proofs.damage_lines.print_damage.Goals as goal

pub returns-in_err-put_damage-clause-err : goal.returns-in_err-put_damage-clause-err
returns-in_err-put_damage-clause-err g c =
    let held = g.K.Sink.held in
    on_err c.from_residual.result (front_before (held c.args.sink.now) (held c.put_damage.new.sink) (held c.put_damage.new.sink) c.new-waiting.result c.put_damage.new.waiting (told_lines c.args.list.now) c.new-waiting.ensures c.in_err-put_damage.ensures.err)

pub returns-in_err-write_waiting-clause-err : goal.returns-in_err-write_waiting-clause-err
returns-in_err-write_waiting-clause-err g c =
    let held = g.K.Sink.held in
    on_err c.from_residual-in_err-write_waiting.result (front_out (held c.args.sink.now) (held c.put_damage.new.sink) (held c.write_waiting.new.sink) c.new-waiting.result c.put_damage.new.waiting (told_lines c.args.list.now) c.new-waiting.ensures
    c.in_ok-put_damage.ensures.ok c.in_err-write_waiting.ensures.err)

pub returns-clause-ok : goal.returns-clause-ok
returns-clause-ok g c =
    let held = g.K.Sink.held in
    all_out (held c.args.sink.now) (held c.put_damage.new.sink) (held c.write_waiting.new.sink) c.new-waiting.result c.put_damage.new.waiting (told_lines c.args.list.now) c.new-waiting.ensures
    c.in_ok-put_damage.ensures.ok c.in_ok-write_waiting.ensures.ok
