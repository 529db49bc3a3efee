use Rattle.std.proofs.Common.{refl, ap, Err}
use Rattle.ufs_command.specs.Texts.{memory_line}
use Rattle.ufs_print.specs.TreeLines.{head_lines}
use Rattle.ufs_command.specs.Endings.{EndsPrinting}
use Rattle.ufs_command.specs.declared.ending.Ending.TheVariants.{Done, OutOfMemory}
use Rattle.ufs_command.proofs.AnswerLemmas.{answer_after}
use Rattle.ufs_command.proofs.LackedLemmas.{reading_starved, reading_whole}
use Rattle.ufs_command.proofs.tree.print_whole.Goals as goal

pub returns-in-Err-Memory-clause-answer : goal.returns-in-Err-Memory-clause-answer
returns-in-Err-Memory-clause-answer g c =
    let held = g.K.Sink.held in
    let faults = g.K.Sink.faults in
    let got = c.in-Err-Memory.ensures.memory (ap Err c.in-Err-Memory.field-0-is) in
    answer_after OutOfMemory memory_line got.0 (EndsPrinting (head_lines c.args.heads.now)) (held c.args.sink.now) (held c.print_heads.new.sink) (held c.out_of_memory.new.sink)
    (faults c.args.sink.now) (faults c.print_heads.new.sink) (faults c.out_of_memory.new.sink) c.out_of_memory.result
    got.2 (c.in-Err-Memory.ensures.told (λ e. cc)) (got.0, got.1, refl) c.out_of_memory.ensures.answer

pub returns-in-Ok-clause-answer : goal.returns-in-Ok-clause-answer
returns-in-Ok-clause-answer g c =
    record {
      whole = λ n. (Done, head_lines c.args.heads.now, c.status.ensures, refl, c.in-Ok.ensures.ok);
      told = λ n. c.in-Ok.ensures.told (λ e. cc);
      rose = λ e. let is = c.status.ensures in cc;
      cut = λ e. let is = c.status.ensures in cc;
    }

pub returns-in-Err-Sink-clause-answer : goal.returns-in-Err-Sink-clause-answer
returns-in-Err-Sink-clause-answer g c =
    let got = c.in-Err-Sink.ensures.cut cc in
    record {
      whole = λ n. absurd (n refl);
      told = λ n. absurd (n refl);
      rose = λ e. c.in-Err-Sink.ensures.rose cc;
      cut = λ e. (Done, head_lines c.args.heads.now, got.0, refl, got.1, got.2);
    }

pub returns-in-Err-Memory-clause-lacked : goal.returns-in-Err-Memory-clause-lacked
returns-in-Err-Memory-clause-lacked g c = reading_starved c.out_of_memory.result c.in-Err-Memory.memory c.out_of_memory.ensures.status

pub returns-in-Ok-clause-lacked : goal.returns-in-Ok-clause-lacked
returns-in-Ok-clause-lacked g c = reading_whole c.status.result (λ five. let is = c.status.ensures in cc)

pub returns-in-Err-Sink-clause-lacked : goal.returns-in-Err-Sink-clause-lacked
returns-in-Err-Sink-clause-lacked g c = reading_whole 7 (λ five. cc)
