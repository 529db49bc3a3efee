use Rattle.std.proofs.Common.{List, subst, refl, ap, Err}
use Rattle.std.specs.Io.KnownBytes.{Appends}
use Rattle.ufs_model.specs.History.{joined}
use Rattle.ufs_model.specs.declared.data.Entry.{Entry}
use Rattle.ufs_print.specs.Printed.{session_lines}
use Rattle.ufs_command.specs.Texts.{memory_line}
use Rattle.ufs_command.specs.Endings.{EndsPrinting}
use Rattle.ufs_command.specs.declared.ending.Ending.TheVariants.{Done, OutOfMemory}
use Rattle.ufs_command.proofs.AnswerLemmas.{answer_after}
use Rattle.ufs_print.specs.Pieces.{GotFront, GotLines}
use Rattle.ufs_command.proofs.serving.print_told.Goals as goal

pub returns-in-Err-Memory : goal.returns-in-Err-Memory
returns-in-Err-Memory g c =
    let held = g.K.Sink.held in
    let faults = g.K.Sink.faults in
    let got = subst (λ (l : List (List Entry)). GotLines (held c.args.sink.now) (held c.print.new.sink) (session_lines c.args.trace (joined l))) c.as_slice.ensures (c.in-Err-Memory.ensures.memory (ap Err c.in-Err-Memory.field-0-is)) in
    answer_after OutOfMemory memory_line got.0 (EndsPrinting (session_lines c.args.trace (joined c.args.told.now))) (held c.args.sink.now) (held c.print.new.sink) (held c.out_of_memory.new.sink)
    (faults c.args.sink.now) (faults c.print.new.sink) (faults c.out_of_memory.new.sink) c.out_of_memory.result
    got.2 (c.in-Err-Memory.ensures.told (λ e. cc)) (got.0, got.1, refl) c.out_of_memory.ensures.answer

pub returns-in-Ok : goal.returns-in-Ok
returns-in-Ok g c =
    let held = g.K.Sink.held in
    let wrote = subst (λ (l : List (List Entry)). Appends (held c.args.sink.now) (held c.print.new.sink) (session_lines c.args.trace (joined l))) c.as_slice.ensures c.in-Ok.ensures.ok in
    record {
      whole = λ n. (Done, session_lines c.args.trace (joined c.args.told.now), c.status.ensures, refl, wrote);
      told = λ n. c.in-Ok.ensures.told (λ e. cc);
      rose = λ e. let is = c.status.ensures in cc;
      cut = λ e. let is = c.status.ensures in cc;
    }

pub returns-in-Err-Sink : goal.returns-in-Err-Sink
returns-in-Err-Sink g c =
    let held = g.K.Sink.held in
    let got = subst (λ (l : List (List Entry)). GotFront (held c.args.sink.now) (held c.print.new.sink) (session_lines c.args.trace (joined l))) c.as_slice.ensures (c.in-Err-Sink.ensures.cut cc) in
    record {
      whole = λ n. absurd (n refl);
      told = λ n. absurd (n refl);
      rose = λ e. c.in-Err-Sink.ensures.rose cc;
      cut = λ e. (Done, session_lines c.args.trace (joined c.args.told.now), got.0, refl, got.1, got.2);
    }
