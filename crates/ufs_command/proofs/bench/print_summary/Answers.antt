use Rattle.std.proofs.Common.{◌≡◌, ◌∙◌, ℕ, List, ap, refl, subst}
use Rattle.ufs_bench.specs.Summary.{summary_text}
use Rattle.ufs_model.specs.History.{joined}
use Rattle.ufs_model.specs.declared.data.Entry.{Entry}
use Rattle.ufs_command.specs.Bench.{bench_text}
use Rattle.ufs_command.specs.Endings.{EndsPrinting, IsAnswer, IsLine}
use Rattle.ufs_command.specs.Seen.{writing}
use Rattle.ufs_command.specs.Texts.{memory_line}
use Rattle.ufs_command.specs.declared.ending.Ending.TheVariants.{Done, OutOfMemory}
use Rattle.ufs_command.proofs.AnswerLemmas.{answer_line}
use Rattle.ufs_command.proofs.BenchLemmas.{unsummed}
use Rattle.ufs_command.proofs.bench.print_summary.Goals as goal

pub returns-in-Ok : goal.returns-in-Ok
returns-in-Ok g c =
    let lines = bench_text c.args.told.now c.args.bytes in
    let w = writing g.K.Sink.held g.K.Sink.faults c.args.sink.now c.tell.new.sink in
    let made : c.in-Ok.text.items ≡ lines = c.in-Ok.ensures ∙ ap (λ (l : List (List Entry)). summary_text (joined l) c.args.bytes) c.as_slice.ensures in
    answer_line (EndsPrinting lines) Done lines w c.tell.result refl
    (subst (λ (l : List ℕ). IsAnswer (IsLine Done l) w c.tell.result) (c.as_slice-in-Ok.ensures.value ∙ made) c.tell.ensures.answer)

pub returns-in-Err : goal.returns-in-Err
returns-in-Err g c =
    answer_line (EndsPrinting (bench_text c.args.told.now c.args.bytes)) OutOfMemory memory_line (writing g.K.Sink.held g.K.Sink.faults c.args.sink.now c.out_of_memory.new.sink) c.out_of_memory.result
    (unsummed (bench_text c.args.told.now c.args.bytes)) c.out_of_memory.ensures.answer
