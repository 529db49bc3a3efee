use Rattle.std.proofs.Common.{◌≡◌, ◌∙◌, ◌++◌, ℕ, List, ap, ap₂, refl, subst}
use Rattle.ufs_bench.specs.Summary.{summary_text}
use Rattle.ufs_model.specs.History.{joined}
use Rattle.ufs_model.specs.declared.data.Entry.{Entry}
use Rattle.ufs_command.specs.Bench.{bench_text}
use Rattle.ufs_command.specs.Endings.{EndsBehind, IsAnswer, IsLine}
use Rattle.ufs_command.specs.Seen.{writing}
use Rattle.ufs_command.specs.Texts.{device_line, memory_line}
use Rattle.ufs_command.specs.declared.ending.Ending.TheVariants.{DeviceFault, OutOfMemory}
use Rattle.ufs_command.proofs.AnswerLemmas.{answer_line}
use Rattle.ufs_command.proofs.BenchLemmas.{unsummed_behind}
use Rattle.ufs_command.proofs.bench.print_summary_behind.Goals as goal

pub returns-in-Err : goal.returns-in-Err
returns-in-Err g c =
    answer_line (EndsBehind (bench_text c.args.told.now c.args.bytes) c.args.fault) OutOfMemory memory_line (writing g.K.Sink.held g.K.Sink.faults c.args.sink.now c.out_of_memory.new.sink) c.out_of_memory.result
    (unsummed_behind (bench_text c.args.told.now c.args.bytes) c.args.fault) c.out_of_memory.ensures.answer

pub returns-in-Ok-extend_from_slice : goal.returns-in-Ok-extend_from_slice
returns-in-Ok-extend_from_slice g c =
    let lines = bench_text c.args.told.now c.args.bytes in
    let behind = device_line c.args.fault in
    let w = writing g.K.Sink.held g.K.Sink.faults c.args.sink.now c.tell.new.sink in
    let made : c.in-Ok.text.items ≡ lines = c.in-Ok.ensures ∙ ap (λ (l : List (List Entry)). summary_text (joined l) c.args.bytes) c.as_slice.ensures in
    let line : c.as_bytes.result.now ≡ behind = c.as_bytes.ensures.value ∙ c.deref.ensures.0 ∙ c.device_line.ensures in
    let text : c.extend_from_slice.new.self.items ≡ lines ++ behind = c.in-Ok-extend_from_slice.ensures.items ∙ ap₂ (λ (a b : List ℕ). a ++ b) made line in
    answer_line (EndsBehind lines c.args.fault) DeviceFault (lines ++ behind) w c.tell.result refl
    (subst (λ (l : List ℕ). IsAnswer (IsLine DeviceFault l) w c.tell.result) (c.as_slice-in-Ok-extend_from_slice.ensures.value ∙ text) c.tell.ensures.answer)

pub returns : goal.returns
returns g c =
    answer_line (EndsBehind (bench_text c.args.told.now c.args.bytes) c.args.fault) OutOfMemory memory_line (writing g.K.Sink.held g.K.Sink.faults c.args.sink.now c.out_of_memory-in-Err-extend_from_slice.new.sink) c.out_of_memory-in-Err-extend_from_slice.result
    (unsummed_behind (bench_text c.args.told.now c.args.bytes) c.args.fault) c.out_of_memory-in-Err-extend_from_slice.ensures.answer
