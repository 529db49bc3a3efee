use Rattle.std.proofs.Common.{Err, ap, refl, inl, inr}
use Rattle.ufs_script.specs.declared.fault.ScriptFault.{ScriptFault}
use Rattle.ufs_command.specs.Seen.{formatting, reading, writing}
use Rattle.ufs_command.specs.Endings.{EndsPlay, EndsServing, TellsFault}
use Rattle.ufs_command.proofs.AnswerLemmas.{answer_map, fault_told}
use Rattle.ufs_command.proofs.LeftLemmas.{none_faults}
use Rattle.ufs_command.proofs.serving.read_and_serve.Goals as goal

pub returns-in-Ok-clause-answer : goal.returns-in-Ok-clause-answer
returns-in-Ok-clause-answer g c =
    let r = reading g.S.Source.left g.S.Source.faults c.args.source.now c.read_unscheduled.new.source in
    let d = formatting g.D.Disk.visible g.D.Disk.size g.D.Disk.moments g.D.Disk.faults c.args.disk c.serve_script.result.disk in
    let told = c.serve_script.result.told in
    answer_map (EndsServing c.args.trace d c.in-Ok.script told) (EndsPlay c.args.trace r d told) (writing g.K.Sink.held g.K.Sink.faults c.args.sink.now c.serve_script.new.sink) c.serve_script.result.status
    (λ ending text e. inr (c.in-Ok.script, c.in-Ok.ensures.script, e)) c.serve_script.ensures.answer

pub returns-in-Err-clause-answer : goal.returns-in-Err-clause-answer
returns-in-Err-clause-answer g c =
    let r = reading g.S.Source.left g.S.Source.faults c.args.source.now c.read_unscheduled.new.source in
    let d = formatting g.D.Disk.visible g.D.Disk.size g.D.Disk.moments g.D.Disk.faults c.args.disk c.leave_unread.result.disk in
    let told = c.leave_unread.result.told in
    let f = c.in-Err.fault in
    answer_map (TellsFault f) (EndsPlay c.args.trace r d told) (writing g.K.Sink.held g.K.Sink.faults c.args.sink.now c.leave_unread.new.sink) c.leave_unread.result.status
    (λ ending text e. inl (c.leave_unread.ensures.told, fault_told r f (λ is. c.in-Err.ensures.cause (ap (λ (x : ScriptFault). Err x) is)) (λ inside. c.in-Err.ensures.broken f refl inside) ending text e))
    c.leave_unread.ensures.answer

pub returns-in-Err-clause-faults : goal.returns-in-Err-clause-faults
returns-in-Err-clause-faults g c = none_faults (g.D.Disk.faults c.args.disk) (g.D.Disk.faults c.leave_unread.result.disk) c.leave_unread.result.told c.leave_unread.ensures.told

pub returns-in-Err-clause-disk_told : goal.returns-in-Err-clause-disk_told
returns-in-Err-clause-disk_told g c four seven five silent = inl (ap g.D.Disk.faults c.leave_unread.ensures.untouched)
