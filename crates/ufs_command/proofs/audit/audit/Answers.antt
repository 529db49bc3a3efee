use Rattle.std.proofs.Common.{inl, inr, refl}
use Rattle.ufs_model.specs.Start.{start_of}
use Rattle.ufs_command.specs.Audits.{EndsAudit, EndsAudited}
use Rattle.ufs_command.specs.Endings.{ending_of, line_of}
use Rattle.ufs_command.specs.Seen.{formatting, reading, writing}
use Rattle.ufs_command.proofs.AnswerLemmas.{answer_line, answer_map}
use Rattle.ufs_command.proofs.AuditLemmas.{audit_start, unopened_told}
use Rattle.ufs_command.proofs.TreeLemmas.{calm_by}
use Rattle.ufs_command.proofs.audit.audit.Goals as goal

pub returns-in-Ok-clause-answer : goal.returns-in-Ok-clause-answer
returns-in-Ok-clause-answer g c =
    let r = reading g.S.Source.left g.S.Source.faults c.args.source.now c.audit_from.new.source in
    let d = formatting g.D.Disk.visible g.D.Disk.size g.D.Disk.moments g.D.Disk.faults c.args.disk.now c.path_tree_of.new.disk in
    let start = start_of c.in-Ok.start in
    answer_map (EndsAudited start r) (EndsAudit r d) (writing g.K.Sink.held g.K.Sink.faults c.args.sink.now c.audit_from.new.sink) c.audit_from.result
    (λ ending text e. inr (c.in-Ok.ensures.passed, start, audit_start d c.in-Ok.start c.in-Ok.ensures.tree, e)) c.audit_from.ensures.answer

pub returns-in-Err-clause-answer : goal.returns-in-Err-clause-answer
returns-in-Err-clause-answer g c =
    let r = reading g.S.Source.left g.S.Source.faults c.args.source.now c.args.source.now in
    let d = formatting g.D.Disk.visible g.D.Disk.size g.D.Disk.moments g.D.Disk.faults c.args.disk.now c.path_tree_of.new.disk in
    let f = c.in-Err.fault in
    answer_line (EndsAudit r d) (ending_of f) (line_of f) (writing g.K.Sink.held g.K.Sink.faults c.args.sink.now c.tell_refusal.new.sink) c.tell_refusal.result
    (inl (refl, refl, unopened_told d f c.in-Err.ensures.cause c.in-Err.ensures.refused)) c.tell_refusal.ensures.answer

pub returns-in-Err-clause-disk_told : goal.returns-in-Err-clause-disk_told
returns-in-Err-clause-disk_told g c other sink =
    calm_by (g.D.Disk.faults c.args.disk.now) (g.D.Disk.faults c.path_tree_of.new.disk) c.in-Err.fault c.tell_refusal.result c.in-Err.ensures.cause c.tell_refusal.ensures.status other sink
