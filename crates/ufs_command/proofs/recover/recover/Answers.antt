use Rattle.std.proofs.Common.{refl, subst, sym}
use Rattle.ufs_command.specs.Seen.{formatting, writing}
use Rattle.ufs_command.specs.Texts.{recovered_line}
use Rattle.ufs_command.specs.Endings.{EndsRecovery, IsLine, ending_of, line_of}
use Rattle.ufs_command.specs.Lacked.{LacksRecovery}
use Rattle.ufs_command.specs.declared.ending.Ending.TheVariants.{Done}
use Rattle.ufs_command.proofs.AnswerLemmas.{answer_line}
use Rattle.ufs_command.proofs.LackedLemmas.{never_five, recovery_lacks, recovery_whole}
use Rattle.ufs_command.proofs.RecoveryLemmas.{recovery_refused, refused_apart}
use Rattle.ufs_command.proofs.TreeLemmas.{calm_by}
use Rattle.ufs_command.proofs.recover.recover.Goals as goal

pub returns-in-Ok-clause-answer : goal.returns-in-Ok-clause-answer
returns-in-Ok-clause-answer g c =
    let d = formatting g.D.Disk.visible g.D.Disk.size g.D.Disk.moments g.D.Disk.faults c.args.disk.now c.recover.new.disk in
    let count = c.in-Ok.count in
    answer_line (EndsRecovery d) Done (recovered_line count) (writing g.K.Sink.held g.K.Sink.faults c.args.sink.now c.tell_count.new.sink) c.tell_count.result
    (c.in-Ok.ensures.passed, count, record { few = c.in-Ok.ensures.few; opened = c.in-Ok.ensures.opened; found = c.in-Ok.ensures.found }, refl) c.tell_count.ensures

pub returns-in-Ok-clause-acts : goal.returns-in-Ok-clause-acts
returns-in-Ok-clause-acts g c visible = record {
  clean = λ zero proper. c.in-Ok.ensures.clean visible proper;
  recovered = λ zero proper used. c.in-Ok.ensures.recovered visible proper used;
  tree = c.recover.ensures.tree visible;
  quiet = c.recover.ensures.quiet visible;
  refused = c.recover.ensures.unopened visible;
}

pub returns-in-Err-clause-answer : goal.returns-in-Err-clause-answer
returns-in-Err-clause-answer g c =
    let d = formatting g.D.Disk.visible g.D.Disk.size g.D.Disk.moments g.D.Disk.faults c.args.disk.now c.recover.new.disk in
    let f = c.in-Err.fault in
    answer_line (EndsRecovery d) (ending_of f) (line_of f) (writing g.K.Sink.held g.K.Sink.faults c.args.sink.now c.tell_refusal.new.sink) c.tell_refusal.result
    (recovery_refused d f c.in-Err.ensures.cause c.in-Err.ensures.refused c.in-Err.ensures.outside) c.tell_refusal.ensures.answer

pub returns-in-Err-clause-acts : goal.returns-in-Err-clause-acts
returns-in-Err-clause-acts g c visible = record {
  clean = λ zero. absurd (refused_apart c.in-Err.fault c.tell_refusal.result c.tell_refusal.ensures.status zero);
  recovered = λ zero. absurd (refused_apart c.in-Err.fault c.tell_refusal.result c.tell_refusal.ensures.status zero);
  tree = c.recover.ensures.tree visible;
  quiet = c.recover.ensures.quiet visible;
  refused = c.recover.ensures.unopened visible;
}

pub returns-in-Err-clause-disk_told : goal.returns-in-Err-clause-disk_told
returns-in-Err-clause-disk_told g c other sink =
    calm_by (g.D.Disk.faults c.args.disk.now) (g.D.Disk.faults c.recover.new.disk) c.in-Err.fault c.tell_refusal.result c.in-Err.ensures.cause c.tell_refusal.ensures.status other sink

pub returns-in-Ok-clause-lacked : goal.returns-in-Ok-clause-lacked
returns-in-Ok-clause-lacked g c =
    recovery_whole g.D.Disk.visible g.D.Disk.keeps (g.D.Disk.moments c.args.disk.now) (g.D.Disk.moments c.recover.new.disk) c.tell_count.result
    (never_five (IsLine Done (recovered_line c.in-Ok.count)) (writing g.K.Sink.held g.K.Sink.faults c.args.sink.now c.tell_count.new.sink) c.tell_count.result (λ text e. let is = e.0 in cc) c.tell_count.ensures)

pub returns-in-Err-clause-lacked : goal.returns-in-Err-clause-lacked
returns-in-Err-clause-lacked g c =
    let from = g.D.Disk.moments c.args.disk.now in
    let to = g.D.Disk.moments c.recover.new.disk in
    subst (λ o. LacksRecovery g.D.Disk.visible g.D.Disk.keeps c.tell_refusal.result o from to) (sym c.lack_of.ensures)
    (recovery_lacks g.D.Disk.visible g.D.Disk.keeps from to c.in-Err.fault c.tell_refusal.result c.in-Err.ensures.numbers c.in-Err.ensures.lack c.in-Err.ensures.unasked c.in-Err.ensures.early c.tell_refusal.ensures.status)
