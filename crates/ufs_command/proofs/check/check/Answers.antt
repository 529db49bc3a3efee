use Rattle.std.proofs.Common.{subst, sym}
use Rattle.ufs_command.specs.Seen.{formatting, writing}
use Rattle.ufs_command.specs.Endings.{EndsListing, EndsCheck, ending_of, line_of}
use Rattle.ufs_command.proofs.AnswerLemmas.{answer_map, answer_line}
use Rattle.ufs_command.specs.Lacked.{LacksReading}
use Rattle.ufs_command.proofs.LackedLemmas.{never_five, reading_refused, reading_whole}
use Rattle.ufs_command.proofs.CheckLemmas.{list_told, list_refused}
use Rattle.ufs_command.proofs.TreeLemmas.{calm_by}
use Rattle.ufs_command.proofs.check.check.Goals as goal

pub returns-in-Ok-clause-answer : goal.returns-in-Ok-clause-answer
returns-in-Ok-clause-answer g c =
    let d = formatting g.D.Disk.visible g.D.Disk.size g.D.Disk.moments g.D.Disk.faults c.args.disk.now c.check.new.disk in
    let list = c.in-Ok.list in
    answer_map (EndsListing list) (EndsCheck d) (writing g.K.Sink.held g.K.Sink.faults c.args.sink.now c.print_list.new.sink) c.print_list.result
    (list_told d list c.in-Ok.ensures.list c.in-Ok.ensures.passed) c.print_list.ensures

pub returns-in-Err-clause-answer : goal.returns-in-Err-clause-answer
returns-in-Err-clause-answer g c =
    let d = formatting g.D.Disk.visible g.D.Disk.size g.D.Disk.moments g.D.Disk.faults c.args.disk.now c.check.new.disk in
    let f = c.in-Err.fault in
    answer_line (EndsCheck d) (ending_of f) (line_of f) (writing g.K.Sink.held g.K.Sink.faults c.args.sink.now c.tell_refusal.new.sink) c.tell_refusal.result
    (list_refused d f c.in-Err.ensures.cause c.in-Err.ensures.refused) c.tell_refusal.ensures.answer

pub returns-in-Err-clause-disk_told : goal.returns-in-Err-clause-disk_told
returns-in-Err-clause-disk_told g c other sink =
    calm_by (g.D.Disk.faults c.args.disk.now) (g.D.Disk.faults c.check.new.disk) c.in-Err.fault c.tell_refusal.result c.in-Err.ensures.cause c.tell_refusal.ensures.status other sink

pub returns-in-Err-clause-lacked : goal.returns-in-Err-clause-lacked
returns-in-Err-clause-lacked g c =
    subst (λ o. LacksReading c.tell_refusal.result o) (sym c.lack_of.ensures) (reading_refused c.in-Err.fault c.tell_refusal.result c.in-Err.ensures.memory c.tell_refusal.ensures.status)

pub returns-in-Ok-clause-lacked : goal.returns-in-Ok-clause-lacked
returns-in-Ok-clause-lacked g c =
    reading_whole c.print_list.result (never_five (EndsListing c.in-Ok.list) (writing g.K.Sink.held g.K.Sink.faults c.args.sink.now c.print_list.new.sink) c.print_list.result (λ text e. e) c.print_list.ensures)
