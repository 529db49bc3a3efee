use Rattle.std.proofs.Common.{subst, refl}
use Rattle.ufs_command.specs.Laws.{StandsAsBegun}
use Rattle.ufs_command.specs.Seen.{course, writing}
use Rattle.ufs_command.proofs.LeftLemmas.{never_done, unread_left}
use Rattle.ufs_command.proofs.serving.leave_unread.Goals as goal

pub returns-clause-acts : goal.returns-clause-acts
returns-clause-acts g c =
    let w = writing g.K.Sink.held g.K.Sink.faults c.args.sink.now c.tell_fault-status.new.sink in
    unread_left (course g.D.Disk.visible g.D.Disk.keeps g.D.Disk.size g.D.Disk.moments g.D.Disk.faults c.args.disk c.args.disk) c.nothing_told.result c.tell_fault-status.result
    (subst StandsAsBegun c.sectors.ensures c.unserved_law.ensures) c.nothing_told.ensures refl refl
    (never_done c.args.fault w c.tell_fault-status.result c.tell_fault-status.ensures.answer)
