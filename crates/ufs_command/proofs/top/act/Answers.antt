use Rattle.std.proofs.Common.{[], Some, ap, sym, subst}
use Rattle.ufs_command.specs.declared.words.Command.{Command}
use Rattle.ufs_command.specs.declared.words.Command.TheVariants as command
use Rattle.ufs_command.specs.Commands.{reads_source}
use Rattle.ufs_command.specs.Seen.{reading, writing, formatting, course}
use Rattle.ufs_command.specs.Endings.{IsAnswer}
use Rattle.ufs_command.specs.Ends.{EndsCommand}
use Rattle.ufs_command.specs.Lacked.{Lacks}
use Rattle.ufs_command.proofs.LeftLemmas.{disk_left, source_read}
use Rattle.ufs_command.proofs.top.act.Goals as goal

pub returns-in-Mkfs-clause-answer : goal.returns-in-Mkfs-clause-answer
returns-in-Mkfs-clause-answer g c =
    let r = reading g.S.Source.left g.S.Source.faults c.args.source.now c.args.source.now in
    let d = formatting g.D.Disk.visible g.D.Disk.size g.D.Disk.moments g.D.Disk.faults c.args.disk.now c.mkfs.new.disk in
    subst (λ (x : Command). IsAnswer (EndsCommand (Some x) r d []) (writing g.K.Sink.held g.K.Sink.faults c.args.sink.now c.mkfs.new.sink) c.mkfs.result) (sym c.in-Mkfs.is) c.mkfs.ensures.answer

pub returns-in-Mkfs-clause-disk : goal.returns-in-Mkfs-clause-disk
returns-in-Mkfs-clause-disk g c =
    disk_left (Some c.args.which) (Some (command.Mkfs c.in-Mkfs.blocks c.in-Mkfs.inodes c.in-Mkfs.journal)) (ap (λ (x : Command). Some x) c.in-Mkfs.is) [] c.mkfs.result
    (course g.D.Disk.visible g.D.Disk.keeps g.D.Disk.size g.D.Disk.moments g.D.Disk.faults c.args.disk.now c.mkfs.new.disk)
    (record {
      formatted = c.mkfs.ensures.formatted;
      crash = c.mkfs.ensures.crash;
      others = c.mkfs.ensures.others;
      refused = c.mkfs.ensures.refused;
      small = c.mkfs.ensures.small;
      starved = c.mkfs.ensures.starved;
    }) (c.mkfs.ensures.size) c.mkfs.ensures.disk_told

pub returns-in-Tree-clause-answer : goal.returns-in-Tree-clause-answer
returns-in-Tree-clause-answer g c =
    let r = reading g.S.Source.left g.S.Source.faults c.args.source.now c.args.source.now in
    let d = formatting g.D.Disk.visible g.D.Disk.size g.D.Disk.moments g.D.Disk.faults c.args.disk.now c.tree.new.disk in
    subst (λ (x : Command). IsAnswer (EndsCommand (Some x) r d []) (writing g.K.Sink.held g.K.Sink.faults c.args.sink.now c.tree.new.sink) c.tree.result.status) (sym c.in-Tree.is) c.tree.ensures.answer

pub returns-in-Tree-clause-disk : goal.returns-in-Tree-clause-disk
returns-in-Tree-clause-disk g c =
    disk_left (Some c.args.which) (Some command.Tree) (ap (λ (x : Command). Some x) c.in-Tree.is) [] c.tree.result.status
    (course g.D.Disk.visible g.D.Disk.keeps g.D.Disk.size g.D.Disk.moments g.D.Disk.faults c.args.disk.now c.tree.new.disk)
    c.tree.ensures.read_only (c.tree.ensures.size) c.tree.ensures.disk_told

pub returns-in-Check-clause-answer : goal.returns-in-Check-clause-answer
returns-in-Check-clause-answer g c =
    let r = reading g.S.Source.left g.S.Source.faults c.args.source.now c.args.source.now in
    let d = formatting g.D.Disk.visible g.D.Disk.size g.D.Disk.moments g.D.Disk.faults c.args.disk.now c.check.new.disk in
    subst (λ (x : Command). IsAnswer (EndsCommand (Some x) r d []) (writing g.K.Sink.held g.K.Sink.faults c.args.sink.now c.check.new.sink) c.check.result.status) (sym c.in-Check.is) c.check.ensures.answer

pub returns-in-Check-clause-disk : goal.returns-in-Check-clause-disk
returns-in-Check-clause-disk g c =
    disk_left (Some c.args.which) (Some command.Check) (ap (λ (x : Command). Some x) c.in-Check.is) [] c.check.result.status
    (course g.D.Disk.visible g.D.Disk.keeps g.D.Disk.size g.D.Disk.moments g.D.Disk.faults c.args.disk.now c.check.new.disk)
    c.check.ensures.read_only (c.check.ensures.size) c.check.ensures.disk_told

pub returns-in-Recover-clause-answer : goal.returns-in-Recover-clause-answer
returns-in-Recover-clause-answer g c =
    let r = reading g.S.Source.left g.S.Source.faults c.args.source.now c.args.source.now in
    let d = formatting g.D.Disk.visible g.D.Disk.size g.D.Disk.moments g.D.Disk.faults c.args.disk.now c.recover.new.disk in
    subst (λ (x : Command). IsAnswer (EndsCommand (Some x) r d []) (writing g.K.Sink.held g.K.Sink.faults c.args.sink.now c.recover.new.sink) c.recover.result.status) (sym c.in-Recover.is) c.recover.ensures.answer

pub returns-in-Recover-clause-disk : goal.returns-in-Recover-clause-disk
returns-in-Recover-clause-disk g c =
    disk_left (Some c.args.which) (Some command.Recover) (ap (λ (x : Command). Some x) c.in-Recover.is) [] c.recover.result.status
    (course g.D.Disk.visible g.D.Disk.keeps g.D.Disk.size g.D.Disk.moments g.D.Disk.faults c.args.disk.now c.recover.new.disk)
    c.recover.ensures.acts (c.recover.ensures.size) c.recover.ensures.disk_told

pub returns-in-Audit-clause-answer : goal.returns-in-Audit-clause-answer
returns-in-Audit-clause-answer g c =
    let r = reading g.S.Source.left g.S.Source.faults c.args.source.now c.audit.new.source in
    let d = formatting g.D.Disk.visible g.D.Disk.size g.D.Disk.moments g.D.Disk.faults c.args.disk.now c.audit.new.disk in
    subst (λ (x : Command). IsAnswer (EndsCommand (Some x) r d []) (writing g.K.Sink.held g.K.Sink.faults c.args.sink.now c.audit.new.sink) c.audit.result) (sym c.in-Audit.is) c.audit.ensures.answer

pub returns-in-Audit-clause-disk : goal.returns-in-Audit-clause-disk
returns-in-Audit-clause-disk g c =
    disk_left (Some c.args.which) (Some command.Audit) (ap (λ (x : Command). Some x) c.in-Audit.is) [] c.audit.result
    (course g.D.Disk.visible g.D.Disk.keeps g.D.Disk.size g.D.Disk.moments g.D.Disk.faults c.args.disk.now c.audit.new.disk)
    c.audit.ensures.read_only (c.audit.ensures.size) c.audit.ensures.disk_told

pub returns-in-Audit-clause-source : goal.returns-in-Audit-clause-source
returns-in-Audit-clause-source g c =
    source_read (Some c.args.which) (ap (λ (x : Command). reads_source (Some x)) c.in-Audit.is) c.audit.result
    (reading g.S.Source.left g.S.Source.faults c.args.source.now c.audit.new.source) c.audit.ensures.source_told

pub returns-in-Tree-clause-lacked : goal.returns-in-Tree-clause-lacked
returns-in-Tree-clause-lacked g c =
    subst (λ (x : Command). Lacks (Some x) g.D.Disk.visible g.D.Disk.keeps c.tree.result.status c.tree.result.lacked (g.D.Disk.moments c.args.disk.now) (g.D.Disk.moments c.tree.new.disk)) (sym c.in-Tree.is) c.tree.ensures.lacked

pub returns-in-Check-clause-lacked : goal.returns-in-Check-clause-lacked
returns-in-Check-clause-lacked g c =
    subst (λ (x : Command). Lacks (Some x) g.D.Disk.visible g.D.Disk.keeps c.check.result.status c.check.result.lacked (g.D.Disk.moments c.args.disk.now) (g.D.Disk.moments c.check.new.disk)) (sym c.in-Check.is) c.check.ensures.lacked

pub returns-in-Recover-clause-lacked : goal.returns-in-Recover-clause-lacked
returns-in-Recover-clause-lacked g c =
    subst (λ (x : Command). Lacks (Some x) g.D.Disk.visible g.D.Disk.keeps c.recover.result.status c.recover.result.lacked (g.D.Disk.moments c.args.disk.now) (g.D.Disk.moments c.recover.new.disk)) (sym c.in-Recover.is) c.recover.ensures.lacked
