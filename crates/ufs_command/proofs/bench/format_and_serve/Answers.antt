use Rattle.std.proofs.Common.{◌≡◌, ◌⊎◌, inl, inr, ℕ, List, [], refl, subst, sym, ap}
use Rattle.std.specs.Prelude.{IsTrue}
use Rattle.ufs_bench.specs.Workload.{bench_geometry}
use Rattle.ufs_disk.specs.Moments.{LeavesOnly, reads}
use Rattle.ufs_engine.specs.Plays.{AreFaultsOf}
use Rattle.ufs_layout.specs.declared.geometry.Geometry.{Geometry}
use Rattle.ufs_model.specs.History.{joined}
use Rattle.ufs_recover.specs.Faults.{HasFaultCause}
use Rattle.ufs_recover.specs.Stopped.{IsNewDisk, IsStopped}
use Rattle.ufs_recover.specs.Tables.{IsOutside}
use Rattle.ufs_recover.specs.declared.fault.FormatFault.{FormatFault}
use Rattle.ufs_command.specs.Seen.{course, formatting, writing}
use Rattle.ufs_command.proofs.FormattedLemmas.{formatted_ends, formatted_left, stopped_ends, stopped_left}
use Rattle.ufs_command.proofs.LeftLemmas.{none_faults}
use Rattle.ufs_command.proofs.bench.format_and_serve.Goals as goal

-- ---- the workload was served

pub returns-in-Ok-clause-answer : goal.returns-in-Ok-clause-answer
returns-in-Ok-clause-answer g c =
    let size = g.D.Disk.size c.args.disk in
    let made = λ (known : IsTrue g.D.Disk.visible). subst (λ (x : Geometry). IsNewDisk x size (g.D.Disk.moments c.format.new.disk).state) c.bench_geometry.ensures (c.in-Ok.ensures.ok known) in
    formatted_ends g.D.Disk.visible g.D.Disk.keeps g.D.Disk.size g.D.Disk.moments g.D.Disk.faults c.args.disk c.format.new.disk c.serve_workload.result.disk
    c.requires.large c.format.ensures.size c.in-Ok.ensures.passed made c.args.clients c.serve_workload.result.told
    (writing g.K.Sink.held g.K.Sink.faults c.args.sink.now c.serve_workload.new.sink) c.serve_workload.result.status c.serve_workload.ensures.answer

pub returns-in-Ok-clause-acts : goal.returns-in-Ok-clause-acts
returns-in-Ok-clause-acts g c =
    let size = g.D.Disk.size c.args.disk in
    let old = g.D.Disk.moments c.args.disk in
    let mid = g.D.Disk.moments c.format.new.disk in
    let made = λ (known : IsTrue g.D.Disk.visible). subst (λ (x : Geometry). IsNewDisk x size mid.state) c.bench_geometry.ensures (c.in-Ok.ensures.ok known) in
    let crash = λ (known : IsTrue g.D.Disk.visible). subst (λ (x : Geometry). LeavesOnly g.D.Disk.keeps (IsStopped x size old.state) old mid) c.bench_geometry.ensures (c.format.ensures.crash known) in
    let others = λ (known : IsTrue g.D.Disk.visible). subst (λ (x : Geometry). (s : ℕ) → IsOutside x s → reads mid s ≡ reads old s) c.bench_geometry.ensures (c.format.ensures.others known) in
    formatted_left g.D.Disk.visible g.D.Disk.keeps g.D.Disk.size g.D.Disk.moments g.D.Disk.faults c.args.disk c.format.new.disk c.serve_workload.result.disk
    c.requires.large c.format.ensures.size c.in-Ok.ensures.passed made c.serve_workload.result.told c.serve_workload.result.status c.serve_workload.ensures.acts crash others

pub returns-in-Ok-clause-faults : goal.returns-in-Ok-clause-faults
returns-in-Ok-clause-faults g c =
    subst (λ (n : ℕ). AreFaultsOf n (g.D.Disk.faults c.serve_workload.result.disk) (joined c.serve_workload.result.told)) c.in-Ok.ensures.passed c.serve_workload.ensures.faults

-- ---- a call of the disk failed

pub returns-in-Err-Device-clause-answer : goal.returns-in-Err-Device-clause-answer
returns-in-Err-Device-clause-answer g c =
    let d = formatting g.D.Disk.visible g.D.Disk.size g.D.Disk.moments g.D.Disk.faults c.args.disk c.format.new.disk in
    stopped_ends c.args.clients d c.nothing_told.result (writing g.K.Sink.held g.K.Sink.faults c.args.sink.now c.tell_device.new.sink) c.tell_device.result c.in-Err-Device.fault
    c.requires.large c.nothing_told.ensures (subst (λ (f : FormatFault). HasFaultCause d.before d.now f) c.in-Err-Device.field-0-is c.in-Err-Device.ensures.device) c.tell_device.ensures.answer

pub returns-in-Err-Device-clause-acts : goal.returns-in-Err-Device-clause-acts
returns-in-Err-Device-clause-acts g c =
    let size = g.D.Disk.size c.args.disk in
    let old = g.D.Disk.moments c.args.disk in
    let new = g.D.Disk.moments c.format.new.disk in
    stopped_left (course g.D.Disk.visible g.D.Disk.keeps g.D.Disk.size g.D.Disk.moments g.D.Disk.faults c.args.disk c.format.new.disk) c.requires.large c.tell_device.result c.tell_device.ensures.status c.nothing_told.result c.nothing_told.ensures
    (λ known. subst (λ (x : Geometry). LeavesOnly g.D.Disk.keeps (IsStopped x size old.state) old new) c.bench_geometry.ensures (c.format.ensures.crash known))
    (λ known. subst (λ (x : Geometry). (s : ℕ) → IsOutside x s → reads new s ≡ reads old s) c.bench_geometry.ensures (c.format.ensures.others known))

pub returns-in-Err-Device-clause-faults : goal.returns-in-Err-Device-clause-faults
returns-in-Err-Device-clause-faults g c = none_faults (g.D.Disk.faults c.args.disk) (g.D.Disk.faults c.format.new.disk) c.nothing_told.result c.nothing_told.ensures

pub returns-in-Err-Device-clause-disk_told : goal.returns-in-Err-Device-clause-disk_told
returns-in-Err-Device-clause-disk_told g c four seven five silent = elim c.tell_device.ensures.status [ inl is ↦ absurd (four is) | inr is ↦ absurd (seven is) ]
