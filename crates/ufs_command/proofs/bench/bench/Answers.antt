use Rattle.std.proofs.Common.{◌<◌, ◌≤◌, ℕ, inl, refl, subst, List}
use Rattle.ufs_bench.specs.Workload.{bench_geometry, workload_of}
use Rattle.ufs_layout.specs.Areas.{sector_count}
use Rattle.ufs_model.specs.declared.data.Op.{Op}
use Rattle.ufs_command.specs.Bench.{EndsBench}
use Rattle.ufs_command.specs.Endings.{IsAnswer}
use Rattle.ufs_command.specs.Seen.{course, formatting, writing}
use Rattle.ufs_command.proofs.FormattedLemmas.{lacking_ends, small_ends, small_status}
use Rattle.ufs_command.proofs.LeftLemmas.{none_faults}
use Rattle.ufs_command.proofs.UnreadLemmas.{benches_left, lacking_status}
use Rattle.ufs_command.proofs.bench.bench.Goals as goal

-- ---- the disk is too small

pub returns-then-is_small-clause-answer : goal.returns-then-is_small-clause-answer
returns-then-is_small-clause-answer g c =
    small_ends (workload_of c.args.seed) (formatting g.D.Disk.visible g.D.Disk.size g.D.Disk.moments g.D.Disk.faults c.args.disk c.args.disk) c.nothing_told.result
    (writing g.K.Sink.held g.K.Sink.faults c.args.sink.now c.finish.new.sink) c.finish.result (subst (λ (n : ℕ). n < sector_count bench_geometry) c.sectors.ensures (c.is_small.ensures.small c.if-is_small.true)) c.nothing_told.ensures refl c.finish.ensures.answer

pub returns-then-is_small-clause-acts : goal.returns-then-is_small-clause-acts
returns-then-is_small-clause-acts g c =
    benches_left (course g.D.Disk.visible g.D.Disk.keeps g.D.Disk.size g.D.Disk.moments g.D.Disk.faults c.args.disk c.args.disk) refl refl c.finish.result
    (small_status c.finish.result c.finish.ensures.status) c.nothing_told.result c.nothing_told.ensures

pub returns-then-is_small-clause-faults : goal.returns-then-is_small-clause-faults
returns-then-is_small-clause-faults g c = none_faults (g.D.Disk.faults c.args.disk) (g.D.Disk.faults c.args.disk) c.nothing_told.result c.nothing_told.ensures

-- ---- there is no memory for the workload

pub returns-in-Err-clause-answer : goal.returns-in-Err-clause-answer
returns-in-Err-clause-answer g c =
    lacking_ends (workload_of c.args.seed) (formatting g.D.Disk.visible g.D.Disk.size g.D.Disk.moments g.D.Disk.faults c.args.disk c.args.disk) c.nothing_told-in-Err.result
    (writing g.K.Sink.held g.K.Sink.faults c.args.sink.now c.out_of_memory.new.sink) c.out_of_memory.result (subst (λ (n : ℕ). sector_count bench_geometry ≤ n) c.sectors.ensures (c.is_small.ensures.large c.if-is_small.false)) c.nothing_told-in-Err.ensures refl c.out_of_memory.ensures.answer

pub returns-in-Err-clause-acts : goal.returns-in-Err-clause-acts
returns-in-Err-clause-acts g c =
    benches_left (course g.D.Disk.visible g.D.Disk.keeps g.D.Disk.size g.D.Disk.moments g.D.Disk.faults c.args.disk c.args.disk) refl refl c.out_of_memory.result
    (lacking_status c.out_of_memory.result c.out_of_memory.ensures.status) c.nothing_told-in-Err.result c.nothing_told-in-Err.ensures

pub returns-in-Err-clause-faults : goal.returns-in-Err-clause-faults
returns-in-Err-clause-faults g c = none_faults (g.D.Disk.faults c.args.disk) (g.D.Disk.faults c.args.disk) c.nothing_told-in-Err.result c.nothing_told-in-Err.ensures

-- ---- it was served

pub returns-in-Ok-clause-answer : goal.returns-in-Ok-clause-answer
returns-in-Ok-clause-answer g c =
    subst (λ (clients : List (List Op)). IsAnswer (EndsBench clients (formatting g.D.Disk.visible g.D.Disk.size g.D.Disk.moments g.D.Disk.faults c.args.disk c.format_and_serve.result.disk) c.format_and_serve.result.told)
    (writing g.K.Sink.held g.K.Sink.faults c.args.sink.now c.format_and_serve.new.sink) c.format_and_serve.result.status) c.in-Ok.ensures c.format_and_serve.ensures.answer

pub format_and_serve-requires : goal.format_and_serve-requires
format_and_serve-requires g c = record { large = subst (λ (n : ℕ). sector_count bench_geometry ≤ n) c.sectors.ensures (c.is_small.ensures.large c.if-is_small.false) }

pub returns-then-is_small-clause-disk_told : goal.returns-then-is_small-clause-disk_told
returns-then-is_small-clause-disk_told g c four seven five silent = inl refl

pub returns-in-Err-clause-disk_told : goal.returns-in-Err-clause-disk_told
returns-in-Err-clause-disk_told g c four seven five silent = inl refl
