use Rattle.std.proofs.Common.{◌&&◌}
use Rattle.ufs_disk.specs.Disk.{IsImage}
use Rattle.ufs_mirror.specs.Labelled.{IsMoment}
use Rattle.ufs_mirror.specs.Pairs.{state_of, watched}
use Rattle.ufs_mirror.proofs.Runs.{started}
use Rattle.ufs_mirror.proofs.legs.Legs.go_on.Goals as goal

pub returns-in-true-true-clause-runs : goal.returns-in-true-true-clause-runs
returns-in-true-true-clause-runs g c va vb labelled =
    let pairs = watched (λ l. g.A.Disk.moments l.first) (λ l. g.B.Disk.moments l.second) c.args.self.now.log.items c.args.self.now.both c.args.self.now.picks in
    started (g.A.Disk.keeps && g.B.Disk.keeps) (IsMoment c.args.sectors c.args.number.now (IsImage (state_of c.args.sectors pairs.now))) pairs (record { leaves = λ image left. left; labelled = labelled })

pub returns-in-false-false-clause-runs : goal.returns-in-false-false-clause-runs
returns-in-false-false-clause-runs g c va vb labelled =
    let pairs = watched (λ l. g.A.Disk.moments l.first) (λ l. g.B.Disk.moments l.second) c.args.self.now.log.items c.args.self.now.both c.args.self.now.picks in
    started (g.A.Disk.keeps && g.B.Disk.keeps) (IsMoment c.args.sectors c.args.number.now (IsImage (state_of c.args.sectors pairs.now))) pairs (record { leaves = λ image left. left; labelled = labelled })
