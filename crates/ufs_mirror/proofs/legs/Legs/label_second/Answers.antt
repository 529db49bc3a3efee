use Rattle.std.proofs.Common.{ap, subst}
use Rattle.ufs_mirror.specs.Calls.{Wrote}
use Rattle.ufs_mirror.proofs.LabelRuns.{label_reads, label_says, labelled_second, labels_second}
use Rattle.ufs_mirror.proofs.legs.Legs.label_second.Goals as goal

pub returns-then-not-write_second-clause-runs : goal.returns-then-not-write_second-clause-runs
returns-then-not-write_second-clause-runs g c bound may va vb labelled =
    labels_second g.A.Disk.keeps g.B.Disk.keeps (λ l. g.A.Disk.moments l.first) (λ l. g.B.Disk.moments l.second) c.args.sectors bound c.args.number c.ranges.number.fits
    c.args.self.now.log.items c.write_second.new.self.log.items c.args.self.now.both c.write_second.new.self.both c.args.self.now.picks c.write_second.new.self.picks labelled
    c.write_second.ensures.log c.write_second.ensures.picks may c.write_second.result (ap g.A.Disk.moments c.write_second.ensures.first) (subst (λ bytes. Wrote g.B.Disk.keeps c.args.sectors bytes (g.B.Disk.moments c.args.self.now.both.second) (g.B.Disk.moments c.write_second.new.self.both.second) c.write_second.result) c.label.ensures (c.write_second.ensures.wrote vb))

pub returns-clause-reads : goal.returns-clause-reads
returns-clause-reads g c vb =
    label_reads g.B.Disk.keeps c.args.sectors c.args.number c.write_second.result (g.B.Disk.moments c.args.self.now.both.second) (g.B.Disk.moments c.write_second.new.self.both.second) (g.B.Disk.moments c.barrier_second.new.self.both.second)
    (subst (λ bytes. Wrote g.B.Disk.keeps c.args.sectors bytes (g.B.Disk.moments c.args.self.now.both.second) (g.B.Disk.moments c.write_second.new.self.both.second) c.write_second.result) c.label.ensures (c.write_second.ensures.wrote vb))
    (c.barrier_second.ensures.rests vb).content

pub returns-clause-label : goal.returns-clause-label
returns-clause-label g c vb done =
    label_says g.B.Disk.keeps c.args.sectors c.args.number c.ranges.number.fits c.write_second.result (g.B.Disk.moments c.args.self.now.both.second) (g.B.Disk.moments c.write_second.new.self.both.second) (g.B.Disk.moments c.barrier_second.new.self.both.second)
    c.if-not-write_second.false
    (subst (λ bytes. Wrote g.B.Disk.keeps c.args.sectors bytes (g.B.Disk.moments c.args.self.now.both.second) (g.B.Disk.moments c.write_second.new.self.both.second) c.write_second.result) c.label.ensures (c.write_second.ensures.wrote vb))
    (c.barrier_second.ensures.rests vb).content

pub returns-clause-runs : goal.returns-clause-runs
returns-clause-runs g c bound may va vb labelled =
    labelled_second g.A.Disk.keeps g.B.Disk.keeps (λ l. g.A.Disk.moments l.first) (λ l. g.B.Disk.moments l.second) c.args.sectors bound c.args.number c.ranges.number.fits
    c.args.self.now.log.items c.write_second.new.self.log.items c.args.self.now.both c.write_second.new.self.both c.args.self.now.picks c.write_second.new.self.picks labelled
    c.write_second.ensures.log c.write_second.ensures.picks
    c.barrier_second.new.self.log.items c.barrier_second.new.self.both c.barrier_second.new.self.picks c.barrier_second.ensures.log c.barrier_second.ensures.picks c.write_second.result
    may (ap g.A.Disk.moments c.write_second.ensures.first)
    (subst (λ bytes. Wrote g.B.Disk.keeps c.args.sectors bytes (g.B.Disk.moments c.args.self.now.both.second) (g.B.Disk.moments c.write_second.new.self.both.second) c.write_second.result) c.label.ensures (c.write_second.ensures.wrote vb))
    (ap g.A.Disk.moments c.barrier_second.ensures.first) (c.barrier_second.ensures.rests vb)
