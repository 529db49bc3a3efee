use Rattle.std.proofs.Common.{ap, subst}
use Rattle.ufs_mirror.specs.Calls.{Wrote}
use Rattle.ufs_mirror.proofs.LabelRuns.{label_reads, label_says, labelled_first, labels_first}
use Rattle.ufs_mirror.proofs.legs.Legs.label_first.Goals as goal

pub returns-then-not-write_first-clause-runs : goal.returns-then-not-write_first-clause-runs
returns-then-not-write_first-clause-runs g c bound may va vb labelled =
    labels_first g.A.Disk.keeps g.B.Disk.keeps (λ l. g.A.Disk.moments l.first) (λ l. g.B.Disk.moments l.second) c.args.sectors bound c.args.number c.ranges.number.fits
    c.args.self.now.log.items c.write_first.new.self.log.items c.args.self.now.both c.write_first.new.self.both c.args.self.now.picks c.write_first.new.self.picks labelled
    c.write_first.ensures.log c.write_first.ensures.picks may c.write_first.result (ap g.B.Disk.moments c.write_first.ensures.second) (subst (λ bytes. Wrote g.A.Disk.keeps c.args.sectors bytes (g.A.Disk.moments c.args.self.now.both.first) (g.A.Disk.moments c.write_first.new.self.both.first) c.write_first.result) c.label.ensures (c.write_first.ensures.wrote va))

pub returns-clause-reads : goal.returns-clause-reads
returns-clause-reads g c va =
    label_reads g.A.Disk.keeps c.args.sectors c.args.number c.write_first.result (g.A.Disk.moments c.args.self.now.both.first) (g.A.Disk.moments c.write_first.new.self.both.first) (g.A.Disk.moments c.barrier_first.new.self.both.first)
    (subst (λ bytes. Wrote g.A.Disk.keeps c.args.sectors bytes (g.A.Disk.moments c.args.self.now.both.first) (g.A.Disk.moments c.write_first.new.self.both.first) c.write_first.result) c.label.ensures (c.write_first.ensures.wrote va))
    (c.barrier_first.ensures.rests va).content

pub returns-clause-label : goal.returns-clause-label
returns-clause-label g c va done =
    label_says g.A.Disk.keeps c.args.sectors c.args.number c.ranges.number.fits c.write_first.result (g.A.Disk.moments c.args.self.now.both.first) (g.A.Disk.moments c.write_first.new.self.both.first) (g.A.Disk.moments c.barrier_first.new.self.both.first)
    c.if-not-write_first.false
    (subst (λ bytes. Wrote g.A.Disk.keeps c.args.sectors bytes (g.A.Disk.moments c.args.self.now.both.first) (g.A.Disk.moments c.write_first.new.self.both.first) c.write_first.result) c.label.ensures (c.write_first.ensures.wrote va))
    (c.barrier_first.ensures.rests va).content

pub returns-clause-runs : goal.returns-clause-runs
returns-clause-runs g c bound may va vb labelled =
    labelled_first g.A.Disk.keeps g.B.Disk.keeps (λ l. g.A.Disk.moments l.first) (λ l. g.B.Disk.moments l.second) c.args.sectors bound c.args.number c.ranges.number.fits
    c.args.self.now.log.items c.write_first.new.self.log.items c.args.self.now.both c.write_first.new.self.both c.args.self.now.picks c.write_first.new.self.picks labelled
    c.write_first.ensures.log c.write_first.ensures.picks
    c.barrier_first.new.self.log.items c.barrier_first.new.self.both c.barrier_first.new.self.picks c.barrier_first.ensures.log c.barrier_first.ensures.picks c.write_first.result
    may (ap g.B.Disk.moments c.write_first.ensures.second)
    (subst (λ bytes. Wrote g.A.Disk.keeps c.args.sectors bytes (g.A.Disk.moments c.args.self.now.both.first) (g.A.Disk.moments c.write_first.new.self.both.first) c.write_first.result) c.label.ensures (c.write_first.ensures.wrote va))
    (ap g.B.Disk.moments c.barrier_first.ensures.second) (c.barrier_first.ensures.rests va)
