use Rattle.std.proofs.Common.{◌&&◌, arith, ◌∙◌}
use Rattle.ufs_disk.specs.Disk.{IsImage}
use Rattle.ufs_mirror.specs.Pairs.{state_of, watched}
use Rattle.ufs_mirror.specs.Joined.{IsCalm}
use Rattle.ufs_mirror.proofs.Calm.{first_alone_may, first_goes_on}
use Rattle.ufs_mirror.proofs.LabelRuns.{calm_run}
use Rattle.ufs_mirror.proofs.Opened.{labelled_opens}
use Rattle.ufs_mirror.proofs.Runs.{started}
use Rattle.ufs_mirror.proofs.legs.Legs.leave_second.Goals as goal

pub returns-in_default-clause-runs : goal.returns-in_default-clause-runs
returns-in_default-clause-runs g c va vb labelled =
    started (g.A.Disk.keeps && g.B.Disk.keeps) (IsCalm c.args.sectors (IsImage (state_of c.args.sectors (watched (λ l. g.A.Disk.moments l.first) (λ l. g.B.Disk.moments l.second) c.args.self.now.log.items c.args.self.now.both c.args.self.now.picks).now))) (watched (λ l. g.A.Disk.moments l.first) (λ l. g.B.Disk.moments l.second) c.args.self.now.log.items c.args.self.now.both c.args.self.now.picks) (record { leaves = λ image left. left; opens = labelled_opens c.args.sectors c.args.number (watched (λ l. g.A.Disk.moments l.first) (λ l. g.B.Disk.moments l.second) c.args.self.now.log.items c.args.self.now.both c.args.self.now.picks).now labelled })

pub returns-then-not-label_first-clause-runs : goal.returns-then-not-label_first-clause-runs
returns-then-not-label_first-clause-runs g c va vb labelled =
    calm_run (g.A.Disk.keeps && g.B.Disk.keeps) c.args.sectors c.args.number (IsImage (state_of c.args.sectors (watched (λ l. g.A.Disk.moments l.first) (λ l. g.B.Disk.moments l.second) c.args.self.now.log.items c.args.self.now.both c.args.self.now.picks).now)) (watched (λ l. g.A.Disk.moments l.first) (λ l. g.B.Disk.moments l.second) c.args.self.now.log.items c.args.self.now.both c.args.self.now.picks) (watched (λ l. g.A.Disk.moments l.first) (λ l. g.B.Disk.moments l.second) c.label_first.new.self.log.items c.label_first.new.self.both c.label_first.new.self.picks) (c.label_first.ensures.runs c.args.number (first_alone_may c.args.number c.in-Some.next c.args.self.now.picks c.requires.alone (omega (arith, c.in-Some.ensures.1))) va vb labelled)

pub returns-clause-runs : goal.returns-clause-runs
returns-clause-runs g c va vb labelled =
    calm_run (g.A.Disk.keeps && g.B.Disk.keeps) c.args.sectors c.args.number (IsImage (state_of c.args.sectors (watched (λ l. g.A.Disk.moments l.first) (λ l. g.B.Disk.moments l.second) c.args.self.now.log.items c.args.self.now.both c.args.self.now.picks).now)) (watched (λ l. g.A.Disk.moments l.first) (λ l. g.B.Disk.moments l.second) c.args.self.now.log.items c.args.self.now.both c.args.self.now.picks) (watched (λ l. g.A.Disk.moments l.first) (λ l. g.B.Disk.moments l.second) c.label_first.new.self.log.items c.label_first.new.self.both c.label_first.new.self.picks) (c.label_first.ensures.runs c.args.number (first_alone_may c.args.number c.in-Some.next c.args.self.now.picks c.requires.alone (omega (arith, c.in-Some.ensures.1))) va vb labelled)

pub returns-clause-first_settled : goal.returns-clause-first_settled
returns-clause-first_settled g c va vb = c.label_first.ensures.settled va c.if-not-label_first.false

pub returns-clause-labelled : goal.returns-clause-labelled
returns-clause-labelled g c va vb labelled =
    first_goes_on c.args.sectors c.args.number c.in-Some.next (g.A.Disk.moments c.label_first.new.self.both.first).state (g.B.Disk.moments c.label_first.new.self.both.second).state c.label_first.new.self.picks (c.label_first.ensures.picks ∙ c.requires.alone) (omega (arith, c.in-Some.ensures.1))
    (c.label_first.ensures.settled va c.if-not-label_first.false) (c.label_first.ensures.label va c.if-not-label_first.false)
    (c.label_first.ensures.runs c.args.number (first_alone_may c.args.number c.in-Some.next c.args.self.now.picks c.requires.alone (omega (arith, c.in-Some.ensures.1))) va vb labelled).after.labelled
