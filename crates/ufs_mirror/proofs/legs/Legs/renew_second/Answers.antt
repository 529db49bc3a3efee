use Rattle.std.proofs.Common.{◌+◌, ◌&&◌, inl, arith, sym, ap, subst, ◌∙◌}
use Rattle.ufs_base.specs.Faults.{raised}
use Rattle.ufs_mirror.specs.declared.fault.MirrorFault.TheVariants.{Device}
use Rattle.ufs_disk.specs.Disk.{IsImage, IsSettled}
use Rattle.ufs_disk.specs.Moments.{reads}
use Rattle.ufs_mirror.specs.Labels.{generation}
use Rattle.ufs_mirror.specs.Pairs.{state_of, watched}
use Rattle.ufs_mirror.proofs.Calm.{both_say_second, calm_on, second_may, first_may}
use Rattle.ufs_mirror.proofs.Data.{labelled_more}
use Rattle.ufs_mirror.proofs.LabelRuns.{calm_run}
use Rattle.ufs_mirror.proofs.Lone.{either_not_first, first_not_second, second_not_either}
use Rattle.ufs_mirror.proofs.legs.Legs.renew_second.Goals as goal

pub returns-then-not-label_second-clause-runs : goal.returns-then-not-label_second-clause-runs
returns-then-not-label_second-clause-runs g c va vb labelled =
    calm_run (g.A.Disk.keeps && g.B.Disk.keeps) c.args.sectors (c.args.number + c.next_generation-next.result) (IsImage (state_of c.args.sectors (watched (λ l. g.A.Disk.moments l.first) (λ l. g.B.Disk.moments l.second) c.args.self.now.log.items c.args.self.now.both c.args.self.now.picks).now)) (watched (λ l. g.A.Disk.moments l.first) (λ l. g.B.Disk.moments l.second) c.args.self.now.log.items c.args.self.now.both c.args.self.now.picks) (watched (λ l. g.A.Disk.moments l.first) (λ l. g.B.Disk.moments l.second) c.label_second.new.self.log.items c.label_second.new.self.both c.label_second.new.self.picks) (c.label_second.ensures.runs (c.args.number + c.next_generation-next.result) (second_may (c.args.number + c.next_generation-next.result) c.next_generation-next.result c.args.self.now.picks c.requires.either (omega arith)) va vb (labelled_more c.args.sectors c.args.number (c.args.number + c.next_generation-next.result) (watched (λ l. g.A.Disk.moments l.first) (λ l. g.B.Disk.moments l.second) c.args.self.now.log.items c.args.self.now.both c.args.self.now.picks).now c.requires.either (omega arith) labelled))

pub returns-then-label_first-clause-runs : goal.returns-then-label_first-clause-runs
returns-then-label_first-clause-runs g c va vb labelled =
    let one = c.label_second.ensures.runs (c.args.number + c.next_generation-next.result) (second_may (c.args.number + c.next_generation-next.result) c.next_generation-next.result c.args.self.now.picks c.requires.either (omega arith)) va vb (labelled_more c.args.sectors c.args.number (c.args.number + c.next_generation-next.result) (watched (λ l. g.A.Disk.moments l.first) (λ l. g.B.Disk.moments l.second) c.args.self.now.log.items c.args.self.now.both c.args.self.now.picks).now c.requires.either (omega arith) labelled) in
    let two = c.label_first.ensures.runs (c.args.number + c.next_generation-next.result) (first_may (c.args.number + c.next_generation-next.result) c.next_generation-next.result c.label_second.new.self.picks (c.label_second.ensures.picks ∙ c.requires.either) (omega arith)) va vb one.after.labelled in
    let front = calm_on (g.A.Disk.keeps && g.B.Disk.keeps) c.args.sectors (IsImage (state_of c.args.sectors (watched (λ l. g.A.Disk.moments l.first) (λ l. g.B.Disk.moments l.second) c.args.self.now.log.items c.args.self.now.both c.args.self.now.picks).now)) (watched (λ l. g.A.Disk.moments l.first) (λ l. g.B.Disk.moments l.second) c.args.self.now.log.items c.args.self.now.both c.args.self.now.picks) (watched (λ l. g.A.Disk.moments l.first) (λ l. g.B.Disk.moments l.second) c.label_second.new.self.log.items c.label_second.new.self.both c.label_second.new.self.picks) (watched (λ l. g.A.Disk.moments l.first) (λ l. g.B.Disk.moments l.second) c.label_first.new.self.log.items c.label_first.new.self.both c.label_first.new.self.picks)
    (calm_run (g.A.Disk.keeps && g.B.Disk.keeps) c.args.sectors (c.args.number + c.next_generation-next.result) (IsImage (state_of c.args.sectors (watched (λ l. g.A.Disk.moments l.first) (λ l. g.B.Disk.moments l.second) c.args.self.now.log.items c.args.self.now.both c.args.self.now.picks).now)) (watched (λ l. g.A.Disk.moments l.first) (λ l. g.B.Disk.moments l.second) c.args.self.now.log.items c.args.self.now.both c.args.self.now.picks) (watched (λ l. g.A.Disk.moments l.first) (λ l. g.B.Disk.moments l.second) c.label_second.new.self.log.items c.label_second.new.self.both c.label_second.new.self.picks) one)
    (calm_run (g.A.Disk.keeps && g.B.Disk.keeps) c.args.sectors (c.args.number + c.next_generation-next.result) (IsImage (state_of c.args.sectors (watched (λ l. g.A.Disk.moments l.first) (λ l. g.B.Disk.moments l.second) c.label_second.new.self.log.items c.label_second.new.self.both c.label_second.new.self.picks).now)) (watched (λ l. g.A.Disk.moments l.first) (λ l. g.B.Disk.moments l.second) c.label_second.new.self.log.items c.label_second.new.self.both c.label_second.new.self.picks) (watched (λ l. g.A.Disk.moments l.first) (λ l. g.B.Disk.moments l.second) c.label_first.new.self.log.items c.label_first.new.self.both c.label_first.new.self.picks) two) in
    front

pub returns-then-most-clause-runs : goal.returns-then-most-clause-runs
returns-then-most-clause-runs g c va vb labelled =
    let one = c.label_second.ensures.runs (c.args.number + c.next_generation-next.result) (second_may (c.args.number + c.next_generation-next.result) c.next_generation-next.result c.args.self.now.picks c.requires.either (omega arith)) va vb (labelled_more c.args.sectors c.args.number (c.args.number + c.next_generation-next.result) (watched (λ l. g.A.Disk.moments l.first) (λ l. g.B.Disk.moments l.second) c.args.self.now.log.items c.args.self.now.both c.args.self.now.picks).now c.requires.either (omega arith) labelled) in
    let two = c.label_first.ensures.runs (c.args.number + c.next_generation-next.result) (first_may (c.args.number + c.next_generation-next.result) c.next_generation-next.result c.label_second.new.self.picks (c.label_second.ensures.picks ∙ c.requires.either) (omega arith)) va vb one.after.labelled in
    let front = calm_on (g.A.Disk.keeps && g.B.Disk.keeps) c.args.sectors (IsImage (state_of c.args.sectors (watched (λ l. g.A.Disk.moments l.first) (λ l. g.B.Disk.moments l.second) c.args.self.now.log.items c.args.self.now.both c.args.self.now.picks).now)) (watched (λ l. g.A.Disk.moments l.first) (λ l. g.B.Disk.moments l.second) c.args.self.now.log.items c.args.self.now.both c.args.self.now.picks) (watched (λ l. g.A.Disk.moments l.first) (λ l. g.B.Disk.moments l.second) c.label_second.new.self.log.items c.label_second.new.self.both c.label_second.new.self.picks) (watched (λ l. g.A.Disk.moments l.first) (λ l. g.B.Disk.moments l.second) c.label_first.new.self.log.items c.label_first.new.self.both c.label_first.new.self.picks)
    (calm_run (g.A.Disk.keeps && g.B.Disk.keeps) c.args.sectors (c.args.number + c.next_generation-next.result) (IsImage (state_of c.args.sectors (watched (λ l. g.A.Disk.moments l.first) (λ l. g.B.Disk.moments l.second) c.args.self.now.log.items c.args.self.now.both c.args.self.now.picks).now)) (watched (λ l. g.A.Disk.moments l.first) (λ l. g.B.Disk.moments l.second) c.args.self.now.log.items c.args.self.now.both c.args.self.now.picks) (watched (λ l. g.A.Disk.moments l.first) (λ l. g.B.Disk.moments l.second) c.label_second.new.self.log.items c.label_second.new.self.both c.label_second.new.self.picks) one)
    (calm_run (g.A.Disk.keeps && g.B.Disk.keeps) c.args.sectors (c.args.number + c.next_generation-next.result) (IsImage (state_of c.args.sectors (watched (λ l. g.A.Disk.moments l.first) (λ l. g.B.Disk.moments l.second) c.label_second.new.self.log.items c.label_second.new.self.both c.label_second.new.self.picks).now)) (watched (λ l. g.A.Disk.moments l.first) (λ l. g.B.Disk.moments l.second) c.label_second.new.self.log.items c.label_second.new.self.both c.label_second.new.self.picks) (watched (λ l. g.A.Disk.moments l.first) (λ l. g.B.Disk.moments l.second) c.label_first.new.self.log.items c.label_first.new.self.both c.label_first.new.self.picks) two) in
    front

pub returns-then-not-lone_second-clause-runs : goal.returns-then-not-lone_second-clause-runs
returns-then-not-lone_second-clause-runs g c va vb labelled =
    let one = c.label_second.ensures.runs c.greater_of-most.result (second_may c.greater_of-most.result c.next_generation-next.result c.args.self.now.picks c.requires.either c.greater_of-most.ensures.other) va vb (labelled_more c.args.sectors c.args.number c.greater_of-most.result (watched (λ l. g.A.Disk.moments l.first) (λ l. g.B.Disk.moments l.second) c.args.self.now.log.items c.args.self.now.both c.args.self.now.picks).now c.requires.either c.greater_of-most.ensures.one labelled) in
    let two = c.label_first.ensures.runs c.greater_of-most.result (first_may c.greater_of-most.result c.next_generation-next.result c.label_second.new.self.picks (c.label_second.ensures.picks ∙ c.requires.either) c.greater_of-most.ensures.other) va vb one.after.labelled in
    let front = calm_on (g.A.Disk.keeps && g.B.Disk.keeps) c.args.sectors (IsImage (state_of c.args.sectors (watched (λ l. g.A.Disk.moments l.first) (λ l. g.B.Disk.moments l.second) c.args.self.now.log.items c.args.self.now.both c.args.self.now.picks).now)) (watched (λ l. g.A.Disk.moments l.first) (λ l. g.B.Disk.moments l.second) c.args.self.now.log.items c.args.self.now.both c.args.self.now.picks) (watched (λ l. g.A.Disk.moments l.first) (λ l. g.B.Disk.moments l.second) c.label_second.new.self.log.items c.label_second.new.self.both c.label_second.new.self.picks) (watched (λ l. g.A.Disk.moments l.first) (λ l. g.B.Disk.moments l.second) c.label_first.new.self.log.items c.label_first.new.self.both c.label_first.new.self.picks)
    (calm_run (g.A.Disk.keeps && g.B.Disk.keeps) c.args.sectors c.greater_of-most.result (IsImage (state_of c.args.sectors (watched (λ l. g.A.Disk.moments l.first) (λ l. g.B.Disk.moments l.second) c.args.self.now.log.items c.args.self.now.both c.args.self.now.picks).now)) (watched (λ l. g.A.Disk.moments l.first) (λ l. g.B.Disk.moments l.second) c.args.self.now.log.items c.args.self.now.both c.args.self.now.picks) (watched (λ l. g.A.Disk.moments l.first) (λ l. g.B.Disk.moments l.second) c.label_second.new.self.log.items c.label_second.new.self.both c.label_second.new.self.picks) one)
    (calm_run (g.A.Disk.keeps && g.B.Disk.keeps) c.args.sectors c.greater_of-most.result (IsImage (state_of c.args.sectors (watched (λ l. g.A.Disk.moments l.first) (λ l. g.B.Disk.moments l.second) c.label_second.new.self.log.items c.label_second.new.self.both c.label_second.new.self.picks).now)) (watched (λ l. g.A.Disk.moments l.first) (λ l. g.B.Disk.moments l.second) c.label_second.new.self.log.items c.label_second.new.self.both c.label_second.new.self.picks) (watched (λ l. g.A.Disk.moments l.first) (λ l. g.B.Disk.moments l.second) c.label_first.new.self.log.items c.label_first.new.self.both c.label_first.new.self.picks) two) in
    calm_on (g.A.Disk.keeps && g.B.Disk.keeps) c.args.sectors (IsImage (state_of c.args.sectors (watched (λ l. g.A.Disk.moments l.first) (λ l. g.B.Disk.moments l.second) c.args.self.now.log.items c.args.self.now.both c.args.self.now.picks).now)) (watched (λ l. g.A.Disk.moments l.first) (λ l. g.B.Disk.moments l.second) c.args.self.now.log.items c.args.self.now.both c.args.self.now.picks) (watched (λ l. g.A.Disk.moments l.first) (λ l. g.B.Disk.moments l.second) c.label_first.new.self.log.items c.label_first.new.self.both c.label_first.new.self.picks) (watched (λ l. g.A.Disk.moments l.first) (λ l. g.B.Disk.moments l.second) c.lone_second.new.self.log.items c.lone_second.new.self.both c.lone_second.new.self.picks) front
    (calm_run (g.A.Disk.keeps && g.B.Disk.keeps) c.args.sectors c.lone_second.new.number (IsImage (state_of c.args.sectors (watched (λ l. g.A.Disk.moments l.first) (λ l. g.B.Disk.moments l.second) c.label_first.new.self.log.items c.label_first.new.self.both c.label_first.new.self.picks).now)) (watched (λ l. g.A.Disk.moments l.first) (λ l. g.B.Disk.moments l.second) c.label_first.new.self.log.items c.label_first.new.self.both c.label_first.new.self.picks) (watched (λ l. g.A.Disk.moments l.first) (λ l. g.B.Disk.moments l.second) c.lone_second.new.self.log.items c.lone_second.new.self.both c.lone_second.new.self.picks) (c.lone_second.ensures.runs va vb two.after.labelled))

pub returns-clause-runs : goal.returns-clause-runs
returns-clause-runs g c va vb labelled =
    let one = c.label_second.ensures.runs c.greater_of-most.result (second_may c.greater_of-most.result c.next_generation-next.result c.args.self.now.picks c.requires.either c.greater_of-most.ensures.other) va vb (labelled_more c.args.sectors c.args.number c.greater_of-most.result (watched (λ l. g.A.Disk.moments l.first) (λ l. g.B.Disk.moments l.second) c.args.self.now.log.items c.args.self.now.both c.args.self.now.picks).now c.requires.either c.greater_of-most.ensures.one labelled) in
    let two = c.label_first.ensures.runs c.greater_of-most.result (first_may c.greater_of-most.result c.next_generation-next.result c.label_second.new.self.picks (c.label_second.ensures.picks ∙ c.requires.either) c.greater_of-most.ensures.other) va vb one.after.labelled in
    let front = calm_on (g.A.Disk.keeps && g.B.Disk.keeps) c.args.sectors (IsImage (state_of c.args.sectors (watched (λ l. g.A.Disk.moments l.first) (λ l. g.B.Disk.moments l.second) c.args.self.now.log.items c.args.self.now.both c.args.self.now.picks).now)) (watched (λ l. g.A.Disk.moments l.first) (λ l. g.B.Disk.moments l.second) c.args.self.now.log.items c.args.self.now.both c.args.self.now.picks) (watched (λ l. g.A.Disk.moments l.first) (λ l. g.B.Disk.moments l.second) c.label_second.new.self.log.items c.label_second.new.self.both c.label_second.new.self.picks) (watched (λ l. g.A.Disk.moments l.first) (λ l. g.B.Disk.moments l.second) c.label_first.new.self.log.items c.label_first.new.self.both c.label_first.new.self.picks)
    (calm_run (g.A.Disk.keeps && g.B.Disk.keeps) c.args.sectors c.greater_of-most.result (IsImage (state_of c.args.sectors (watched (λ l. g.A.Disk.moments l.first) (λ l. g.B.Disk.moments l.second) c.args.self.now.log.items c.args.self.now.both c.args.self.now.picks).now)) (watched (λ l. g.A.Disk.moments l.first) (λ l. g.B.Disk.moments l.second) c.args.self.now.log.items c.args.self.now.both c.args.self.now.picks) (watched (λ l. g.A.Disk.moments l.first) (λ l. g.B.Disk.moments l.second) c.label_second.new.self.log.items c.label_second.new.self.both c.label_second.new.self.picks) one)
    (calm_run (g.A.Disk.keeps && g.B.Disk.keeps) c.args.sectors c.greater_of-most.result (IsImage (state_of c.args.sectors (watched (λ l. g.A.Disk.moments l.first) (λ l. g.B.Disk.moments l.second) c.label_second.new.self.log.items c.label_second.new.self.both c.label_second.new.self.picks).now)) (watched (λ l. g.A.Disk.moments l.first) (λ l. g.B.Disk.moments l.second) c.label_second.new.self.log.items c.label_second.new.self.both c.label_second.new.self.picks) (watched (λ l. g.A.Disk.moments l.first) (λ l. g.B.Disk.moments l.second) c.label_first.new.self.log.items c.label_first.new.self.both c.label_first.new.self.picks) two) in
    calm_on (g.A.Disk.keeps && g.B.Disk.keeps) c.args.sectors (IsImage (state_of c.args.sectors (watched (λ l. g.A.Disk.moments l.first) (λ l. g.B.Disk.moments l.second) c.args.self.now.log.items c.args.self.now.both c.args.self.now.picks).now)) (watched (λ l. g.A.Disk.moments l.first) (λ l. g.B.Disk.moments l.second) c.args.self.now.log.items c.args.self.now.both c.args.self.now.picks) (watched (λ l. g.A.Disk.moments l.first) (λ l. g.B.Disk.moments l.second) c.label_first.new.self.log.items c.label_first.new.self.both c.label_first.new.self.picks) (watched (λ l. g.A.Disk.moments l.first) (λ l. g.B.Disk.moments l.second) c.lone_second.new.self.log.items c.lone_second.new.self.both c.lone_second.new.self.picks) front
    (calm_run (g.A.Disk.keeps && g.B.Disk.keeps) c.args.sectors c.lone_second.new.number (IsImage (state_of c.args.sectors (watched (λ l. g.A.Disk.moments l.first) (λ l. g.B.Disk.moments l.second) c.label_first.new.self.log.items c.label_first.new.self.both c.label_first.new.self.picks).now)) (watched (λ l. g.A.Disk.moments l.first) (λ l. g.B.Disk.moments l.second) c.label_first.new.self.log.items c.label_first.new.self.both c.label_first.new.self.picks) (watched (λ l. g.A.Disk.moments l.first) (λ l. g.B.Disk.moments l.second) c.lone_second.new.self.log.items c.lone_second.new.self.both c.lone_second.new.self.picks) (c.lone_second.ensures.runs va vb two.after.labelled))

pub returns-clause-labelled : goal.returns-clause-labelled
returns-clause-labelled g c va vb labelled =
    let one = c.label_second.ensures.runs c.greater_of-most.result (second_may c.greater_of-most.result c.next_generation-next.result c.args.self.now.picks c.requires.either c.greater_of-most.ensures.other) va vb (labelled_more c.args.sectors c.args.number c.greater_of-most.result (watched (λ l. g.A.Disk.moments l.first) (λ l. g.B.Disk.moments l.second) c.args.self.now.log.items c.args.self.now.both c.args.self.now.picks).now c.requires.either c.greater_of-most.ensures.one labelled) in
    let two = c.label_first.ensures.runs c.greater_of-most.result (first_may c.greater_of-most.result c.next_generation-next.result c.label_second.new.self.picks (c.label_second.ensures.picks ∙ c.requires.either) c.greater_of-most.ensures.other) va vb one.after.labelled in
    let front = calm_on (g.A.Disk.keeps && g.B.Disk.keeps) c.args.sectors (IsImage (state_of c.args.sectors (watched (λ l. g.A.Disk.moments l.first) (λ l. g.B.Disk.moments l.second) c.args.self.now.log.items c.args.self.now.both c.args.self.now.picks).now)) (watched (λ l. g.A.Disk.moments l.first) (λ l. g.B.Disk.moments l.second) c.args.self.now.log.items c.args.self.now.both c.args.self.now.picks) (watched (λ l. g.A.Disk.moments l.first) (λ l. g.B.Disk.moments l.second) c.label_second.new.self.log.items c.label_second.new.self.both c.label_second.new.self.picks) (watched (λ l. g.A.Disk.moments l.first) (λ l. g.B.Disk.moments l.second) c.label_first.new.self.log.items c.label_first.new.self.both c.label_first.new.self.picks)
    (calm_run (g.A.Disk.keeps && g.B.Disk.keeps) c.args.sectors c.greater_of-most.result (IsImage (state_of c.args.sectors (watched (λ l. g.A.Disk.moments l.first) (λ l. g.B.Disk.moments l.second) c.args.self.now.log.items c.args.self.now.both c.args.self.now.picks).now)) (watched (λ l. g.A.Disk.moments l.first) (λ l. g.B.Disk.moments l.second) c.args.self.now.log.items c.args.self.now.both c.args.self.now.picks) (watched (λ l. g.A.Disk.moments l.first) (λ l. g.B.Disk.moments l.second) c.label_second.new.self.log.items c.label_second.new.self.both c.label_second.new.self.picks) one)
    (calm_run (g.A.Disk.keeps && g.B.Disk.keeps) c.args.sectors c.greater_of-most.result (IsImage (state_of c.args.sectors (watched (λ l. g.A.Disk.moments l.first) (λ l. g.B.Disk.moments l.second) c.label_second.new.self.log.items c.label_second.new.self.both c.label_second.new.self.picks).now)) (watched (λ l. g.A.Disk.moments l.first) (λ l. g.B.Disk.moments l.second) c.label_second.new.self.log.items c.label_second.new.self.both c.label_second.new.self.picks) (watched (λ l. g.A.Disk.moments l.first) (λ l. g.B.Disk.moments l.second) c.label_first.new.self.log.items c.label_first.new.self.both c.label_first.new.self.picks) two) in
    (c.lone_second.ensures.runs va vb two.after.labelled).after.labelled

pub returns-then-label_first-clause-labelled : goal.returns-then-label_first-clause-labelled
returns-then-label_first-clause-labelled g c va vb labelled =
    both_say_second c.args.sectors c.next_generation-next.result (watched (λ l. g.A.Disk.moments l.first) (λ l. g.B.Disk.moments l.second) c.label_first.new.self.log.items c.label_first.new.self.both c.label_first.new.self.picks).now (c.label_first.ensures.picks ∙ c.label_second.ensures.picks ∙ c.requires.either)
    (subst (λ l. IsSettled (g.B.Disk.moments l).state) (sym c.label_first.ensures.second) (c.label_second.ensures.settled vb c.if-not-label_second.false))
    (c.label_first.ensures.settled va c.if-label_first.true)
    (ap (λ l. generation (reads (g.B.Disk.moments l) c.args.sectors)) c.label_first.ensures.second ∙ c.label_second.ensures.label vb c.if-not-label_second.false)
    (c.label_first.ensures.label va c.if-label_first.true)

pub returns-then-label_first-clause-labels : goal.returns-then-label_first-clause-labels
returns-then-label_first-clause-labels g c va vb either = (
  c.next_generation-next.ensures.number,
  ap (λ l. generation (reads (g.B.Disk.moments l) c.args.sectors)) c.label_first.ensures.second ∙ c.label_second.ensures.label vb c.if-not-label_second.false,
  c.label_first.ensures.label va c.if-label_first.true,
)

pub returns-then-label_first-clause-second : goal.returns-then-label_first-clause-second
returns-then-label_first-clause-second g c va vb k lt =
    ap (λ l. reads (g.B.Disk.moments l) k) c.label_first.ensures.second ∙ c.label_second.ensures.reads vb k lt

pub returns-then-label_first-clause-first : goal.returns-then-label_first-clause-first
returns-then-label_first-clause-first g c va vb k lt =
    c.label_first.ensures.reads va k lt ∙ ap (λ l. reads (g.A.Disk.moments l) k) c.label_second.ensures.first

pub returns-clause-second : goal.returns-clause-second
returns-clause-second g c va vb k lt =
    c.lone_second.ensures.reads va vb k lt ∙ ap (λ l. reads (g.B.Disk.moments l) k) c.label_first.ensures.second ∙ c.label_second.ensures.reads vb k lt

pub returns-clause-first : goal.returns-clause-first
returns-clause-first g c va vb k lt =
    ap (λ l. reads (g.A.Disk.moments l) k) c.lone_second.ensures.first ∙ c.label_first.ensures.reads va k lt ∙ ap (λ l. reads (g.A.Disk.moments l) k) c.label_second.ensures.first

pub returns-then-label_first-clause-live : goal.returns-then-label_first-clause-live
returns-then-label_first-clause-live g c is = either_not_first c.label_first.new.self.picks (c.label_first.ensures.picks ∙ c.label_second.ensures.picks ∙ c.requires.either) is

pub returns-then-label_first-clause-second_settled : goal.returns-then-label_first-clause-second_settled
returns-then-label_first-clause-second_settled g c va vb =
    subst (λ l. IsSettled (g.B.Disk.moments l).state) (sym c.label_first.ensures.second) (c.label_second.ensures.settled vb c.if-not-label_second.false)

pub returns-then-label_first-clause-first_settled : goal.returns-then-label_first-clause-first_settled
returns-then-label_first-clause-first_settled g c va vb either = c.label_first.ensures.settled va c.if-label_first.true

pub returns-then-label_first-clause-counts : goal.returns-then-label_first-clause-counts
returns-then-label_first-clause-counts g c = record {
  picked = ap g.B.Disk.faults c.label_first.ensures.second ∙ c.label_second.ensures.counts.passed c.if-not-label_second.false;
  passed = λ either. c.label_first.ensures.counts.passed c.if-label_first.true ∙ ap g.A.Disk.faults c.label_second.ensures.first;
  failed = λ alone. absurd (alone (c.label_first.ensures.picks ∙ c.label_second.ensures.picks ∙ c.requires.either));
}

pub returns-clause-live : goal.returns-clause-live
returns-clause-live g c is = first_not_second (sym is ∙ (c.lone_second.ensures.picks c.if-not-lone_second.false))

pub returns-clause-room : goal.returns-clause-room
returns-clause-room g c is = absurd (second_not_either (sym (c.lone_second.ensures.picks c.if-not-lone_second.false) ∙ is))

pub returns-clause-second_settled : goal.returns-clause-second_settled
returns-clause-second_settled g c va vb = c.lone_second.ensures.settled va vb c.if-not-lone_second.false

pub returns-clause-first_settled : goal.returns-clause-first_settled
returns-clause-first_settled g c va vb is = absurd (second_not_either (sym (c.lone_second.ensures.picks c.if-not-lone_second.false) ∙ is))

pub returns-clause-labels : goal.returns-clause-labels
returns-clause-labels g c va vb is = absurd (second_not_either (sym (c.lone_second.ensures.picks c.if-not-lone_second.false) ∙ is))

pub returns-clause-counts : goal.returns-clause-counts
returns-clause-counts g c = record {
  picked = c.lone_second.ensures.counts.passed c.if-not-lone_second.false ∙ ap g.B.Disk.faults c.label_first.ensures.second ∙ c.label_second.ensures.counts.passed c.if-not-label_second.false;
  passed = λ is. absurd (second_not_either (sym (c.lone_second.ensures.picks c.if-not-lone_second.false) ∙ is));
  failed = λ alone. ap g.A.Disk.faults c.lone_second.ensures.first ∙ c.label_first.ensures.counts.failed c.if-label_first.false ∙ ap raised (ap g.A.Disk.faults c.label_second.ensures.first);
}

pub returns-then-not-label_second-clause-refused : goal.returns-then-not-label_second-clause-refused
returns-then-not-label_second-clause-refused g c =
    inl (c.label_second.ensures.counts.failed c.if-not-label_second.true, c.refusal.ensures ∙ ap Device (c.label_second.ensures.fault c.if-not-label_second.true))
