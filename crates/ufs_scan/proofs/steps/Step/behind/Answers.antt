use Rattle.std.proofs.Common.{length, arith, ap}
use Rattle.ufs_scan.specs.Edits as by
use Rattle.ufs_scan.proofs.Edits.{net_behind}
use Rattle.ufs_scan.proofs.steps.Step.behind.Goals as goal

pub returns-clause-net : goal.returns-clause-net
returns-clause-net c =
    let keep = ap (λ (s : by.StepValue). s.edit.does.keep) c.self.view_is in
    let added = ap (λ (s : by.StepValue). s.edit.does.added) c.self.view_is in
    let kept = ap (λ (s : by.StepValue). s.kept) c.last.view_is in
    let gained = ap (λ (s : by.StepValue). s.gained) c.last.view_is in
    λ es net.
    net_behind c.args.last.now es c.args.self.now.edit.does net c.min.result c.min-2.result (length c.self.inside.extents.now)
    (omega (arith, c.min.ensures, c.saturating_sub.ensures, c.from-keep.ensures, c.from.ensures, c.from-2.ensures, keep, kept, gained))
    (omega (arith, c.min-2.ensures, c.from-keep.ensures, c.from.ensures, keep, gained))
    (omega (arith, added))
