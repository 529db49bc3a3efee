use Rattle.std.proofs.Common.{ap, sym, ◌∙◌}
use Rattle.ufs_joint.specs.Cells.{Start}
use Rattle.ufs_begin_hands_tests.proofs.session.deal_and_finish.Goals as goal

pub finish_all-requires-clause-its : goal.finish_all-requires-clause-its
finish_all-requires-clause-its g c =
    let m = c.ready_on-ready.ensures.mounted.1 in
    c.geometry-geometry.ensures.is ∙ m.ready.formed ∙ sym (ap (λ (k : Start). k.geometry) m.start)
