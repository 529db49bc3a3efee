use Rattle.std.proofs.Common.{ap, ◌∙◌}
use Rattle.ufs_loads.specs.Loads.{NotedLoads, noted_all}
use Rattle.ufs_loads.proofs.Noting.{same_noted}
use Rattle.ufs_loads.proofs.loads.Loads.note.Goals as goal

pub returns-clause-ok : goal.returns-clause-ok
returns-clause-ok c =
    c.note_all.ensures
    ∙ ap (λ (m : NotedLoads). noted_all m c.args.report.now) (same_noted c.self.inside.noted.entries c.reserve.new.self.entries c.reserve.ensures.entries.2 ∙ c.self.view_is)
