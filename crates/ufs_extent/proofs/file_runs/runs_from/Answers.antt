use Rattle.std.proofs.Common.{ap, sym, ◌∙◌, List, set, subst}
use Rattle.std.specs.Prelude.{All}
use Rattle.std.proofs.lemmas.List.{take_rest}
use Rattle.ufs_extent.specs.declared.Run.{Run}
use Rattle.ufs_extent.specs.Runs.{IsRun}
use Rattle.ufs_extent.specs.Places.{without_first}
use Rattle.ufs_extent.proofs.PlaceLemmas.{set-drop, All-without_first}
use Rattle.ufs_extent.proofs.file_runs.runs_from.Goals as goal

pub returns-clause-items : goal.returns-clause-items
returns-clause-items c =
    let place = c.args.place in
    ap (λ (zs : List Run). set zs 0 (without_first place.run place.before)) (c.in_ok-rest.ensures.items ∙ take_rest c.args.runs.now place.at)
    ∙ set-drop c.args.runs.now place.at place.run (without_first place.run place.before) c.requires.there

pub returns-clause-runs : goal.returns-clause-runs
returns-clause-runs c =
    let place = c.args.place in
    subst (All IsRun) (sym (returns-clause-items c)) (All-without_first c.args.runs.now place.at place.run place.before c.requires.runs c.requires.there c.requires.inside)
