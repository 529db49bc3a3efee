use Rattle.std.proofs.Common.{◌∙◌, List, subst}
use Rattle.std.specs.Prelude.{All}
use Rattle.ufs_extent.specs.declared.Run.{Run}
use Rattle.ufs_extent.specs.Runs.{IsRun}
use Rattle.ufs_file_commits_tests.proofs.Ready.{are_data_blocks, both_ends, may_return, ready_still, ready_synced}
use Rattle.ufs_file_commits_tests.proofs.session.Session.sync.Goals as goal

pub fsync-requires-clause-blocks : goal.fsync-requires-clause-blocks
fsync-requires-clause-blocks g c = are_data_blocks _ _ _ c.requires

pub fsync-requires-clause-dropped : goal.fsync-requires-clause-dropped
fsync-requires-clause-dropped g c = may_return _ _ _ c.requires (subst (λ (runs : List Run). All IsRun runs) (c.as_slice-runs.ensures.items ∙ c.dropped.ensures) c.as_slice-runs.ensures.runs)

pub returns : goal.returns
returns g c =
    let ensures = c.fsync.ensures in
    both_ends c.fsync.result ensures.committed ensures.kept ensures.freed ensures.unfreed (λ same freed. ready_synced _ _ _ c.requires _ _ ensures.geometry freed same ensures.noted)
    (λ same free. ready_still _ _ _ c.requires _ _ ensures.geometry free same)
