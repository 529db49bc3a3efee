use Rattle.ufs_file_commits_tests.proofs.Ready.{either_end, ready_filled, ready_kept}
use Rattle.ufs_file_commits_tests.proofs.session.Session.fill.Goals as goal

pub returns : goal.returns
returns g c =
    either_end c.give_pool.result c.give_pool.ensures.ok c.give_pool.ensures.kept (λ moves. ready_filled _ _ _ c.requires _ _ _ c.give_pool.ensures.rest moves)
    (λ kept. ready_kept _ _ _ c.requires _ _ kept.0 kept.1)
