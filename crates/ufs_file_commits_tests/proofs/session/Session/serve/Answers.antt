use Rattle.ufs_file_commits_tests.proofs.Ready.{ready_served}
use Rattle.ufs_file_commits_tests.proofs.session.Session.serve.Goals as goal

pub returns : goal.returns
returns g c =
    let ensures = c.apply-applied.ensures in
    ready_served _ _ _ c.fetch.ensures.ready _ _ ensures.number ensures.inode ensures.noted ensures.together ensures.taken ensures.apart
