use Rattle.std.proofs.Common.{ap}
use Rattle.std.specs.FinSet as set
use Rattle.ufs_file_commits.specs.State.{CommitState}
use Rattle.ufs_file.specs.Hand.{FileState}
use Rattle.ufs_file_commits_tests.proofs.Ready.{ready_at_first}
use Rattle.ufs_file_commits_tests.proofs.session.started.Goals as goal

pub returns : goal.returns
returns g c =
    let empty = c.in-Ok.ensures.empty in
    ready_at_first _ _ _ c.in_ok-store.ensures.geometry c.in_ok-store.ensures.unassigned (ap (λ (h : FileState). h.file) empty) (ap (λ (h : FileState). h.inode) empty) (ap (λ (h : FileState). h.extents) empty)
    (ap (λ (x : CommitState). x.dropped) c.in-Ok-make.ensures.fresh) (c.in-Ok-make.ensures.noted (c.in-Ok.ensures.apart set.empty)) c.in-Ok-make-2.ensures
