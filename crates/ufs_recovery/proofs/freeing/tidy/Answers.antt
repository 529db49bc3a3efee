use Rattle.std.proofs.Common.{◌≡◌, ◌∙◌}
use Rattle.std.proofs.lemmas.Result.{IfOk-weaker, on_ok_weaker}
use Rattle.ufs_disk.specs.Moments.{reads}
use Rattle.ufs_recovery.specs.Orphans.{IsPruned}
use Rattle.ufs_recovery.proofs.Again.{kept_again, read_last, tidy_again}
use Rattle.ufs_recovery.proofs.Done.{was_done}
use Rattle.ufs_recovery.proofs.Fits.{is_tidy, may_fit}
use Rattle.ufs_recovery.proofs.Phases.{none_pruned}
use Rattle.ufs_recovery.proofs.SuperblockPut.{kept_quietly, still_settled}
use Rattle.ufs_recovery.proofs.freeing.tidy.Goals as goal

pub returns-then-has_none-clause-tidy : goal.returns-then-has_none-clause-tidy
returns-then-has_none-clause-tidy g c visible = on_ok_weaker c.fit_files.result (λ fitted superblock may read.
    let size = g.D.Disk.size c.args.disk.now in
    let first = reads (g.D.Disk.moments c.args.disk.now) in
    let all = c.args.orphans.now.numbers.items in
    let dirs = c.args.orphans.now.dirs.items in
    let pruned : IsPruned size superblock first first = none_pruned size superblock first c.args.geometry.now all dirs c.deref.result.now may c.deref.ensures.value (c.has_none.ensures.yes c.if-has_none.true) in
    is_tidy size superblock first first (reads (g.D.Disk.moments c.fit_files.new.disk)) pruned
    (fitted superblock (may_fit size superblock c.args.geometry.now first first all dirs c.args.findings.now may pruned read))) (c.fit_files.ensures.fitted visible)

pub returns-then-has_none-clause-tree : goal.returns-then-has_none-clause-tree
returns-then-has_none-clause-tree g c visible settled superblock may read =
    let size = g.D.Disk.size c.args.disk.now in
    let first = reads (g.D.Disk.moments c.args.disk.now) in
    let all = c.args.orphans.now.numbers.items in
    let dirs = c.args.orphans.now.dirs.items in
    let pruned : IsPruned size superblock first first = none_pruned size superblock first c.args.geometry.now all dirs c.deref.result.now may c.deref.ensures.value (c.has_none.ensures.yes c.if-has_none.true) in
    c.fit_files.ensures.tree visible settled superblock (may_fit size superblock c.args.geometry.now first first all dirs c.args.findings.now may pruned read)

pub returns-in_err-of_device-clause-tree : goal.returns-in_err-of_device-clause-tree
returns-in_err-of_device-clause-tree g c visible settled superblock may read = c.prune.ensures.tree visible settled superblock may

pub returns-in_err-found-clause-tree : goal.returns-in_err-found-clause-tree
returns-in_err-found-clause-tree g c visible settled superblock may read =
    kept_quietly _ (g.D.Disk.size c.args.disk.now) _ _ _ (c.prune.ensures.tree visible settled superblock may) (c.read_again.ensures.read_only visible).crash

pub returns-clause-settled : goal.returns-clause-settled
returns-clause-settled g c visible settled =
    c.fit_files-2.ensures.settled visible (still_settled _ _ _ (c.in_ok-found.ensures.read_only visible) (was_done _ c.in_ok-of_device.ensures.done (c.prune.ensures.settled visible)))

pub returns-clause-tidy : goal.returns-clause-tidy
returns-clause-tidy g c visible =
    let still : g.D.Disk.size c.read_again.new.disk ≡ g.D.Disk.size c.args.disk.now = c.read_again.ensures.size ∙ c.prune.ensures.size in
    let freed = was_done _ c.in_ok-of_device.ensures.done (c.prune.ensures.pruned visible) in
    on_ok_weaker c.fit_files-2.result (λ fits superblock may read.
    tidy_again _ _ _ still c.args.geometry.now (g.D.Disk.moments c.args.disk.now) (g.D.Disk.moments c.prune.new.disk) (g.D.Disk.moments c.read_again.new.disk) (g.D.Disk.moments c.fit_files-2.new.disk) _ _ _
    (c.in_ok-found.ensures.read_only visible) (c.in_ok-found.ensures.found visible) freed superblock may fits) (c.fit_files-2.ensures.fitted visible)

pub returns-clause-taken : goal.returns-clause-taken
returns-clause-taken g c visible =
    let still : g.D.Disk.size c.read_again.new.disk ≡ g.D.Disk.size c.args.disk.now = c.read_again.ensures.size ∙ c.prune.ensures.size in
    IfOk-weaker c.fit_files-2.result _ _ (λ t leads read. leads (read_last _ _ _ still c.args.geometry.now (g.D.Disk.moments c.args.disk.now) (g.D.Disk.moments c.prune.new.disk) (g.D.Disk.moments c.read_again.new.disk) (g.D.Disk.moments c.fit_files-2.new.disk) c.args.orphans.now.numbers.items c.args.orphans.now.dirs.items _
    (c.in_ok-found.ensures.read_only visible) (c.in_ok-found.ensures.found visible))) (c.fit_files-2.ensures.taken visible)

pub returns-clause-tree : goal.returns-clause-tree
returns-clause-tree g c visible settled superblock may read =
    let still : g.D.Disk.size c.read_again.new.disk ≡ g.D.Disk.size c.args.disk.now = c.read_again.ensures.size ∙ c.prune.ensures.size in
    let freed = was_done _ c.in_ok-of_device.ensures.done (c.prune.ensures.pruned visible) in
    kept_again _ _ _ still c.args.geometry.now (g.D.Disk.moments c.args.disk.now) (g.D.Disk.moments c.prune.new.disk) (g.D.Disk.moments c.read_again.new.disk) (g.D.Disk.moments c.fit_files-2.new.disk) _ _ _
    (c.in_ok-found.ensures.read_only visible) (c.in_ok-found.ensures.found visible) freed superblock may
    (c.prune.ensures.tree visible settled superblock may) (was_done _ c.in_ok-of_device.ensures.done (c.prune.ensures.settled visible)) (c.fit_files-2.ensures.tree visible)
