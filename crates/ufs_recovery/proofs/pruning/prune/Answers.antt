use Rattle.std.proofs.lemmas.Result.{on_ok_weaker}
use Rattle.ufs_disk.specs.Moments.{reads}
use Rattle.ufs_disk.proofs.Runs.{weaker}
use Rattle.ufs_layout.specs.Superblock.{geometry_of}
use Rattle.ufs_recovery.proofs.SuperblockPut.{kept_on}
use Rattle.ufs_recovery.proofs.Phases.{mixed_tree, mixed_by, cleared_by, alike_one, alike_two, is_pruned, on_ok_both}
use Rattle.ufs_recovery.proofs.pruning.prune.Goals as goal

pub returns-in_err-clear-clause-tree : goal.returns-in_err-clear-clause-tree
returns-in_err-clear-clause-tree g c visible settled superblock may =
    let size = g.D.Disk.size c.args.disk.now in
    let first = reads (g.D.Disk.moments c.args.disk.now) in
    weaker _ _ _ (mixed_tree size c.args.geometry.now 2 c.deref.result.now (g.D.Disk.moments c.args.disk.now).state settled (λ mix mixed.
    alike_one size superblock first may.home c.args.orphans.now.numbers.items c.args.orphans.now.dirs.items may.all may.all_dirs mix
    (mixed_by 2 c.args.geometry.now (geometry_of superblock) c.deref.result.now c.args.orphans.now.dirs.items first mix may.geometry c.deref.ensures.value mixed) may.in_use)) _ _ (c.clear.ensures.crash visible)

pub returns-clause-pruned : goal.returns-clause-pruned
returns-clause-pruned g c visible =
    let size = g.D.Disk.size c.args.disk.now in
    let first = reads (g.D.Disk.moments c.args.disk.now) in
    let mid = reads (g.D.Disk.moments c.clear.new.disk) in
    let last = reads (g.D.Disk.moments c.clear-2.new.disk) in
    let all = c.args.orphans.now.numbers.items in
    let dirs = c.args.orphans.now.dirs.items in
    on_ok_weaker c.clear-2.result (λ both superblock may.
    let g1 = geometry_of superblock in
    is_pruned size superblock first may.home all dirs may.all may.all_dirs mid
    (mixed_by 2 c.args.geometry.now g1 c.deref.result.now dirs first mid may.geometry c.deref.ensures.value (c.in_ok-clear.ensures.mixed visible))
    (cleared_by 2 c.args.geometry.now g1 c.deref.result.now dirs mid may.geometry c.deref.ensures.value (c.in_ok-clear.ensures.all visible))
    last
    (mixed_by 0 c.args.geometry.now g1 c.deref-2.result.now all mid last may.geometry c.deref-2.ensures.value both.0)
    (cleared_by 0 c.args.geometry.now g1 c.deref-2.result.now all last may.geometry c.deref-2.ensures.value both.1))
    (on_ok_both _ _ c.clear-2.result (c.clear-2.ensures.mixed visible) (c.clear-2.ensures.all visible))

pub returns-clause-tree : goal.returns-clause-tree
returns-clause-tree g c visible settled superblock may =
    let size = g.D.Disk.size c.args.disk.now in
    let first = reads (g.D.Disk.moments c.args.disk.now) in
    let mid = reads (g.D.Disk.moments c.clear.new.disk) in
    let all = c.args.orphans.now.numbers.items in
    let dirs = c.args.orphans.now.dirs.items in
    let g1 = geometry_of superblock in
    kept_on _ size _ _ _
    (weaker _ _ _ (mixed_tree size c.args.geometry.now 2 c.deref.result.now (g.D.Disk.moments c.args.disk.now).state settled (λ mix mixed.
    alike_one size superblock first may.home all dirs may.all may.all_dirs mix (mixed_by 2 c.args.geometry.now g1 c.deref.result.now dirs first mix may.geometry c.deref.ensures.value mixed) may.in_use)) _ _ (c.clear.ensures.crash visible))
    (weaker _ _ _ (mixed_tree size c.args.geometry.now 0 c.deref-2.result.now (g.D.Disk.moments c.clear.new.disk).state (c.in_ok-clear.ensures.settled visible) (λ mix mixed.
    alike_two size superblock first may.home all dirs may.all may.all_dirs mid
    (mixed_by 2 c.args.geometry.now g1 c.deref.result.now dirs first mid may.geometry c.deref.ensures.value (c.in_ok-clear.ensures.mixed visible))
    (cleared_by 2 c.args.geometry.now g1 c.deref.result.now dirs mid may.geometry c.deref.ensures.value (c.in_ok-clear.ensures.all visible))
    mix (mixed_by 0 c.args.geometry.now g1 c.deref-2.result.now all mid mix may.geometry c.deref-2.ensures.value mixed) may.in_use)) _ _ (c.clear-2.ensures.crash visible))
