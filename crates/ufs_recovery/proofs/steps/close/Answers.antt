use Rattle.std.proofs.Common.{sym, subst}
use Rattle.std.proofs.lemmas.Result.{on_ok_weaker}
use Rattle.std.specs.Prelude.{true}
use Rattle.ufs_disk.specs.Moments.{reads}
use Rattle.ufs_disk.proofs.Runs.{weaker}
use Rattle.ufs_layout.specs.declared.superblock.Super.{Super}
use Rattle.ufs_recovery.specs.Home.{IsAtHome, IsBroughtHome, KeepsTree}
use Rattle.ufs_recovery.specs.Marks.{HasAnyBitmap}
use Rattle.ufs_recovery.proofs.Begun.{closing, mid_home, has_closed}
use Rattle.ufs_recovery.proofs.Closing.{any_bitmap_tree}
use Rattle.ufs_recovery.proofs.SuperblockPut.{kept_on}
use Rattle.ufs_recovery.proofs.Phases.{on_ok_both}
use Rattle.ufs_recovery.proofs.steps.close.Goals as goal

pub returns-in_err-write_bitmap-clause-tree : goal.returns-in_err-write_bitmap-clause-tree
returns-in_err-write_bitmap-clause-tree g c visible settled may =
    let size = g.D.Disk.size c.args.disk.now in
    let state = (g.D.Disk.moments c.args.disk.now).state in
    weaker _ _ _ (λ image from. any_bitmap_tree size c.args.superblock.now state settled may.home may.in_use image (subst (λ h. HasAnyBitmap h state image) may.geometry from)) _ _ (c.write_bitmap.ensures.crash visible)

pub returns-clause-closed : goal.returns-clause-closed
returns-clause-closed g c visible =
    let size = g.D.Disk.size c.args.disk.now in
    let before = reads (g.D.Disk.moments c.args.disk.now) in
    let mid = reads (g.D.Disk.moments c.write_bitmap.new.disk) in
    let after = reads (g.D.Disk.moments c.put_superblock.new.disk) in
    on_ok_weaker c.put_superblock.result (λ both settled may.
    let home1 = mid_home size c.args.superblock.now before mid c.args.geometry.now c.args.taken.now may (c.in_ok-write_bitmap.ensures.others visible) in
    let is : IsBroughtHome size mid c.closed.result = subst (IsBroughtHome size mid) (sym c.closed.ensures) (closing size c.args.superblock.now mid home1 (λ last home others.
    (has_closed size c.args.superblock.now before mid last c.args.geometry.now c.args.taken.now may (c.in_ok-write_bitmap.ensures.others visible) (c.in_ok-write_bitmap.ensures.marked visible) others home).proper)) in
    let home2 : IsAtHome size (record (c.args.superblock.now) { clean = true }) after =
    subst (λ (h : Super). IsAtHome size h after) c.closed.ensures
    (subst (λ n. IsAtHome n c.closed.result after) c.write_bitmap.ensures.size (both.0 (subst (λ n. IsBroughtHome n mid c.closed.result) (sym c.write_bitmap.ensures.size) is))) in
    has_closed size c.args.superblock.now before mid after c.args.geometry.now c.args.taken.now may (c.in_ok-write_bitmap.ensures.others visible) (c.in_ok-write_bitmap.ensures.marked visible) both.1 home2)
    (on_ok_both _ _ c.put_superblock.result (c.put_superblock.ensures.home visible) (c.put_superblock.ensures.others visible))

pub returns-clause-tree : goal.returns-clause-tree
returns-clause-tree g c visible settled may =
    let size = g.D.Disk.size c.args.disk.now in
    let state = (g.D.Disk.moments c.args.disk.now).state in
    let before = reads (g.D.Disk.moments c.args.disk.now) in
    let mid = g.D.Disk.moments c.write_bitmap.new.disk in
    let home1 = mid_home size c.args.superblock.now before (reads mid) c.args.geometry.now c.args.taken.now may (c.in_ok-write_bitmap.ensures.others visible) in
    let is : IsBroughtHome size (reads mid) c.closed.result = subst (IsBroughtHome size (reads mid)) (sym c.closed.ensures) (closing size c.args.superblock.now (reads mid) home1 (λ last home others.
    (has_closed size c.args.superblock.now before (reads mid) last c.args.geometry.now c.args.taken.now may (c.in_ok-write_bitmap.ensures.others visible) (c.in_ok-write_bitmap.ensures.marked visible) others home).proper)) in
    kept_on _ size _ _ _
    (weaker _ _ _ (λ image from. any_bitmap_tree size c.args.superblock.now state settled may.home may.in_use image (subst (λ h. HasAnyBitmap h state image) may.geometry from)) _ _ (c.write_bitmap.ensures.crash visible))
    (subst (λ n. KeepsTree g.D.Disk.keeps n mid (g.D.Disk.moments c.put_superblock.new.disk)) c.write_bitmap.ensures.size
    (c.put_superblock.ensures.tree visible (c.in_ok-write_bitmap.ensures.settled visible) (subst (λ n. IsBroughtHome n (reads mid) c.closed.result) (sym c.write_bitmap.ensures.size) is)))
