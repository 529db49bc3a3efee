use Rattle.std.proofs.Common.{sym, ◌∙◌, subst}
use Rattle.std.proofs.lemmas.Result.{on_ok_weaker}
use Rattle.ufs_disk.specs.Moments.{reads}
use Rattle.ufs_disk.proofs.Images.{seen_is_image}
use Rattle.ufs_recovery.specs.Home.{IsAtHome, IsBroughtHome, KeepsTree}
use Rattle.ufs_recovery.proofs.Begun.{brought}
use Rattle.ufs_recovery.proofs.SuperblockPut.{kept_on}
use Rattle.ufs_recovery.proofs.Phases.{on_ok_both}
use Rattle.ufs_recovery.proofs.steps.begin.Goals as goal

pub returns-clause-begun : goal.returns-clause-begun
returns-clause-begun g c visible =
    let size = g.D.Disk.size c.args.disk.now in
    let mid = g.D.Disk.moments c.bring_home.new.disk in
    on_ok_weaker c.put_superblock.result (λ both v settled over may.
    let is : IsBroughtHome size (reads mid) c.args.superblock.now = brought size (reads (g.D.Disk.moments c.args.disk.now)) (reads mid) v c.args.overlay.now c.args.superblock.now over may (c.in_ok-bring_home.ensures.home visible v over)
    ((c.bring_home.ensures.tree visible settled v over).after (reads mid) (seen_is_image mid.state)).tree in
    record {
      home = subst (λ n. IsAtHome n c.args.superblock.now (reads (g.D.Disk.moments c.put_superblock.new.disk))) c.bring_home.ensures.size (both.0 (subst (λ n. IsBroughtHome n (reads mid) c.args.superblock.now) (sym c.bring_home.ensures.size) is));
      same = λ s other. both.1 s other ∙ c.in_ok-bring_home.ensures.home visible v over s;
    })
    (on_ok_both _ _ c.put_superblock.result (c.put_superblock.ensures.home visible) (c.put_superblock.ensures.others visible))

pub returns-clause-tree : goal.returns-clause-tree
returns-clause-tree g c visible v settled over may =
    let size = g.D.Disk.size c.args.disk.now in
    let mid = g.D.Disk.moments c.bring_home.new.disk in
    let is : IsBroughtHome size (reads mid) c.args.superblock.now = brought size (reads (g.D.Disk.moments c.args.disk.now)) (reads mid) v c.args.overlay.now c.args.superblock.now over may (c.in_ok-bring_home.ensures.home visible v over)
    ((c.bring_home.ensures.tree visible settled v over).after (reads mid) (seen_is_image mid.state)).tree in
    kept_on _ size _ _ _ (c.bring_home.ensures.tree visible settled v over)
    (subst (λ n. KeepsTree g.D.Disk.keeps n mid (g.D.Disk.moments c.put_superblock.new.disk)) c.bring_home.ensures.size
    (c.put_superblock.ensures.tree visible (c.in_ok-bring_home.ensures.settled visible) (subst (λ n. IsBroughtHome n (reads mid) c.args.superblock.now) (sym c.bring_home.ensures.size) is)))
