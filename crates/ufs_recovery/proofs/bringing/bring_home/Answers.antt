use Rattle.std.proofs.Common.{ap, sym, ◌∙◌}
use Rattle.std.proofs.lemmas.Result.{on_ok_weaker}
use Rattle.ufs_base.specs.Images.{Image}
use Rattle.ufs_disk.proofs.Runs.{weaker}
use Rattle.ufs_recovery.proofs.SuperblockPut.{kept_quietly}
use Rattle.ufs_recovery.proofs.Homing.{folds_to, home_tree}
use Rattle.ufs_recovery.proofs.bringing.bring_home.Goals as goal

pub returns-in_err-write_home-clause-tree : goal.returns-in_err-write_home-clause-tree
returns-in_err-write_home-clause-tree g c visible settled v over =
    weaker _ _ _ (home_tree (g.D.Disk.size c.args.disk.now) (g.D.Disk.moments c.args.disk.now).state v c.args.overlay.now over settled (g.met.D.Disk.whole visible c.args.disk.now)) _ _
    (c.write_home.ensures.crash visible _ over.added (λ image left sector touched. ap (λ (d : Image). d sector) (settled image left)))

pub returns-clause-home : goal.returns-clause-home
returns-clause-home g c visible = on_ok_weaker c.barrier.result (λ settled v over sector.
    ap (λ (d : Image). d sector) (c.barrier.ensures.content visible)
    ∙ c.in_ok-write_home.ensures.ok visible _ over.added sector
    ∙ ap (λ (d : Image). d sector) (sym (folds_to _ _ v c.args.overlay.now over))) (c.barrier.ensures.ok visible)

pub returns-clause-tree : goal.returns-clause-tree
returns-clause-tree g c visible settled v over =
    kept_quietly _ (g.D.Disk.size c.args.disk.now) _ _ _
    (weaker _ _ _ (home_tree (g.D.Disk.size c.args.disk.now) (g.D.Disk.moments c.args.disk.now).state v c.args.overlay.now over settled (g.met.D.Disk.whole visible c.args.disk.now)) _ _
    (c.write_home.ensures.crash visible _ over.added (λ image left sector touched. ap (λ (d : Image). d sector) (settled image left))))
    (c.barrier.ensures.crash visible)
