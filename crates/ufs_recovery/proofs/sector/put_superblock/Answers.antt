use Rattle.std.proofs.Common.{sym, ◌∙◌, ap, subst}
use Rattle.std.proofs.lemmas.Result.{on_ok_weaker}
use Rattle.ufs_base.specs.Images.{Image}
use Rattle.ufs_disk.specs.Moments.{reads}
use Rattle.ufs_disk.proofs.Images.{put_other}
use Rattle.ufs_disk.proofs.Runs.{weaker}
use Rattle.ufs_recovery.specs.Home.{IsAtHome}
use Rattle.ufs_recovery.proofs.SuperblockPut.{superblock_there, superblock_tree, kept_quietly}
use Rattle.ufs_recovery.proofs.sector.put_superblock.Goals as goal

pub returns-in_err-put_sector-clause-tree : goal.returns-in_err-put_sector-clause-tree
returns-in_err-put_sector-clause-tree g c visible settled brought =
    weaker _ _ _ (superblock_tree (g.D.Disk.size c.args.disk.now) (g.D.Disk.moments c.args.disk.now).state c.args.superblock.now c.superblock_sector.result c.superblock_sector.ensures brought settled) _ _ (c.put_sector.ensures.crash visible)

pub returns-clause-home : goal.returns-clause-home
returns-clause-home g c visible = on_ok_weaker c.barrier.result (λ settled brought.
    subst (IsAtHome (g.D.Disk.size c.args.disk.now) c.args.superblock.now) (sym (c.barrier.ensures.content visible ∙ c.in_ok-put_sector.ensures.written visible))
    (superblock_there (g.D.Disk.size c.args.disk.now) (g.D.Disk.moments c.args.disk.now).state c.args.superblock.now c.superblock_sector.result c.superblock_sector.ensures brought)) (c.barrier.ensures.ok visible)

pub returns-clause-others : goal.returns-clause-others
returns-clause-others g c visible = on_ok_weaker c.barrier.result (λ settled sector other.
    ap (λ (d : Image). d sector) (c.barrier.ensures.content visible ∙ c.in_ok-put_sector.ensures.written visible)
    ∙ put_other 0 sector c.superblock_sector.result (reads (g.D.Disk.moments c.args.disk.now)) other) (c.barrier.ensures.ok visible)

pub returns-clause-tree : goal.returns-clause-tree
returns-clause-tree g c visible settled brought =
    kept_quietly _ (g.D.Disk.size c.args.disk.now) _ _ _
    (weaker _ _ _ (superblock_tree (g.D.Disk.size c.args.disk.now) (g.D.Disk.moments c.args.disk.now).state c.args.superblock.now c.superblock_sector.result c.superblock_sector.ensures brought settled) _ _ (c.put_sector.ensures.crash visible))
    (c.barrier.ensures.crash visible)
