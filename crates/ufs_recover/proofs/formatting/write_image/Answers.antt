use Rattle.std.proofs.Common.{sym, ◌∙◌, subst}
use Rattle.std.proofs.lemmas.Result.{on_ok_weaker}
use Rattle.ufs_disk.specs.Disk.{put}
use Rattle.ufs_disk.specs.Moments.{reads}
use Rattle.ufs_recover.specs.Stopped.{IsNew}
use Rattle.ufs_recover.proofs.Stages.{on_ok_both, blank_read, taken_out, while_blank, put_in, put_new, outside_superblock}
use Rattle.ufs_recover.proofs.formatting.write_image.Goals as goal

pub returns-in_err-put_superblock-clause-crash : goal.returns-in_err-put_superblock-clause-crash
returns-in_err-put_superblock-clause-crash g c visible = taken_out _ c.args.geometry.now (g.D.Disk.size c.args.disk.now) _ _ (c.put_superblock.ensures.crash visible)

pub returns-in_err-write_tables-clause-crash : goal.returns-in_err-write_tables-clause-crash
returns-in_err-write_tables-clause-crash g c visible = while_blank _ c.args.geometry.now (g.D.Disk.size c.args.disk.now) _ _ _
    (taken_out _ c.args.geometry.now (g.D.Disk.size c.args.disk.now) _ _ (c.put_superblock.ensures.crash visible)) (c.write_tables.ensures.crash visible)

pub returns-clause-ok : goal.returns-clause-ok
returns-clause-ok g c visible =
    let new_one : IsNew c.args.geometry.now (g.D.Disk.size c.args.disk.now) (put 0 c.new_superblock.result (reads (g.D.Disk.moments c.write_tables.new.disk))) =
    put_new c.args.geometry.now (g.D.Disk.size c.args.disk.now) c.requires.geometry c.requires.room c.new_image_law.ensures.opens c.new_image_law.ensures.whole c.new_image_law.ensures.proper
    c.new_superblock.result _ c.new_superblock.ensures (c.in_ok-write_tables.ensures.written visible) in
    on_ok_weaker c.put_superblock-2.result (λ both. record {
      settled = both.0;
      new = subst (IsNew c.args.geometry.now (g.D.Disk.size c.args.disk.now)) (sym both.1) new_one;
    }) (on_ok_both _ _ c.put_superblock-2.result (c.put_superblock-2.ensures.settled visible) (c.put_superblock-2.ensures.written visible))

pub returns-clause-crash : goal.returns-clause-crash
returns-clause-crash g c visible =
    put_in _ c.args.geometry.now (g.D.Disk.size c.args.disk.now) _ c.new_superblock.result _ _
    (while_blank _ c.args.geometry.now (g.D.Disk.size c.args.disk.now) _ _ _
    (taken_out _ c.args.geometry.now (g.D.Disk.size c.args.disk.now) _ _ (c.put_superblock.ensures.crash visible)) (c.write_tables.ensures.crash visible))
    (c.put_superblock-2.ensures.crash visible) (c.in_ok-write_tables.ensures.settled visible) (blank_read _ _ _ (c.write_tables.ensures.crash visible))
    (put_new c.args.geometry.now (g.D.Disk.size c.args.disk.now) c.requires.geometry c.requires.room c.new_image_law.ensures.opens c.new_image_law.ensures.whole c.new_image_law.ensures.proper
    c.new_superblock.result _ c.new_superblock.ensures (c.in_ok-write_tables.ensures.written visible))

pub returns-clause-others : goal.returns-clause-others
returns-clause-others g c visible s outside =
    c.put_superblock-2.ensures.others visible s (outside_superblock c.args.geometry.now s outside)
    ∙ c.write_tables.ensures.others visible s outside ∙ c.put_superblock.ensures.others visible s (outside_superblock c.args.geometry.now s outside)
