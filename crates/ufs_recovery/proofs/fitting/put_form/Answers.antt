use Rattle.std.proofs.Common.{◌≡◌, ◌+◌, ◌*◌, ap, ◌∙◌}
use Rattle.std.proofs.lemmas.Result.{on_ok_weaker}
use Rattle.ufs_disk.proofs.Runs.{goes_on_quietly, weaker}
use Rattle.ufs_layout.specs.Areas.{first_of_inodes}
use Rattle.ufs_recovery.specs.Fitted.{IsFormPut}
use Rattle.ufs_recovery.proofs.Fits.{form_left, form_put}
use Rattle.ufs_recovery.proofs.fitting.put_form.Goals as goal

pub returns-in_err-put_sector-clause-crash : goal.returns-in_err-put_sector-clause-crash
returns-in_err-put_sector-clause-crash g c visible =
    let at : 8 * c.first_of_inodes.result + c.args.place ≡ 8 * first_of_inodes c.args.geometry.now + c.args.place = ap (λ n. 8 * n + c.args.place) c.first_of_inodes.ensures in
    weaker _ _ _ (form_left c.args.geometry.now c.args.place c.args.form.now (8 * c.first_of_inodes.result + c.args.place) c.inode_sector.result at c.inode_sector.ensures (g.D.Disk.moments c.args.disk.now).state) _ _ (c.put_sector.ensures.crash visible)

pub returns-clause-put : goal.returns-clause-put
returns-clause-put g c visible =
    let at : 8 * c.first_of_inodes.result + c.args.place ≡ 8 * first_of_inodes c.args.geometry.now + c.args.place = ap (λ n. 8 * n + c.args.place) c.first_of_inodes.ensures in
    on_ok_weaker c.barrier.result (λ settled.
    form_put c.args.geometry.now c.args.place c.args.form.now (8 * c.first_of_inodes.result + c.args.place) c.inode_sector.result at c.inode_sector.ensures _ _
    (c.barrier.ensures.content visible ∙ c.in_ok-put_sector.ensures.written visible)) (c.barrier.ensures.ok visible)

pub returns-clause-crash : goal.returns-clause-crash
returns-clause-crash g c visible =
    let at : 8 * c.first_of_inodes.result + c.args.place ≡ 8 * first_of_inodes c.args.geometry.now + c.args.place = ap (λ n. 8 * n + c.args.place) c.first_of_inodes.ensures in
    goes_on_quietly _ (IsFormPut c.args.geometry.now (c.args.place + 1) c.args.form.now (g.D.Disk.moments c.args.disk.now).state) _ _ _
    (weaker _ _ _ (form_left c.args.geometry.now c.args.place c.args.form.now (8 * c.first_of_inodes.result + c.args.place) c.inode_sector.result at c.inode_sector.ensures (g.D.Disk.moments c.args.disk.now).state) _ _ (c.put_sector.ensures.crash visible))
    (c.barrier.ensures.crash visible)
