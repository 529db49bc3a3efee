use Rattle.std.proofs.Common.{◌+◌, OnOk, subst}
use Rattle.ufs_disk.specs.Moments.{reads}
use Rattle.ufs_disk.proofs.Runs.{started}
use Rattle.ufs_layout.specs.InodeForm.{InodeForm}
use Rattle.ufs_recovery.specs.Fitted.{HasFormPut, fitted}
use Rattle.ufs_recovery.proofs.Done.{on_done}
use Rattle.ufs_recovery.proofs.Fits.{no_form_put}
use Rattle.ufs_recovery.proofs.fitting.put_fitted.Goals as goal

pub returns-in_err-short-clause-crash : goal.returns-in_err-short-clause-crash
returns-in_err-short-clause-crash g c visible = started _ _ _ (no_form_put c.args.geometry.now _ (fitted c.args.form.now) (g.D.Disk.moments c.args.disk.now).state)

pub returns-clause-settled : goal.returns-clause-settled
returns-clause-settled g c visible = on_done _ c.put_form.result c.of_device.result c.of_device.ensures.done (c.put_form.ensures.settled visible)

pub returns-clause-put : goal.returns-clause-put
returns-clause-put g c visible =
    on_done _ c.put_form.result c.of_device.result c.of_device.ensures.done
    (subst (λ (form : InodeForm). OnOk c.put_form.result (HasFormPut c.args.geometry.now (c.args.place + 1) form (reads (g.D.Disk.moments c.args.disk.now)) (reads (g.D.Disk.moments c.put_form.new.disk)))) c.in_ok-short.ensures.form (c.put_form.ensures.put visible))
