use Rattle.std.proofs.Common.{◌≡◌, true, subst}
use Rattle.ufs_layout.specs.Records.{is_record}
use Rattle.ufs_layout.specs.declared.records.LogRecord.{LogRecord}
use Rattle.ufs_layout.specs.declared.records.LogRecord.TheVariants.{Delta}
use Rattle.ufs_overlay.proofs.StepForms.{delta_form}
use Rattle.ufs_overlay.proofs.step.step.Goals as goal

pub put_inode-requires-clause-form : goal.put_inode-requires-clause-form
put_inode-requires-clause-form c =
    let is : is_record (Delta c.in-Delta.inode c.in-Delta.kind c.in-Delta.size c.in-Delta.keep c.in-Delta.extents) ≡ true = subst (λ (r : LogRecord). is_record r ≡ true) c.in-Delta.is c.requires.form in
    rw (c.changed_inode.ensures, c.as_slice-extents.ensures) (delta_form c.read_inode-inode.result c.args.number c.in-Delta.inode c.in-Delta.kind c.in-Delta.size c.in-Delta.keep c.in-Delta.extents c.read_inode-inode.ensures.form is)
