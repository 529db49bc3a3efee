use Rattle.std.proofs.Common.{◌≡◌, Some, true, ap, arith}
use Rattle.std.proofs.lemmas.Grind.{common_steps}
use Rattle.ufs_layout.specs.DentryForm.{DentryForm, is_named}
use Rattle.ufs_damage.proofs.Marked.{one_named}
use Rattle.ufs_damage.proofs.names.mark_name.Goals as goal

pub returns-then-inode-marks : goal.returns-then-inode-marks
returns-then-inode-marks c held are =
    let found : c.args.slot.now ≡ Some c.in-Some.found = cc in
    let named : is_named c.in-Some.found ≡ true = grind (arith, common_steps) in
    one_named c.mark.new.marks held c.args.dir c.args.slot.now c.in-Some.found c.found.inside.inode found (ap (λ (d : DentryForm). d.inode) c.found.view_is) named (c.mark.ensures held are)
