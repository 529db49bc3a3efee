use Rattle.std.proofs.Common.{◌≡◌, Some, sym, ◌∙◌}
use Rattle.ufs_damage.proofs.Marked.{sound_marks}
use Rattle.ufs_damage.proofs.shared.mark_inode.Goals as goal

pub returns-then-is_sound : goal.returns-then-is_sound
returns-then-is_sound c held are =
    let found : c.args.form.now ≡ Some c.in-Some.found = cc in
    sound_marks c.mark_extents.new.marks held c.args.geometry.now c.args.inode c.args.form.now c.in-Some.found c.used_extents.result.now found (sym c.is_sound.ensures.value ∙ c.if-is_sound.true) c.used_extents.ensures (c.mark_extents.ensures held are)
