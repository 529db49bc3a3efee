use Rattle.ufs_damage.proofs.AllDamage.{all_told}
use Rattle.ufs_damage.proofs.telling.damage_of.Goals as goal

pub returns : goal.returns
returns c image are =
    all_told c.args.geometry.now image c.args.findings.now are c.forms-forms.result.now c.dirs-dirs.result.now c.forms-forms.ensures c.dirs-dirs.ensures _ _ _ _ _ _ _ _ _ c.new-list.ensures
    c.in_ok-push_forms.ensures c.in_ok-push_forms-2.ensures c.in_ok-push_shared.ensures c.in_ok-push_forms-3.ensures c.in_ok-push_slots.ensures c.in_ok-push_slots-2.ensures c.in_ok-push_twice.ensures c.in_ok-push_two_names.ensures
