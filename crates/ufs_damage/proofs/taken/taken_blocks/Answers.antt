use Rattle.std.proofs.Common.{◌≡◌, false, length, ap, sym, ◌∙◌}
use Rattle.std.specs.Prelude.{slice_index_or}
use Rattle.ufs_layout.specs.Areas.{first_of_data}
use Rattle.ufs_image.specs.Nodes.{is_taken, sound_nodes}
use Rattle.ufs_damage.specs.Kinds.{nodes_in}
use Rattle.ufs_damage.specs.Taken.{taken_marks}
use Rattle.ufs_damage.proofs.AllDamage.{nodes_are}
use Rattle.ufs_damage.proofs.UsedBlocks.{are_taken, marks_length}
use Rattle.ufs_damage.proofs.taken.taken_blocks.Goals as goal

pub returns-clause-sized : goal.returns-clause-sized
returns-clause-sized c =
    ap length c.in_ok-marks.ensures ∙ marks_length c.first_of_data.result c.as_slice.result.now ∙ ap length c.as_slice.ensures.value ∙ c.in_ok-held.ensures.sized

pub returns-clause-taken : goal.returns-clause-taken
returns-clause-taken c image are block =
    let g = c.args.geometry.now in
    let nodes : nodes_in g c.forms.result.now ≡ sound_nodes g image = nodes_are g image c.forms.result.now (c.forms.ensures ∙ are.forms) in
    let marks : c.in_ok-marks.marks.items ≡ taken_marks (first_of_data g) c.in_ok-held.held.items = c.in_ok-marks.ensures ∙ (λ t. taken_marks (c.first_of_data.ensures t) (c.as_slice.ensures.value t)) in
    ap (λ ns. is_taken g ns block) (sym nodes) ∙ are_taken g c.requires.geometry c.forms.result.now c.in_ok-held.held.items c.in_ok-held.ensures.sized c.in_ok-held.ensures.held block
    ∙ ap (λ ms. slice_index_or ms block false) (sym marks)
