use Rattle.std.proofs.Common.{◌+◌, ap, List, length, ◌∙◌}
use Rattle.std.specs.Prelude.{◌&&◌, nat_le}
use Rattle.std.specs.List.{list_all}
use Rattle.ufs_layout.specs.InodeForm.{is_extent}
use Rattle.ufs_layout.specs.declared.inode.Extent.{Extent}
use Rattle.ufs_name_tree.proofs.ExtentLemmas.{dir_delta_form}
use Rattle.ufs_name_tree.proofs.notes.dir_record.Goals as goal

pub returns-clause-form : goal.returns-clause-form
returns-clause-form c =
    ap (λ (es : List Extent). nat_le (0 + length es) 56 && list_all is_extent es) c.in_ok-extents_from.ensures ∙ dir_delta_form c.args.dir 0 c.as_slice.result.now c.as_slice.ensures.few c.as_slice.ensures.runs
