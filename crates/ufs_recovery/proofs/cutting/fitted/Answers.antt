use Rattle.std.proofs.Common.{◌≡◌, ◌≤◌, List, length, take, IsTrue, ap, sym, ◌∙◌, subst, arith}
use Rattle.std.proofs.lemmas.List.{length-take}
use Rattle.ufs_layout.specs.InodeForm.{InodeForm, is_inode}
use Rattle.ufs_layout.specs.declared.inode.Extent.{Extent}
use Rattle.ufs_recovery.specs.Fitted.{first_extents}
use Rattle.ufs_recovery.proofs.FirstBlocks.{first_few, short_form}
use Rattle.ufs_recovery.proofs.cutting.fitted.Goals as goal

pub from_extents-requires : goal.from_extents-requires
from_extents-requires c =
    let used = take c.from.result c.form.inside.extents in
    let same = c.deref.ensures.value ∙ c.in_ok-kept.ensures in
    let least = first_few used c.div_ceil-count.result in
    let long = length-take c.from.result c.form.inside.extents in
    let at = c.from.ensures in
    let counted = c.form.invariant.counted in
    subst (λ (es : List Extent). length es ≤ 56) (sym same) (omega (arith, least, long, counted, at))

pub returns-clause-spelled : goal.returns-clause-spelled
returns-clause-spelled c =
    let used = take c.from.result c.form.inside.extents in
    let long = length-take c.from.result c.form.inside.extents in
    let at = c.from.ensures in
    let counted = c.form.invariant.counted in
    let few : length (take c.from.result c.form.inside.extents) ≤ 56 = omega (arith, long, counted, at) in
    let file : c.form.inside.kind ≡ 1 = ap (λ (f : InodeForm). f.kind) c.form.view_is ∙ c.requires in
    let whole : InodeForm = record { kind = c.form.inside.kind; extents = take c.from.result c.form.inside.extents; size = c.form.inside.size; number = c.form.inside.number } in
    let kept = c.deref.ensures.value ∙ c.in_ok-kept.ensures in
    let same : c.from_extents.result ≡ record whole { extents = first_extents used c.div_ceil-count.result } = c.from_extents.ensures
    ∙ (λ i. record { kind = c.form.inside.kind; extents = kept i; size = c.form.inside.size; number = c.form.inside.number }) in
    subst (λ (f : InodeForm). IsTrue (is_inode f)) (sym same) (short_form whole c.div_ceil-count.result file few)
