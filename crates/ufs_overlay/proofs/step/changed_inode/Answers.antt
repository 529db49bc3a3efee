use Rattle.std.proofs.Common.{◌≡◌, ◌++◌, List, length, take, min, ap, ◌∙◌, refl, arith, replicate, rules}
use Rattle.ufs_layout.specs.InodeForm.{InodeForm, no_extent}
use Rattle.ufs_layout.specs.declared.inode.Extent.{Extent}
use Rattle.ufs_overlay.proofs.StepForms.{joined_front}
use Rattle.ufs_overlay.proofs.step.changed_inode.Goals as goal

pub returns : goal.returns
returns c =
    let form : List Extent → InodeForm = λ l. record { kind = c.args.kind; extents = l; size = c.args.size; number = c.args.number } in
    let used = c.used_extents-used.result.now in
    let counted : c.min-count.result ≡ min (length used) c.args.keep = search rules in
    c.from_extents.ensures
    ∙ ap form (joined_front (replicate 56 no_extent) c.put_extents.new.places c.put_extents-2.new.places used c.args.given.now (take c.min-count.result used)
    c.min-count.result c.args.keep counted (omega (arith, counted, c.requires)) refl c.put_extents.ensures c.put_extents-2.ensures)
    ∙ ap (λ (l : List Extent). form (take c.args.keep l ++ c.args.given.now)) c.used_extents-used.ensures
