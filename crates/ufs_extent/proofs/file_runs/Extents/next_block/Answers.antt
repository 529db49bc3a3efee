use Rattle.std.proofs.Common.{◌-◌, ap, sym, ◌∙◌, length, List}
use Rattle.std.specs.Prelude.{slice_get}
use Rattle.ufs_extent.specs.declared.Run.{Run}
use Rattle.ufs_extent.proofs.RunLemmas.{next_block_last}
use Rattle.ufs_extent.proofs.file_runs.Extents.next_block.Goals as goal

pub returns-in-Some : goal.returns-in-Some
returns-in-Some c =
    let e = ap (λ (zs : List Run). slice_get zs (length zs - 1)) (c.deref.ensures.value ∙ c.self.view_is) in
    sym (next_block_last c.args.self.now c.in-Some.run'.now (sym e ∙ sym c.in-Some.ensures.value))
