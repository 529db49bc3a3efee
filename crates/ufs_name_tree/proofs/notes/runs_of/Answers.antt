use Rattle.std.proofs.Common.{◌≡◌, ◌≢◌, Some, List, length, take, get_or, ap, sym, refl, ◌∙◌}
use Rattle.ufs_extent.specs.declared.Run.{Run}
use Rattle.ufs_extent.specs.Runs.{next_block, appended}
use Rattle.ufs_dir_tree.specs.Space.{one_block, extents_of}
use Rattle.ufs_name_tree.proofs.ExtentLemmas.{next_extent, no_more}
use Rattle.ufs_name_tree.proofs.notes.runs_of.Goals as goal

pub unreachable-requires : goal.unreachable-requires
unreachable-requires c =
    let i = c.loop-block.block-index in
    let is : c.loop-block.runs ≡ extents_of (take i c.args.blocks.now) = c.loop-block.invariant in
    let full = c.in-Err.ensures.full.0 refl in
    let apart : next_block (extents_of (take i c.args.blocks.now)) ≢ Some (get_or c.args.blocks.now i 0) = λ e. full.0 (ap next_block is ∙ e) in
    no_more i c.args.blocks.now c.loop-block-test.true c.requires.few apart (ap (λ (rs : List Run). length rs) (sym is) ∙ full.1)

pub loop-block-preserved : goal.loop-block-preserved
loop-block-preserved c =
    let i = c.loop-block.block-index in
    let is : c.loop-block.runs ≡ extents_of (take i c.args.blocks.now) = c.loop-block.invariant in
    c.in-Ok.ensures.ok ∙ ap (λ (rs : List Run). appended rs (one_block (get_or c.args.blocks.now i 0))) is ∙ sym (next_extent i c.args.blocks.now c.loop-block-test.true)
