use Rattle.std.proofs.Common.{ap, sym, ◌∙◌, List}
use Rattle.std.proofs.lemmas.List.{take_all}
use Rattle.ufs_extent.specs.declared.Run.{Run}
use Rattle.ufs_extent.specs.Places.{block_count}
use Rattle.ufs_extent.proofs.RunLemmas.{length-blocks_of}
use Rattle.ufs_extent.proofs.file_runs.count_blocks.Goals as goal

pub returns : goal.returns
returns c =
    c.loop-run.invariant.so_far
    ∙ ap (λ (zs : List Run). block_count zs) (take_all c.loop-run.run-index c.args.runs.now c.loop-run-test.false)
    ∙ sym (length-blocks_of c.args.runs.now)
