use Rattle.std.proofs.Common.{List, ap, sym, ◌∙◌, length}
use Rattle.ufs_file_commits.specs.State.{DurableState, state_of}
use Rattle.ufs_extent.specs.Runs.{blocks_of}
use Rattle.ufs_extent.specs.declared.Run.{Run}
use Rattle.ufs_file.specs.Content.{block_count}
use Rattle.ufs_serving.proofs.Again.{cell_again, held_again}
use Rattle.ufs_serving.proofs.measure.measured.Goals as goal

pub new-requires-clause-held : goal.new-requires-clause-held
new-requires-clause-held g c = held_again c.args.held (state_of c.into_parts-hand.result.0 c.into_parts-hand.result.1) c.into_parts-hand.result.2 c.into_parts-hand.ensures.value c.into_parts-hand.ensures.hand

pub returns-clause-same : goal.returns-clause-same
returns-clause-same g c = c.new.ensures ∙ cell_again c.args.held (state_of c.into_parts-hand.result.0 c.into_parts-hand.result.1) c.into_parts-hand.result.2 c.into_parts-hand.ensures.value c.into_parts-hand.ensures.hand

pub returns-clause-wanted : goal.returns-clause-wanted
returns-clause-wanted g c = λ f long runs allowed.
    let file = ap (λ (q : DurableState). length q.file.content.bytes) c.into_parts-hand.ensures.value in
    let lies = ap (λ (q : DurableState). length (blocks_of q.file.extents)) c.into_parts-hand.ensures.value in
    c.blocks_wanted-wanted.ensures f (long ∙ file ∙ sym c.size.ensures.size) (ap (λ (r : List Run). length (blocks_of r)) runs ∙ lies ∙ c.size.ensures.blocks ∙ ap block_count (sym c.size.ensures.size)) allowed
