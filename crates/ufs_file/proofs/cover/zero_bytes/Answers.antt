use Rattle.std.proofs.Common.{◌+◌, length, ap, ◌∙◌}
use Rattle.std.proofs.lemmas.List.{length_push}
use Rattle.std.proofs.lemmas.List.Elements.{All-push, All-same}
use Rattle.ufs_file.specs.Table.{IsZeros}
use Rattle.ufs_file.proofs.cover.zero_bytes.Goals as goal

pub loop-made-preserved : goal.loop-made-preserved
loop-made-preserved c = record {
  zeros = All-same IsZeros _ _ c.in_ok-push.ensures.items
      (All-push IsZeros c.loop-made.spare.items c.in_ok-vec.field-0 c.loop-made.invariant.zeros (c.in_ok-vec.ensures.items_if_clones_equal (λ y e. e)));
  count = ap length c.in_ok-push.ensures.items ∙ length_push c.loop-made.spare.items c.in_ok-vec.field-0 ∙ ap (λ k. k + 1) c.loop-made.invariant.count;
}
