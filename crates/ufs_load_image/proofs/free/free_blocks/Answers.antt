use Rattle.std.proofs.Common.{ℕ, ◌≤◌, false, slice_index_or, ap, ◌∙◌, arith}
use Rattle.std.specs.FinSet as set
use Rattle.ufs_bitmap.specs.Space.{Space}
use Rattle.ufs_load_image.proofs.Left.{left_first}
use Rattle.ufs_load_image.proofs.free.free_blocks.Goals as goal

pub loop-block-init : goal.loop-block-init
loop-block-init c =
    let first : ℕ = c.first_of_data-first.result in
    let end : ℕ = c.args.geometry.now.blocks in
    let less : first ≤ end = omega (arith, c.first_of_data-first.ensures, c.requires.data_left) in
    record {
      first = ap (λ (s : Space). s.first) c.in_ok-free.ensures;
      blocks = ap (λ (s : Space). s.blocks) c.in_ok-free.ensures;
      not_past = less;
      so_far = λ b. ap (λ (s : Space). set.contains s.free b) c.in_ok-free.ensures ∙ left_first first end (λ (k : ℕ). slice_index_or c.args.taken.now k false) less b;
    }
