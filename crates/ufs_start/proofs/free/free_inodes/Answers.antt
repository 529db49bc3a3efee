use Rattle.std.proofs.Common.{ℕ, ◌≤◌, ◌+◌, ap, ◌∙◌, arith}
use Rattle.std.specs.FinSet as set
use Rattle.ufs_bitmap.specs.Space.{Space}
use Rattle.ufs_start.specs.Tables.{is_used_in}
use Rattle.ufs_load_image.proofs.Left.{left_first}
use Rattle.ufs_start.proofs.free.free_inodes.Goals as goal

pub loop-inode-init : goal.loop-inode-init
loop-inode-init c =
    let end : ℕ = c.args.geometry.now.inodes + 1 in
    let less : 2 ≤ end = omega (arith, c.requires.geometry.least_inodes) in
    record {
      first = ap (λ (s : Space). s.first) c.in_ok-free.ensures;
      blocks = ap (λ (s : Space). s.blocks) c.in_ok-free.ensures;
      not_past = less;
      so_far = λ b. ap (λ (s : Space). set.contains s.free b) c.in_ok-free.ensures ∙ left_first 2 end (is_used_in c.args.forms.now) less b;
    }
