use Rattle.std.proofs.Common.{◌≡◌, ℕ, ◌+◌, ◌-◌, ◌≤◌, ap, sym, ◌∙◌, arith}
use Rattle.std.specs.FinSet as set
use Rattle.ufs_bitmap.specs.Blocks.{BlockSet}
use Rattle.ufs_bitmap.proofs.SetLemmas.{union_none}
use Rattle.ufs_extent.specs.Runs.{blocks_from}
use Rattle.ufs_pouring.proofs.Lemmas.{union_next}
use Rattle.ufs_pouring.proofs.pouring.add_run.Goals as goal

pub loop-block-init : goal.loop-block-init
loop-block-init c =
    let first : ℕ = c.args.run.start in
    let none : 0 ≡ first - first = omega arith in
    record { so_far = union_none c.args.pool.now first ∙ ap (λ (n : ℕ). set.union c.args.pool.now (set.from_list (blocks_from first n))) none; from = omega arith; not_past = omega arith }

pub loop-block-preserved : goal.loop-block-preserved
loop-block-preserved c =
    let first : ℕ = c.args.run.start in
    let from = c.loop-block.invariant.from in
    record {
      so_far = c.add_block.ensures ∙ ap (λ (s : BlockSet). set.insert s c.loop-block.block) c.loop-block.invariant.so_far ∙ union_next c.args.pool.now first c.loop-block.block from;
      from = omega (arith, from);
      not_past = omega arith;
    }

pub returns : goal.returns
returns c =
    let first : ℕ = c.args.run.start in
    let up = c.loop-block.invariant.not_past in
    let e : c.loop-block.block - first ≡ c.args.run.length = omega arith in
    c.loop-block.invariant.so_far ∙ ap (λ (n : ℕ). set.union c.args.pool.now (set.from_list (blocks_from first n))) e
