use Rattle.std.proofs.Common.{◌≡◌, ℕ, ◌+◌, ◌-◌, true, ap, sym, ◌∙◌, arith}
use Rattle.std.specs.FinSet as set
use Rattle.ufs_extent.specs.Runs.{blocks_from}
use Rattle.ufs_bitmap.specs.Words.{Members}
use Rattle.ufs_bitmap.proofs.SetLemmas.{difference_none, difference_more, not_yet_out}
use Rattle.ufs_bitmap.proofs.word_set.WordSet.claim.Goals as goal

pub loop-block-init : goal.loop-block-init
loop-block-init c =
    let none : 0 ≡ c.args.run.start - c.args.run.start = omega arith in
    λ i. record c.args.self.now { blocks = (difference_none c.args.self.now.blocks c.args.run.start ∙ ap (λ (n : ℕ). set.difference c.args.self.now.blocks (set.from_list (blocks_from c.args.run.start n))) none) i }

pub remove-requires : goal.remove-requires
remove-requires c =
    let s = c.args.self.now.blocks in
    let a = c.args.run.start in
    let b : ℕ = c.loop-block.block in
    let e : b ≡ a + (b - a) = omega arith in
    let old : set.contains s (a + (b - a)) ≡ true = rw (← e) (c.requires.held b (omega arith) (omega arith)) in
    ap (λ (m : Members). set.contains m.blocks b) c.loop-block.invariant
    ∙ ap (λ (k : ℕ). set.contains (set.difference s (set.from_list (blocks_from a (b - a)))) k) e
    ∙ not_yet_out s a (b - a) ∙ old

pub loop-block-preserved : goal.loop-block-preserved
loop-block-preserved c =
    let s = c.args.self.now.blocks in
    let a = c.args.run.start in
    let b : ℕ = c.loop-block.block in
    let e : a + (b - a) ≡ b = omega arith in
    let f : b - a + 1 ≡ b + 1 - a = omega arith in
    c.remove.ensures
    ∙ ap (λ (m : Members). let r : Members = record m { blocks = set.remove m.blocks b } in r) c.loop-block.invariant
    ∙ (λ i. record c.args.self.now {
      blocks = (sym (difference_more s a (b - a) ∙ ap (λ (k : ℕ). set.remove (set.difference s (set.from_list (blocks_from a (b - a)))) k) e)
          ∙ ap (λ (n : ℕ). set.difference s (set.from_list (blocks_from a n))) f) i;
    })
