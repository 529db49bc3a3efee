use Rattle.std.proofs.Common.{◌≡◌, ℕ, ◌+◌, ◌-◌, false, ap, sym, ◌∙◌, arith}
use Rattle.std.specs.FinSet as set
use Rattle.ufs_extent.specs.Runs.{blocks_from}
use Rattle.ufs_bitmap.specs.Words.{Members}
use Rattle.ufs_bitmap.proofs.SetLemmas.{union_none, union_more, not_yet_in}
use Rattle.ufs_bitmap.proofs.word_set.WordSet.insert_all.Goals as goal

pub loop-block-init : goal.loop-block-init
loop-block-init c =
    let none : 0 ≡ c.args.first - c.args.first = omega arith in
    record { not_past = omega arith; so_far = λ i. record c.args.self.now { blocks = (union_none c.args.self.now.blocks c.args.first ∙ ap (λ (n : ℕ). set.union c.args.self.now.blocks (set.from_list (blocks_from c.args.first n))) none) i } }

pub insert-requires-clause-absent : goal.insert-requires-clause-absent
insert-requires-clause-absent c =
    let s = c.args.self.now.blocks in
    let a = c.args.first in
    let b : ℕ = c.loop-block.block in
    let e : b ≡ a + (b - a) = omega arith in
    let old : set.contains s (a + (b - a)) ≡ false = rw (← e) (c.requires.absent b (omega arith) (omega arith)) in
    ap (λ (m : Members). set.contains m.blocks b) c.loop-block.invariant.so_far
    ∙ ap (λ (k : ℕ). set.contains (set.union s (set.from_list (blocks_from a (b - a)))) k) e
    ∙ not_yet_in s a (b - a) old

pub loop-block-preserved : goal.loop-block-preserved
loop-block-preserved c =
    let s = c.args.self.now.blocks in
    let a = c.args.first in
    let b : ℕ = c.loop-block.block in
    let e : a + (b - a) ≡ b = omega arith in
    let f : b - a + 1 ≡ b + 1 - a = omega arith in
    record {
      not_past = omega arith;
      so_far =
          c.insert.ensures
          ∙ ap (λ (m : Members). let r : Members = record m { blocks = set.insert m.blocks b } in r) c.loop-block.invariant.so_far
          ∙ (λ i. record c.args.self.now {
            blocks = (sym (union_more s a (b - a) ∙ ap (λ (k : ℕ). set.insert (set.union s (set.from_list (blocks_from a (b - a)))) k) e)
                ∙ ap (λ (n : ℕ). set.union s (set.from_list (blocks_from a n))) f) i;
          });
    }

pub returns : goal.returns
returns c =
    let e : c.loop-block.block - c.args.first ≡ c.args.end - c.args.first = omega arith in
    c.loop-block.invariant.so_far
    ∙ (λ i. record c.args.self.now { blocks = set.union c.args.self.now.blocks (set.from_list (blocks_from c.args.first (e i))) })
