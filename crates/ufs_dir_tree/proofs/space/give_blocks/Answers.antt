use Rattle.std.proofs.lemmas.List.{take_all}
use Rattle.std.proofs.Common.{ℕ, List, get_or, subst}
use Rattle.ufs_dir_tree.proofs.GivenBlocks.{HasGiven, given_none, given_next, given_all, listed, not_given}
use Rattle.ufs_dir_tree.proofs.space.give_blocks.Goals as goal

pub loop-block-init : goal.loop-block-init
loop-block-init c = given_none c.args.pool.now

pub give_block-requires-clause-absent : goal.give_block-requires-clause-absent
give_block-requires-clause-absent c =
    let i = c.loop-block.block-index in
    let blocks = c.args.blocks.now in
    not_given c.loop-block.pool c.args.pool.now blocks i c.loop-block-test.true c.requires.once c.loop-block.invariant (c.requires.absent (get_or blocks i 0) (listed blocks i c.loop-block-test.true))

pub loop-block-preserved : goal.loop-block-preserved
loop-block-preserved c = given_next c.loop-block.pool c.args.pool.now c.give_block.new.pool c.args.blocks.now c.loop-block.block-index c.loop-block-test.true c.loop-block.invariant c.give_block.ensures

pub returns : goal.returns
returns c =
    let whole = take_all c.loop-block.block-index c.args.blocks.now c.loop-block-test.false in
    given_all c.loop-block.pool c.args.pool.now c.args.blocks.now (subst (λ (l : List ℕ). HasGiven c.loop-block.pool c.args.pool.now l) whole c.loop-block.invariant)
