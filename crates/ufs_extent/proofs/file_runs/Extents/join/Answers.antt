use Rattle.std.proofs.Common.{◌≡◌, ◌+◌, ◌-◌, Some, length, ap, ◌∙◌, arith, List, length-set}
use Rattle.ufs_extent.specs.declared.Run.{Run}
use Rattle.ufs_extent.specs.Runs.{next_block, appended}
use Rattle.ufs_extent.proofs.RunLemmas.{joined, set-last, All-set_last, length-next_block}
use Rattle.ufs_extent.proofs.file_runs.Extents.join.Goals as goal

pub invariant_of-self : goal.invariant_of-self
invariant_of-self c =
    let xs = c.self.inside.runs.items in
    let follows : next_block xs ≡ Some c.args.run.start = ap next_block c.self.view_is ∙ c.requires.follows in
    let last : c.len-last.result - 1 + 1 ≡ length xs = omega (arith, length-next_block xs c.args.run.start follows) in
    let before = c.index-before.result.now in (
      omega (arith, length-set xs (c.len-last.result - 1) (joined before c.args.run)),
      c.self.invariant.1,
      All-set_last xs (c.len-last.result - 1) before c.args.run last c.index-before.ensures follows c.requires.run c.self.invariant.2,
    )

pub returns : goal.returns
returns c =
    let xs = c.self.inside.runs.items in
    let follows : next_block xs ≡ Some c.args.run.start = ap next_block c.self.view_is ∙ c.requires.follows in
    let last : c.len-last.result - 1 + 1 ≡ length xs = omega (arith, length-next_block xs c.args.run.start follows) in
    set-last xs (c.len-last.result - 1) c.index-before.result.now c.args.run last c.index-before.ensures follows
    ∙ ap (λ (zs : List Run). appended zs c.args.run) c.self.view_is
