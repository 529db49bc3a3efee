use Rattle.std.proofs.Common.{sym, ◌∙◌, List, ℕ}
use Rattle.ufs_model.proofs.KeyLemmas.{rising_more, rising_no_more, rising_last}
use Rattle.ufs_model.specs.declared.data.PathEntry.{PathEntry}
use Rattle.ufs_model.specs.declared.data.PathNode.{PathNode}
use Rattle.ufs_model.proofs.path_tree.PathTree.are_rising.Goals as goal

abbrev paired : PathEntry → List ℕ × PathNode
paired e = (e.path, e.node)

pub loop-i-preserved : goal.loop-i-preserved
loop-i-preserved c =
    c.loop-i.invariant
    ∙ rising_more paired c.args.entries.now c.loop-i.i c.index-entries-i.result c.index-entries-i-in-loop-i.result c.loop-i.auto.i c.loop-i-test.true (cc)

pub returns-then-is_ge : goal.returns-then-is_ge
returns-then-is_ge c =
    sym (c.loop-i.invariant
    ∙ rising_no_more paired c.args.entries.now c.loop-i.i c.index-entries-i.result c.index-entries-i-in-loop-i.result c.loop-i.auto.i c.loop-i-test.true (cc))

pub returns : goal.returns
returns c = sym (c.loop-i.invariant ∙ rising_last paired c.args.entries.now c.loop-i.i c.loop-i-test.false)
