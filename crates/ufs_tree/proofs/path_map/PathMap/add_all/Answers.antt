use Rattle.std.proofs.Common.{ap, ◌∙◌, List, ℕ, take}
use Rattle.std.specs.FinMap as map
use Rattle.ufs_model.specs.PosixTree.{Paths}
use Rattle.ufs_model.specs.declared.data.Node.{Node}
use Rattle.ufs_tree.specs.Moved.{taken_away}
use Rattle.ufs_tree.proofs.MovedLemmas.{absent_yet, put_more, undone}
use Rattle.ufs_tree.proofs.path_map.PathMap.add_all.Goals as goal

pub add_copy-requires-clause-absent : goal.add_copy-requires-clause-absent
add_copy-requires-clause-absent c =
    ap (map.get c.loop-i.self) (c.as_slice.ensures ∙ ap (λ (e : List ℕ × Node). e.0) c.index-nodes-i.is)
    ∙ absent_yet c.args.nodes.now c.loop-i.i c.index-nodes-i.result c.loop-i-test.true c.loop-i.self c.args.self.now c.requires.rising c.loop-i.invariant
    (c.requires.absent c.loop-i.i c.index-nodes-i.result c.loop-i-test.true)

pub loop-i-preserved : goal.loop-i-preserved
loop-i-preserved c =
    put_more c.args.nodes.now c.loop-i.i c.index-nodes-i.result c.loop-i-test.true c.loop-i.self c.add_copy.new.self c.args.self.now c.requires.rising c.loop-i.invariant
    (c.in_default.ensures.ok ∙ ap (λ p. map.insert c.loop-i.self p c.index-nodes-i.result.1) c.as_slice.ensures ∙ ap (λ (e : List ℕ × Node). map.insert c.loop-i.self e.0 e.1) c.index-nodes-i.is)

pub returns-in-Err-clause-err : goal.returns-in-Err-clause-err
returns-in-Err-clause-err c =
    undone c.loop-i.self c.args.self.now c.remove_all.new.self c.args.nodes.now c.loop-i.i c.requires.absent c.loop-i.invariant
    (λ q. c.remove_all.ensures q ∙ ap (λ (m : Paths). taken_away (take c.loop-i.i c.args.nodes.now) (map.get m q) q) c.in-Err.ensures.err)
