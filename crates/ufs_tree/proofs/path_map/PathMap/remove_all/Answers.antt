use Rattle.std.proofs.Common.{ap, ◌∙◌, List, ℕ}
use Rattle.std.specs.FinMap as map
use Rattle.ufs_model.specs.declared.data.Node.{Node}
use Rattle.ufs_tree.proofs.MovedLemmas.{taken_more}
use Rattle.ufs_tree.proofs.path_map.PathMap.remove_all.Goals as goal

pub loop-entry-preserved : goal.loop-entry-preserved
loop-entry-preserved c =
    taken_more c.args.nodes.now c.loop-entry.entry-index c.entry-item.result c.loop-entry-test.true c.loop-entry.self c.remove.new.self c.args.self.now c.loop-entry.invariant
    (c.remove.ensures ∙ ap (map.remove c.loop-entry.self) (c.as_slice.ensures ∙ ap (λ (e : List ℕ × Node). e.0) c.entry-item.is))
