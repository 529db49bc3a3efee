use Rattle.std.proofs.Common.{◌≢◌, ap, sym, ◌∙◌, List, Some, ◌++◌, ◌∷◌, []}
use Rattle.ufs_extent.specs.declared.Run.{Run}
use Rattle.ufs_extent.specs.Runs.{blocks_of, next_block}
use Rattle.ufs_extent.proofs.RunLemmas.{other_block, appended_adds, blocks_of-appended}
use Rattle.ufs_extent.proofs.file_runs.Extents.append.Goals as goal

pub returns-then-eq-clause-blocks : goal.returns-then-eq-clause-blocks
returns-then-eq-clause-blocks c = ap blocks_of c.join.ensures ∙ blocks_of-appended c.args.self.now c.args.run

pub returns-clause-ok : goal.returns-clause-ok
returns-clause-ok c =
    let apart : next_block c.args.self.now ≢ Some c.args.run.start =
    λ e. other_block c.next_block.result c.args.run.start (sym c.eq.ensures ∙ c.if-eq.false) (c.next_block.ensures ∙ e) in
    rw c.unwrap.ensures at c.push.ensures.items
    ∙ ap (λ (zs : List Run). zs ++ c.args.run ∷ []) c.self.view_is
    ∙ sym (appended_adds c.args.self.now c.args.run apart)

pub returns-clause-blocks : goal.returns-clause-blocks
returns-clause-blocks c = ap blocks_of (returns-clause-ok c) ∙ blocks_of-appended c.args.self.now c.args.run
