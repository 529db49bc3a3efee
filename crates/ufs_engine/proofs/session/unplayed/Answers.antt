use Rattle.std.proofs.Common.{sym, subst}
use Rattle.ufs_joint.specs.Cells.{Start, View}
use Rattle.ufs_joint.specs.Ends.{HoldsAll}
use Rattle.ufs_engine.proofs.Leaving.{holds_first}
use Rattle.ufs_engine.proofs.session.unplayed.Goals as goal

pub close-requires-clause-all : goal.close-requires-clause-all
close-requires-clause-all g c =
    let r = c.requires.ready in
    subst (λ (v : View). HoldsAll g.N.Naming.start v) (sym c.named-table.ensures) (subst (λ (k : Start). HoldsAll k k.view) (sym r.1) (holds_first c.dealt_law.ensures.there r.0 _ r.2))
