use Rattle.std.proofs.Common.{◌↔◌, IfOk, IsTrue, subst}
use Rattle.ufs_model.specs.History.{IsReplyTo}
use Rattle.ufs_model.specs.PosixTree.{PosixTree}
use Rattle.ufs_tree.proofs.tree.Tree.legal_step.Goals as goal

pub returns-clause-legal : goal.returns-clause-legal
returns-clause-legal c =
    subst (λ (t : PosixTree). IfOk c.legal_step.result (λ told. IsTrue told ↔ IsReplyTo t c.args.entry.now)) c.self.view_is c.legal_step.ensures.legal
