use Rattle.std.proofs.Common.{sym}
use Rattle.std.proofs.lemmas.Result.{IfOk-weaker}
use Rattle.ufs_tree.specs.Parts.{tree_of}
use Rattle.ufs_tree.proofs.ReplyLemmas.{excuse_is_reply, other_is_reply}
use Rattle.ufs_tree.proofs.tree.Parts.legal_step.Goals as goal

pub returns-in_ok-excuse_fits-in-Some-clause-legal : goal.returns-in_ok-excuse_fits-in-Some-clause-legal
returns-in_ok-excuse_fits-in-Some-clause-legal c =
    let e = c.args.entry.now in
    excuse_is_reply (tree_of c.args.self.now) e.client e.op e.reply c.in-Some.excuse _ (sym c.in-Some.ensures) c.in_ok-excuse_fits-in-Some.ensures

pub returns-in-None-clause-legal : goal.returns-in-None-clause-legal
returns-in-None-clause-legal c =
    let e = c.args.entry.now in
    IfOk-weaker c.reply_step.result _ _
    (λ told same. other_is_reply (tree_of c.args.self.now) e.client e.op e.reply told (sym c.in-None.ensures) same)
    c.reply_step.ensures.legal
