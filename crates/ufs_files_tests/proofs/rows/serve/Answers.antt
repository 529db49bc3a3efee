use Rattle.std.proofs.Common.{◌≡◌, ◌∙◌, Option, Some, None, sym, subst, rules, true}
use Rattle.ufs_file.specs.Hand.{HasNeeded}
use Rattle.ufs_model.specs.FileCalls.{file_refusal}
use Rattle.ufs_model.specs.declared.data.Desc.{Desc}
use Rattle.ufs_files_tests.proofs.rows.serve.Goals as goal

pub apply-done-requires-clause-there : goal.apply-done-requires-clause-there
apply-done-requires-clause-there c d is =
    let yes : c.is_ready.result ≡ true = search rules in
    let same : c.args.desc ≡ d = cc in
    subst (λ (e : Desc). file_refusal c.args.hand.now.content.bytes e c.args.op ≡ None → HasNeeded c.args.hand.now.content e c.args.op) same (c.is_ready.ensures.needed yes)
