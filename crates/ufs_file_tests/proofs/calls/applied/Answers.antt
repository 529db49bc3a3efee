use Rattle.std.proofs.Common.{◌≡◌, ◌∙◌, Option, Some, None, sym, subst, rules, true}
use Rattle.ufs_file.specs.Hand.{HasNeeded}
use Rattle.ufs_model.specs.FileCalls.{file_refusal}
use Rattle.ufs_model.specs.declared.data.Desc.{Desc}
use Rattle.ufs_file_tests.proofs.calls.applied.Goals as goal

pub apply-entry-requires-clause-there : goal.apply-entry-requires-clause-there
apply-entry-requires-clause-there c d is =
    let yes : c.is_ready.result ≡ true = search rules in
    let same : c.args.desc ≡ d = cc in
    subst (λ (e : Desc). file_refusal c.args.file.now.content.bytes e c.args.op ≡ None → HasNeeded c.args.file.now.content e c.args.op) same (c.is_ready.ensures.needed yes)
