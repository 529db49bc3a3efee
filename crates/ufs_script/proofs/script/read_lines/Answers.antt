use Rattle.std.proofs.lemmas.Result.{err_from_is_err_and}
use Rattle.ufs_script.specs.Lines.{ended_lines, unended_line}
use Rattle.ufs_script.proofs.FoldLemmas.{break_before}
use Rattle.ufs_script.proofs.script.read_lines.Goals as goal

pub returns-in_err-draft-clause-err : goal.returns-in_err-draft-clause-err
returns-in_err-draft-clause-err c =
    let p = err_from_is_err_and c.from_residual.result c.from_residual.ensures.1 in
    rw (p.1, p.2) (break_before (ended_lines c.args.text.now) (unended_line c.args.text.now) c.in_err-draft.field-0.0 c.in_err-draft.ensures.err)
