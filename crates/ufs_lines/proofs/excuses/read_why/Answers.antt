use Rattle.std.proofs.Common.{◌≡◌, ◌++◌, ℕ, List, Ok, None, Option, IfSome, ap, sym, subst, ◌∙◌, refl, false, true}
use Rattle.std.specs.Prelude.{codes}
use Rattle.ufs_model.specs.Excuses.{is_memory}
use Rattle.ufs_model.specs.declared.data.Excuse.{Excuse}
use Rattle.ufs_script.specs.Output.{excuse_words}
use Rattle.ufs_lines.specs.Trace.{IsExcuse}
use Rattle.ufs_lines.proofs.CutLemmas.{none_left, some_left}
use Rattle.ufs_lines.proofs.WordLemmas.{no_why, no_excuse}
use Rattle.ufs_lines.proofs.excuses.read_why.Goals as goal

pub returns-in_default-clause-none : goal.returns-in_default-clause-none
returns-in_default-clause-none c = λ none. no_why c.args.tail.now (some_left c.args.tail.now c.if-is_empty.ensures) (c.in_default.ensures.none refl)

pub returns-in_default-2-clause-none : goal.returns-in_default-2-clause-none
returns-in_default-2-clause-none c = λ none.
    no_excuse c.args.tail.now c.in-Some.words.now c.in-Some.ensures.some (λ is. let bad = c.if-same_bytes.ensures.1 is in cc) (c.in_ok-excuse.ensures.none (ap Ok c.in_default-2.is))
