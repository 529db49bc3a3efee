use Rattle.std.proofs.Common.{ap, ◌∙◌, subst, map, string_bytes}
use Rattle.std.proofs.lemmas.Result.{IfOk-weaker}
use Rattle.clap.specs.Words.{App, FailsBy, fault_of, is_simple, is_simple_and_free, subcommand_of}
use Rattle.ufs_words.proofs.Simple.{simple, free}
use Rattle.ufs_words.proofs.command.parsed.Goals as goal

pub returns-clause-values : goal.returns-clause-values
returns-clause-values c =
    let is = c.in_ok-command.ensures in
    let parse = c.try_get_matches_from in
    IfOk-weaker parse.result _ _ (λ m h. (h (ap is_simple is ∙ simple)).1 ∙ ap (λ (a : App). subcommand_of a (map string_bytes c.args.words.now)) is) parse.ensures.matches

pub returns-clause-faults : goal.returns-clause-faults
returns-clause-faults c =
    let is = c.in_ok-command.ensures in
    let parse = c.try_get_matches_from in
    subst (λ (a : App). FailsBy (fault_of a (map string_bytes c.args.words.now)) parse.result) is (parse.ensures.kinds (ap is_simple_and_free is ∙ free))
