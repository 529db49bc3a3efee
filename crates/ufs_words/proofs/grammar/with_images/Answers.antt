use Rattle.std.proofs.Common.{refl, ◌∙◌}
use Rattle.std.proofs.lemmas.Result.{IfOk-weaker}
use Rattle.clap.specs.Words.{app_of}
use Rattle.ufs_words.proofs.CommandLemmas.{beside}
use Rattle.ufs_words.proofs.grammar.with_images.Goals as goal

pub returns : goal.returns
returns c =
    let one = c.in_ok-command.ensures ∙ beside (app_of c.args.command) (app_of c.args.command) _ _ refl c.in_ok-plain.ensures.app in
    let two = c.in_ok-command-2.ensures ∙ beside _ _ _ _ one c.in_ok-plain-2.ensures.app in
    let three = c.in_ok-command-3.ensures ∙ beside _ _ _ _ two c.in_ok-plain-3.ensures.app in
    IfOk-weaker c.beside-4.result _ _ (λ k h. h ∙ beside _ _ _ _ three c.in_ok-plain-4.ensures.app) c.beside-4.ensures
