use Rattle.std.proofs.Common.{◌≡◌, [], IfSome, Some, None, Option, is_some, sym, ◌∙◌}
use Rattle.ufs_model.specs.Asks.{IsAsk}
use Rattle.ufs_model.specs.FileCalls.{place_refusal, step_by}
use Rattle.ufs_model.specs.PosixTree.{PosixTree}
use Rattle.ufs_model.specs.declared.data.Ask.{Ask}
use Rattle.ufs_model.specs.declared.data.Desc.{Desc}
use Rattle.ufs_client.specs.Own.{IsOwnAnswer, is_own_seek}
use Rattle.ufs_client.specs.declared.own.OwnAnswer.{OwnAnswer}
use Rattle.ufs_client.proofs.OwnLemmas.{seek_asked}
use Rattle.ufs_client.proofs.own.answer_own.Goals as goal

pub returns-in-Some-desc-clause-posix : goal.returns-in-Some-desc-clause-posix
returns-in-Some-desc-clause-posix c = by c.seek_own.result c.seek_own.ensures.own c.seek_own.ensures.reply c.seek_own.ensures.desc
  where
    ask : Ask
    ask = c.args.ask.now

    d : Desc
    d = c.in-Some-desc.desc

    by : (o : Option OwnAnswer) → is_some o ≡ is_own_seek ask.op → IfSome o (λ answer. answer.reply ≡ (step_by [] d ask.op (place_refusal [] d ask.op)).reply)
        → IfSome o (λ answer. answer.desc ≡ Some (step_by [] d ask.op (place_refusal [] d ask.op)).desc) → IfSome o (λ answer. (t : PosixTree) → IsAsk t ask → IsOwnAnswer t ask.client ask.op answer.reply answer.desc)
    by None own reply desc = tt
    by (Some answer) own reply desc = λ t asked.
        seek_asked t ask d answer.reply answer.desc (sym own) asked c.in-Some-desc.is (sym (c.own_refusal.ensures t ask.client asked.desc asked.fd) ∙ c.in_default.is) reply desc
