use Rattle.std.proofs.Common.{◌≡◌, ◌∙◌, refl, subst}
use Rattle.ufs_script.specs.Script.{IsOutside}
use Rattle.ufs_script.specs.Reading.{ReadsBreak}
use Rattle.ufs_script.specs.declared.fault.ScriptFault.{ScriptFault}
use Rattle.ufs_plain.proofs.serving.replies.Goals as goal

pub returns-in-Err-clause-broken : goal.returns-in-Err-clause-broken
returns-in-Err-clause-broken g c f is =
    let same : c.in-Err.fault ≡ f = cc in
    subst (λ (e : ScriptFault). ¬ IsOutside e → ReadsBreak (g.S.Source.left c.args.source.now) (g.S.Source.left c.read_script.new.source) e) same (c.in-Err.ensures.broken c.in-Err.fault refl)
