use Rattle.std.proofs.Common.{◌≡◌, Err, refl, subst, sym}
use Rattle.ufs_script.specs.Script.{IsOutside}
use Rattle.ufs_script.specs.declared.fault.ScriptFault.{ScriptFault}
use Rattle.ufs_script.specs.declared.fault.ScriptFault.TheVariants as fault
use Rattle.ufs_command.specs.Unscheduled.{BreaksUnscheduled}
use Rattle.ufs_command.proofs.UnscheduledLemmas.{breaks, reads, refuses}
use Rattle.ufs_command.proofs.serving.read_unscheduled.Goals as goal

pub returns-in-Err-clause-broken : goal.returns-in-Err-clause-broken
returns-in-Err-clause-broken g c f is inside =
    let same : c.in-Err.fault ≡ f = cc in
    subst (λ (e : ScriptFault). BreaksUnscheduled (g.S.Source.left c.args.source.now) (g.S.Source.left c.read_placed.new.source) e) same
    (breaks (g.S.Source.left c.args.source.now) (g.S.Source.left c.read_placed.new.source) c.in-Err.fault (c.in-Err.ensures.broken c.in-Err.fault refl (subst (λ (e : ScriptFault). ¬ IsOutside e) (sym same) inside)))
