use Rattle.std.proofs.Common.{◌≡◌, ◌∙◌, ℕ, List, Some, Err, refl, sym, subst, ap, arith}
use Rattle.ufs_base.specs.Faults.{raised}
use Rattle.ufs_script.specs.Reading.{ReadsScript, ReadsBreak}
use Rattle.ufs_script.specs.declared.fault.ScriptFault.TheVariants as script_fault
use Rattle.ufs_audit.specs.declared.fault.AuditFault.TheVariants as fault
use Rattle.ufs_audit.proofs.HeadLemmas.{read_ok, read_err, inside}
use Rattle.ufs_audit.proofs.head.script_of.Goals as goal

never : 0 ≡ raised 0 → ⊥
never e = omega (arith, e)

pub returns-in-Ok-clause-short : goal.returns-in-Ok-clause-short
returns-in-Ok-clause-short c =
    let left = c.read_script.new.source in
    (read_ok c.args.text.items left c.in-Ok.script (subst (λ (l : List ℕ). ReadsScript (Some l) (Some left) c.in-Ok.script) c.new-source.ensures c.in-Ok.ensures.script)).1

pub returns-clause-broken : goal.returns-clause-broken
returns-clause-broken c = λ broken same.
    let left = c.read_script.new.source in
    let told : c.told_by.result ≡ fault.Script broken = cc in
    let is = c.told_by.ensures.broken broken told in
    let within = inside broken (λ memory e. c.told_by.ensures.inside broken memory told e) (λ e. never (c.in-Err.ensures.cause (ap Err (is ∙ e)))) in
    read_err c.a_longer_text_breaks_alike.ensures c.args.text.items left broken
    (subst (λ (l : List ℕ). ReadsBreak (Some l) (Some left) broken) c.new-source.ensures (c.in-Err.ensures.broken broken (ap Err is) within))
