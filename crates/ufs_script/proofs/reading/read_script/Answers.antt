use Rattle.std.proofs.Common.{◌≡◌, Err, ap}
use Rattle.std.proofs.lemmas.Result.{err_from_is_err_and}
use Rattle.ufs_script.specs.Script.{unplaced}
use Rattle.ufs_script.specs.declared.fault.ScriptFault.{ScriptFault}
use Rattle.ufs_script.proofs.reading.read_script.Goals as goal

pub returns-clause-script : goal.returns-clause-script
returns-clause-script g c = let r = c.in_ok-placed.ensures.placed in (r.0, r.1, ap unplaced r.2)

pub returns-in_err-placed-clause-broken : goal.returns-in_err-placed-clause-broken
returns-in_err-placed-clause-broken g c f is inside =
    let p = err_from_is_err_and c.from_residual.result c.from_residual.ensures.1 in
    let given = p.1 in
    let passed_on = p.2 in
    let same : c.in_err-placed.field-0.0 ≡ f = cc in
    c.in_err-placed.ensures.broken f (ap (λ (e : ScriptFault). Err e) same) inside
