use Rattle.std.proofs.Common.{refl}
use Rattle.ufs_at_primary.specs.Served.{Lacked}
use Rattle.ufs_at_primary.proofs.trying.lacking.Goals as goal

pub returns-clause-answered : goal.returns-clause-answered
returns-clause-answered g c = λ visible names pool.
    let x = c.excuse.ensures.excused in
    (x.0, x.1, Lacked (record { excused = x.2; rest = refl }))

pub returns-clause-rests : goal.returns-clause-rests
returns-clause-rests g c =
    let x = c.excuse.ensures.excused in
    let excused = x.2 in
    excused.rests
