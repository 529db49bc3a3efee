use Rattle.std.proofs.Common.{List, subst, sym, ◌∙◌}
use Rattle.ufs_joint.specs.Cells.{FileCell}
use Rattle.ufs_home.specs.Lending.{AreLent}
use Rattle.ufs_home.proofs.Lending.{gone_now, lent_more, not_here, still_here}
use Rattle.ufs_home.proofs.lent.lend_next.Goals as goal

pub returns-then-not-has-clause-away : goal.returns-then-not-has-clause-away
returns-then-not-has-clause-away g c = not_here c.args.shelf.now c.args.number (sym c.has.ensures ∙ c.if-not-has.true)

pub returns-clause-lent : goal.returns-clause-lent
returns-clause-lent g c = λ was lent.
    let is = c.in_ok-held.ensures.lent in
    subst (λ (cs : List FileCell). AreLent was c.lend.new.self cs) (sym c.push_reserved.ensures.items)
    (lent_more was c.args.shelf.now c.lend.new.self c.args.files.now.items c.args.number c.in_ok-held.held lent is.0 is.1 c.in_ok-held.ensures.low is.2)

pub returns-clause-away : goal.returns-clause-away
returns-clause-away g c = let is = c.in_ok-held.ensures.lent in gone_now c.args.shelf.now c.lend.new.self c.args.number is.2

pub returns-clause-still : goal.returns-clause-still
returns-clause-still g c = λ f some. let is = c.in_ok-held.ensures.lent in still_here c.args.shelf.now c.lend.new.self c.args.number is.2 f some
