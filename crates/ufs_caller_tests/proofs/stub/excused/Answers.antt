use Rattle.std.proofs.Common.{None, refl, sym, subst}
use Rattle.ufs_joint.specs.Cells.{View}
use Rattle.ufs_msg.specs.Answers.{IsTold}
use Rattle.ufs_hand_laws.specs.Draws.{entry_of}
use Rattle.ufs_caller_tests.proofs.Excusing.{excuse_of, may_excuse, told_so}
use Rattle.ufs_caller_tests.proofs.stub.excused.Goals as goal

pub draw_excuse-ticket-requires-clause-leaves : goal.draw_excuse-ticket-requires-clause-leaves
draw_excuse-ticket-requires-clause-leaves g c = refl

pub draw_excuse-ticket-requires-clause-may : goal.draw_excuse-ticket-requires-clause-may
draw_excuse-ticket-requires-clause-may g c = may_excuse g.N.Naming.start c.requires.blind c.args.ask c.args.hand c.requires.asked c.requires.sync

pub new-requires : goal.new-requires
new-requires g c =
    subst (λ (v : View). IsTold g.N.Naming.start (entry_of c.draw_excuse-ticket.result (excuse_of c.args.ask)) None None None v) (sym c.draw_excuse-ticket.ensures)
    (told_so g.N.Naming.start c.requires.blind c.args.ask c.args.hand c.requires.asked c.requires.sync c.draw_excuse-ticket.result)
