use Rattle.std.proofs.Common.{None, sym, subst}
use Rattle.ufs_joint.specs.Cells.{Start, View}
use Rattle.ufs_joint_tests.specs.Small.{excused}
use Rattle.ufs_msg.specs.Answers.{IsTold}
use Rattle.ufs_hand_laws.specs.Draws.{entry_of}
use Rattle.ufs_msg_tests.proofs.Passing.{is_told}
use Rattle.ufs_msg_tests.proofs.served.answer_of.Goals as goal

pub new-requires : goal.new-requires
new-requires g c = subst (λ (x : Start × View). IsTold x.0 (entry_of c.args.ticket excused) None None None x.1) (λ j. (sym c.requires.start j, sym c.requires.view.1 j))
    (is_told c.args.names.now (g.D.Door.store c.args.store.now) c.requires.view.0 c.args.ticket)
