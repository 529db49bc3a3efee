use Rattle.std.specs.FinMap as fin
use Rattle.std.proofs.Common.{[], None, ◌∙◌, ap, sym, subst}
use Rattle.ufs_hand_laws.specs.Parts.{View}
use Rattle.ufs_one_hand.specs.Apart.{HasEachFile}
use Rattle.ufs_one_hand.specs.OneHand.{HasSession, IsCoveredIn, faults_in, passed_in, stamp_in}
use Rattle.ufs_one_hand.proofs.Beginning.{start_begun, start_covered, start_each, start_faults, start_passed, start_stamp}
use Rattle.ufs_one_hand.proofs.hand.OneHand.begin.Goals as goal

pub returns-clause-session : goal.returns-clause-session
returns-clause-session g c =
    subst (λ (v : View). HasSession g.N.Naming.start [] None v) (sym c.named-table.ensures)
    (start_begun c.a_disk_with_files_can_be_opened.ensures.serves g.N.Naming.start c.requires.start)

pub returns-clause-each : goal.returns-clause-each
returns-clause-each g c =
    subst (λ (v : View). HasEachFile g.N.Naming.start [] v fin.empty) (sym c.named-table.ensures)
    (start_each c.a_disk_with_files_can_be_opened.ensures.serves g.N.Naming.start c.requires.start)

pub returns-clause-covered : goal.returns-clause-covered
returns-clause-covered g c = subst (IsCoveredIn g.N.Naming.start []) (sym c.named-table.ensures) (start_covered g.N.Naming.start c.requires.start)

pub returns-clause-fresh : goal.returns-clause-fresh
returns-clause-fresh g c = ap stamp_in c.named-table.ensures ∙ start_stamp g.N.Naming.start c.requires.start

pub returns-clause-passed : goal.returns-clause-passed
returns-clause-passed g c = ap passed_in c.named-table.ensures ∙ start_passed g.N.Naming.start c.requires.start

pub returns-clause-answered : goal.returns-clause-answered
returns-clause-answered g c = ap faults_in c.named-table.ensures ∙ start_faults g.N.Naming.start c.requires.start
