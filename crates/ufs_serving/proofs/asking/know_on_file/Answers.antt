use Rattle.std.proofs.Common.{◌≤◌, sym, subst}
use Rattle.ufs_held.specs.Asking.{Asks}
use Rattle.ufs_joint.specs.Cells.{View}
use Rattle.ufs_joint.specs.Rule.{looked_at}
use Rattle.ufs_hand_laws.specs.Parts.{ClientPart}
use Rattle.ufs_msg.specs.Requests.{HasClientAlone, IsAsked}
use Rattle.ufs_serving.proofs.Asked.{asks_so, same_part, still_asked}
use Rattle.ufs_serving.proofs.asking.know_on_file.Goals as goal

pub returns-clause-asked : goal.returns-clause-asked
returns-clause-asked g c = subst (IsAsked g.N.Naming.start c.args.ask.now) (sym c.look.ensures.cells) (still_asked g.N.Naming.start c.args.ask.now c.look.result c.args.hand.now c.requires.asked)

pub returns-clause-asks : goal.returns-clause-asks
returns-clause-asks g c = λ part alone.
    let k = g.N.Naming.start in
    let still = still_asked k c.args.ask.now c.look.result c.args.hand.now c.requires.asked in
    let here = subst (λ (v : View). HasClientAlone c.args.ask.now.client part v) c.look.ensures.cells alone in
    subst (λ (p : ClientPart). Asks p c.args.ask.now) (same_part c.args.ask.now.client still.self part (looked_at c.args.hand.now c.look.result) still.alone here) (asks_so k c.args.ask.now c.look.result c.args.hand.now c.requires.asked c.look.ensures.knows c.requires.on_file)

pub returns-clause-later : goal.returns-clause-later
returns-clause-later g c = subst (λ (v : View). c.args.hand.now.seen ≤ v.seen) (sym c.look.ensures.cells) c.look.ensures.later
