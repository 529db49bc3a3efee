use Rattle.std.proofs.Common.{◌≡◌, true, false, sym, ◌∙◌}
use Rattle.ufs_held.proofs.Stopping.{rests_still}
use Rattle.ufs_at_primary.proofs.excusing.stop_for.Goals as goal

pub returns-then-not-commits-clause-told : goal.returns-then-not-commits-clause-told
returns-then-not-commits-clause-told g c = λ asks. absurd (let a = c.commits.ensures in let b = c.if-not-commits.true in let clash : true ≡ false = sym asks ∙ sym a ∙ b in cc)

pub returns-then-not-commits-clause-rests : goal.returns-then-not-commits-clause-rests
returns-then-not-commits-clause-rests g c = rests_still (g.T.Turns.tells c.args.door.now)

pub returns-clause-plain : goal.returns-clause-plain
returns-clause-plain g c = λ none. absurd (let a = c.commits.ensures in let b = c.if-not-commits.false in let clash : true ≡ false = sym b ∙ a ∙ none in cc)

pub returns-clause-told : goal.returns-clause-told
returns-clause-told g c = λ asks. c.stopped.ensures.told

pub returns-clause-knows : goal.returns-clause-knows
returns-clause-knows g c = λ fault is. c.stopped.ensures.stop ∙ is

pub returns-clause-rests : goal.returns-clause-rests
returns-clause-rests g c = (c.stopped.ensures.rests, c.stopped.ensures.ran)

pub returns-clause-guest : goal.returns-clause-guest
returns-clause-guest g c = λ client part n pool has.
    let beside = c.stopped.ensures.beside in
    let bare = c.stopped.ensures.bare in
    record { clients = beside.clients ∙ has.clients; asked = beside.asked ∙ has.asked; files = bare.files; pools = beside.pools ∙ has.pools; names = bare.names; store = bare.away }

pub returns-clause-later : goal.returns-clause-later
returns-clause-later g c = (let beside = c.stopped.ensures.beside in beside.seen)
