use Rattle.std.proofs.Common.{◌<◌, [], ◌∷◌, ◌++◌, None, length, sym, subst, ap, refl, arith}
use Rattle.ufs_joint.specs.Cells.{View}
use Rattle.ufs_joint.specs.Draws.{Leaves, MayDraw}
use Rattle.ufs_model.specs.Asks.{fd_told}
use Rattle.ufs_hand_laws.specs.Draws.{entry_of}
use Rattle.ufs_caller.specs.Hands.{HasBoth}
use Rattle.ufs_caller.specs.Own.{with_desc}
use Rattle.ufs_caller.proofs.OwnDraw.{drew, fresh_of, left_is, may_draw_own}
use Rattle.ufs_caller.proofs.own.draw_own.Goals as goal

pub mark_asked-requires-clause-leaves : goal.mark_asked-requires-clause-leaves
mark_asked-requires-clause-leaves g c = refl

pub mark_asked-requires-clause-both : goal.mark_asked-requires-clause-both
mark_asked-requires-clause-both g c =
    let b = c.requires.both in
    let f = b.3 in
    let few : length b.0.entries < 65536 = let e = f.seq in let l = c.requires.few in omega (arith, e, l) in
    (b.0, b.1, b.2, f.idle, few)

pub draw_with-ticket-requires-clause-leaves : goal.draw_with-ticket-requires-clause-leaves
draw_with-ticket-requires-clause-leaves g c = refl

pub draw_with-ticket-requires-clause-may : goal.draw_with-ticket-requires-clause-may
draw_with-ticket-requires-clause-may g c = λ n.
    let k = g.N.Naming.start in
    let b = c.requires.both in
    let ask = c.args.ask in
    let r = c.args.answer.reply in
    let d = c.args.answer.desc in
    let v = c.mark_asked.new.hand in
    let left = c.mark_asked.ensures.left b.0 b.1 b.2 in
    subst (λ (l : Leaves). MayDraw k.geometry k.is_visible v (fresh_of ask r) l n) (sym (left_is (fresh_of ask r) d _ left.before v left.both n))
    (may_draw_own c.draw_law.ensures.beside c.beside_law.ensures.files c.beside_law.ensures.names k.geometry k.is_visible ask r d _ left.before v left.both c.requires.low b.3.seq refl c.requires.plain b.3.told c.requires.own c.requires.posix n)

pub returns-clause-later : goal.returns-clause-later
returns-clause-later g c = let a = c.mark_asked.ensures.later in let b = c.draw_with-ticket.ensures.later in omega (arith, a, b)

pub returns-clause-within : goal.returns-clause-within
returns-clause-within g c = let e = ap (λ (v : View). v.seen) c.draw_with-ticket.ensures.cells in omega (arith, e)

pub returns-clause-hand : goal.returns-clause-hand
returns-clause-hand g c = λ self before b.
    let ask = c.args.ask in
    let r = c.args.answer.reply in
    let d = c.args.answer.desc in
    let v = c.mark_asked.new.hand in
    let left = c.mark_asked.ensures.left self before b in (
      left.before,
      subst (HasBoth ask.client (record self { entries = self.entries ++ entry_of c.draw_with-ticket.result (fresh_of ask r) ∷ []; fds = with_desc self.fds (fd_told ask.op r) d; asked = None }) left.before)
          (sym c.draw_with-ticket.ensures.cells)
          (drew (fresh_of ask r) d _ left.before v left.both c.draw_with-ticket.result),
    )
