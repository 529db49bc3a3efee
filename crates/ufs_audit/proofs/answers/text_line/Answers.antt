use Rattle.std.proofs.Common.{◌≡◌, ℕ, List, arith, length, ◌∙◌, sym, ap}
use Rattle.ufs_audit.proofs.ReadLemmas.{text_next, text_long}
use Rattle.ufs_audit.proofs.answers.text_line.Goals as goal

pub returns-then-len-room-clause-long : goal.returns-then-len-room-clause-long
returns-then-len-room-clause-long g c = λ is.
    let left = g.S.Source.left in
    let long = c.if-len-room.true in
    text_long (left c.args.source.now) (left c.next_line.new.source) c.args.ahead.now c.next_line.new.ahead c.in_ok-line.line.items c.args.room.now c.in_ok-line.ensures.line (omega (arith, long))

pub returns-clause-line : goal.returns-clause-line
returns-clause-line g c =
    let left = g.S.Source.left in
    let fits = c.if-len-room.false in
    text_next (left c.args.source.now) (left c.next_line.new.source) c.args.ahead.now c.next_line.new.ahead c.in_ok-line.line.items c.args.room.now _ c.in_ok-line.ensures.line (omega (arith, fits)) (omega (arith, fits))
