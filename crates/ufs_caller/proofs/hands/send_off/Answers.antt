use Rattle.std.proofs.Common.{◌≤◌, ◌<◌, Some, ℕ, length, sym, subst, refl, arith}
use Rattle.ufs_msg.specs.Requests.{HasClientAlone}
use Rattle.ufs_caller.specs.Hands.{HasAskedAlone}
use Rattle.ufs_caller.proofs.Asking.{asked_left, client_given, is_asked}
use Rattle.ufs_caller.proofs.hands.send_off.Goals as goal

pub mark_asked-requires-clause-leaves : goal.mark_asked-requires-clause-leaves
mark_asked-requires-clause-leaves g c = refl

pub mark_asked-requires-clause-both : goal.mark_asked-requires-clause-both
mark_asked-requires-clause-both g c =
    let b = c.requires.both in
    let f = b.3 in
    let few : length b.0.entries < 65536 = let e = f.seq in let l = c.requires.few in omega (arith, e, l) in
    (b.0, b.1, b.2, f.idle, few)

pub new-requires : goal.new-requires
new-requires g c =
    let b = c.requires.both in
    let ask = c.args.ask in
    let left = c.mark_asked.ensures.left b.0 b.1 b.2 in
    is_asked g.N.Naming.start ask b.0 c.split-own.result c.requires.there c.requires.low c.requires.few c.requires.bounded b.3 b.4 c.requires.sent
    (subst (HasClientAlone ask.client (record b.0 { asked = Some ask.op })) (sym c.split-own.ensures.given) (client_given ask.client _ left.before c.mark_asked.new.hand left.both))

pub returns-clause-away : goal.returns-clause-away
returns-clause-away g c = λ self before b.
    let ask = c.args.ask in
    let left = c.mark_asked.ensures.left self before b in (
      left.before,
      subst (HasAskedAlone ask.client left.before) (sym c.split-own.ensures.kept) (asked_left ask.client _ left.before c.mark_asked.new.hand left.both),
      left.entries,
      left.fds,
      left.asked,
      subst (λ (n : ℕ). c.args.hand.now.seen ≤ n) left.late c.mark_asked.ensures.later,
    )
