use Rattle.std.proofs.Common.{ap, arith, eqb, sym, ◌∙◌}
use Rattle.std.specs.List.{list_any}
use Rattle.ufs_home.proofs.Lending.{among_rest, no_items, none_here, none_yet}
use Rattle.ufs_home.proofs.lent.lend_each.Goals as goal

pub loop-number-init : goal.loop-number-init
loop-number-init g c =
    let gives = c.into_iter-number-iterator.ensures.into_iter_gives in
    let long = gives.1 in
    let few = c.requires.room in
    record {
      lent = none_yet c.args.shelf.now c.args.files.now.items c.requires.none;
      left = λ f some. ap (list_any (eqb f)) gives.0 ∙ c.requires.all f some;
      room = omega (arith, long, few);
    }

pub lend_next-requires : goal.lend_next-requires
lend_next-requires g c =
    let room = c.loop-number.invariant.room in
    let steps = c.in-Some.ensures.steps in
    let next = steps.1 in
    omega (arith, room, next)

pub loop-number-preserved : goal.loop-number-preserved
loop-number-preserved g c =
    let l = c.loop-number in
    let room = l.invariant.room in
    let steps = c.in-Some.ensures.steps in
    let next = steps.1 in
    let len = c.lend_next.ensures.len in
    let wide = c.lend_next.ensures.capacity in
    record {
      lent = c.lend_next.ensures.lent c.args.shelf.now l.invariant.lent;
      left = λ f some. among_rest c.lend_next.new.shelf c.in-Some.number f c.next.new.self.rest.items c.in_ok-lend_next.ensures.away some
          (ap (list_any (eqb f)) (sym steps.0) ∙ l.invariant.left f (c.lend_next.ensures.still f some));
      room = omega (arith, room, next, len, wide);
    }

pub returns-clause-none : goal.returns-clause-none
returns-clause-none g c = λ f.
    let rest = c.loop-number.number-iterator.rest in
    let none = no_items rest.items (sym rest.ok.0 ∙ c.in-None.ensures.steps.0) in
    none_here c.loop-number.shelf (λ q some. ap (list_any (eqb q)) (sym none) ∙ c.loop-number.invariant.left q some) f
