use Rattle.std.proofs.Common.{◌≡◌, ◌∙◌, None, arith, sym}
use Rattle.ufs_caller.specs.Callers.{Caller}
use Rattle.ufs_caller.proofs.Places.{none_is}
use Rattle.ufs_msg.proofs.Places.{at_place}
use Rattle.ufs_rounds.proofs.Places.{below_all, below_next}
use Rattle.ufs_rounds.proofs.settling.some_asks.Goals as goal

pub loop-client-init : goal.loop-client-init
loop-client-init g c = λ place x low at. absurd (omega (arith, low))

pub loop-client-preserved : goal.loop-client-preserved
loop-client-preserved g c =
    let l = c.loop-client in
    below_next (λ (x : Caller). x.errand ≡ None) c.args.clients.now l.client-index c.client-item.result l.invariant
    (at_place c.args.clients.now l.client-index c.client-item.result (omega arith) c.client-item.is)
    (none_is c.client-item.result.errand (sym c.is_asking.ensures ∙ c.if-is_asking.false))

pub returns-then-is_asking-clause-yes : goal.returns-then-is_asking-clause-yes
returns-then-is_asking-clause-yes g c = λ says. record {
  place = c.loop-client.client-index;
  client = c.client-item.result;
  at = at_place c.args.clients.now c.loop-client.client-index c.client-item.result (omega arith) c.client-item.is;
  asks = sym c.is_asking.ensures ∙ c.if-is_asking.true;
}

pub returns-clause-no : goal.returns-clause-no
returns-clause-no g c = λ says. below_all (λ (x : Caller). x.errand ≡ None) c.args.clients.now c.loop-client.client-index c.loop-client-test.false c.loop-client.invariant
