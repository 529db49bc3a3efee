use Rattle.std.proofs.Common.{◌≡◌, ℕ, Option, Some, sym, subst, ap, ◌∙◌}
use Rattle.std.specs.Vec.{vec_capacity}
use Rattle.ufs_msg.specs.Answers.{Sent}
use Rattle.ufs_msg.specs.Requests.{Asked}
use Rattle.ufs_caller.specs.Callers.{Caller}
use Rattle.ufs_caller.specs.Hands.{HasAskedAlone}
use Rattle.ufs_caller.specs.Tied.{IsTied}
use Rattle.ufs_caller.specs.Turns.{SendsOn}
use Rattle.ufs_caller.specs.declared.trip.Trip.{Trip}
use Rattle.ufs_caller.proofs.Redirects.{place, sends_on, tied_on}
use Rattle.ufs_caller.proofs.Tries.{seen}
use Rattle.ufs_caller.proofs.client.Client.take_redirect.Goals as goal

pub see_by-request-requires : goal.see_by-request-requires
see_by-request-requires g c =
    let k = g.N.Naming.start in
    let s = c.self.inside in
    let room = vec_capacity s.told in
    let r = c.into_parts-request.result in
    let x : Sent = record { request = r.0; to = r.1 } in
    let mine : r.0.ask.client ≡ s.number = ap (λ (y : Sent). y.request.ask.client) c.into_parts-request.ensures.same ∙ (c.requires.mine ∙ sym (ap (λ (a : Caller). a.number) c.self.view_is)) in
    let is : s.trip ≡ Some c.in-Some.trip = sym c.take.ensures.value ∙ c.in-Some.is in
    let was = place k s.number s.told.items s.fds s.left.items s.hand s.kept s.trip s.hints room c.self.invariant.0 c.in-Some.trip is in
    record { away = (was.away.before, was.request, subst (λ (n : ℕ). HasAskedAlone n was.away.before s.hand) (sym mine) was.away.alone, was.away.asked) }

pub invariant_of-self-2 : goal.invariant_of-self-2
invariant_of-self-2 g c =
    let k = g.N.Naming.start in
    let s = c.self.inside in
    let room = vec_capacity s.told in
    let r = c.into_parts-request.result in
    let x : Sent = record { request = r.0; to = r.1 } in
    let mine : r.0.ask.client ≡ s.number = ap (λ (y : Sent). y.request.ask.client) c.into_parts-request.ensures.same ∙ (c.requires.mine ∙ sym (ap (λ (a : Caller). a.number) c.self.view_is)) in
    let is : s.trip ≡ Some c.in-Some.trip = sym c.take.ensures.value ∙ c.in-Some.is in
    let was = place k s.number s.told.items s.fds s.left.items s.hand s.kept s.trip s.hints room c.self.invariant.0 c.in-Some.trip is in
    let alone : HasAskedAlone r.0.ask.client was.away.before s.hand = subst (λ (n : ℕ). HasAskedAlone n was.away.before s.hand) (sym mine) was.away.alone in
    let sent = c.into_parts-request.ensures.sent in (
      subst (λ (y : Option Asked × Option Trip). IsTied k s.number s.told.items s.fds s.left.items c.see_by-request.new.hand y.0 y.1 c.renew_hint.new.hints room) (λ i. (sym c.put-2.ensures i, sym c.put.ensures i))
          (tied_on k s.number s.told.items s.fds s.left.items s.hand s.kept s.trip s.hints room c.self.invariant.0 c.in-Some.trip is c.args.self.now c.self.view_is c.requires.sent
          x mine sent.there sent.may (c.see_by-request.ensures.still was.away.before was.request alone was.away.asked)
          c.see_by-request.new.hand (subst (λ (n : ℕ). HasAskedAlone n was.away.before c.see_by-request.new.hand) mine (c.see_by-request.ensures.away was.away.before alone)) c.see_by-request.result c.see_by-request.ensures.request
          c.renew_hint.new.hints c.renew_hint.ensures c.on.result c.on.ensures.to c.on.ensures.via c.on.ensures.file c.on.ensures.again),
      c.self.invariant.1,
    )

pub returns-clause-on : goal.returns-clause-on
returns-clause-on g c =
    let k = g.N.Naming.start in
    let s = c.self.inside in
    let room = vec_capacity s.told in
    let r = c.into_parts-request.result in
    let x : Sent = record { request = r.0; to = r.1 } in
    let mine : r.0.ask.client ≡ s.number = ap (λ (y : Sent). y.request.ask.client) c.into_parts-request.ensures.same ∙ (c.requires.mine ∙ sym (ap (λ (a : Caller). a.number) c.self.view_is)) in
    let is : s.trip ≡ Some c.in-Some.trip = sym c.take.ensures.value ∙ c.in-Some.is in
    let was = place k s.number s.told.items s.fds s.left.items s.hand s.kept s.trip s.hints room c.self.invariant.0 c.in-Some.trip is in
    let alone : HasAskedAlone r.0.ask.client was.away.before s.hand = subst (λ (n : ℕ). HasAskedAlone n was.away.before s.hand) (sym mine) was.away.alone in
    let sent = c.into_parts-request.ensures.sent in (
      c.see_by-request.result,
      subst (λ (y : (Option Asked × Option Trip) × Sent). SendsOn y.1 c.see_by-request.result (Some c.see_by-request.result) c.args.self.now (seen s.number s.told.items s.fds s.left.items c.see_by-request.new.hand y.0.0 y.0.1 c.renew_hint.new.hints)) (λ i. ((sym c.put-2.ensures i, sym c.put.ensures i), c.into_parts-request.ensures.same i))
          (sends_on k s.number s.told.items s.fds s.left.items s.hand s.kept s.trip s.hints room c.self.invariant.0 c.in-Some.trip is c.args.self.now c.self.view_is c.requires.sent
          x mine sent.there sent.may (c.see_by-request.ensures.still was.away.before was.request alone was.away.asked)
          c.see_by-request.new.hand (subst (λ (n : ℕ). HasAskedAlone n was.away.before c.see_by-request.new.hand) mine (c.see_by-request.ensures.away was.away.before alone)) c.see_by-request.result c.see_by-request.ensures.request
          c.renew_hint.new.hints c.renew_hint.ensures c.on.result c.on.ensures.to c.on.ensures.via c.on.ensures.file c.on.ensures.again),
    )
