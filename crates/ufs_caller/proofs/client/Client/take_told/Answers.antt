use Rattle.std.proofs.Common.{◌≡◌, ℕ, Option, Some, sym, subst, ap, ◌∙◌}
use Rattle.std.specs.Vec.{vec_capacity}
use Rattle.ufs_msg.specs.Answers as answers
use Rattle.ufs_caller.specs.Callers.{Caller}
use Rattle.ufs_caller.specs.Tied.{IsTied}
use Rattle.ufs_caller.specs.Turns.{IsAnswered}
use Rattle.ufs_caller.specs.declared.trip.Trip.{Trip}
use Rattle.ufs_caller.proofs.Redirects.{place}
use Rattle.ufs_caller.proofs.Tellings.{answered, tied_told}
use Rattle.ufs_caller.proofs.Tries.{seen}
use Rattle.ufs_caller.proofs.client.Client.take_told.Goals as goal

pub invariant_of-self-2 : goal.invariant_of-self-2
invariant_of-self-2 g c =
    let k = g.N.Naming.start in
    let s = c.self.inside in
    let room = vec_capacity s.told in
    let r = c.into_parts-back.result in
    let entry = r.1 in
    let mine : entry.client ≡ s.number = ap (λ (x : answers.Told). x.entry.client) c.into_parts-back.ensures.same ∙ (c.requires.mine ∙ sym (ap (λ (x : Caller). x.number) c.self.view_is)) in
    let is : s.trip ≡ Some c.in-Some.trip = sym c.take.ensures.value ∙ c.in-Some.is in
    let tied : IsTied k entry.client s.told.items s.fds s.left.items s.hand s.kept s.trip s.hints room = subst (λ (n : ℕ). IsTied k n s.told.items s.fds s.left.items s.hand s.kept s.trip s.hints room) (sym mine) c.self.invariant.0 in
    let view : seen entry.client s.told.items s.fds s.left.items s.hand s.kept s.trip s.hints ≡ c.args.self.now = ap (λ (n : ℕ). seen n s.told.items s.fds s.left.items s.hand s.kept s.trip s.hints) mine ∙ c.self.view_is in
    let was = place k entry.client s.told.items s.fds s.left.items s.hand s.kept s.trip s.hints room tied c.in-Some.trip is in
    let back = c.take_home.ensures was.away.before was.request was.away.alone was.away.asked tied.closed in (
      subst (λ (x : ℕ × Option Trip). IsTied k x.0 c.push_reserved.new.self.items c.keep.new.fds s.left.items c.take_home.new.hand s.kept x.1 c.renew_owner.new.hints (vec_capacity c.push_reserved.new.self)) (λ i. (mine i, sym c.take.ensures.after i))
          (tied_told k entry s.told.items s.fds s.left.items s.hand s.kept s.trip s.hints room tied c.in-Some.trip is c.args.self.now view c.requires.sent r.2 c.take_home.new.hand back c.keep.new.fds c.keep.ensures
          c.push_reserved.new.self.items c.push_reserved.ensures.items (vec_capacity c.push_reserved.new.self) c.push_reserved.ensures.capacity c.file_told.result r.3 c.renew_owner.new.hints c.into_parts-back.ensures.told.there c.into_parts-back.ensures.told.by c.renew_owner.ensures),
      c.self.invariant.1,
    )

pub returns-clause-answered : goal.returns-clause-answered
returns-clause-answered g c =
    let k = g.N.Naming.start in
    let s = c.self.inside in
    let room = vec_capacity s.told in
    let r = c.into_parts-back.result in
    let entry = r.1 in
    let mine : entry.client ≡ s.number = ap (λ (x : answers.Told). x.entry.client) c.into_parts-back.ensures.same ∙ (c.requires.mine ∙ sym (ap (λ (x : Caller). x.number) c.self.view_is)) in
    let is : s.trip ≡ Some c.in-Some.trip = sym c.take.ensures.value ∙ c.in-Some.is in
    let tied : IsTied k entry.client s.told.items s.fds s.left.items s.hand s.kept s.trip s.hints room = subst (λ (n : ℕ). IsTied k n s.told.items s.fds s.left.items s.hand s.kept s.trip s.hints room) (sym mine) c.self.invariant.0 in
    let view : seen entry.client s.told.items s.fds s.left.items s.hand s.kept s.trip s.hints ≡ c.args.self.now = ap (λ (n : ℕ). seen n s.told.items s.fds s.left.items s.hand s.kept s.trip s.hints) mine ∙ c.self.view_is in
    let was = place k entry.client s.told.items s.fds s.left.items s.hand s.kept s.trip s.hints room tied c.in-Some.trip is in
    let back = c.take_home.ensures was.away.before was.request was.away.alone was.away.asked tied.closed in
    subst (λ (x : (ℕ × Option Trip) × answers.Told). IsAnswered x.1 c.args.self.now (seen x.0.0 c.push_reserved.new.self.items c.keep.new.fds s.left.items c.take_home.new.hand s.kept x.0.1 c.renew_owner.new.hints)) (λ i. ((mine i, sym c.take.ensures.after i), c.into_parts-back.ensures.same i))
    (answered k entry s.told.items s.fds s.left.items s.hand s.kept s.trip s.hints room tied c.in-Some.trip is c.args.self.now view c.requires.sent r.2 c.take_home.new.hand back c.keep.new.fds c.keep.ensures
    c.push_reserved.new.self.items c.push_reserved.ensures.items (vec_capacity c.push_reserved.new.self) c.push_reserved.ensures.capacity c.file_told.result r.3 c.renew_owner.new.hints c.into_parts-back.ensures.told.there c.into_parts-back.ensures.told.by c.renew_owner.ensures
    r.4 r.0 c.file_told.ensures)
