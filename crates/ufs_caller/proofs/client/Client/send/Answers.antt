use Rattle.std.proofs.Common.{◌≡◌, true, false, Some, None, refl, sym, subst, ◌∙◌}
use Rattle.std.specs.Prelude.{IsSome}
use Rattle.std.specs.Vec.{vec_capacity}
use Rattle.ufs_caller.specs.Callers.{Caller}
use Rattle.ufs_caller.specs.Turns.{IsTry}
use Rattle.ufs_caller.specs.declared.turn.Turn.{Turn}
use Rattle.ufs_caller.proofs.Places.{none_is, some_is}
use Rattle.ufs_caller.proofs.Sendings.{may_go, only_it, tied_after, to_there}
use Rattle.ufs_caller.proofs.Tries.{seen, stays_as, tries, was_kept, went_as}
use Rattle.ufs_caller.proofs.client.Client.send.Goals as goal
use Rattle.ufs_caller.proofs.client.Client.send.Goals.{then-is_some, else-is_some+then-is_again, else-is_some+else-is_again}

pub ask-requires-clause-there : goal.ask-requires-clause-there
ask-requires-clause-there g c =
    let s = c.self.inside in
    to_there g.N.Naming.start s.number s.told.items s.fds s.left.items s.hand s.kept s.trip s.hints (vec_capacity s.told) c.self.invariant.0 c.in-Some.trip c.in-Some.is

pub ask-requires-clause-is : goal.ask-requires-clause-is
ask-requires-clause-is g c =
    let s = c.self.inside in
    let was : s.kept ≡ Some c.requires.kept.1 = was_kept s.number s.told.items s.fds s.left.items s.hand s.kept s.kept s.trip s.hints c.in-Some.trip c.in-Some.is c.args.self.now c.self.view_is c.requires.kept in
    subst IsSome (sym was) refl

pub ask-requires-clause-may : goal.ask-requires-clause-may
ask-requires-clause-may g c =
    let s = c.self.inside in
    let was : s.kept ≡ Some c.requires.kept.1 = was_kept s.number s.told.items s.fds s.left.items s.hand s.kept s.kept s.trip s.hints c.in-Some.trip c.in-Some.is c.args.self.now c.self.view_is c.requires.kept in
    may_go g.N.Naming.start s.number s.told.items s.fds s.left.items s.hand s.kept s.trip s.hints (vec_capacity s.told) c.self.invariant.0 c.in-Some.trip c.in-Some.is c.requires.kept.1 was

pub invariant_of-self : goal.invariant_of-self
invariant_of-self g c =
    let s = c.self.inside in
    let q = g.Q.ClientPost in
    let p = c.args.post.now in
    let p' = c.ask.new.self in (
      tied_after g.N.Naming.start s.number s.told.items s.fds s.left.items s.hand s.kept s.trip s.hints (vec_capacity s.told) c.self.invariant.0 c.in-Some.trip c.in-Some.is
          c.ask.new.request (only_it ((c.ask.new.request ≡ s.kept) × q.same p p' × q.was_full p c.in-Some.trip.to) s.kept c.ask.new.request c.ask.ensures.stays (λ stays. stays.0)),
      c.self.invariant.1,
    )

pub returns-clause-turn : goal.returns-clause-turn
returns-clause-turn g c =
    let s = c.self.inside in
    let q = g.Q.ClientPost in
    let p = c.args.post.now in
    let p' = c.ask.new.self in
    let new : Caller = seen s.number s.told.items s.fds s.left.items s.hand c.ask.new.request s.trip s.hints in
    let trip = c.in-Some.trip in
    let r = c.requires.kept.1 in
    let was : s.kept ≡ Some r = was_kept s.number s.told.items s.fds s.left.items s.hand s.kept c.ask.new.request s.trip s.hints trip c.in-Some.is c.args.self.now c.self.view_is c.requires.kept in
    elim c.if-is_some.branch [
      | then-is_some w ↦
          let some = some_is c.ask.new.request (sym c.is_some.ensures ∙ w.if-is_some.true) in
          let stays = stays_as _ c.ask.new.request some.0 some.1 c.ask.ensures.stays in
          subst (λ (t : Turn). IsTry q.asks q.gets q.same q.was_full q.was_empty p p' c.args.self.now t new) (sym w.result-is) (
            trip.is_again,
            (
              r,
              tries s.number s.told.items s.fds s.left.items s.hand s.kept c.ask.new.request s.trip s.hints trip c.in-Some.is c.args.self.now c.self.view_is c.requires.kept trip.is_again (Some r) refl (stays.0 ∙ was),
              (stays.1, stays.2),
            ),
          )
      | else-is_some+then-is_again w ↦
          let none = none_is c.ask.new.request (sym c.is_some.ensures ∙ w.if-is_some.false) in
          subst (λ (t : Turn). IsTry q.asks q.gets q.same q.was_full q.was_empty p p' c.args.self.now t new) (sym w.result-is) (
            r,
            tries s.number s.told.items s.fds s.left.items s.hand s.kept c.ask.new.request s.trip s.hints trip c.in-Some.is c.args.self.now c.self.view_is c.requires.kept true None w.if-is_again.true none,
            went_as (λ x. q.asks p trip.to x p') s.kept c.ask.new.request r was none c.ask.ensures.went,
          )
      | else-is_some+else-is_again w ↦
          let none = none_is c.ask.new.request (sym c.is_some.ensures ∙ w.if-is_some.false) in
          subst (λ (t : Turn). IsTry q.asks q.gets q.same q.was_full q.was_empty p p' c.args.self.now t new) (sym w.result-is) (
            r,
            tries s.number s.told.items s.fds s.left.items s.hand s.kept c.ask.new.request s.trip s.hints trip c.in-Some.is c.args.self.now c.self.view_is c.requires.kept false None w.if-is_again.false none,
            went_as (λ x. q.asks p trip.to x p') s.kept c.ask.new.request r was none c.ask.ensures.went,
          )
    ]
