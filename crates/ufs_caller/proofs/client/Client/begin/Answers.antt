use Rattle.std.proofs.Common.{◌≡◌, ℕ, false, [], ◌∷◌, ◌++◌, Option, Some, None, is_some, refl, sym, subst, ap, ◌∙◌}
use Rattle.std.specs.Option.{option_to_list}
use Rattle.std.specs.Vec.{vec_capacity}
use Rattle.ufs_client.specs.Own.{is_own}
use Rattle.ufs_client.specs.declared.own.OwnAnswer.{OwnAnswer}
use Rattle.ufs_model.specs.Asks.{IsAsk}
use Rattle.ufs_model.specs.PosixTree.{PosixTree}
use Rattle.ufs_model.specs.declared.data.Op.{Op}
use Rattle.ufs_msg.specs.Requests.{Asked}
use Rattle.ufs_caller.specs.Tied.{AreMadeThere, IsTied}
use Rattle.ufs_caller.specs.Turns.{HasKept, Sends}
use Rattle.ufs_caller.specs.declared.trip.Trip.{Trip}
use Rattle.ufs_caller.proofs.Beginnings.{answers, bounded, for, has_kept, home, sends, tells_of, tied_own, tied_ready}
use Rattle.ufs_caller.proofs.Tries.{seen}
use Rattle.ufs_caller.proofs.Turning.{sent_turn}
use Rattle.ufs_caller.proofs.client.Client.begin.Goals as goal

none_is : (o : Option OwnAnswer) → ((x : OwnAnswer) → o ≡ Some x → ⊥) → is_some o ≡ false
none_is None not = refl
none_is (Some x) not = absurd (not x refl)

pub answer_itself-requires-clause-home : goal.answer_itself-requires-clause-home
answer_itself-requires-clause-home g c =
    let k = g.N.Naming.start in
    let s = c.self.inside in
    let tied = c.self.invariant.0 in
    let room = vec_capacity s.told in
    let ask = c.ask-ask.result in
    let left = c.pop_front.new.self.items in
    let next : s.left.items ≡ c.in-Some.op ∷ left = c.pop_front.ensures.items ∙ ap (λ (r : Option Op). option_to_list r ++ left) c.in-Some.is in
    let e = c.ask-ask.ensures in
    let seq = e.seq ∙ c.len.ensures ∙ s.told.ok.0 in
    let tells = tells_of ask c.in-Some.op s.fds e.asked e.desc e.fd e.last in
    home k s.number s.told.items s.fds s.left.items left s.hand s.kept s.trip s.hints room tied c.args.self.now c.self.view_is c.requires.idle ask c.in-Some.op e.client seq e.asked next tells

pub answer_itself-requires-clause-made : goal.answer_itself-requires-clause-made
answer_itself-requires-clause-made g c = subst (λ (n : ℕ). AreMadeThere g.N.Naming.start n c.self.inside.told.items) (sym c.ask-ask.ensures.client) c.self.invariant.0.made

pub invariant_of-self-in-Some-answer_own : goal.invariant_of-self-in-Some-answer_own
invariant_of-self-in-Some-answer_own g c =
    let k = g.N.Naming.start in
    let s = c.self.inside in
    let tied = c.self.invariant.0 in
    let room = vec_capacity s.told in
    let ask = c.ask-ask.result in
    let left = c.pop_front.new.self.items in
    let next : s.left.items ≡ c.in-Some.op ∷ left = c.pop_front.ensures.items ∙ ap (λ (r : Option Op). option_to_list r ++ left) c.in-Some.is in
    let e = c.ask-ask.ensures in
    let seq = e.seq ∙ c.len.ensures ∙ s.told.ok.0 in
    let tells = tells_of ask c.in-Some.op s.fds e.asked e.desc e.fd e.last in
    let own = c.answer_itself.ensures in (
      tied_own k s.number s.told.items s.fds s.left.items left s.hand s.kept s.trip s.hints room tied c.args.self.now c.self.view_is c.requires.idle ask c.in-Some.op e.client seq e.asked next tells
          c.answer_itself.new.told.items c.answer_itself.new.fds c.answer_itself.new.hand (vec_capacity c.answer_itself.new.told) (record { entry = own.told.0; via = [] }) own.told.1 own.home own.ranged own.made own.capacity,
      c.self.invariant.1,
    )

pub returns-in-Some-answer_own-clause-turn : goal.returns-in-Some-answer_own-clause-turn
returns-in-Some-answer_own-clause-turn g c =
    let k = g.N.Naming.start in
    let s = c.self.inside in
    let tied = c.self.invariant.0 in
    let room = vec_capacity s.told in
    let ask = c.ask-ask.result in
    let left = c.pop_front.new.self.items in
    let next : s.left.items ≡ c.in-Some.op ∷ left = c.pop_front.ensures.items ∙ ap (λ (r : Option Op). option_to_list r ++ left) c.in-Some.is in
    let e = c.ask-ask.ensures in
    let seq = e.seq ∙ c.len.ensures ∙ s.told.ok.0 in
    let tells = tells_of ask c.in-Some.op s.fds e.asked e.desc e.fd e.last in
    let told = c.answer_itself.ensures.told in (
      answers k s.number s.told.items s.fds s.left.items left s.hand s.kept s.trip s.hints room tied c.args.self.now c.self.view_is c.requires.idle ask c.in-Some.op e.client seq e.asked next tells
          c.in-Some-answer_own.answer.reply c.in-Some-answer_own.answer.desc (λ t is. sym (c.answer_own.ensures.own t is) ∙ ap (is_some {T = OwnAnswer}) c.in-Some-answer_own.is) c.in-Some-answer_own.ensures.posix c.in-Some-answer_own.ensures.plain
          c.args.baton.now c.answer_itself.new.baton c.answer_itself.new.told.items c.answer_itself.new.fds c.answer_itself.new.hand told.0 told.1 told.2 told.3 told.4 told.5 c.answer_itself.ensures.fds,
      refl,
    )

pub send_off-request-requires-clause-both : goal.send_off-request-requires-clause-both
send_off-request-requires-clause-both g c =
    let k = g.N.Naming.start in
    let s = c.self.inside in
    let tied = c.self.invariant.0 in
    let room = vec_capacity s.told in
    let ask = c.ask-ask.result in
    let left = c.pop_front.new.self.items in
    let next : s.left.items ≡ c.in-Some.op ∷ left = c.pop_front.ensures.items ∙ ap (λ (r : Option Op). option_to_list r ++ left) c.in-Some.is in
    let e = c.ask-ask.ensures in
    let seq = e.seq ∙ c.len.ensures ∙ s.told.ok.0 in
    let tells = tells_of ask c.in-Some.op s.fds e.asked e.desc e.fd e.last in
    let h = home k s.number s.told.items s.fds s.left.items left s.hand s.kept s.trip s.hints room tied c.args.self.now c.self.view_is c.requires.idle ask c.in-Some.op e.client seq e.asked next tells in
    (h.self, h.before, h.both, for k s.number s.told.items s.fds s.left.items left s.hand s.kept s.trip s.hints room tied c.args.self.now c.self.view_is c.requires.idle ask c.in-Some.op e.client seq e.asked next tells, h.unleased)

pub send_off-request-requires-clause-sent : goal.send_off-request-requires-clause-sent
send_off-request-requires-clause-sent g c = λ t is. sym (c.answer_own.ensures.own t is) ∙ none_is c.answer_own.result c.in_default-answer_own.not-Some

pub send_off-request-requires-clause-bounded : goal.send_off-request-requires-clause-bounded
send_off-request-requires-clause-bounded g c =
    let k = g.N.Naming.start in
    let s = c.self.inside in
    let room = vec_capacity s.told in
    let ask = c.ask-ask.result in
    let left = c.pop_front.new.self.items in
    let next : s.left.items ≡ c.in-Some.op ∷ left = c.pop_front.ensures.items ∙ ap (λ (r : Option Op). option_to_list r ++ left) c.in-Some.is in
    let e = c.ask-ask.ensures in
    let seq = e.seq ∙ c.len.ensures ∙ s.told.ok.0 in
    let tells = tells_of ask c.in-Some.op s.fds e.asked e.desc e.fd e.last in
    bounded k s.number s.told.items s.fds s.left.items left s.hand s.kept s.trip s.hints room c.self.invariant.0 c.args.self.now c.self.view_is c.requires.idle ask c.in-Some.op e.client seq e.asked next tells

pub invariant_of-self-2 : goal.invariant_of-self-2
invariant_of-self-2 g c =
    let k = g.N.Naming.start in
    let s = c.self.inside in
    let tied = c.self.invariant.0 in
    let room = vec_capacity s.told in
    let ask = c.ask-ask.result in
    let left = c.pop_front.new.self.items in
    let next : s.left.items ≡ c.in-Some.op ∷ left = c.pop_front.ensures.items ∙ ap (λ (r : Option Op). option_to_list r ++ left) c.in-Some.is in
    let e = c.ask-ask.ensures in
    let seq = e.seq ∙ c.len.ensures ∙ s.told.ok.0 in
    let tells = tells_of ask c.in-Some.op s.fds e.asked e.desc e.fd e.last in
    let needs : (t : PosixTree) → IsAsk t ask → is_own t ask.client ask.op ≡ false = λ t is. sym (c.answer_own.ensures.own t is) ∙ none_is c.answer_own.result c.in_default-answer_own.not-Some in
    let h = home k s.number s.told.items s.fds s.left.items left s.hand s.kept s.trip s.hints room tied c.args.self.now c.self.view_is c.requires.idle ask c.in-Some.op e.client seq e.asked next tells in
    let away = c.send_off-request.ensures.away h.self h.before h.both in (
      subst (λ (x : Option Asked × Option Trip). IsTied k s.number s.told.items s.fds left c.send_off-request.new.hand x.0 x.1 c.by_hint-trip.new.hints room) (λ i. (sym c.put-2.ensures i, sym c.put.ensures i))
          (tied_ready k s.number s.told.items s.fds s.left.items left s.hand s.kept s.trip s.hints room tied c.args.self.now c.self.view_is c.requires.idle ask c.in-Some.op e.client seq e.asked next tells
          needs c.by_hint-trip.result c.by_hint-trip.new.hints c.by_hint-trip.ensures.to c.by_hint-trip.ensures.hints c.by_hint-trip.ensures.via c.by_hint-trip.ensures.file c.by_hint-trip.ensures.again c.send_off-request.new.hand c.send_off-request.result c.send_off-request.ensures.request away),
      c.self.invariant.1,
    )

pub send-requires : goal.send-requires
send-requires g c =
    let k = g.N.Naming.start in
    let s = c.self.inside in
    let tied = c.self.invariant.0 in
    let room = vec_capacity s.told in
    let ask = c.ask-ask.result in
    let left = c.pop_front.new.self.items in
    let next : s.left.items ≡ c.in-Some.op ∷ left = c.pop_front.ensures.items ∙ ap (λ (r : Option Op). option_to_list r ++ left) c.in-Some.is in
    let e = c.ask-ask.ensures in
    let seq = e.seq ∙ c.len.ensures ∙ s.told.ok.0 in
    let tells = tells_of ask c.in-Some.op s.fds e.asked e.desc e.fd e.last in
    let needs : (t : PosixTree) → IsAsk t ask → is_own t ask.client ask.op ≡ false = λ t is. sym (c.answer_own.ensures.own t is) ∙ none_is c.answer_own.result c.in_default-answer_own.not-Some in
    let h = home k s.number s.told.items s.fds s.left.items left s.hand s.kept s.trip s.hints room tied c.args.self.now c.self.view_is c.requires.idle ask c.in-Some.op e.client seq e.asked next tells in
    let away = c.send_off-request.ensures.away h.self h.before h.both in
    record {
      kept = subst (λ (x : Option Asked × Option Trip). HasKept (seen s.number s.told.items s.fds left c.send_off-request.new.hand x.0 x.1 c.by_hint-trip.new.hints)) (λ i. (sym c.put-2.ensures i, sym c.put.ensures i))
          (has_kept k s.number s.told.items s.fds s.left.items left s.hand s.kept s.trip s.hints room tied c.args.self.now c.self.view_is c.requires.idle ask c.in-Some.op e.client seq e.asked next tells
          needs c.by_hint-trip.result c.by_hint-trip.new.hints c.by_hint-trip.ensures.to c.by_hint-trip.ensures.hints c.by_hint-trip.ensures.via c.by_hint-trip.ensures.file c.by_hint-trip.ensures.again c.send_off-request.new.hand c.send_off-request.result c.send_off-request.ensures.request away);
    }

pub returns-clause-turn : goal.returns-clause-turn
returns-clause-turn g c =
    let k = g.N.Naming.start in
    let s = c.self.inside in
    let tied = c.self.invariant.0 in
    let room = vec_capacity s.told in
    let ask = c.ask-ask.result in
    let left = c.pop_front.new.self.items in
    let next : s.left.items ≡ c.in-Some.op ∷ left = c.pop_front.ensures.items ∙ ap (λ (r : Option Op). option_to_list r ++ left) c.in-Some.is in
    let e = c.ask-ask.ensures in
    let seq = e.seq ∙ c.len.ensures ∙ s.told.ok.0 in
    let tells = tells_of ask c.in-Some.op s.fds e.asked e.desc e.fd e.last in
    let needs : (t : PosixTree) → IsAsk t ask → is_own t ask.client ask.op ≡ false = λ t is. sym (c.answer_own.ensures.own t is) ∙ none_is c.answer_own.result c.in_default-answer_own.not-Some in
    let h = home k s.number s.told.items s.fds s.left.items left s.hand s.kept s.trip s.hints room tied c.args.self.now c.self.view_is c.requires.idle ask c.in-Some.op e.client seq e.asked next tells in
    let away = c.send_off-request.ensures.away h.self h.before h.both in
    let q = g.Q.ClientPost in
    let mid = seen s.number s.told.items s.fds left c.send_off-request.new.hand c.put-2.new.place c.put.new.place c.by_hint-trip.new.hints in
    sent_turn q.asks q.gets q.same q.was_full q.was_empty c.args.baton.now c.args.baton.now c.args.self.now mid c.send.new.self c.args.post.now c.send.new.post c.send.result c.by_hint-trip.result.to c.send_off-request.result
    (subst (λ (x : Option Asked × Option Trip). Sends c.by_hint-trip.result.to c.send_off-request.result (Some c.send_off-request.result) c.args.self.now (seen s.number s.told.items s.fds left c.send_off-request.new.hand x.0 x.1 c.by_hint-trip.new.hints)) (λ i. (sym c.put-2.ensures i, sym c.put.ensures i))
    (sends k s.number s.told.items s.fds s.left.items left s.hand s.kept s.trip s.hints room tied c.args.self.now c.self.view_is c.requires.idle ask c.in-Some.op e.client seq e.asked next tells
    needs c.by_hint-trip.result c.by_hint-trip.new.hints c.by_hint-trip.ensures.to c.by_hint-trip.ensures.hints c.by_hint-trip.ensures.via c.by_hint-trip.ensures.file c.by_hint-trip.ensures.again c.send_off-request.new.hand c.send_off-request.result c.send_off-request.ensures.request away))
    c.send.ensures.turn
