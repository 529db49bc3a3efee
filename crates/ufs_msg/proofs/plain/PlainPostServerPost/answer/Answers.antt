use Rattle.std.proofs.Common.{◌≡◌, IfSome, sym, subst, ◌∙◌}
use Rattle.ufs_ring.specs.Buffers.{HasGained, IsFull}
use Rattle.ufs_msg.specs.Addressed.{IsAnswerTo}
use Rattle.ufs_msg.specs.Rows.{IsSoAt}
use Rattle.ufs_msg.proofs.Addressing.{addressed_put}
use Rattle.ufs_msg.proofs.Places.{put_length}
use Rattle.ufs_msg.proofs.plain.PlainPostServerPost.answer.Goals as goal

pub invariant_of-self-clause-to_clients : goal.invariant_of-self-clause-to_clients
invariant_of-self-clause-to_clients g c =
    put_length HasGained (IsSoAt IsFull c.args.self.now.clients.items c.from.result) c.args.self.now.clients.items c.put_at.new.rings.items c.from.result c.in-Some.sent c.put_at.result c.put_at.ensures ∙ c.args.self.now.to_clients

pub invariant_of-self-clause-addressed : goal.invariant_of-self-clause-addressed
invariant_of-self-clause-addressed g c =
    let at : c.from.result ≡ c.args.client = c.from.ensures in
    let mine : IsAnswerTo c.args.client c.in-Some.sent = subst (λ o. IfSome o (IsAnswerTo c.args.client)) (sym c.in-Some.ensures.value) c.requires.of in
    addressed_put (IsSoAt IsFull c.args.self.now.clients.items c.from.result) c.args.self.now.clients.items c.put_at.new.rings.items c.from.result c.in-Some.sent c.put_at.result c.args.self.now.addressed
    (subst (λ k. IsAnswerTo k c.in-Some.sent) (sym at) mine) c.put_at.ensures
