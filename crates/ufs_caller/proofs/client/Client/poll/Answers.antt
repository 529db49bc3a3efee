use Rattle.std.proofs.Common.{not, sym, subst, ap, ◌∙◌}
use Rattle.ufs_caller.specs.Callers.{Caller}
use Rattle.ufs_caller.specs.Turns.{HasKept, HasSent}
use Rattle.ufs_caller.proofs.Places.{no_errand, none_is, some_is, under_way}
use Rattle.ufs_caller.proofs.client.Client.poll.Goals as goal

pub begin-requires : goal.begin-requires
begin-requires g c =
    let s = c.self.inside in
    record { idle = ap (λ (a : Caller). a.errand) (sym c.self.view_is) ∙ no_errand s.hand s.kept s.trip (c.is_none.ensures ∙ ap not c.if-is_none.true) }

pub send-requires : goal.send-requires
send-requires g c =
    let s = c.self.inside in
    let r = some_is s.kept (sym c.is_some.ensures ∙ c.if-is_some.true) in
    let u = under_way s.hand s.kept s.trip (c.is_none.ensures ∙ ap not c.if-is_none.false) in
    record { kept = subst HasKept c.self.view_is (u.0, r.0, u.1, u.2 ∙ r.1) }

pub hear-requires-clause-sent : goal.hear-requires-clause-sent
hear-requires-clause-sent g c =
    let s = c.self.inside in
    let u = under_way s.hand s.kept s.trip (c.is_none.ensures ∙ ap not c.if-is_none.false) in
    subst HasSent c.self.view_is (u.0, u.1, u.2 ∙ none_is s.kept (sym c.is_some.ensures ∙ c.if-is_some.false))
