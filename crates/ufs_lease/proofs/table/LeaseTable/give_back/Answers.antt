use Rattle.std.proofs.Common.{ap, ◌∙◌, ◌<◌, ◌^◌, filter, rules, subst, sym}
use Rattle.std.proofs.lemmas.Fn.{filter_same}
use Rattle.std.proofs.lemmas.List.Elements.{All-filter}
use Rattle.ufs_lease.specs.Leases.{is_of_another, AreInTime}
use Rattle.ufs_lease.proofs.table.LeaseTable.give_back.Goals as goal

pub invariant_of-self : goal.invariant_of-self
invariant_of-self c =
    let kept = filter_same _ (is_of_another c.args.client) _ (λ x b f k. search rules) _ _ c.retain.ensures.filtered in
    subst AreInTime (sym kept) (All-filter (is_of_another c.args.client) (λ lease. lease.until < 2 ^ 24) _ c.self.invariant)

pub returns : goal.returns
returns c =
    filter_same _ (is_of_another c.args.client) _ (λ x b f k. search rules) _ _ c.retain.ensures.filtered
    ∙ ap (filter (is_of_another c.args.client)) c.self.view_is
