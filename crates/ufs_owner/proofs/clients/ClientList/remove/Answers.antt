use Rattle.std.proofs.Common.{ap, ◌∙◌, filter, rules}
use Rattle.std.proofs.lemmas.Fn.{filter_same}
use Rattle.ufs_owner.specs.Clients.{is_another}
use Rattle.ufs_owner.proofs.clients.ClientList.remove.Goals as goal

pub returns : goal.returns
returns c =
    filter_same _ (is_another c.args.client) _ (λ x b f k. search rules) _ _ c.retain.ensures.filtered
    ∙ ap (filter (is_another c.args.client)) c.self.view_is
