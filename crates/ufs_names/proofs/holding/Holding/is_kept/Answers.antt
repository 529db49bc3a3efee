use Rattle.std.proofs.Common.{◌≡◌, ◌||◌, ap, sym, ◌∙◌, rules, tests}
use Rattle.std.specs.List.{list_any}
use Rattle.std.proofs.lemmas.Iterator.{YieldsList-from_slice}
use Rattle.std.proofs.lemmas.Iterator.Search.{any_from_yields_List}
use Rattle.ufs_names.proofs.holding.Holding.is_kept.Goals as goal

pub returns-else-self : goal.returns-else-self
returns-else-self c =
    let h = c.args.self in
    let any : c.any.result ≡ list_any (λ b. b) h.clients =
    any_from_yields_List (λ b. b) _ _ _ c.any.ensures.ran (YieldsList-from_slice h.clients cc) (λ x b q k. search (rules, tests)) in
    any ∙ ap (λ l. l || list_any (λ b. b) h.clients) (sym c.if-self.false)
