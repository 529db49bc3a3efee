use Rattle.std.proofs.Common.{ℕ, List, ap, not, sym, ◌∙◌}
use Rattle.std.proofs.lemmas.Bool.{not-true}
use Rattle.ufs_owner.specs.Owners.{has_none, owner_at}
use Rattle.ufs_home.specs.Home.{is_waited}
use Rattle.ufs_at_primary.proofs.Births.{sends}
use Rattle.ufs_at_primary.proofs.ordering.is_to_go.Goals as goal

pub returns-then-to-eq0-clause-no : goal.returns-then-to-eq0-clause-no
returns-then-to-eq0-clause-no g c = λ _ _ some _. some c.if-to-eq0.true

pub returns-in-Primary-clause-here : goal.returns-in-Primary-clause-here
returns-in-Primary-clause-here g c = λ _. sym c.in-Primary.ensures

pub returns-in-Primary-clause-yes : goal.returns-in-Primary-clause-yes
returns-in-Primary-clause-yes g c = λ yes.
    sends (owner_at c.args.home.now.owners c.args.file) (is_waited c.args.home.now.owners c.args.file) c.args.to (sym c.in-Primary.ensures) (sym c.is_waited.ensures ∙ not-true c.is_waited.result yes) c.if-to-eq0.false

pub returns-in-Primary-clause-no : goal.returns-in-Primary-clause-no
returns-in-Primary-clause-no g c = λ no at some none.
    let w = c.is_waited.ensures ∙ ap (λ (xs : List ℕ). not (has_none xs)) none in
    let both = sym (ap not w) ∙ no in
    cc

pub returns-in_default-clause-no : goal.returns-in_default-clause-no
returns-in_default-clause-no g c = λ no at some none. c.in_default.not-Primary (c.owner_of.ensures ∙ at)

pub returns-in-Primary-clause-called : goal.returns-in-Primary-clause-called
returns-in-Primary-clause-called g c = λ none. absurd (c.if-to-eq0.false none)
