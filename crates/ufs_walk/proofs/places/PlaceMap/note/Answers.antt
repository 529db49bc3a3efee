use Rattle.std.proofs.Common.{rules, ◌≡◌, ℕ, None, OnOk, sym, ◌∙◌, subst}
use Rattle.std.specs.FinMap as map
use Rattle.std.specs.FinMap.{FinMap, find}
use Rattle.ufs_model.specs.Order.{path_cmp}
use Rattle.ufs_walk.proofs.Maps.{kept, added, found_in, some_value, none_value}
use Rattle.ufs_walk.proofs.places.PlaceMap.note.Goals as goal

pub returns-then-is_some : goal.returns-then-is_some
returns-then-is_some c es is =
    let value = some_value c.get.result (sym c.if-is_some.ensures) in
    is ∙ sym (kept es (c.args.path.now, c.args.inode) value.0 (sym (found_in es c.args.path.now c.args.self.now is) ∙ sym c.get.ensures ∙ value.1))

pub returns : goal.returns
returns c es is =
    let copied : c.in_ok-path.path.items ≡ c.args.path.now = search rules in
    let none : find path_cmp c.args.path.now es ≡ None = sym (found_in es c.args.path.now c.args.self.now is) ∙ sym c.get.ensures ∙ none_value c.get.result (sym c.if-is_some.ensures) in
    subst (λ (m : FinMap path_cmp ℕ). OnOk c.insert.result (c.insert.new.self ≡ m))
    ((λ i. map.insert (is i) (copied i) c.args.inode) ∙ sym (added es (c.args.path.now, c.args.inode) none)) c.insert.ensures
