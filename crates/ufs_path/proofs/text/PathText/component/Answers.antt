use Rattle.std.proofs.Common.{◌≡◌, ◌+◌, ◌∙◌, sym, arith, ap, get_or, subst, slice_range, Some, []}
use Rattle.std.proofs.lemmas.Option.{slice_get-get_or}
use Rattle.ufs_path.specs.Names.{IsName}
use Rattle.std.proofs.lemmas.List.Elements.{All-from_recursion}
use Rattle.ufs_path.proofs.KeptLemmas.{kept_length, kept_end, kept_part, kept_range, kept_names}
use Rattle.ufs_path.proofs.text.PathText.component.Goals as goal

pub index-end-requires : goal.index-end-requires
index-end-requires c = omega (arith, kept_length _ _ c.args.self.now c.self.invariant c.self.view_is)

pub overflow_add-start : goal.overflow_add-start
overflow_add-start c =
    let range = kept_range _ _ c.args.self.now c.self.invariant c.self.view_is c.args.i [] c.requires in
    let end = c.index-end.ensures ∙ kept_end _ _ c.args.self.now c.self.invariant c.self.view_is c.args.i c.index-end.result.now c.requires in
    omega (arith, range.0, end)

pub slice_bounds-result-count : goal.slice_bounds-result-count
slice_bounds-result-count c =
    let range = kept_range _ _ c.args.self.now c.self.invariant c.self.view_is c.args.i [] c.requires in
    let end = c.index-end.ensures ∙ kept_end _ _ c.args.self.now c.self.invariant c.self.view_is c.args.i c.index-end.result.now c.requires in
    omega (arith, range.0, end)

pub slice_bounds-result-start : goal.slice_bounds-result-start
slice_bounds-result-start c = slice_bounds-result-count c

pub slice_bounds-result-end : goal.slice_bounds-result-end
slice_bounds-result-end c =
    let range = kept_range _ _ c.args.self.now c.self.invariant c.self.view_is c.args.i [] c.requires in
    let end = c.index-end.ensures ∙ kept_end _ _ c.args.self.now c.self.invariant c.self.view_is c.args.i c.index-end.result.now c.requires in
    omega (arith, range.1, end)

part : (c : goal.After-result-1) → slice_range c.as_slice.result.now (c.end_of-start.result + 1) c.index-end.result.now ≡ get_or c.args.self.now c.args.i []
part c =
    let end = c.index-end.ensures ∙ kept_end _ _ c.args.self.now c.self.invariant c.self.view_is c.args.i c.index-end.result.now c.requires in
    ap (λ b. slice_range b (c.end_of-start.result + 1) c.index-end.result.now) c.as_slice.ensures.value
    ∙ kept_part _ _ c.args.self.now c.self.invariant c.self.view_is c.args.i c.index-end.result.now c.end_of-start.result [] c.requires end c.end_of-start.ensures

pub returns-clause-value : goal.returns-clause-value
returns-clause-value c = slice_get-get_or c.args.self.now c.args.i [] c.requires ∙ ap Some (sym (part c))

pub returns-clause-name : goal.returns-clause-name
returns-clause-name c =
    subst IsName (sym (part c)) (All-from_recursion IsName c.args.self.now (kept_names _ _ c.args.self.now c.self.invariant c.self.view_is) c.args.i [] c.requires)
