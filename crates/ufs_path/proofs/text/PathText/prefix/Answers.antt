use Rattle.std.proofs.Common.{◌≤◌, ◌∙◌, ap, subst, sym, take, max, length}
use Rattle.ufs_path.proofs.KeptLemmas.{kept_front, front_length}
use Rattle.ufs_path.proofs.text.PathText.prefix.Goals as goal

pub slice_bounds-result-end : goal.slice_bounds-result-end
slice_bounds-result-end c =
    let front = kept_front _ _ c.args.self.now c.self.invariant c.self.view_is c.args.count c.max-end.result c.requires (c.max-end.ensures ∙ ap (λ n. max n 1) c.end_of.ensures) in
    front_length c.max-end.result c.as_slice.result.now (subst (λ b. c.max-end.result ≤ length b) (sym c.as_slice.ensures.value) front.0)

pub returns : goal.returns
returns c =
    let front = kept_front _ _ c.args.self.now c.self.invariant c.self.view_is c.args.count c.max-end.result c.requires (c.max-end.ensures ∙ ap (λ n. max n 1) c.end_of.ensures) in
    ap (take c.max-end.result) c.as_slice.ensures.value ∙ front.1
