use Rattle.std.proofs.Common.{rules, ◌≡◌, [], ◌++◌, ◌∷◌, List, ℕ, filter, ap, sym, ◌∙◌, append_assoc}
use Rattle.std.proofs.lemmas.List.{append-nil}
use Rattle.std.specs.FinMap as map
use Rattle.ufs_model.specs.Directories.{starts_with}
use Rattle.ufs_model.specs.Order.{path_cmp}
use Rattle.ufs_model.specs.PosixTree.{Paths}
use Rattle.ufs_model.specs.declared.data.Node.{Node}
use Rattle.ufs_calls.specs.Seen.{keyed}
use Rattle.ufs_tree.proofs.RangeLemmas.{forward, below_is}
use Rattle.ufs_tree.proofs.node_map.NodeMap.below.Goals as goal

pub range-path-items-requires : goal.range-path-items-requires
range-path-items-requires c = rw (c.in_ok-start.ensures, c.in_ok-end.ensures) (forward c.args.front.now)

pub loop-path-init : goal.loop-path-init
loop-path-init c = ap (λ (es : List (List ℕ × Node)). es ++ keyed path_cmp (λ k. k.items) c.into_iter-path-iterator.result) c.new-found.ensures.items

pub loop-path-preserved : goal.loop-path-preserved
loop-path-preserved c =
    let left : List (List ℕ × Node) = keyed path_cmp (λ k. k.items) c.next.new.self in
    let found : List (List ℕ × Node) = c.loop-path.found.items in
    let copied : c.in_ok-copy.copy.items ≡ c.in-Some.path.now.items = search rules in
    ap (λ (es : List (List ℕ × Node)). es ++ left) c.in_ok-push.ensures.items
    ∙ append_assoc found ((c.from_vec.result, c.in-Some.node.now) ∷ []) left
    ∙ ap (λ (b : List ℕ). found ++ (b, c.in-Some.node.now) ∷ left) (c.from_vec.ensures ∙ copied)
    ∙ ap (λ it. found ++ keyed path_cmp (λ k. k.items) it) (sym c.in-Some.ensures.steps)
    ∙ c.loop-path.invariant

pub returns : goal.returns
returns c =
    let found : List (List ℕ × Node) = c.loop-path.found.items in
    sym (append-nil found)
    ∙ ap (λ it. found ++ keyed path_cmp (λ k. k.items) it) (sym c.in-None.ensures.steps.0)
    ∙ c.loop-path.invariant
    ∙ ap (keyed path_cmp (λ k. k.items)) (c.into_iter-path-iterator.ensures.into_iter_gives ∙ c.range-path-items.ensures.between tt)
    ∙ below_is (λ k. k.items) c.self.inside.entries c.in_ok-start.start.items c.in_ok-end.end.items c.args.front.now c.range-path-items.ensures.ordered c.in_ok-start.ensures c.in_ok-end.ensures
    ∙ ap (λ (m : Paths). filter (λ e. starts_with (c.args.front.now ++ 47 ∷ []) e.0) (map.entries m)) c.self.view_is
