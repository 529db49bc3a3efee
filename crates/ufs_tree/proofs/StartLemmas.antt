-- The tree that a session begins with, a path at a time.
use Rattle.std.proofs.Common.{◌≡◌, ℕ, List, [], ◌∷◌, ◌++◌, ap, refl, ◌∙◌}
use Rattle.ufs_model.specs.declared.data.PathNode.{PathNode}
use Rattle.ufs_model.specs.declared.data.PathNode.TheVariants as path_node
use Rattle.ufs_model.specs.Start.{node_from, next_after, bytes_onto, paths_from, bytes_from, next_from}
use Rattle.ufs_model.proofs.Facts.Starts.{Pairs}

pub paths_from-push : (n : ℕ) (es : Pairs) (e : List ℕ × PathNode) → paths_from n (es ++ e ∷ []) ≡ paths_from n es ++ (e.0, node_from (next_from n es) e.1) ∷ []
paths_from-push n [] e = refl
paths_from-push n (x ∷ es) e = ap (λ rest. (x.0, node_from n x.1) ∷ rest) (paths_from-push (next_after n x.1) es e)

pub next_from-push : (n : ℕ) (es : Pairs) (e : List ℕ × PathNode) → next_from n (es ++ e ∷ []) ≡ next_after (next_from n es) e.1
next_from-push n [] e = refl
next_from-push n (x ∷ es) e = next_from-push (next_after n x.1) es e

onto-append : (n : ℕ) (node : PathNode) (xs ys : List (ℕ × List ℕ)) → bytes_onto n node (xs ++ ys) ≡ bytes_onto n node xs ++ ys
onto-append n path_node.Dir xs ys = refl
onto-append n (path_node.File bytes) xs ys = refl

pub bytes_from-push : (n : ℕ) (es : Pairs) (e : List ℕ × PathNode) → bytes_from n (es ++ e ∷ []) ≡ bytes_from n es ++ bytes_onto (next_from n es) e.1 []
bytes_from-push n [] e = refl
bytes_from-push n (x ∷ es) e = ap (bytes_onto n x.1) (bytes_from-push (next_after n x.1) es e) ∙ onto-append n x.1 _ _

pub next_from-append : (n : ℕ) (es fs : Pairs) → next_from n (es ++ fs) ≡ next_from (next_from n es) fs
next_from-append n [] fs = refl
next_from-append n (x ∷ es) fs = next_from-append (next_after n x.1) es fs
