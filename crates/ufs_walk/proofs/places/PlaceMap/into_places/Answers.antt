use Rattle.std.proofs.Common.{ℕ, List, [], ◌∷◌, ◌++◌, ap, sym, ◌∙◌, append_assoc}
use Rattle.std.proofs.lemmas.List.{append-nil}
use Rattle.std.specs.FinMap as map
use Rattle.std.specs.FinMap.{FinMap}
use Rattle.ufs_model.specs.Order.{path_cmp}
use Rattle.ufs_model.proofs.Facts.Orders.{path_total}
use Rattle.ufs_calls.specs.Seen.{keyed}
use Rattle.ufs_calls.proofs.Facts.Maps.{entries-seen}
use Rattle.ufs_walk.specs.Walked.{Place, pairs_of}
use Rattle.ufs_walk.specs.declared.places.PathAt.{PathAt}
use Rattle.ufs_walk.proofs.Maps.{pairs_push}
use Rattle.ufs_walk.proofs.places.PlaceMap.into_places.Goals as goal

pub loop-path-preserved : goal.loop-path-preserved
loop-path-preserved c =
    let places = c.loop-path.places.items in
    let left : List Place = keyed path_cmp (λ k. k.items) c.next.new.self in
    let one : PathAt = record { path = c.in-Some.path; inode = c.in-Some.inode } in
    ap (λ (es : List PathAt). pairs_of es ++ left) c.in_ok-push.ensures.items
    ∙ ap (λ (es : List Place). es ++ left) (pairs_push places one)
    ∙ append_assoc (pairs_of places) ((c.in-Some.path.items, c.in-Some.inode) ∷ []) left
    ∙ ap (λ it. pairs_of places ++ keyed path_cmp (λ k. k.items) it) (sym c.in-Some.ensures.steps)
    ∙ c.loop-path.invariant

pub returns : goal.returns
returns c =
    let places = c.loop-path.places.items in
    sym (append-nil (pairs_of places))
    ∙ ap (λ it. pairs_of places ++ keyed path_cmp (λ k. k.items) it) (sym c.in-None.ensures.steps.0)
    ∙ c.loop-path.invariant
    ∙ ap (keyed path_cmp (λ k. k.items)) c.into_iter-path-iterator.ensures.into_iter_gives.0
    ∙ sym (entries-seen path_cmp (λ k. k.items) path_total c.self.inside.entries c.into_iter-path-iterator.ensures.into_iter_gives.5)
    ∙ ap (λ (m : FinMap path_cmp ℕ). map.entries m) c.self.view_is
