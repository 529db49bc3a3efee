use Rattle.std.proofs.Common.{[], ◌∷◌, ◌++◌, sym, ◌∙◌}
use Rattle.std.proofs.lemmas.List.{map-append}
use Rattle.ufs_opening.specs.Heads.{whole_entry}
use Rattle.ufs_opening.proofs.tree.entries_of.Goals as goal

pub loop-head-preserved : goal.loop-head-preserved
loop-head-preserved c =
    c.in_ok-push.ensures.items
    ∙ (λ i. c.loop-head.invariant i ++ c.entry_of.ensures i ∷ [])
    ∙ sym (map-append whole_entry c.loop-head.yielded (c.in-Some.head ∷ []))
