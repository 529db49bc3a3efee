use Rattle.std.proofs.Common.{◌≡◌, ℕ, suc, ◌-◌, ◌++◌, List, ap, ◌∙◌, arith}
use Rattle.std.specs.Prelude.{flat_map}
use Rattle.std.proofs.lemmas.Result.{on_ok_weaker}
use Rattle.ufs_image.specs.Nodes.{NamedSlot}
use Rattle.ufs_walk.specs.Waits.{below_in, left}
use Rattle.ufs_walk.specs.Walked.{place_and_below}
use Rattle.ufs_walk.proofs.walk.push_below.Goals as goal

pub returns : goal.returns
returns c =
    let dirs = c.args.dirs.now in
    let index = c.args.index.now in
    let path = c.args.path.now in
    let old = left dirs index c.args.waiting.now.items in
    let one : suc (c.args.depth - 1) ≡ c.args.depth = let some = c.if-depth-eq0.false in omega (arith, some) in
    on_ok_weaker c.push_names.result (λ is.
    is
    ∙ ap (λ (names : List NamedSlot). flat_map (place_and_below (below_in (c.args.depth - 1) dirs index) path) names ++ old) c.slots_at-slots.ensures
    ∙ ap (λ (n : ℕ). below_in n dirs index path c.args.inode ++ old) one) (c.push_names.ensures dirs index)
