use Rattle.std.proofs.Common.{◌≡◌, ◌+◌, List, [], ◌∷◌, ◌++◌, length, take, ap, sym, ◌∙◌, subst, arith}
use Rattle.std.proofs.lemmas.List.{take_all, take_more, length-take-le}
use Rattle.std.specs.Ordering.{nat_cmp}
use Rattle.std.specs.BTreeMap.{get}
use Rattle.ufs_image.specs.Nodes.{Dir}
use Rattle.ufs_walk.specs.Found.{IsPlaceOf, IsIndexOf}
use Rattle.ufs_walk.proofs.Indexed.{index_more}
use Rattle.ufs_walk.proofs.index.index_of.Goals as goal

pub loop-place-preserved : goal.loop-place-preserved
loop-place-preserved c q =
    let dirs = c.args.dirs.now in
    let i = c.loop-place.place in
    let d = c.index-dirs-place.result in
    let long : length (take i dirs) ≡ i = length-take-le i dirs (let less = c.loop-place-test.true in omega (arith, less)) in
    let more : take (i + 1) dirs ≡ take i dirs ++ d ∷ [] = take_more dirs i d c.loop-place-test.true ∙ ap (λ (x : Dir). take i dirs ++ x ∷ []) (sym c.index-dirs-place.is) in
    subst (λ (l : List Dir). IsPlaceOf l q (get nat_cmp c.insert.new.self q)) (sym more)
    (subst (IsPlaceOf (take i dirs ++ d ∷ []) q) (sym (c.in_ok-insert.ensures.updates.0 q)) (index_more (take i dirs) d i c.inode-key.result q (get nat_cmp c.loop-place.index q) long c.inode-key.ensures (c.loop-place.invariant q)))

pub returns : goal.returns
returns c =
    let dirs = c.args.dirs.now in
    let all : c.loop-place.place ≡ length dirs = omega arith in
    subst (λ (l : List Dir). IsIndexOf l c.loop-place.index) (ap (λ n. take n dirs) all ∙ take_all (length dirs) dirs (omega arith)) c.loop-place.invariant
