use Rattle.std.proofs.Common.{◌≡◌, ◌<◌, ◌+◌, ◌∷◌, [], ◌++◌, List, length, take, ap, sym, ◌∙◌, subst, arith}
use Rattle.std.proofs.lemmas.List.{take_all, take_more}
use Rattle.ufs_image.specs.Catalog.{catalog_at}
use Rattle.ufs_image.proofs.Depth.{has_root}
use Rattle.ufs_walk.specs.Walked.{pairs_of}
use Rattle.ufs_walk.specs.declared.places.PathAt.{PathAt}
use Rattle.ufs_walk.proofs.Marked.{IsMarked, inodes_of, inodes_push, one_marked}
use Rattle.ufs_walk.proofs.Reached.{told_reached, reached_told}
use Rattle.ufs_walk.proofs.reaching.reached_inodes.Goals as goal

pub loop-at-preserved : goal.loop-at-preserved
loop-at-preserved c =
    let i = c.loop-at.invariant in
    let items = c.in_ok-places.places.items in
    let k = c.loop-at.at in
    let x : PathAt = c.index.result.now in
    let less : k < length items = let long = c.len-at-end.ensures in let under = c.loop-at-test.true in let size = c.in_ok-places.places.ok.0 in omega (arith, long, under, size) in
    let more : take (k + 1) items ≡ take k items ++ x ∷ [] = take_more items k x less ∙ ap (λ (y : PathAt). take k items ++ y ∷ []) (sym c.index.ensures) in
    record {
      sized = c.mark.ensures.sized ∙ i.sized;
      marked = subst (IsMarked c.mark.new.marks.items) (sym (ap inodes_of more ∙ inodes_push (take k items) x))
          (one_marked c.loop-at.marks.items c.mark.new.marks.items (inodes_of (take k items)) x.inode i.marked c.mark.ensures.others c.mark.ensures.here);
    }

pub returns-clause-marks : goal.returns-clause-marks
returns-clause-marks c image found whole =
    let g = c.args.geometry.now in
    let is = c.damage_law.ensures.catalog image whole in
    let sound = c.damage_law.ensures.sound image (catalog_at g image) is whole in
    let items = c.in_ok-places.places.items in
    let all : c.loop-at.at ≡ length items = omega arith in
    let marked : IsMarked c.loop-at.marks.items (inodes_of items) = subst (λ (l : List PathAt). IsMarked c.loop-at.marks.items (inodes_of l)) (ap (λ n. take n items) all ∙ take_all (length items) items (omega arith)) c.loop-at.invariant.marked in
    record {
      sized = c.loop-at.invariant.sized;
      reached = λ place e. told_reached g image (catalog_at g image) is sound (has_root g c.requires) (pairs_of items) c.in_ok-places.ensures.rising (c.in_ok-places.ensures.places image found whole) (place + 1) (marked.sound place e);
      others = λ place e names met. marked.all place e (reached_told g image (catalog_at g image) is sound (has_root g c.requires) (pairs_of items) c.in_ok-places.ensures.rising (c.in_ok-places.ensures.places image found whole) (place + 1) (record { names = names; met = met }));
    }
