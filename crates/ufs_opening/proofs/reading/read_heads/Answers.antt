use Rattle.std.proofs.Common.{◌≡◌, [], ◌∷◌, ◌++◌, take, get_or, map, refl, rules, ap, sym, ◌∙◌, subst}
use Rattle.std.proofs.lemmas.List.{map_more, map-append}
use Rattle.std.proofs.lemmas.Result.{err_from_is_err_and}
use Rattle.ufs_base.specs.Images.{Image}
use Rattle.ufs_image.specs.Opens as opens
use Rattle.ufs_metadata.specs.Folded.{IsFolded}
use Rattle.ufs_walk.specs.Walked.{Place, entry_of, pairs_of}
use Rattle.ufs_walk.specs.declared.places.PathAt.{PathAt}
use Rattle.ufs_metadata.proofs.Quiet.{read_more, read_none}
use Rattle.ufs_opening.specs.Heads.{heads_of, path_head, paths_of}
use Rattle.ufs_opening.specs.declared.head.PathHead.{PathHead}
use Rattle.ufs_opening.proofs.Trees.{inode_there}
use Rattle.ufs_opening.proofs.reading.read_heads.Goals as goal

pub returns-in_err-head-clause-read_only : goal.returns-in_err-head-clause-read_only
returns-in_err-head-clause-read_only g c visible =
    read_more g.D.Disk.keeps (g.D.Disk.moments c.args.disk.now) (g.D.Disk.moments c.loop-place.disk) (g.D.Disk.moments c.read_head.new.disk) (c.loop-place.invariant.read_only visible) (c.read_head.ensures.read_only visible)

pub returns-in_err-push_head-clause-read_only : goal.returns-in_err-push_head-clause-read_only
returns-in_err-push_head-clause-read_only g c visible =
    read_more g.D.Disk.keeps (g.D.Disk.moments c.args.disk.now) (g.D.Disk.moments c.loop-place.disk) (g.D.Disk.moments c.read_head.new.disk) (c.loop-place.invariant.read_only visible) (c.read_head.ensures.read_only visible)

pub returns-in_err-head-clause-outside : goal.returns-in_err-head-clause-outside
returns-in_err-head-clause-outside g c visible image is readable all =
    let p = err_from_is_err_and c.from_residual-in_err-head.result c.from_residual-in_err-head.ensures.1 in
    rw (p.1, p.2)
    (c.in_err-head.ensures.outside visible image (subst (λ (d : Image). IsFolded c.args.overlay.now d image) (sym (c.loop-place.invariant.read_only visible).content) is) readable (inode_there c.args.geometry.now c.args.places.now c.loop-place.place c.index-places-place.result c.loop-place-test.true c.index-places-place.is all))

pub loop-place-init : goal.loop-place-init
loop-place-init g c =
    let none : c.in_ok-heads.heads.items ≡ [] = search rules in
    record {
      paths = ap paths_of none;
      heads = λ visible image is readable all. none;
      shape = ([], none);
      read_only = λ visible. read_none g.D.Disk.keeps (g.D.Disk.moments c.args.disk.now);
      size = refl;
      faults = refl;
    }

pub loop-place-preserved : goal.loop-place-preserved
loop-place-preserved g c =
    let i = c.loop-place.invariant in
    let n = c.loop-place.place in
    let places = c.args.places.now in
    let geometry = c.args.geometry.now in
    let p = c.index-places-place.result in
    let h = c.in_ok-head.head in
    record {
      paths =
          ap paths_of c.in_ok-push_head.ensures ∙ map-append (λ (x : PathHead). x.path) c.loop-place.heads.items (h ∷ [])
          ∙ (λ k. i.paths k ++ (c.in_ok-head.ensures.path ∙ ap (λ (q : PathAt). q.path.items) c.index-places-place.is) k ∷ [])
          ∙ sym (map_more (λ (q : PathAt). q.path.items) places n p c.loop-place-test.true);
      heads = λ visible image is readable all.
          let here = inode_there geometry places n p c.loop-place-test.true c.index-places-place.is all in
          let node = c.in_ok-head.ensures.node visible image (subst (λ (d : Image). IsFolded c.args.overlay.now d image) (sym (i.read_only visible).content) is) readable here in
          let one : h ≡ path_head c.args.most (entry_of geometry image (p.path.items, p.inode)) = (λ k. record { path = c.in_ok-head.ensures.path k; node = node k }) in
          c.in_ok-push_head.ensures
          ∙ (λ k. i.heads visible image is readable all k ++ (one ∙ ap (λ (q : PathAt). path_head c.args.most (entry_of geometry image (q.path.items, q.inode))) c.index-places-place.is) k ∷ [])
          ∙ sym (ap (λ l. heads_of c.args.most (map (entry_of geometry image) l)) (map_more {Y = Place} (λ (q : PathAt). (q.path.items, q.inode)) places n p c.loop-place-test.true)
          ∙ ap (heads_of c.args.most) (map-append (entry_of geometry image) (pairs_of (take n places)) (((get_or places n p).path.items, (get_or places n p).inode) ∷ []))
          ∙ map-append (path_head c.args.most) (map (entry_of geometry image) (pairs_of (take n places))) (entry_of geometry image ((get_or places n p).path.items, (get_or places n p).inode) ∷ []));
      shape =
          let so_far = i.shape in
          let node = c.in_ok-head.ensures.shape in
          let last : opens.PathEntry = (h.path, node.0) in (
            so_far.0 ++ last ∷ [],
            c.in_ok-push_head.ensures ∙ (λ k. so_far.1 k ++ record { path = h.path; node = node.1 k } ∷ []) ∙ sym (map-append (path_head c.args.most) so_far.0 (last ∷ [])),
          );
      read_only = λ visible. read_more g.D.Disk.keeps (g.D.Disk.moments c.args.disk.now) (g.D.Disk.moments c.loop-place.disk) (g.D.Disk.moments c.read_head.new.disk) (i.read_only visible) (c.read_head.ensures.read_only visible);
      size = c.read_head.ensures.size ∙ i.size;
      faults = c.in_ok-head.ensures.passed ∙ i.faults;
    }
