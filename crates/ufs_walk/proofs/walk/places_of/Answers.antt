use Rattle.std.proofs.Common.{◌≡◌, ℕ, List, [], ◌∷◌, ◌++◌, ap, sym, ◌∙◌, subst, arith}
use Rattle.std.specs.Prelude.{IsTrue}
use Rattle.std.specs.FinMap as map
use Rattle.std.specs.FinMap.{FinMap}
use Rattle.std.proofs.lemmas.List.{append-nil}
use Rattle.ufs_image.specs.Catalog.{IsInode, catalog_at}
use Rattle.ufs_image.specs.Nodes.{dirs_of, sound_nodes}
use Rattle.ufs_image.proofs.Depth.{has_root}
use Rattle.ufs_model.specs.Order.{path_cmp}
use Rattle.ufs_walk.specs.Walked.{AreInodes, Place, pairs_of, places}
use Rattle.ufs_walk.specs.Found.{HasNames}
use Rattle.ufs_walk.specs.Waits.{below_in, left}
use Rattle.ufs_walk.specs.declared.turns.Waiting.{Waiting}
use Rattle.ufs_walk.proofs.Maps.{if_ok, t_true, entries_again, all_entries}
use Rattle.ufs_walk.proofs.Told.{has_names, below_in_range}
use Rattle.ufs_walk.proofs.Waits.{below_is}
use Rattle.ufs_walk.proofs.walk.places_of.Goals as goal

pub returns-clause-rising : goal.returns-clause-rising
returns-clause-rising c =
    let m = c.note_all.new.found in
    if_ok c.into_places.result (λ at. pairs_of at.items ≡ map.entries m) (λ at. IsTrue (map.is_sorted path_cmp (pairs_of at.items)))
    (λ at same. ap (map.is_sorted path_cmp) same ∙ t_true (map.is_sorted path_cmp (map.entries m)) (map.entries_sorted m)) c.into_places.ensures

pub returns-clause-inodes : goal.returns-clause-inodes
returns-clause-inodes c image found none =
    let g = c.args.geometry.now in
    let m = c.note_all.new.found in
    let are : c.dirs-dirs.result.now ≡ dirs_of image (sound_nodes g image) = c.dirs-dirs.ensures ∙ found.dirs in
    let is = c.damage_law.ensures.catalog image none in
    let has : HasNames g image c.dirs-dirs.result.now = has_names g image c.dirs-dirs.result.now are none is (c.damage_law.ensures.sound image (catalog_at g image) is none) in
    let root : IsInode g 1 = record { from_one = omega arith; within = has_root g c.requires } in
    let walked : m ≡ map.from_entries (places g image) =
    c.in_ok-note_all.ensures ((47 ∷ [], 1) ∷ []) (c.in_ok-note.ensures [] c.new-found.ensures)
    ∙ ap (λ (l : List Place). map.from_entries {R = path_cmp} ((47 ∷ [], 1) ∷ l)) (c.in_ok-push_below.ensures ∙ ap (λ (ws : List Waiting). below_in g.inodes c.dirs-dirs.result.now c.in_ok-index.index [] 1 ++ left c.dirs-dirs.result.now c.in_ok-index.index ws) c.new-waiting.ensures.items ∙ append-nil _ ∙ below_is g image c.dirs-dirs.result.now c.in_ok-index.index has c.in_ok-index.ensures g.inodes [] 1 root) in
    let all : AreInodes g (map.entries m) = subst (λ (n : FinMap path_cmp ℕ). AreInodes g (map.entries n)) (sym walked) (all_entries (IsInode g) (places g image) (root, below_in_range g image c.dirs-dirs.result.now has g.inodes [] 1 root)) in
    if_ok c.into_places.result (λ at. pairs_of at.items ≡ map.entries m) (λ at. AreInodes g (pairs_of at.items))
    (λ at same. subst (AreInodes g) (sym same) all) c.into_places.ensures

pub returns-clause-places : goal.returns-clause-places
returns-clause-places c image found none =
    let g = c.args.geometry.now in
    let m = c.note_all.new.found in
    let are : c.dirs-dirs.result.now ≡ dirs_of image (sound_nodes g image) = c.dirs-dirs.ensures ∙ found.dirs in
    let is = c.damage_law.ensures.catalog image none in
    let has : HasNames g image c.dirs-dirs.result.now = has_names g image c.dirs-dirs.result.now are none is (c.damage_law.ensures.sound image (catalog_at g image) is none) in
    let root : IsInode g 1 = record { from_one = omega arith; within = has_root g c.requires } in
    let walked : m ≡ map.from_entries (places g image) =
    c.in_ok-note_all.ensures ((47 ∷ [], 1) ∷ []) (c.in_ok-note.ensures [] c.new-found.ensures)
    ∙ ap (λ (l : List Place). map.from_entries {R = path_cmp} ((47 ∷ [], 1) ∷ l)) (c.in_ok-push_below.ensures ∙ ap (λ (ws : List Waiting). below_in g.inodes c.dirs-dirs.result.now c.in_ok-index.index [] 1 ++ left c.dirs-dirs.result.now c.in_ok-index.index ws) c.new-waiting.ensures.items ∙ append-nil _ ∙ below_is g image c.dirs-dirs.result.now c.in_ok-index.index has c.in_ok-index.ensures g.inodes [] 1 root) in
    if_ok c.into_places.result (λ at. pairs_of at.items ≡ map.entries m) (λ at. map.from_entries {R = path_cmp} (pairs_of at.items) ≡ map.from_entries (places g image))
    (λ at same. entries_again m (pairs_of at.items) same ∙ walked) c.into_places.ensures
