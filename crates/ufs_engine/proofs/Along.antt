-- What is known of the cells of a session's disk is so of its states.
use Rattle.std.proofs.Common.{◌≡◌, ◌∙◌, inl, inr, ℕ, zero, suc, ◌<◌, ◌≤◌, Bool, true, List, [], ◌∷◌, ◌++◌, length, map, take, None, Some, refl, sym, ap, subst, arith}
use Rattle.std.specs.Prelude.{IsTrue, Ok, drop}
use Rattle.std.proofs.Math.Seq.{drop-append_seam}
use Rattle.ufs_base.specs.Images.{Image}
use Rattle.ufs_crash_laws.specs.Explained.{IsExplained}
use Rattle.ufs_crash_laws.specs.Mapped.{mapped}
use Rattle.ufs_disk.specs.Disk.{IsImage, Leaves, State}
use Rattle.ufs_disk.specs.Moments.{Moments, all, gone_to}
use Rattle.ufs_disk.proofs.Runs.{started}
use Rattle.ufs_rounds.specs.OfGathered.{AreExplainedAlong, HasEnded}
use Rattle.ufs_rounds.specs.OfGathered.ended as ended
use Rattle.ufs_hand_laws.specs.DiskBytes.{state_of}
use Rattle.ufs_hand_laws.specs.Owned.{Has}
use Rattle.ufs_hand_laws.specs.Parts.{Cells}
use Rattle.ufs_hand_laws.specs.Shown.{node_of, nodes_of}
use Rattle.ufs_image.specs.Opens.{ImageTree, NodeBytes, opens}
use Rattle.ufs_joint.specs.Cells.{FileCell, NamesCell, Start}
use Rattle.ufs_joint.specs.Disks.{states_behind}
use Rattle.ufs_joint.specs.Sound.{IsExplainedState}
use Rattle.ufs_ledger.specs.Kept.{path_node_of, paths_of}
use Rattle.ufs_model.specs.PosixTree.{PosixTree}
use Rattle.ufs_model.specs.Start.{PathNodes}
use Rattle.ufs_model.specs.declared.data.Entry.{Entry}
use Rattle.ufs_model.specs.declared.data.PathNode.{PathNode}
use Rattle.ufs_promise_laws.specs.OnDisk.{IsExplainedBetween, IsExplainedImage}
use Rattle.ufs_store.specs.State.{StoreState}
use Rattle.ufs_store_steps.specs.Cells.{cells_of}
use Rattle.ufs_store_steps.proofs.Cells.{cells_are_there, cut, cut_left, cut_same}
use Rattle.ufs_told.specs.Throughout.{IsExplainedThroughout}
use Rattle.ufs_told.proofs.ThroughoutLemmas.{throughout_before}
use Rattle.ufs_rounds.specs.OfTurns.{counted_in, state_in}
use Rattle.ufs_engine.specs.Plays.{IsStampedThroughout}
use Rattle.ufs_engine.specs.Stamped.{IsExplainedAtStamps}
use Rattle.ufs_engine.proofs.PlayedLemmas.{explained_behind}
use Rattle.ufs_engine.proofs.Walking.{AreExplained, AreLinked, IsLink, end_of, trail, trail_ends, trail_linked, walks}
use Rattle.ufs_engine.proofs.Within.{proper_within, same_tree}

same_node : (node : NodeBytes) → path_node_of node ≡ node_of node
same_node None = refl
same_node (Some bytes) = refl

same_nodes : (tree : ImageTree) → paths_of tree ≡ nodes_of tree
same_nodes tree = ap (λ (f : NodeBytes → PathNode). mapped f tree) (λ i node. same_node node i)

one_tree : (a b : ImageTree) → ◌≡◌ {A = ImageTree} a b → paths_of a ≡ nodes_of b
one_tree a b same = ap paths_of same ∙ same_nodes b

from_map : {A B : Type 0} (f : A → B) (xs : List A) (y : B) → Has y (map f xs) → (x : A) × (y ≡ f x)
from_map f [] y has = absurd has
from_map f (x ∷ xs) y (inl same) = (x, same)
from_map f (x ∷ xs) y (inr has) = from_map f xs y has

module _ (sectors : ℕ) (start : PosixTree) where
  -- so is each image that has the same sectors
  explained_there : (whole image : Image) (history : List Entry) → ((s : ℕ) → s < sectors → whole s ≡ image s) → IsExplainedImage sectors start history whole → IsExplainedImage sectors start history image
  explained_there whole image history same is = record {
    explained = record { tree = is.explained.tree; opened = same_tree sectors whole image same is.proper ∙ is.explained.opened; explained = is.explained.explained };
    proper = proper_within sectors whole image same is.proper;
  }

  pub state_explained : (history : List Entry) (state : State) → IsExplainedState sectors start history (cells_of sectors state) → Leaves (IsExplainedImage sectors start history) state
  state_explained history state is image left =
      let cells = cells_of sectors state in
      let are = cells_are_there sectors state in
      let x = is (cut sectors state cells are image) (cut_left sectors state cells are image left) in
      explained_there x.0 image history (λ s low. x.1 s low ∙ sym (cut_same sectors state cells are image s low)) x.2

  cells_explained : (history : List Entry) (cells : Cells) → IsExplainedState sectors start history cells → Leaves (IsExplainedImage sectors start history) (state_of cells)
  cells_explained history cells is image left = let x = is image left in explained_there x.0 image history x.1 x.2

  -- ---- along states

  module _ (keeps : Bool) (history : List Entry) where
    pub states_along : (from to : ℕ) (m : Moments) (xs : List State) → AreExplainedAlong sectors start history from (cells_of sectors m.state ∷ map (cells_of sectors) xs) to → AreExplained keeps sectors start history from (m ∷ trail m xs) to
    states_along from to m [] along = (along.0, along.1, (λ i low high. state_explained (take i history) m.state (along.2 i low high)), along.3)
    states_along from to m (x ∷ xs) along = (along.0, along.1, (λ i low high. state_explained (take i history) m.state (along.2 i low high)), states_along along.0 to (gone_to x m) xs along.3)

    -- moments of a disk that doesn't keep them
    abbrev moment_of : Cells → Moments
    moment_of cells = record { earlier = []; state = state_of cells }

    cells_along : (from to : ℕ) (xs : List Cells) → AreExplainedAlong sectors start history from xs to → AreExplained keeps sectors start history from (map moment_of xs) to
    cells_along from to [] along = along
    cells_along from to (x ∷ xs) along = (along.0, along.1, (λ i low high. cells_explained (take i history) x (along.2 i low high)), cells_along along.0 to xs along.3)

    module _ (unkept : IsTrue keeps → ⊥) where
      loose : (m n : Moments) → IsLink keeps sectors start m n
      loose m n told here there = record { before = here; after = there; between = λ kept. absurd (unkept kept) }

      loosely : (m : Moments) (ms : List Moments) → AreLinked keeps sectors start m ms
      loosely m [] = tt
      loosely m (n ∷ ms) = (loose m n, loosely n ms)

      -- Where the disk doesn't keep its moments, cells that were noted on the way stand for them.
      pub unkept_throughout : (old new : Moments) (xs : List Cells) → Leaves (IsExplainedImage sectors start []) old.state → AreExplainedAlong sectors start history 0 xs (length history) → Leaves (IsExplainedImage sectors start history) new.state
          → IsExplainedThroughout keeps sectors start [] history old new
      unkept_throughout old new xs begins along ends =
          let ms = map moment_of xs in
          let walked = walks keeps sectors start history [] history old ms refl (0, omega arith, (λ i low high. first i high), cells_along 0 (length history) xs along) (loosely old ms) in
          throughout_before keeps sectors start [] history old (end_of old ms) new walked (loose (end_of old ms) new history (explained_behind keeps sectors start [] history old (end_of old ms) walked) ends)
        where
          first : (i : ℕ) → i ≤ 0 → Leaves (IsExplainedImage sectors start (take i history)) old.state
          first zero high = begins
          first (suc i) high = absurd (omega (arith, high))

  -- ---- stamps

  stamps_shown : (history : List Entry) (cells : Cells) → length cells ≡ sectors → ended.IsExplainedAtStamps sectors start history cells → IsExplainedAtStamps start history cells
  stamps_shown history cells size is = (is.from, is.to, is.rises, is.within, shown)
    where
      there : (image : Image) → IsImage (state_of cells) image → (count : ℕ) → is.from ≤ count → count ≤ is.to → IsExplainedImage sectors start (take count history) image
      there image left count low high = cells_explained (take count history) cells (is.each count low high) image left

      shown : (image : Image) → IsImage (state_of cells) image → (tree : ImageTree) × (opens (length cells) image ≡ Ok tree) × ((count : ℕ) → is.from ≤ count → count ≤ is.to → IsExplained (nodes_of tree) start (take count history))
      shown image left =
          let one = there image left is.from (omega arith) is.rises in (
            one.explained.tree,
            ap (λ (n : ℕ). opens n image) size ∙ one.explained.opened,
            λ count low high.
                let other = there image left count low high in
                let both : Ok other.explained.tree ≡ Ok one.explained.tree = sym other.explained.opened ∙ one.explained.opened in
                let same : other.explained.tree ≡ one.explained.tree = cc in
                subst (λ (nodes : PathNodes). IsExplained nodes start (take count history)) (one_tree other.explained.tree one.explained.tree same) other.explained.explained,
          )

-- ---- a session that has ended

module _ (k : Start) (origin : Moments) (keeps : Bool) (tickets : ℕ) (lists : List (List Entry)) (names : NamesCell) (files : List FileCell) (s : StoreState) (has : HasEnded k origin keeps tickets lists names files s) (sees : k.is_visible ≡ true)
    (counted : counted_in k.view.store ≡ length (all origin)) (first : state_in k.view.store ≡ cells_of s.sectors origin.state ∷ []) where
  module _ (kept : IsTrue keeps) where
    abbrev inside : List State
    inside = (has.grown sees kept).0

    behind_is : drop (counted_in k.view.store) (all s.moments) ≡ inside
    behind_is = (λ i. drop (counted i) ((has.grown sees kept).1 i)) ∙ drop-append_seam (all origin) inside

    cells_are : state_in k.view.store ++ states_behind (counted_in k.view.store) s ≡ cells_of s.sectors origin.state ∷ map (cells_of s.sectors) inside
    cells_are = λ i. first i ++ map (cells_of s.sectors) (behind_is i)

    explained : AreExplained keeps s.sectors has.start has.history 0 (origin ∷ trail origin inside) (length has.history)
    explained = states_along s.sectors has.start keeps has.history 0 (length has.history) origin inside
        (subst (λ (xs : List Cells). AreExplainedAlong s.sectors has.start has.history 0 xs (length has.history)) cells_are (has.throughout sees kept))

    pub kept_throughout : IsExplainedThroughout keeps s.sectors has.start [] has.history origin s.moments
    kept_throughout = subst (λ (m : Moments). IsExplainedThroughout keeps s.sectors has.start [] has.history origin m) (trail_ends origin s.moments inside (has.grown sees kept).1)
        (walks keeps s.sectors has.start has.history [] has.history origin (trail origin inside) refl explained (trail_linked keeps s.sectors has.start origin inside))

    -- and so the hand stamped each, until the end was written
    pub kept_stamped : (now : Moments) → IsExplainedBetween keeps s.sectors has.start has.history s.moments now → IsStampedThroughout keeps s.sectors has.start has.history origin now
    kept_stamped now ends = record {
      from = origin;
      to = s.moments;
      before = started keeps (IsExplainedImage s.sectors has.start []) origin (explained.2 0 (omega arith) explained.1);
      passed = has.grown sees kept;
      stamped = λ x there.
          let from = from_map (cells_of s.sectors) (drop (length (all origin)) (all s.moments)) x there in
          stamps_shown s.sectors has.start has.history x (ap length from.1 ∙ (cells_are_there s.sectors from.0).size)
          (has.stamped sees kept x (subst (λ (n : ℕ). Has x (map (cells_of s.sectors) (drop n (all s.moments)))) (sym counted) there));
      behind = ends;
    }
