-- What a visible disk was as the session began, and which disks are.
use Rattle.std.proofs.Common.{◌≡◌, ℕ, true, List, [], ◌∷◌, length, sym, refl, ap, ◌∙◌, subst, ◌≤◌}
use Rattle.std.specs.Prelude.{Ok}
use Rattle.std.proofs.lemmas.List.FromFn.{length-map-range_with_len}
use Rattle.std.specs.FinMap.{same_map}
use Rattle.ufs_base.specs.Images.{Image}
use Rattle.ufs_disk.specs.Disk.{IsSettled, seen}
use Rattle.ufs_disk.proofs.Images.{seen_is_image}
use Rattle.ufs_layout.specs.Areas.{sector_count}
use Rattle.ufs_layout.specs.declared.geometry.Geometry.{Geometry}
use Rattle.ufs_image.specs.Formatted.{IsFormatted, new_volume}
use Rattle.ufs_image.specs.Laws.{OpensToRoot, BeginsProper, BeginsSound}
use Rattle.ufs_image.specs.Opens.{ImageTree, opens, root_tree}
use Rattle.ufs_image.specs.Proper.{IsProperImage}
use Rattle.ufs_image.specs.Volume.{Volume, superblock_of}
use Rattle.ufs_image.proofs.Journals.{taken}
use Rattle.ufs_model.specs.PosixTree.{root_alone}
use Rattle.ufs_model.specs.Start.{path_root, start_of}
use Rattle.ufs_model.proofs.Facts.Orders.{path_total, path_same}
use Rattle.ufs_model.proofs.Facts.Starts.{start_of-root}
use Rattle.ufs_hand_laws.specs.DiskBytes.{state_of}
use Rattle.ufs_hand_laws.specs.Parts.{Cells, Start, StorePart}
use Rattle.ufs_hand_laws.specs.Shown.{EachOpensTo, nodes_of}
use Rattle.ufs_hand_laws.specs.First.{settled_cell, settled_cells, EndsAt, new_store, new_start}
use Rattle.ufs_hand_laws.specs.Opened.{opened_store, opened_start, SettledDisksAreVisible}
use Rattle.ufs_hand_laws.specs.Visible.{IsDiskVisible}
use Rattle.ufs_hand_laws.proofs.First.{one_image, root_nodes}

-- ---- what it was

module _ (k : Start) (visible : IsDiskVisible k) where
  abbrev first_store : List (Unit {0} × StorePart) → StorePart
  first_store [] = visible.store
  first_store (x ∷ xs) = x.1

  pub first_store_is : (store : StorePart) → k.view.store ≡ (tt, store) ∷ [] → visible.store ≡ store
  first_store_is store is = ap first_store (sym visible.has_store ∙ is)

  -- each image that a crash might have left then opens to the tree
  pub begun_opens : EachOpensTo (λ nodes. nodes ≡ nodes_of visible.tree) visible.store.state
  begun_opens image is = (visible.tree, ap (opens (length visible.store.state)) (visible.settled image is) ∙ visible.opened, refl)

-- ---- a disk with nothing pending

module _ (sectors : ℕ) (image : Image) (ends : EndsAt sectors image) where
  pub settled_seen : seen (state_of (settled_cells sectors image)) ≡ image
  settled_seen = one_image sectors image (seen (state_of (settled_cells sectors image))) ends (seen_is_image (state_of (settled_cells sectors image)))

  pub is_settled : IsSettled (state_of (settled_cells sectors image))
  is_settled other is = one_image sectors image other ends is ∙ sym settled_seen

  settled_length : length (settled_cells sectors image) ≡ sectors
  settled_length = length-map-range_with_len (settled_cell image) 0 sectors

  -- a start that has it in its store
  pub settled_visible : (k : Start) (store : StorePart) (tree : ImageTree) → k.is_visible ≡ true → k.view.store ≡ (tt, store) ∷ [] → store.state ≡ settled_cells sectors image
      → IsProperImage sectors image → (superblock_of image).clean ≡ true → opens sectors image ≡ Ok tree → k.tree ≡ start_of (nodes_of tree) → IsDiskVisible k
  settled_visible k store tree visible has state proper clean opened starts = record {
    visible = visible;
    store = store;
    has_store = has;
    settled = subst (λ (cells : Cells). IsSettled (state_of cells)) (sym state) is_settled;
    proper = subst (λ (cells : Cells). IsProperImage (length cells) (seen (state_of cells))) (sym state) (subst (λ (d : ℕ × Image). IsProperImage d.0 d.1) (λ j. (sym settled_length j, sym settled_seen j)) proper);
    clean = ap (λ (cells : Cells). (superblock_of (seen (state_of cells))).clean) state ∙ ap (λ (d : Image). (superblock_of d).clean) settled_seen ∙ clean;
    tree = tree;
    opened = ap (λ (cells : Cells). opens (length cells) (seen (state_of cells))) state ∙ (λ j. opens (settled_length j) (settled_seen j)) ∙ opened;
    starts = starts;
  }

pub settled_disks_visible : SettledDisksAreVisible
settled_disks_visible d sectors image tree visible cells ends proper clean opened nodes = settled_visible sectors image ends (opened_start d) (opened_store d) tree visible refl cells proper clean opened (ap start_of nodes)

-- ---- a new disk

root_starts : root_alone ≡ start_of (nodes_of root_tree)
root_starts = sym start_of-root ∙ ap start_of (same_map path_total path_same path_root (nodes_of root_tree) root_nodes)

module _ (g : Geometry) (clients sectors : ℕ) (image : Image) (opened : OpensToRoot g) (proper : BeginsProper g) (sound : BeginsSound g) (room : sector_count g ≤ sectors) (new : IsFormatted g image) (ends : EndsAt sectors image) where
  new_clean : (superblock_of image).clean ≡ true
  new_clean = ap (λ (v : Volume). v.superblock.clean) (sym (taken sectors image (new_volume g image) (sound sectors image new room).taken).same)

  pub new_visible : IsDiskVisible (new_start clients g (settled_cells sectors image))
  new_visible = settled_visible sectors image ends (new_start clients g (settled_cells sectors image)) (new_store g (settled_cells sectors image)) root_tree refl refl refl (proper sectors image new room) new_clean (opened sectors image new room) root_starts
