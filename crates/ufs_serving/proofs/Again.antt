-- A file that was taken apart and is put together again.
use Rattle.std.proofs.Common.{◌≡◌, [], ◌∷◌, ap, ◌∙◌}
use Rattle.ufs_file_commits.specs.State.{DurableState}
use Rattle.ufs_joint.specs.Cells.{FileCell, View}
use Rattle.ufs_held.specs.Held.{HasFileAlone, IsHeld, first_cell}

module _ (cell : FileCell) (x : DurableState) (v : View) (value : cell.value ≡ x) (alone : HasFileAlone cell v) where
  pub held_again : IsHeld x v
  held_again = record {
    cell = cell;
    clients = alone.clients;
    asked = alone.asked;
    files = alone.files ∙ ap (λ (q : DurableState). (q.file.file, cell) ∷ []) value;
    pools = alone.pools;
    names = alone.names;
    store = alone.store;
    value = value;
  }

  pub cell_again : first_cell x v.files ≡ cell
  cell_again = ap (first_cell x) alone.files
