-- A session over a new disk begins: what its first hand has.
use Rattle.std.specs.Prelude.{ℕ, ◌-◌, ◌≤◌, ◌≡◌, true, false, [], ◌∷◌, map, Some, None}
use Rattle.std.specs.List.{range_with_len}
use Rattle.std.specs.FinMap as fin
use Rattle.ufs_base.specs.Images.{Image}
use Rattle.ufs_layout.specs.Areas.{first_of_data, sector_count}
use Rattle.ufs_layout.specs.declared.geometry.Geometry.{Geometry}
use Rattle.ufs_disk.specs.Disk.{Cell}
use Rattle.ufs_image.specs.Formatted.{IsFormatted}
use Rattle.ufs_model.specs.PosixTree.{root_alone}
use Rattle.ufs_crash_laws.specs.Changes.{names_of}
use Rattle.ufs_hand_laws.specs.Parts.{Cells, NamesPart, StorePart, View, Start}
use Rattle.ufs_hand_laws.specs.Visible.{IsDiskVisible}
use Rattle.ufs_hand_laws.specs.Whole.{CanOpen, idle_client, idle_asked}
use Rattle.ufs_hand_laws.specs.ByImages.{by_images}

abbrev pub settled_cell : Image → ℕ → Cell
settled_cell image sector = record { older = []; seen = image sector }

-- the disk has this image, and nothing is pending
abbrev pub settled_cells : ℕ → Image → Cells
settled_cells sectors image = map (settled_cell image) (range_with_len 0 sectors)

-- nothing stands past the disk's end
abbrev pub EndsAt : ℕ → Image → Type 0
EndsAt sectors image = (sector : ℕ) → sectors ≤ sector → image sector ≡ []

-- ---- the parts

-- the name of the primary's pool
abbrev pub primary_pool : ℕ
primary_pool = 4294967295

-- the names of the root alone
abbrev pub new_names : NamesPart
new_names = record { opening = names_of root_alone; paths = root_alone.paths; changes = []; holds = []; leases = []; next = 0; born = []; blocks = []; dropped = []; spare = []; clock = 0; known = 0 }

-- no data block is assigned
abbrev pub new_store : Geometry → Cells → StorePart
new_store g cells = record {
  files = fin.empty;
  names = 0;
  extents = fin.empty;
  dirs = [];
  unassigned = range_with_len (first_of_data g) (g.blocks - first_of_data g);
  past = [];
  paths = Some root_alone.paths;
  state = cells;
  mark = 0;
  lent = [];
  lent_names = 0;
  faults = [];
  shortages = [];
  stop = None;
}

-- so many clients, the primary's pool, the names and the store
abbrev pub new_view : ℕ → Geometry → Cells → View
new_view clients g cells = record {
  clients = map (λ client. (client, idle_client)) (range_with_len 0 clients);
  asked = map (λ client. (client, idle_asked)) (range_with_len 0 clients);
  files = [];
  pools = (primary_pool, []) ∷ [];
  names = (tt, new_names) ∷ [];
  store = (tt, new_store g cells) ∷ [];
  seen = 0;
  clock = 0;
  faults = [];
  stop = None;
  shortages = [];
}

abbrev pub new_start : ℕ → Geometry → Cells → Start
new_start clients g cells = record { tree = root_alone; view = new_view clients g cells; is_visible = true }

-- the same over a disk that isn't visible
abbrev pub blind_start : ℕ → Geometry → Cells → Start
blind_start clients g cells = record { tree = root_alone; view = new_view clients g cells; is_visible = false }

-- ---- it can be opened

-- On a disk with this geometry that was formatted and has nothing pending, a session can begin.
abbrev pub NewDiskOpens : Geometry → Type 0
NewDiskOpens g = (clients sectors : ℕ) (image : Image) → sector_count g ≤ sectors → IsFormatted g image → EndsAt sectors image
    → CanOpen by_images (new_start clients g (settled_cells sectors image)) new_names (new_store g (settled_cells sectors image))

-- That disk is visible, and proper as the session begins.
abbrev pub NewDisksAreVisible : Geometry → Type 0
NewDisksAreVisible g = (clients sectors : ℕ) (image : Image) → sector_count g ≤ sectors → IsFormatted g image → EndsAt sectors image → IsDiskVisible (new_start clients g (settled_cells sectors image))

-- On a disk that isn't visible it can too.
abbrev pub BlindDisksOpen : Type 0
BlindDisksOpen = (g : Geometry) (clients : ℕ) (cells : Cells) → CanOpen by_images (blind_start clients g cells) new_names (new_store g cells)
