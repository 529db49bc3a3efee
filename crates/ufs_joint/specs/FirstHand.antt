-- What a session over an image begins with, and its first hand, which has every cell.
use Rattle.std.specs.Prelude.{ℕ, zero, suc, ◌≡◌, ◌-◌, Bool, true, List, [], ◌∷◌, map, None, Some}
use Rattle.std.specs.FinMap as fin
use Rattle.ufs_bitmap.specs.Blocks.{BlockSet}
use Rattle.ufs_file_commits.specs.State.{state_of}
use Rattle.ufs_file.specs.Hand.{FileState}
use Rattle.ufs_files.specs.Files.{Files}
use Rattle.ufs_joint.specs.Cells.{FileCell, NamesCell, Start, StoreCell, View}
use Rattle.ufs_joint.specs.Disks.{cell_of}
use Rattle.ufs_joint.specs.NamesTurns.{live_files}
use Rattle.ufs_joint.specs.Whole.{no_blocks}
use Rattle.ufs_layout.specs.declared.geometry.Geometry.{Geometry}
use Rattle.ufs_model.specs.PosixTree.{PosixTree}
use Rattle.ufs_names.specs.NamesPart.{NamesPart}
use Rattle.ufs_names.specs.Notes.{with_notes}
use Rattle.ufs_hand_laws.specs.Whole.{idle_asked, idle_client}
use Rattle.ufs_store.specs.State.{StoreState}
use Rattle.ufs_promise_laws.specs.Parts.{Parts, committed_as}

-- An image's tree and form, with its names and files as they are committed there; and who takes part.
pub record Beginning : Type 0 where
  pub tree : PosixTree
  pub geometry : Geometry
  pub names : NamesPart
  pub files : Files
  pub clients : ℕ
  pub workers : ℕ
  -- The disk is visible, and was proper. Else nothing is said of what it holds.
  pub is_visible : Bool

-- ---- who takes part

-- the same for each of the first so many, under its name
abbrev pub each_of : {D : Type 0} → (ℕ → ℕ) → D → ℕ → List (ℕ × D)
each_of name d zero = []
each_of name d (suc n) = (name n, d) ∷ each_of name d n

abbrev pub client_of : ℕ → ℕ
client_of client = client

-- the number under which a server has its pool: the primary is 0, and behind it come the workers
abbrev pub pool_of : ℕ → ℕ
pool_of server = 4294967295 - server

-- The hand has this pool, and nothing else.
pub record HasPoolAlone (n : ℕ) (pool : BlockSet) (v : View) : Type 0 where
  pub clients : v.clients ≡ []
  pub asked : v.asked ≡ []
  pub files : v.files ≡ []
  pub pools : v.pools ≡ (n, pool) ∷ []
  pub names : v.names ≡ []
  pub store : v.store ≡ []

-- ---- the cells

-- a file that is committed as it is, with its birth
abbrev pub file_first : FileState → FileCell
file_first f = record { value = state_of f (committed_as f); changed = 0; known = 0; born = true }

abbrev pub files_first : Files → List (ℕ × FileCell)
files_first files = map (λ e. (e.0, file_first e.1)) (fin.entries files)

-- names that are committed as they are, with each live file
abbrev pub names_first : NamesPart → NamesCell
names_first n = record { value = with_notes (Some []) n; fresh = []; dropped = no_blocks; named = live_files n; changed = 0; known = 0 }

-- a store at rest
abbrev pub store_first : StoreState → StoreCell
store_first s = cell_of 0 [] s

-- Before there is a store: each client is idle, and no pool has a block.
abbrev pub start_before : Beginning → Start
start_before b = record {
  tree = b.tree;
  geometry = b.geometry;
  view = record {
    clients = each_of client_of idle_client b.clients;
    asked = each_of client_of idle_asked b.clients;
    files = files_first b.files;
    pools = each_of pool_of no_blocks (suc b.workers);
    names = (tt, names_first b.names) ∷ [];
    store = [];
    seen = 0;
    faults = [];
    stop = None;
  };
  is_visible = b.is_visible;
}

-- with the store's cell
abbrev pub with_store : StoreState → Start → Start
with_store s k = record k { view = record k.view { store = (tt, store_first s) ∷ [] } }

-- What a session starts from over the store that has the image's disk.
abbrev pub start_first : Beginning → StoreState → Start
start_first b s = with_store s (start_before b)

-- ---- the whole server

-- one server with all of it, and no block of its own: nothing is noted of the names, and each file is committed as it is
abbrev pub server_first : Beginning → Parts
server_first b = record { names = with_notes (Some []) b.names; files = b.files; commits = fin.empty; pool = no_blocks; fresh = []; dropped = no_blocks }
