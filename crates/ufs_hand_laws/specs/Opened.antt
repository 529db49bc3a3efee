-- A session over a disk that has files begins: what its first hand has.
use Rattle.std.specs.Prelude.{ℕ, ◌≤◌, ◌<◌, ◌≡◌, eqb, Bool, true, List, [], ◌∷◌, map, Some, None, Ok, unwrap_or}
use Rattle.std.specs.List.{range_with_len}
use Rattle.std.specs.Ordering.{nat_cmp}
use Rattle.std.specs.FinMap as fin
use Rattle.ufs_base.specs.Images.{Image}
use Rattle.ufs_image.specs.Opens.{ImageTree, opens}
use Rattle.ufs_image.specs.Proper.{IsProperImage}
use Rattle.ufs_image.specs.Volume.{superblock_of}
use Rattle.ufs_model.specs.FileBytes.{bytes_of}
use Rattle.ufs_model.specs.PosixTree.{PosixTree}
use Rattle.ufs_model.specs.Start.{PathNodes, IsPathTree, start_of}
use Rattle.ufs_crash_laws.specs.Changes.{names_of}
use Rattle.ufs_hand_laws.specs.Owned.{count}
use Rattle.ufs_hand_laws.specs.Parts.{Cells, FilePart, NamesPart, StorePart, View, Start, uses}
use Rattle.ufs_hand_laws.specs.DiskBytes.{IsOnDisk}
use Rattle.ufs_hand_laws.specs.Shown.{EachOpensTo, nodes_of}
use Rattle.ufs_hand_laws.specs.Visible.{IsDiskVisible}
use Rattle.ufs_hand_laws.specs.Whole.{CanOpen, idle_client, idle_asked}
use Rattle.ufs_hand_laws.specs.First.{settled_cells, EndsAt}
use Rattle.ufs_hand_laws.specs.ByImages.{by_images}

-- What is known of a disk when it is opened: its tree of paths, its sectors, the blocks of each
-- file by its number, those of directories and those that are free; and who will share it.
pub record OpenedDisk : Type 0 where
  pub nodes : PathNodes
  pub cells : Cells
  pub extents : fin.FinMap nat_cmp (List ℕ)
  pub dirs : List ℕ
  pub unassigned : List ℕ
  pub pools : List (ℕ × List ℕ)
  pub clients : ℕ
  pub is_visible : Bool

module _ (d : OpenedDisk) where
  -- its files have numbers by rising path, and nothing is open
  abbrev pub opened_tree : PosixTree
  opened_tree = start_of d.nodes

  -- no block of a file is in memory, and its birth is committed
  abbrev pub opened_file : ℕ → FilePart
  opened_file f = record {
    opening = fin.get opened_tree.bytes f;
    changes = [];
    bytes = bytes_of opened_tree.bytes f;
    leases = [];
    blocks = unwrap_or (fin.get d.extents f) [];
    quarantine = [];
    spare = [];
    loaded = [];
    born = true;
    known = 0;
  }

  abbrev pub opened_names : NamesPart
  opened_names = record {
    opening = names_of opened_tree;
    paths = opened_tree.paths;
    changes = [];
    holds = [];
    leases = [];
    next = opened_tree.next;
    born = range_with_len 0 opened_tree.next;
    blocks = d.dirs;
    dropped = [];
    spare = [];
    clock = 0;
    known = 0;
  }

  abbrev pub opened_store : StorePart
  opened_store = record {
    files = fin.empty;
    names = 0;
    extents = d.extents;
    dirs = d.dirs;
    unassigned = d.unassigned;
    past = [];
    paths = Some opened_tree.paths;
    state = d.cells;
    mark = 0;
    lent = [];
    lent_names = 0;
    faults = [];
    shortages = [];
    stop = None;
  }

  abbrev pub opened_view : View
  opened_view = record {
    clients = map (λ client. (client, idle_client)) (range_with_len 0 d.clients);
    asked = map (λ client. (client, idle_asked)) (range_with_len 0 d.clients);
    files = map (λ f. (f, opened_file f)) (range_with_len 0 opened_tree.next);
    pools = d.pools;
    names = (tt, opened_names) ∷ [];
    store = (tt, opened_store) ∷ [];
    seen = 0;
    clock = 0;
    faults = [];
    stop = None;
    shortages = [];
  }

  abbrev pub opened_start : Start
  opened_start = record { tree = opened_tree; view = opened_view; is_visible = d.is_visible }

  -- Only files of the tree have blocks, and no block is in two places. Where the disk is visible, and was proper, the
  -- files' blocks have their bytes.
  pub record CanBeOpened : Type 0 where
    pub paths : IsPathTree d.nodes
    pub small : opened_tree.next ≤ 1073741824
    pub pools : (n : ℕ) → count eqb n d.pools ≤ 1
    pub extents : (f : ℕ) (bs : List ℕ) → fin.get d.extents f ≡ Some bs → f < opened_tree.next
    pub once : (b : ℕ) → uses b opened_view ≤ 1
    pub on_disk : IsDiskVisible opened_start → (f : ℕ) → f < opened_tree.next → IsOnDisk (opened_file f) d.cells

-- On such a disk a session can begin, with every file in its part.
abbrev pub OpenedDisksServe : Type 0
OpenedDisksServe = (d : OpenedDisk) → CanBeOpened d → CanOpen by_images (opened_start d) (opened_names d) (opened_store d)

-- A visible disk with nothing pending is proper as the session begins, if its image is proper, marked clean and opens to the
-- tree of paths.
abbrev pub SettledDisksAreVisible : Type 0
SettledDisksAreVisible = (d : OpenedDisk) (sectors : ℕ) (image : Image) (tree : ImageTree) → d.is_visible ≡ true → d.cells ≡ settled_cells sectors image → EndsAt sectors image
    → IsProperImage sectors image → (superblock_of image).clean ≡ true → opens sectors image ≡ Ok tree → d.nodes ≡ nodes_of tree → IsDiskVisible (opened_start d)

-- A disk with nothing pending has one image, so it opens to the tree of that one.
abbrev pub SettledDisksOpen : Type 0
SettledDisksOpen = (sectors : ℕ) (image : Image) (tree : ImageTree) → EndsAt sectors image → opens sectors image ≡ Ok tree → EachOpensTo (λ nodes. nodes ≡ nodes_of tree) (settled_cells sectors image)
