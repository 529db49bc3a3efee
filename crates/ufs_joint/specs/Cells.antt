-- What each cell of a hand has: the value that the code has, and a little beside it. The views of hands, and how they are split and
-- joined.
use Rattle.std.specs.Prelude.{ℕ, Bool, List, [], ◌++◌, None, Option}
use Rattle.ufs_bitmap.specs.Blocks.{BlockSet}
use Rattle.ufs_bitmap.specs.Space.{Space}
use Rattle.ufs_disk.specs.Disk.{State}
use Rattle.ufs_file_commits.specs.State.{DurableState}
use Rattle.ufs_journal.specs.declared.journal.Journal.{Journal}
use Rattle.ufs_layout.specs.declared.geometry.Geometry.{Geometry}
use Rattle.ufs_layout.specs.declared.superblock.Super.{Super}
use Rattle.ufs_model.specs.PosixTree.{PosixTree}
use Rattle.ufs_model.specs.declared.data.PartName.{PartName}
use Rattle.ufs_names.specs.NamesPart.{NamesPart}
use Rattle.ufs_overlay.specs.declared.overlay.Overlay.{Overlay}
use Rattle.ufs_hand_laws.specs.DiskBytes.{state_of}
use Rattle.ufs_hand_laws.specs.Owned.{only, without}
use Rattle.ufs_hand_laws.specs.Parts.{AskedPart, Cells, ClientPart, Stretch, either, is_asked, is_client, is_file, is_names, is_store, later}
use Rattle.ufs_store.specs.State.{StoreState}

-- ---- cells

pub record FileCell : Type 0 where
  pub value : DurableState
  -- the tickets behind the last entry that changed it
  pub changed : ℕ
  -- what changed of it behind so many tickets is known as committed
  pub known : ℕ
  -- and so is its birth
  pub born : Bool

pub record NamesCell : Type 0 where
  pub value : NamesPart
  -- the blocks that directories took since the last commit of names, and those that directories and removed files dropped
  pub fresh : List ℕ
  pub dropped : BlockSet
  -- the files that the last commit of names has, as far as is known
  pub named : BlockSet
  pub changed : ℕ
  pub known : ℕ

-- The store without the states that its disk was in before.
pub record StoreCell : Type 0 where
  pub sectors : ℕ
  pub state : Cells
  -- how many states the disk was in
  pub counted : ℕ
  pub faults : ℕ
  pub superblock : Super
  pub journal : Journal
  pub overlay : Overlay
  pub txn : ℕ
  pub unassigned : Space
  pub unsettled : Bool
  pub stop : Option ℕ
  -- the tickets when its last turn began
  pub stamp : ℕ
  -- the states that the disk passed in turns and between them, with the tickets at both ends of each stretch; the newest first
  pub past : List Stretch

-- the store's own state, where its disk was in these states before
abbrev pub store_since : List State → StoreCell → StoreState
store_since earlier c = record {
  sectors = c.sectors;
  moments = record { earlier = earlier; state = state_of c.state };
  faults = c.faults;
  superblock = c.superblock;
  journal = c.journal;
  overlay = c.overlay;
  txn = c.txn;
  unassigned = c.unassigned;
  unsettled = c.unsettled;
  stop = c.stop;
}

abbrev pub store_of : StoreCell → StoreState
store_of c = store_since [] c

-- ---- views

-- What a hand knows: its cells, how many tickets it has seen, the faults of the device that were answered to it and have excused no
-- entry yet, and the fault at which the store stopped, where it was told.
pub record View : Type 0 where
  pub clients : List (ℕ × ClientPart)
  pub asked : List (ℕ × AskedPart)
  pub files : List (ℕ × FileCell)
  pub pools : List (ℕ × BlockSet)
  pub names : List (Unit {0} × NamesCell)
  pub store : List (Unit {0} × StoreCell)
  pub seen : ℕ
  pub faults : List ℕ
  pub stop : Option ℕ

abbrev pub kept_of : PartName → View → View
kept_of p v = record {
  clients = without (is_client p) v.clients;
  asked = without (is_asked p) v.asked;
  files = without (is_file p) v.files;
  pools = without (is_file p) v.pools;
  names = without (is_names p) v.names;
  store = without (is_store p) v.store;
  seen = v.seen;
  faults = v.faults;
  stop = v.stop;
}

abbrev pub given_of : PartName → View → View
given_of p v = record {
  clients = only (is_client p) v.clients;
  asked = only (is_asked p) v.asked;
  files = only (is_file p) v.files;
  pools = only (is_file p) v.pools;
  names = only (is_names p) v.names;
  store = only (is_store p) v.store;
  seen = v.seen;
  faults = [];
  stop = v.stop;
}

abbrev pub both_of : View → View → View
both_of v u = record {
  clients = v.clients ++ u.clients;
  asked = v.asked ++ u.asked;
  files = v.files ++ u.files;
  pools = v.pools ++ u.pools;
  names = v.names ++ u.names;
  store = v.store ++ u.store;
  seen = later v.seen u.seen;
  faults = v.faults ++ u.faults;
  stop = either v.stop u.stop;
}

abbrev pub spent : View
spent = record { clients = []; asked = []; files = []; pools = []; names = []; store = []; seen = 0; faults = []; stop = None }

-- ---- the cells of all hands, once each

pub record World : Type 0 where
  pub client : ℕ → Option ClientPart
  pub asked : ℕ → Option AskedPart
  pub file : ℕ → Option FileCell
  pub pool : ℕ → Option BlockSet
  pub names : NamesCell
  pub store : StoreCell

pub record Word : Type 0 where
  pub tickets : ℕ

-- What a table starts from: the tree, the form of the disk, and the first hand, which has every cell.
pub record Start : Type 0 where
  pub tree : PosixTree
  pub geometry : Geometry
  pub view : View
  -- The disk is visible, and was proper. Else nothing is said of what it holds.
  pub is_visible : Bool
