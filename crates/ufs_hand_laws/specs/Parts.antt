-- What each part of the server's state has, what a hand knows, and how hands are split and joined.
use Rattle.std.specs.Prelude.{ℕ, ◌+◌, ◌≤◌, ◌≡◌, ◌==◌, ◌&&◌, eqb, cond, leb, Bool, true, false, List, [], ◌∷◌, ◌++◌, Option, Some, None, is_some}
use Rattle.std.specs.List.{list_any}
use Rattle.std.specs.Ordering.{nat_cmp}
use Rattle.std.specs.FinMap as map
use Rattle.ufs_disk.specs.Disk.{Cell}
use Rattle.ufs_model.specs.PosixTree.{PosixTree, Paths}
use Rattle.ufs_model.specs.declared.data.Desc.{Desc}
use Rattle.ufs_model.specs.declared.data.Entry.{Entry}
use Rattle.ufs_model.specs.declared.data.Lease.{Lease}
use Rattle.ufs_model.specs.declared.data.Op.{Op}
use Rattle.ufs_model.specs.declared.data.PartName.{PartName}
use Rattle.ufs_model.specs.declared.data.PartName.TheVariants as part
use Rattle.ufs_hand_laws.specs.Owned.{weigh, count, only, without, times}
use Rattle.ufs_crash_laws.specs.Changes.{NameState}
use Rattle.ufs_crash_laws.specs.declared.data.FileChange.{FileChange}

-- ---- parts

-- a client's descriptors, by their numbers
abbrev pub OwnFds : Type 0
OwnFds = map.FinMap nat_cmp Desc

pub record ClientPart : Type 0 where
  pub entries : List Entry
  pub fds : OwnFds
  pub copies : List Lease
  -- the request that it asked, until its entry is there
  pub asked : Option Op

-- what the client had when it last asked, the request, and the number of tickets then
pub record AskedPart : Type 0 where
  pub entries : List Entry
  pub fds : OwnFds
  pub copies : List Lease
  pub asked : Option Op
  pub tickets : ℕ

pub record FilePart : Type 0 where
  -- the bytes at the opening, if the file was there
  pub opening : Option (List ℕ)
  pub changes : List FileChange
  pub bytes : List ℕ
  pub leases : List Lease
  -- its blocks by their places in the file, and those that it doesn't need any more
  pub blocks : List ℕ
  pub quarantine : List ℕ
  -- blocks that were brought to it and that no commit has
  pub spare : List ℕ
  -- the places of those that are in memory
  pub loaded : List ℕ
  -- it knows that its birth is committed, and so many of its changes
  pub born : Bool
  pub known : ℕ

pub record NamesPart : Type 0 where
  -- the names at the opening, and after each of their changes
  pub opening : NameState
  pub paths : Paths
  pub changes : List NameState
  -- who holds which file
  pub holds : List (ℕ × ℕ)
  pub leases : List Lease
  -- the next file number
  pub next : ℕ
  pub born : List ℕ
  -- the blocks of directories, and of removed ones until the next checkpoint
  pub blocks : List ℕ
  -- the blocks of each dropped file whose removal isn't committed
  pub dropped : List (ℕ × List ℕ)
  -- blocks that no commit has
  pub spare : List ℕ
  pub clock : ℕ
  pub known : ℕ

-- each sector of a disk
abbrev pub Cells : Type 0
Cells = List Cell

-- the states that the disk was in from one mark to the next, with the tickets at the two
pub record Stretch : Type 0 where
  pub states : List Cells
  pub from : ℕ
  pub to : ℕ

-- no blocks: so many needed, and so many that there were, unassigned and in the pool
pub record Shortage : Type 0 where
  pub need : ℕ
  pub had : ℕ
  pub pool : ℕ

pub record StorePart : Type 0 where
  -- how many changes are committed, of each file and of names
  pub files : map.FinMap nat_cmp ℕ
  pub names : ℕ
  -- the blocks of each file in the last commit
  pub extents : map.FinMap nat_cmp (List ℕ)
  -- the blocks of directories in the last commit, and those on which this epoch has entries
  pub dirs : List ℕ
  pub unassigned : List ℕ
  pub past : List Stretch
  -- the path map that each image has, where that is one
  pub paths : Option Paths
  -- the disk as it is, the tickets at the last mark, and the numbers of changes that files and names had then
  pub state : Cells
  pub mark : ℕ
  pub lent : List (ℕ × ℕ)
  pub lent_names : ℕ
  pub faults : List ℕ
  pub shortages : List Shortage
  -- the fault at which it stopped
  pub stop : Option ℕ

-- ---- views

-- What a hand knows: its parts, the last ticket and clock that it read, and what the store answered to it.
pub record View : Type 0 where
  pub clients : List (ℕ × ClientPart)
  pub asked : List (ℕ × AskedPart)
  pub files : List (ℕ × FilePart)
  pub pools : List (ℕ × List ℕ)
  pub names : List (Unit {0} × NamesPart)
  pub store : List (Unit {0} × StorePart)
  pub seen : ℕ
  pub clock : ℕ
  pub faults : List ℕ
  pub stop : Option ℕ
  pub shortages : List Shortage

abbrev pub only_one : Unit {0} → Unit {0} → Bool
only_one a b = true

-- ---- which parts a name is of

abbrev pub is_client : PartName → ℕ → Bool
is_client (part.Client c) n = eqb c n
is_client _ n = false

abbrev pub is_asked : PartName → ℕ → Bool
is_asked (part.Asked c) n = eqb c n
is_asked _ n = false

-- a file or a pool
abbrev pub is_file : PartName → ℕ → Bool
is_file (part.File f) n = eqb f n
is_file _ n = false

abbrev pub is_names : PartName → Unit {0} → Bool
is_names part.Names n = true
is_names _ n = false

abbrev pub is_store : PartName → Unit {0} → Bool
is_store part.Store n = true
is_store _ n = false

-- the hand has the part
abbrev pub HoldsPart : PartName → View → Type 0
HoldsPart (part.Client c) v = 1 ≤ count eqb c v.clients
HoldsPart (part.Asked c) v = 1 ≤ count eqb c v.asked
HoldsPart (part.File f) v = 1 ≤ count eqb f v.files
HoldsPart part.Names v = 1 ≤ count only_one tt v.names
HoldsPart part.Store v = 1 ≤ count only_one tt v.store

-- ---- split and join

abbrev pub kept_of : PartName → View → View
kept_of p v = record v {
  clients = without (is_client p) v.clients;
  asked = without (is_asked p) v.asked;
  files = without (is_file p) v.files;
  pools = without (is_file p) v.pools;
  names = without (is_names p) v.names;
  store = without (is_store p) v.store;
}

abbrev pub given_of : PartName → View → View
given_of p v = record {
  clients = only (is_client p) v.clients;
  asked = only (is_asked p) v.asked;
  files = only (is_file p) v.files;
  pools = only (is_file p) v.pools;
  names = only (is_names p) v.names;
  store = only (is_store p) v.store;
  seen = v.seen;
  clock = v.clock;
  faults = [];
  stop = v.stop;
  shortages = [];
}

abbrev pub later : ℕ → ℕ → ℕ
later a b = cond (leb a b) b a

abbrev pub either : Option ℕ → Option ℕ → Option ℕ
either None b = b
either (Some a) b = Some a

abbrev pub both_of : View → View → View
both_of v u = record {
  clients = v.clients ++ u.clients;
  asked = v.asked ++ u.asked;
  files = v.files ++ u.files;
  pools = v.pools ++ u.pools;
  names = v.names ++ u.names;
  store = v.store ++ u.store;
  seen = later v.seen u.seen;
  clock = later v.clock u.clock;
  faults = v.faults ++ u.faults;
  stop = either v.stop u.stop;
  shortages = v.shortages ++ u.shortages;
}

abbrev pub spent : View
spent = record { clients = []; asked = []; files = []; pools = []; names = []; store = []; seen = 0; clock = 0; faults = []; stop = None; shortages = [] }

-- ---- blocks

abbrev pub file_uses : ℕ → ℕ × FilePart → ℕ
file_uses b p = times b p.1.blocks + (times b p.1.quarantine + times b p.1.spare)

abbrev pub pool_uses : ℕ → ℕ × List ℕ → ℕ
pool_uses b p = times b p.1

abbrev pub dropped_uses : ℕ → ℕ × List ℕ → ℕ
dropped_uses b p = times b p.1

abbrev pub names_uses : ℕ → Unit {0} × NamesPart → ℕ
names_uses b p = times b p.1.blocks + (weigh (dropped_uses b) p.1.dropped + times b p.1.spare)

abbrev pub store_uses : ℕ → Unit {0} × StorePart → ℕ
store_uses b p = times b p.1.unassigned

-- how often the block stands in the parts of a view
abbrev pub uses : ℕ → View → ℕ
uses b v = weigh (file_uses b) v.files + (weigh (pool_uses b) v.pools + (weigh (names_uses b) v.names + weigh (store_uses b) v.store))

-- ---- the parts of all hands

pub record World : Type 0 where
  pub client : ℕ → Option ClientPart
  pub asked : ℕ → Option AskedPart
  pub file : ℕ → Option FilePart
  pub pool : ℕ → Option (List ℕ)
  pub names : NamesPart
  pub store : StorePart

-- the client holds the file
abbrev pub is_holder : List (ℕ × ℕ) → ℕ → ℕ → Bool
is_holder holds client file = list_any (λ h. (h.0 == client) && (h.1 == file)) holds

-- how many changes of the file are committed
abbrev pub committed : StorePart → ℕ → ℕ
committed s file = Rattle.std.specs.Prelude.unwrap_or (map.get s.files file) 0

pub record Word : Type 0 where
  pub tickets : ℕ
  pub clock : ℕ

-- what a table starts from: the opening tree, and the view of the first hand, which has all parts
pub record Start : Type 0 where
  pub tree : PosixTree
  pub view : View
  -- The disk is visible. Else nothing is said of what it holds.
  pub is_visible : Bool
