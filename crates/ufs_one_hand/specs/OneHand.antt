-- All parts of a session in one hand, as they are after a history. Where blocks lie is the server's to know: no part has a
-- block here.
use Rattle.std.specs.Prelude.{ℕ, ◌-◌, ◌≡◌, ◌≤◌, ◌⊎◌, Bool, true, false, List, [], ◌∷◌, length, Option, Some, None, is_some, eqb, if◌then◌else◌, unwrap_or}
use Rattle.std.specs.FinMap as fin
use Rattle.ufs_base.specs.declared.limits.TheConstants.{MAX_CLIENTS}
use Rattle.ufs_model.specs.PosixTree.{PosixTree, IsTree, desc_at}
use Rattle.ufs_model.specs.History.{IsLegalFrom, tree_after, entries_of}
use Rattle.ufs_model.specs.Start.{PathNodes, IsPathTree, start_of}
use Rattle.ufs_model.specs.Touched.{holds}
use Rattle.ufs_model.specs.declared.data.Entry.{Entry}
use Rattle.ufs_model.specs.declared.data.Op.{Op}
use Rattle.ufs_crash_laws.specs.Changes.{names_of, changes_of, name_changes, syncs_file, syncs_names}
use Rattle.ufs_crash_laws.specs.Steps.{Step}
use Rattle.ufs_hand_laws.specs.Acknowledged.{AreFilesAcknowledged, AreNamesAcknowledged}
use Rattle.ufs_hand_laws.specs.Opened.{OpenedDisk, opened_start}
use Rattle.ufs_hand_laws.specs.Owned.{one, Has, count, each, find, times, weigh}
use Rattle.ufs_hand_laws.specs.Parts.{Cells, ClientPart, FilePart, NamesPart, StorePart, Stretch, View, Start, committed, is_holder}
use Rattle.ufs_hand_laws.specs.Whole.{idle_client}
use Rattle.ufs_hand.specs.Session.{CanBegin}
use Rattle.ufs_one_hand.specs.declared.pools.TheConstants.{PRIMARY_POOL}

-- ---- what it starts from

-- the pools of its server: one, with no block
abbrev pub first_pools : List (ℕ × List ℕ)
first_pools = (PRIMARY_POOL, []) ∷ []

-- the most clients, and a disk in this state, which is visible or not
abbrev pub disk_with : PathNodes → Cells → Bool → OpenedDisk
disk_with nodes cells is_visible = record { nodes = nodes; cells = cells; extents = fin.empty; dirs = []; unassigned = []; pools = first_pools; clients = MAX_CLIENTS; is_visible = is_visible }

abbrev pub start_seeing : PathNodes → Cells → Bool → Start
start_seeing nodes cells is_visible = opened_start (disk_with nodes cells is_visible)

-- over a disk of which nothing is said
abbrev pub start_with : PathNodes → Start
start_with nodes = start_seeing nodes [] false

-- the same start, over a disk in another state
abbrev pub seeing : Start → Cells → Bool → Start
seeing k cells is_visible = record k { view = record k.view { store = each (λ _ s. record s { state = cells }) k.view.store }; is_visible = is_visible }

-- A session may start so: the files of a tree of paths have numbers by rising path, and nothing is open.
pub record IsStart (k : Start) : Type 0 where
  pub nodes : PathNodes
  pub cells : Cells
  pub is_visible : Bool
  pub paths : IsPathTree nodes
  pub few : (start_of nodes).next ≤ 1073741824
  pub is : k ≡ start_seeing nodes cells is_visible

abbrev pub StartsCanBegin : Type 0
StartsCanBegin = (k : Start) → IsStart k → CanBegin k

-- ---- its parts in a tree

-- the client asks this
abbrev pub asked_of : Option (ℕ × Op) → ℕ → Option Op
asked_of None client = None
asked_of (Some asked) client = if eqb asked.0 client then Some asked.1 else None

-- the client has its entries and descriptors
pub record IsClientAt (t : PosixTree) (history : List Entry) (request : Option (ℕ × Op)) (client : ℕ) (p : ClientPart) : Type 0 where
  pub entries : p.entries ≡ entries_of client history
  pub fds : (fd : ℕ) → fin.get p.fds fd ≡ desc_at t client fd
  pub copies : p.copies ≡ []
  pub asked : p.asked ≡ asked_of request client

pub record IsFileAt (t : PosixTree) (file : ℕ) (p : FilePart) : Type 0 where
  pub bytes : fin.get t.bytes file ≡ Some p.bytes
  pub leases : p.leases ≡ []
  pub blocks : p.blocks ≡ []
  pub quarantine : p.quarantine ≡ []
  pub spare : p.spare ≡ []
  pub loaded : p.loaded ≡ []

-- what the names have of a history, and of the tree after it
pub record AreNamesAt (start : PosixTree) (history : List Entry) (t : PosixTree) (p : NamesPart) : Type 0 where
  pub opening : p.opening ≡ names_of start
  pub changes : p.changes ≡ name_changes start history
  pub paths : p.paths ≡ t.paths
  pub next : p.next ≡ t.next
  pub holds : (client file : ℕ) → is_holder p.holds client file ≡ holds t.fds client file
  pub leases : p.leases ≡ []
  pub blocks : p.blocks ≡ []
  pub spare : p.spare ≡ []
  pub dropped : (file : ℕ) (blocks : List ℕ) → Has (file, blocks) p.dropped → blocks ≡ []

pub record IsStoreAt (stopped : Option ℕ) (p : StorePart) : Type 0 where
  pub extents : p.extents ≡ fin.empty
  pub dirs : p.dirs ≡ []
  pub unassigned : p.unassigned ≡ []
  pub stop : p.stop ≡ stopped
  -- no two calls of the disk fail by one number
  pub single : (n : ℕ) → times n p.faults ≤ 1

-- ---- the whole

-- The hand has each part of the session after this history, in which this is asked, but for files that are apart; and
-- nothing else.
pub record HasSession (k : Start) (history : List Entry) (asked : Option (ℕ × Op)) (v : View) : Type 0 where
  pub start : IsStart k
  pub tree : IsTree (tree_after k.tree history)
  pub legal : IsLegalFrom 0 k.tree history
  pub all_clients : (c : ℕ) → count eqb c v.clients ≡ count eqb c k.view.clients
  pub all_asked : (c : ℕ) → count eqb c v.asked ≡ count eqb c k.view.asked
  pub clients : (c : ℕ) (p : ClientPart) → Has (c, p) v.clients → IsClientAt (tree_after k.tree history) history asked c p
  pub theirs : (e : Entry) → Has e history → 1 ≤ count eqb e.client v.clients
  pub one_file : (f : ℕ) → count eqb f v.files ≤ one (is_some (fin.get (tree_after k.tree history).bytes f))
  pub files : (f : ℕ) (p : FilePart) → Has (f, p) v.files → IsFileAt (tree_after k.tree history) f p
  pub changes : (f : ℕ) (p : FilePart) → Has (f, p) v.files → p.changes ≡ changes_of f k.tree history
  pub pools : v.pools ≡ first_pools
  pub names : NamesPart
  pub has_names : v.names ≡ (tt, names) ∷ []
  pub names_at : AreNamesAt k.tree history (tree_after k.tree history) names
  pub store : StorePart
  pub has_store : v.store ≡ (tt, store) ∷ []
  pub store_at : IsStoreAt v.stop store

-- ---- what a hand has

abbrev pub client_in : ℕ → View → ClientPart
client_in client v = unwrap_or (find eqb client v.clients) idle_client

-- the store's part
abbrev pub in_store : {A : Type 0} → A → (StorePart → A) → List (Unit {0} × StorePart) → A
in_store none of [] = none
in_store none of (p ∷ ps) = of p.1

-- the disk's state at the last stamp, and the tickets then
abbrev pub state_in : View → Cells
state_in v = in_store [] (λ s. s.state) v.store

abbrev pub stamp_in : View → ℕ
stamp_in v = in_store 0 (λ s. s.mark) v.store

-- the numbers of the disk's calls that failed
abbrev pub faults_in : View → List ℕ
faults_in v = in_store [] (λ s. s.faults) v.store

-- the hand has stamped the disk in this state: it is that of the last stamp, or one on the way between two
abbrev pub IsStampedIn : List (Unit {0} × StorePart) → Cells → Type 0
IsStampedIn [] cells = ⊥
IsStampedIn (p ∷ ps) cells = (cells ≡ p.1.state) ⊎ ((x : Stretch) × Has x p.1.past × Has cells x.states)

-- how many states the disk passed between stamps: a stretch has besides the one at its beginning, and the one at its end
abbrev pub passed_in : View → ℕ
passed_in v = in_store 0 (λ s. weigh (λ x. length x.states - 2) s.past) v.store

-- ---- what is committed

-- No more is committed than the history acknowledges.
pub record IsCovered (k : Start) (history : List Entry) (s : StorePart) : Type 0 where
  pub files : AreFilesAcknowledged k.tree history (committed s)
  pub names : AreNamesAcknowledged k.tree history s.names
  pub made : s.names ≤ length (name_changes k.tree history)

-- So it is of the store that the hand has.
abbrev pub IsCoveredIn : Start → List Entry → View → Type 0
IsCoveredIn k history v = (s : StorePart) → Has (tt, s) v.store → IsCovered k history s

-- The changes that a step acknowledges are known as committed: those of files, with their births, and those of names.
pub record KnowsSynced (step : Step) (v : View) : Type 0 where
  pub files : (f : ℕ) (p : FilePart) → Has (f, p) v.files → syncs_file f step ≡ true → length p.changes ≤ p.known
  pub born : (f : ℕ) (p : FilePart) → Has (f, p) v.files → syncs_file f step ≡ true → p.born ≡ true
  pub names : (p : NamesPart) → Has (tt, p) v.names → syncs_names step ≡ true → length p.changes ≤ p.known
