-- An entry is drawn on the cells that a hand has, whoever has the others.
use Rattle.std.specs.Prelude.{ℕ, suc, ◌≡◌, ◌≢◌, ◌≤◌, ◌<◌, ◌⊎◌, eqb, Bool, true, false, List, [], ◌∷◌, ◌++◌, length, Some, None}
use Rattle.std.specs.FinMap as fin
use Rattle.std.specs.FinSet as set
use Rattle.ufs_bitmap.specs.Blocks.{BlockSet}
use Rattle.ufs_layout.specs.declared.geometry.Geometry.{Geometry}
use Rattle.ufs_model.specs.Asks.{fd_told}
use Rattle.ufs_model.specs.History.{IsLegal, entries_of, tree_after}
use Rattle.ufs_model.specs.PosixTree.{IsTree, PosixTree, desc_at}
use Rattle.ufs_model.specs.declared.data.Entry.{Entry}
use Rattle.ufs_crash_laws.specs.Changes.{asks_commit, changes_of, name_changes}
use Rattle.ufs_model.specs.declared.data.Excuse.TheVariants as excuse
use Rattle.ufs_model.specs.declared.data.Reply.TheVariants as reply
use Rattle.ufs_hand_laws.specs.Draws.{client_after, entry_of, left_faults}
use Rattle.ufs_hand_laws.specs.FaultsOnce.{told}
use Rattle.ufs_hand_laws.specs.Owned.{Has, count, each, times}
use Rattle.ufs_hand_laws.specs.Parts.{ClientPart, OwnFds, only_one}
use Rattle.ufs_hand_laws.specs.declared.fresh.Fresh.{Fresh}
use Rattle.ufs_store.specs.State.{StoreState, geometry_of_store}
use Rattle.ufs_promise_laws.specs.Parts.{Parts}
use Rattle.ufs_promise_laws.specs.Sound.{IsSoundServer}
use Rattle.ufs_promise_laws.specs.Stored.{ArePartsOf}
use Rattle.ufs_joint.specs.Cells.{FileCell, NamesCell, View}
use Rattle.ufs_joint.specs.NoneLost.{IsHad}
use Rattle.ufs_promise_laws.specs.Known.{IsDiskKept, Known}
use Rattle.ufs_joint.specs.Picks.{IsAbsent, bytes_at}
use Rattle.ufs_joint.specs.Servers.{IsServedBy}
use Rattle.ufs_joint.specs.Whole.{GoOnBy, HasCells, KnowsCells, pooled}

-- ---- the view afterwards

-- What the draw leaves: the client's descriptors, and the files, pools and names that the hand has then. Its caller picks it.
pub record Leaves : Type 0 where
  pub fds : OwnFds
  pub files : List (ℕ × FileCell)
  pub pools : List (ℕ × BlockSet)
  pub names : List (Unit {0} × NamesCell)

abbrev pub drawn : ℕ → Fresh → Leaves → View → View
drawn n f l v = record {
  clients = each (client_after (entry_of n f) l.fds) v.clients;
  asked = v.asked;
  files = l.files;
  pools = l.pools;
  names = l.names;
  store = v.store;
  seen = suc n;
  faults = left_faults f.reply v.faults;
  stop = v.stop;
}

-- ---- all else, as far as the hand can tell

-- A history of so many entries leads from this tree to whole parts that have the hand's cells, and its blocks in their pool. All other
-- free blocks are the rest.
pub record IsAround (g : Geometry) (v : View) (n : ℕ) (start : PosixTree) (history : List Entry) (p : Parts) (rest : BlockSet) : Type 0 where
  pub tree : IsTree start
  pub legal : IsLegal start history
  pub so_many : length history ≡ n
  pub entries : (c : ℕ) (part : ClientPart) → Has (c, part) v.clients → part.entries ≡ entries_of c history
  pub fds : (c : ℕ) (part : ClientPart) → Has (c, part) v.clients → (fd : ℕ) → fin.get part.fds fd ≡ desc_at (tree_after start history) c fd
  -- no fault that the hand was told excused an entry
  pub untold : (fault : ℕ) → 1 ≤ times fault v.faults → told fault history ≡ 0
  pub cells : HasCells v p
  pub pool : p.pool ≡ pooled v.pools
  pub parts : ArePartsOf p (tree_after start history)
  pub server : IsSoundServer g rest p

module _ (g : Geometry) (v : View) (f : Fresh) (l : Leaves) (n : ℕ) (next : Parts → Parts) (start : PosixTree) (history : List Entry) (p : Parts) (rest : BlockSet) where
  abbrev longer : List Entry
  longer = history ++ entry_of n f ∷ []

  -- The history stays legal, and leads to the next parts, which are sound.
  pub record DrawsTo : Type 0 where
    pub legal : IsLegal start longer
    pub served : IsServedBy (tree_after start history) f.client f.op f.by
    pub fds : (fd : ℕ) → fin.get l.fds fd ≡ desc_at (tree_after start longer) f.client fd
    pub others : (c : ℕ) → c ≢ f.client → (fd : ℕ) → desc_at (tree_after start history) c fd ≡ desc_at (tree_after start longer) c fd
    pub parts : ArePartsOf (next p) (tree_after start longer)
    pub server : IsSoundServer g rest (next p)
    -- no block is lost
    pub none_lost : (block : ℕ) → IsHad p rest block → IsHad (next p) rest block
    -- a block that isn't in memory then wasn't before, and stays as it was
    pub away : (file place : ℕ) (c : FileCell) → Has (file, c) l.files → IsAbsent c place
        → ((was : FileCell) × Has (file, was) v.files × IsAbsent was place) × (bytes_at (tree_after start longer) file place ≡ bytes_at (tree_after start history) file place)
    -- and so do files that are elsewhere
    pub elsewhere : (file : ℕ) → count eqb file v.files ≡ 0 → count eqb file l.files ≡ 0 → fin.get (tree_after start longer).bytes file ≡ fin.get (tree_after start history).bytes file
    -- a file that the hand hadn't is new
    pub new : (file : ℕ) → count eqb file v.files ≡ 0 → 1 ≤ count eqb file l.files → fin.get p.files file ≡ None

  -- Whichever the store is, which is elsewhere, it keeps them by the same counts; and what doesn't tell this ticket hasn't changed.
  pub record DrawsOnDisk : Type 0 where
    pub kept : (s : StoreState) (known : Known) → geometry_of_store s ≡ g → s.unassigned.free ≡ rest → KnowsCells start history v known → IsDiskKept s start history p known → IsDiskKept s start longer (next p) known
    pub files : (file : ℕ) (c : FileCell) → Has (file, c) l.files → (c.changed ≡ suc n) ⊎ (Has (file, c) v.files × (changes_of file start longer ≡ changes_of file start history))
    pub others : (file : ℕ) → count eqb file v.files ≡ 0 → count eqb file l.files ≡ 0 → changes_of file start longer ≡ changes_of file start history
    pub names : (u : Unit {0}) (c : NamesCell) → Has (u, c) l.names → (c.changed ≡ suc n) ⊎ (Has (u, c) v.names × (name_changes start longer ≡ name_changes start history))
    pub no_names : l.names ≡ [] → name_changes start longer ≡ name_changes start history

-- Of a new file nothing is known.
pub record IsUnknown (c : FileCell) : Type 0 where
  pub known : c.known ≡ 0
  pub born : c.born ≡ false

-- What is asked of a draw by its own hand.
pub record MayDraw (g : Geometry) (visible : Bool) (v : View) (f : Fresh) (l : Leaves) (n : ℕ) : Type 0 where
  pub self : ClientPart
  pub client : Has (f.client, self) v.clients
  pub low : f.client < 16
  pub seq : f.seq ≡ length self.entries
  pub asked : self.asked ≡ Some f.op
  -- an entry is excused by a fault that the hand was told, and so was that the store stopped
  pub device : (fault : ℕ) → f.reply ≡ reply.Excused (excuse.Device fault) → 1 ≤ times fault v.faults
  pub stopped : (fault : ℕ) → f.reply ≡ reply.Excused (excuse.Stopped fault) → v.stop ≡ Some fault
  -- where it asks for a commit, the hand was told that the store stopped at that fault; and it is told a stop only then
  pub committed : (fault : ℕ) → asks_commit f.op ≡ true → f.reply ≡ reply.Excused (excuse.Device fault) → v.stop ≡ Some fault
  pub asks : (fault : ℕ) → f.reply ≡ reply.Excused (excuse.Stopped fault) → asks_commit f.op ≡ true
  -- the client's other descriptors stay
  pub others : (fd : ℕ) → fd_told f.op f.reply ≢ Some fd → fin.get l.fds fd ≡ fin.get self.fds fd
  -- how the parts go on, whatever the others are
  pub next : Parts → Parts
  pub goes : (p : Parts) → HasCells v p → p.pool ≡ pooled v.pools → GoOnBy v.files l.files l.names p (next p)
  pub pool : (p : Parts) → HasCells v p → p.pool ≡ pooled v.pools → (next p).pool ≡ pooled l.pools
  pub single : (file : ℕ) → count eqb file l.files ≤ 1
  pub same_names : (u : Unit {0}) → count only_one u l.names ≡ count only_one u v.names
  -- pools give blocks alone
  pub same_pools : (m : ℕ) → count eqb m l.pools ≡ count eqb m v.pools
  pub pools_apart : (m k : ℕ) (one other : BlockSet) (block : ℕ) → Has (m, one) l.pools → Has (k, other) l.pools → set.contains one block ≡ true → set.contains other block ≡ true → m ≡ k
  pub fewer : (block : ℕ) → set.contains (pooled l.pools) block ≡ true → set.contains (pooled v.pools) block ≡ true
  -- no more is known as committed
  pub known : (file : ℕ) (c : FileCell) → Has (file, c) l.files → IsUnknown c ⊎ ((was : FileCell) × Has (file, was) v.files × (c.known ≡ was.known) × (c.born ≡ was.born))
  pub names_known : (u : Unit {0}) (c : NamesCell) → Has (u, c) l.names → (was : NamesCell) × Has (u, was) v.names × (c.known ≡ was.known) × (c.named ≡ was.named)
  -- from each tree and history, with whichever others
  pub to : (start : PosixTree) (history : List Entry) (p : Parts) (rest : BlockSet) → IsAround g v n start history p rest → DrawsTo g v f l n next start history p rest
  pub disk : visible ≡ true → (start : PosixTree) (history : List Entry) (p : Parts) (rest : BlockSet) → IsAround g v n start history p rest → DrawsOnDisk g v f l n next start history p rest
