-- What the first hand has, and what the hand with every part knows at the end.
use Rattle.std.specs.Prelude.{ℕ, ◌≤◌, ◌≡◌, ◌⊎◌, eqb, true, false, List, [], ◌∷◌, length, map, Some, None, is_some}
use Rattle.std.specs.List.{range_with_len}
use Rattle.std.specs.FinMap as fin
use Rattle.ufs_model.specs.PosixTree.{PosixTree, IsTree, desc_at}
use Rattle.ufs_model.specs.History.{IsLegal, tree_after, entries_of}
use Rattle.ufs_model.specs.Touched.{holds}
use Rattle.ufs_model.specs.declared.data.Entry.{Entry}
use Rattle.ufs_crash_laws.specs.Changes.{names_of}
use Rattle.ufs_hand_laws.specs.Owned.{one, Has, count, times}
use Rattle.ufs_hand_laws.specs.Parts.{ClientPart, AskedPart, FilePart, NamesPart, StorePart, View, Word, Start, uses, is_holder, committed}
use Rattle.ufs_hand_laws.specs.Explained.{Showing, IsDiskExplained}
use Rattle.ufs_hand_laws.specs.DiskBytes.{IsOnDisk}
use Rattle.ufs_hand_laws.specs.Draws.{IsIn}
use Rattle.ufs_hand_laws.specs.Visible.{IsDiskVisible}

-- ---- the opening

abbrev pub idle_client : ClientPart
idle_client = record { entries = []; fds = fin.empty; copies = []; asked = None }

abbrev pub idle_asked : AskedPart
idle_asked = record { entries = []; fds = fin.empty; copies = []; asked = None; tickets = 0 }

-- the first hand has every part of a tree in which nothing is open, on a disk that shows it
pub record CanOpen (S : Showing) (k : Start) (names : NamesPart) (store : StorePart) : Type 0 where
  pub tree : IsTree k.tree
  pub closed : (c fd : ℕ) → desc_at k.tree c fd ≡ None
  pub free : (c f : ℕ) → holds k.tree.fds c f ≡ false
  pub small : k.tree.next ≤ 1073741824
  pub one_client : (c : ℕ) → count eqb c k.view.clients ≤ 1
  pub one_asked : (c : ℕ) → count eqb c k.view.asked ≤ 1
  pub one_file : (f : ℕ) → count eqb f k.view.files ≡ one (is_some (fin.get k.tree.bytes f))
  pub one_pool : (n : ℕ) → count eqb n k.view.pools ≤ 1
  pub clients : (c : ℕ) (p : ClientPart) → Has (c, p) k.view.clients → p ≡ idle_client
  pub asked : (c : ℕ) (a : AskedPart) → Has (c, a) k.view.asked → a ≡ idle_asked
  pub files : (f : ℕ) (p : FilePart) → Has (f, p) k.view.files → (p.opening ≡ fin.get k.tree.bytes f) × (p.changes ≡ []) × (fin.get k.tree.bytes f ≡ Some p.bytes) × (p.known ≡ 0) × (IsDiskVisible k → IsOnDisk p store.state)
      × ((bs : List ℕ) (b : ℕ) → fin.get store.extents f ≡ Some bs → Has b bs → Has b p.blocks ⊎ Has b p.quarantine)
  pub names_is : k.view.names ≡ (tt, names) ∷ []
  pub opening : names.opening ≡ names_of k.tree
  pub paths : names.paths ≡ k.tree.paths
  pub changes : names.changes ≡ []
  pub next : names.next ≡ k.tree.next
  pub no_holds : (c f : ℕ) → is_holder names.holds c f ≡ false
  pub born : (f : ℕ) → Has f names.born → is_some (fin.get k.tree.bytes f) ≡ true
  pub names_known : names.known ≡ 0
  pub clock : names.clock ≡ 0
  pub store_is : k.view.store ≡ (tt, store) ∷ []
  pub nothing_committed : (f : ℕ) → committed store f ≡ 0
  pub no_names : store.names ≡ 0
  pub extents : (f : ℕ) (bs : List ℕ) → fin.get store.extents f ≡ Some bs → is_some (fin.get k.tree.bytes f) ≡ true
  pub dirs : (b : ℕ) → Has b store.dirs → Has b names.blocks
  pub once : (b : ℕ) → uses b k.view ≤ 1
  pub mark : store.mark ≡ 0
  pub past : store.past ≡ []
  pub lent : store.lent ≡ []
  pub lent_names : store.lent_names ≡ 0
  pub shows : IsDiskVisible k → S.Shows k.tree [] (committed store) 0 store.paths store.state
  pub single : (n : ℕ) → times n store.faults ≤ 1
  pub faults : k.view.faults ≡ []
  pub stop : k.view.stop ≡ None
  pub shortages : k.view.shortages ≡ []
  pub seen : k.view.seen ≡ 0
  pub view_clock : k.view.clock ≡ 0

-- ---- the end

-- The hand has every part: each client and pool of the opening, names and store, and each file that is there in whatever
-- tree has its parts.
pub record HoldsAll (k : Start) (v : View) : Type 0 where
  pub clients : (c : ℕ) → count eqb c k.view.clients ≤ count eqb c v.clients
  pub names : NamesPart
  pub has_names : v.names ≡ (tt, names) ∷ []
  pub store : StorePart
  pub has_store : v.store ≡ (tt, store) ∷ []
  pub files : (t : PosixTree) → IsTree t → IsIn v t → (f : ℕ) → is_some (fin.get t.bytes f) ≡ true → 1 ≤ count eqb f v.files

-- The list has each client's entries and no others, at the places of their tickets.
pub record IsMerge (v : View) (h : List Entry) : Type 0 where
  pub from : (e : Entry) → Has e h → (p : ClientPart) × Has (e.client, p) v.clients × Has e p.entries
  pub to : (c : ℕ) (p : ClientPart) (e : Entry) → Has (c, p) v.clients → Has e p.entries → Has e h

-- One history: legal from the opening tree, with all tickets and each client's entries in their order. The parts are
-- those of the tree to which it leads, and each state of the disk is explained.
pub record IsWhole (S : Showing) (k : Start) (word : Word) (v : View) (store : StorePart) : Type 0 where
  pub history : List Entry
  pub all_drawn : length history ≡ word.tickets
  pub legal : IsLegal k.tree history
  pub order : (c : ℕ) → map (λ e. e.seq) (entries_of c history) ≡ range_with_len 0 (length (entries_of c history))
  pub transcripts : (c : ℕ) (p : ClientPart) → Has (c, p) v.clients → p.entries ≡ entries_of c history
  pub merged : IsMerge v history
  pub tree : IsIn v (tree_after k.tree history)
  pub files : (f : ℕ) → is_some (fin.get (tree_after k.tree history).bytes f) ≡ true → (p : FilePart) × Has (f, p) v.files
  pub disk : IsDiskVisible k → IsDiskExplained S k word history store
