-- What a hand knows of all else by its own view alone.
use Rattle.std.specs.Prelude.{ℕ, ◌≤◌, ◌≡◌, ◌⊎◌, List, length}
use Rattle.ufs_model.specs.PosixTree.{IsTree}
use Rattle.ufs_model.specs.History.{IsLegal, tree_after, entries_of}
use Rattle.ufs_model.specs.declared.data.Entry.{Entry}
use Rattle.ufs_hand_laws.specs.Owned.{Has}
use Rattle.ufs_hand_laws.specs.Covers.{CoversFile, IsBornBy}
use Rattle.ufs_hand_laws.specs.Parts.{ClientPart, AskedPart, FilePart, NamesPart, StorePart, View, Word, Start, uses, committed}
use Rattle.ufs_hand_laws.specs.Explained.{Showing, IsDiskExplained}
use Rattle.ufs_hand_laws.specs.Legal.{FitsFile, FitsNames}
use Rattle.ufs_hand_laws.specs.DiskBytes.{IsOnDisk}
use Rattle.ufs_hand_laws.specs.Asked.{IsStill, IsAnswered}
use Rattle.ufs_hand_laws.specs.Draws.{IsIn}
use Rattle.ufs_hand_laws.specs.Marks.{IsKept}
use Rattle.ufs_hand_laws.specs.Visible.{IsDiskVisible}

-- what the store's part tells of a file that the hand has
pub record IsStoredFile (k : Start) (s : StorePart) (g : ℕ) (x : FilePart) : Type 0 where
  pub kept : IsKept s g x
  pub made : committed s g ≤ length x.changes
  pub known : x.known ≤ committed s g
  pub on_disk : IsDiskVisible k → IsOnDisk x s.state

-- There is one history, from which the hand's parts come.
pub record Knows (S : Showing) (k : Start) (word : Word) (v : View) : Type 0 where
  pub history : List Entry
  pub tickets : length history ≡ word.tickets
  pub legal : IsLegal k.tree history
  pub tree : IsTree (tree_after k.tree history)
  -- the hand's parts are in its tree
  pub is_in : IsIn v (tree_after k.tree history)
  pub entries : (c : ℕ) (p : ClientPart) → Has (c, p) v.clients → p.entries ≡ entries_of c history
  pub files : (g : ℕ) (x : FilePart) → Has (g, x) v.files → FitsFile k.tree history g x
  pub names : (u : Unit {0}) (p : NamesPart) → Has (u, p) v.names → FitsNames k.tree history p
  pub covers : (g : ℕ) (x : FilePart) → Has (g, x) v.files → CoversFile k.tree history g x.known
  -- a client that comes back has what it had, or has its answer
  pub asked : (c : ℕ) (a : AskedPart) (p : ClientPart) → Has (c, a) v.asked → Has (c, p) v.clients → IsStill a p ⊎ IsAnswered a p
  -- no block stands twice in its parts
  pub blocks : (b : ℕ) → uses b v ≤ 1
  -- with the store's part: what the disk shows, and what it has of a file
  pub shows : IsDiskVisible k → (u : Unit {0}) (s : StorePart) → Has (u, s) v.store → S.Shows k.tree history (committed s) s.names s.paths s.state
  pub explained : IsDiskVisible k → (u : Unit {0}) (s : StorePart) → Has (u, s) v.store → IsDiskExplained S k word history s
  pub births : (u : Unit {0}) (s : StorePart) (f : ℕ) → Has (u, s) v.store → 1 ≤ committed s f → IsBornBy k.tree history f s.names
  pub stored : (u : Unit {0}) (s : StorePart) (g : ℕ) (x : FilePart) → Has (u, s) v.store → Has (g, x) v.files → IsStoredFile k s g x
  pub stored_names : (u w : Unit {0}) (s : StorePart) (p : NamesPart) → Has (u, s) v.store → Has (w, p) v.names → (s.names ≤ length p.changes) × (p.known ≤ s.names)
  -- a fault that it was told has excused nobody, and the store's clock isn't before its own
  pub seen : (v.seen ≤ word.tickets) × (v.clock ≤ word.clock)
