-- One legal history leads to all parts.
use Rattle.std.specs.Prelude.{ℕ, ◌≤◌, ◌≡◌, List, [], Some, is_some}
use Rattle.std.specs.FinMap as fin
use Rattle.ufs_model.specs.PosixTree.{PosixTree, IsTree, desc_at}
use Rattle.ufs_model.specs.History.{IsLegal, tree_after}
use Rattle.ufs_model.specs.declared.data.Entry.{Entry}
use Rattle.ufs_hand_laws.specs.Owned.{one, present}
use Rattle.ufs_crash_laws.specs.Changes.{names_of, changes_of, name_changes}
use Rattle.ufs_hand_laws.specs.Parts.{ClientPart, FilePart, NamesPart, World, Start}

pub record FitsFile (start : PosixTree) (h : List Entry) (f : ℕ) (p : FilePart) : Type 0 where
  pub opening : p.opening ≡ fin.get start.bytes f
  pub changes : p.changes ≡ changes_of f start h
  pub bytes : fin.get (tree_after start h).bytes f ≡ Some p.bytes

pub record FitsNames (start : PosixTree) (h : List Entry) (p : NamesPart) : Type 0 where
  pub opening : p.opening ≡ names_of start
  pub changes : p.changes ≡ name_changes start h
  pub paths : p.paths ≡ (tree_after start h).paths
  pub next : p.next ≡ (tree_after start h).next

-- the entries are one history from the opening tree, and the parts are those of the tree to which it leads
pub record IsOneHistory (k : Start) (h : List Entry) (G : World) : Type 0 where
  pub start : IsTree k.tree
  pub legal : IsLegal k.tree h
  pub tree : IsTree (tree_after k.tree h)
  pub clients : (c : ℕ) (p : ClientPart) → G.client c ≡ Some p → (fd : ℕ) → fin.get p.fds fd ≡ desc_at (tree_after k.tree h) c fd
  pub files : (f : ℕ) (p : FilePart) → G.file f ≡ Some p → FitsFile k.tree h f p
  pub there : (f : ℕ) → present (G.file f) ≡ one (is_some (fin.get (tree_after k.tree h).bytes f))
  pub names : FitsNames k.tree h G.names
  -- a file that isn't there yet has no changes
  pub next : k.tree.next ≤ (tree_after k.tree h).next
  pub unborn : (f : ℕ) → (tree_after k.tree h).next ≤ f → changes_of f k.tree h ≡ []
