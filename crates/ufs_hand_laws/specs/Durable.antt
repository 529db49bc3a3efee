-- What holds of every image that a crash may have left since the opening.
use Rattle.std.specs.Prelude.{ℕ, ◌≤◌, ◌≡◌, true, List, length, map, is_some}
use Rattle.std.specs.List.{range_with_len}
use Rattle.std.specs.FinMap as fin
use mathlib.Core.Option.{some}
use lib.ListN.{get_elem?}
use Rattle.ufs_model.specs.PosixTree.{PosixTree}
use Rattle.ufs_model.specs.History.{IsLegal, tree_after, entries_of}
use Rattle.ufs_model.specs.declared.data.Entry.{Entry}
use Rattle.ufs_crash_laws.specs.Explained.{IsExplainedFrom}
use Rattle.ufs_hand_laws.specs.Owned.{Has}
use Rattle.ufs_hand_laws.specs.Parts.{ClientPart, FilePart, StorePart, Cells, Stretch, View, Word, Start}
use Rattle.ufs_hand_laws.specs.Explained.{AreJoined}
use Rattle.ufs_hand_laws.specs.Sound.{IsSound}
use Rattle.ufs_hand_laws.specs.Draws.{IsIn}
use Rattle.ufs_hand_laws.specs.Whole.{HoldsAll, IsMerge}
use Rattle.ufs_hand_laws.specs.Shown.{EachOpensTo}
use Rattle.ufs_hand_laws.specs.ByImages.{by_images}
use Rattle.ufs_hand_laws.specs.Visible.{IsDiskVisible}

-- Each image that a crash may leave in this state opens to a tree that is explained by the first entries of the history,
-- for each number of them from one to the other.
abbrev pub IsExplainedThroughout : PosixTree → List Entry → ℕ → ℕ → Cells → Type 0
IsExplainedThroughout start history from to cells = EachOpensTo (λ tree. IsExplainedFrom tree start history from to) cells

-- ---- by the store's part, at any time

pub record IsStoreDurable (k : Start) (word : Word) (store : StorePart) : Type 0 where
  -- one history, legal from the opening tree, with an entry for each ticket
  pub history : List Entry
  pub all_drawn : length history ≡ word.tickets
  pub legal : IsLegal k.tree history
  -- the stretches between marks follow each other from the opening to the last mark
  pub joined : AreJoined store.past store.mark
  pub marked : store.mark ≤ word.tickets
  -- each earlier state, from the tickets at the mark before it to those at the mark after it
  pub past : (x : Stretch) → Has x store.past → (cells : Cells) → Has cells x.states → IsExplainedThroughout k.tree history x.from x.to cells
  -- the state now, from those at the last mark to all
  pub now : IsExplainedThroughout k.tree history store.mark word.tickets store.state

abbrev pub StoresAreExplained : Type 0
StoresAreExplained = (k : Start) (word : Word) (views : List View) (i : ℕ) (v : View) (u : Unit {0}) (store : StorePart) → IsSound by_images k word views → get_elem? views i ≡ some v → Has (u, store) v.store → IsDiskVisible k → IsStoreDurable k word store

-- ---- by the hand with every part, at the end

pub record IsDurable (k : Start) (word : Word) (v : View) (store : StorePart) : Type 0 where
  -- one history, legal from the opening tree, with an entry for each ticket
  pub history : List Entry
  pub all_drawn : length history ≡ word.tickets
  pub legal : IsLegal k.tree history
  -- it has each client's entries in their order, and no others
  pub order : (c : ℕ) → map (λ e. e.seq) (entries_of c history) ≡ range_with_len 0 (length (entries_of c history))
  pub transcripts : (c : ℕ) (p : ClientPart) → Has (c, p) v.clients → p.entries ≡ entries_of c history
  pub merged : IsMerge v history
  -- the parts are those of the tree to which it leads
  pub tree : IsIn v (tree_after k.tree history)
  pub files : (f : ℕ) → is_some (fin.get (tree_after k.tree history).bytes f) ≡ true → (p : FilePart) × Has (f, p) v.files
  -- the stretches between marks follow each other from the opening to the last mark
  pub joined : AreJoined store.past store.mark
  pub marked : store.mark ≤ word.tickets
  -- each earlier state, from the tickets at the mark before it to those at the mark after it
  pub past : (x : Stretch) → Has x store.past → (cells : Cells) → Has cells x.states → IsExplainedThroughout k.tree history x.from x.to cells
  -- the state now, from those at the last mark to all
  pub now : IsExplainedThroughout k.tree history store.mark word.tickets store.state

abbrev pub ImagesAreExplained : Type 0
ImagesAreExplained = (k : Start) (word : Word) (views : List View) (i : ℕ) (v : View) → IsSound by_images k word views → get_elem? views i ≡ some v → (all : HoldsAll k v) → IsDiskVisible k → IsDurable k word v all.store
