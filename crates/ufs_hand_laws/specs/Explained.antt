-- Each state of the disk shows the history, and is explained by it.
use Rattle.std.specs.Prelude.{ℕ, ◌≤◌, ◌≡◌, List, [], ◌∷◌, ◌++◌, length, take, Option}
use Rattle.ufs_model.specs.PosixTree.{PosixTree, Paths, IsTree}
use Rattle.ufs_model.specs.History.{IsLegal}
use Rattle.ufs_model.specs.Laws.{KeepsTrees}
use Rattle.ufs_model.specs.declared.data.Entry.{Entry}
use Rattle.ufs_hand_laws.specs.Owned.{Has}
use Rattle.ufs_crash_laws.specs.Changes.{changes_of, name_changes}
use Rattle.ufs_hand_laws.specs.Covers.{CoversFile, CoversNames, CoversBirths}
use Rattle.ufs_hand_laws.specs.Parts.{StorePart, Cells, Stretch, Word, Start, committed}

-- Which states show a history, with at least so many changes of each file and of names, and with this path map where it is
-- one; and which are explained by it.
pub record Showing : Type 1 where
  pub Shows : PosixTree → List Entry → (ℕ → ℕ) → ℕ → Option Paths → Cells → Type 0
  pub Explains : PosixTree → List Entry → Cells → Type 0
  -- a legal history goes on, after which no file has more committed changes than it had
  pub more : KeepsTrees → (start : PosixTree) (h : List Entry) (e : Entry) (files : ℕ → ℕ) (names : ℕ) (paths : Option Paths) (d : Cells) → IsTree start → IsLegal start (h ++ e ∷ []) → ((f : ℕ) → files f ≤ length (changes_of f start h))
      → Shows start h files names paths d → Shows start (h ++ e ∷ []) files names paths d
  -- what shows a history by numbers that cover what is acknowledged in it, and in entries after it, is explained by it
  pub explains : KeepsTrees → (start : PosixTree) (h more : List Entry) (files : ℕ → ℕ) (names : ℕ) (paths : Option Paths) (d : Cells) → IsTree start → IsLegal start (h ++ more) → Shows start h files names paths d
      → ((f : ℕ) → CoversFile start (h ++ more) f (files f)) → CoversNames start (h ++ more) names → CoversBirths start (h ++ more) names → Explains start h d

-- Each stretch begins where the one before it ends: the first at 0, and the last ends at the last mark.
abbrev pub AreJoined : List Stretch → ℕ → Type 0
AreJoined [] mark = mark ≡ 0
AreJoined (x ∷ past) mark = (x.to ≡ mark) × (x.from ≤ x.to) × AreJoined past x.from

pub record AreStatesExplained (S : Showing) (k : Start) (word : Word) (h : List Entry) (s : StorePart) : Type 0 where
  pub marked : s.mark ≤ word.tickets
  -- the numbers of changes at the last mark
  pub lent : (f n : ℕ) → Has (f, n) s.lent → n ≤ length (changes_of f k.tree (take s.mark h))
  pub lent_names : s.lent_names ≤ length (name_changes k.tree (take s.mark h))
  -- the state, by each history since the last mark
  pub now : (i : ℕ) → s.mark ≤ i → i ≤ word.tickets → S.Shows k.tree (take i h) (committed s) s.names s.paths s.state
  -- each earlier state, by each history from the mark before it to the mark after it
  pub ended : (x : Stretch) → Has x s.past → x.to ≤ s.mark
  pub joined : AreJoined s.past s.mark
  pub past : (x : Stretch) → Has x s.past → (i : ℕ) → x.from ≤ i → i ≤ x.to → (d : Cells) → Has d x.states → S.Explains k.tree (take i h) d

-- Each state of the disk is explained by the first entries, for each number of them between its marks. The stretches between
-- marks follow each other from the opening to the last mark.
pub record IsDiskExplained (S : Showing) (k : Start) (word : Word) (h : List Entry) (s : StorePart) : Type 0 where
  pub joined : AreJoined s.past s.mark
  pub marked : s.mark ≤ word.tickets
  pub past : (x : Stretch) → Has x s.past → (i : ℕ) → x.from ≤ i → i ≤ x.to → (d : Cells) → Has d x.states → S.Explains k.tree (take i h) d
  pub now : (i : ℕ) → s.mark ≤ i → i ≤ word.tickets → S.Explains k.tree (take i h) s.state
