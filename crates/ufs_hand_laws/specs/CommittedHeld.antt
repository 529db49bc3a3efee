-- Committed blocks are kept.
use Rattle.std.specs.Prelude.{ℕ, ◌<◌, ◌≡◌, ◌⊎◌, List, Option, Some, None}
use Rattle.std.specs.FinMap as fin
use Rattle.ufs_model.specs.History.{tree_after}
use Rattle.ufs_model.specs.declared.data.Entry.{Entry}
use Rattle.ufs_hand_laws.specs.Owned.{Has}
use Rattle.ufs_hand_laws.specs.Parts.{FilePart, NamesPart, StorePart, World, Start}

-- the committed blocks of a file are kept for it
pub record CommittedHeld (k : Start) (h : List Entry) (files : ℕ → Option FilePart) (names : NamesPart) (store : StorePart) : Type 0 where
  pub live : (f : ℕ) (bs : List ℕ) (b : ℕ) (p : FilePart) → fin.get store.extents f ≡ Some bs → Has b bs → files f ≡ Some p → Has b p.blocks ⊎ Has b p.quarantine
  pub dropped : (f : ℕ) (bs : List ℕ) (b : ℕ) → fin.get store.extents f ≡ Some bs → Has b bs → files f ≡ None → (q : List ℕ) × Has (f, q) names.dropped × Has b q
  pub numbered : (f : ℕ) (bs : List ℕ) → fin.get store.extents f ≡ Some bs → f < (tree_after k.tree h).next
  pub dirs : (b : ℕ) → Has b store.dirs → Has b names.blocks

abbrev pub IsCommittedHeld : Start → List Entry → World → Type 0
IsCommittedHeld k h G = CommittedHeld k h G.file G.names G.store
