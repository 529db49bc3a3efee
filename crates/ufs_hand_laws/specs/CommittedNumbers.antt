-- What is committed covers what is acknowledged, and a part knows no more than that.
use Rattle.std.specs.Prelude.{ℕ, ◌≤◌, ◌≡◌, true, List, length, Option, Some}
use Rattle.ufs_model.specs.PosixTree.{PosixTree}
use Rattle.ufs_model.specs.declared.data.Entry.{Entry}
use Rattle.ufs_hand_laws.specs.Owned.{Has}
use Rattle.ufs_crash_laws.specs.Changes.{changes_of, name_changes}
use Rattle.ufs_hand_laws.specs.Covers.{IsBornBy, CoversFile, CoversNames, CoversBirths}
use Rattle.ufs_hand_laws.specs.Parts.{FilePart, NamesPart, StorePart, World, Start, committed}

-- so many changes of the file were made, and each acknowledgement has its own
pub record IsCommittedFile (start : PosixTree) (h : List Entry) (f k : ℕ) : Type 0 where
  pub made : k ≤ length (changes_of f start h)
  pub covers : CoversFile start h f k

pub record IsCommittedNames (start : PosixTree) (h : List Entry) (k : ℕ) : Type 0 where
  pub made : k ≤ length (name_changes start h)
  pub covers : CoversNames start h k

pub record CommittedNumbers (k : Start) (h : List Entry) (parts : ℕ → Option FilePart) (namespace : NamesPart) (store : StorePart) : Type 0 where
  pub files : (f : ℕ) → IsCommittedFile k.tree h f (committed store f)
  pub names : IsCommittedNames k.tree h store.names
  pub births : CoversBirths k.tree h store.names
  -- changes of a file are committed only after its birth
  pub after_birth : (f : ℕ) → 1 ≤ committed store f → IsBornBy k.tree h f store.names
  -- what a file knows
  pub known : (f : ℕ) (p : FilePart) → parts f ≡ Some p → p.known ≤ committed store f
  pub covers : (f : ℕ) (p : FilePart) → parts f ≡ Some p → CoversFile k.tree h f p.known
  pub born : (f : ℕ) (p : FilePart) → parts f ≡ Some p → p.born ≡ true → IsBornBy k.tree h f store.names
  -- what the names know
  pub names_known : namespace.known ≤ store.names
  pub names_cover : CoversNames k.tree h namespace.known
  pub names_born : (f : ℕ) → Has f namespace.born → IsBornBy k.tree h f store.names

abbrev pub AreCommittedNumbers : Start → List Entry → World → Type 0
AreCommittedNumbers k h G = CommittedNumbers k h G.file G.names G.store
