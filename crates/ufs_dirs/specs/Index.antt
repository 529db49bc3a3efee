-- The places of a directory's used slots, by rising name, and those of its free ones.
use Rattle.std.specs.Prelude.{◌≡◌, ◌≢◌, ℕ, ◌+◌, ◌<◌, ◌≤◌, List, length, true, false, ◌==◌, slice_index}
use Rattle.std.specs.List.{list_any, count_by}
use Rattle.std.specs.declared.cmp.Ordering.TheVariants.{Less}
use Rattle.ufs_layout.specs.DentryForm.{DentryForm, is_named}
use Rattle.ufs_dirs.specs.Directory.{Directory, IsDirectory, entry_at, name_cmp}

-- the entry of this rank: 0 has the lowest name
abbrev pub ranked : List DentryForm → List ℕ → ℕ → DentryForm
ranked slots order k = entry_at slots (slice_index order k)

pub record IsIndex (slots : List DentryForm) (order : List ℕ) : Type 0 where
  pub in_range : (k : ℕ) → k < length order → slice_index order k < length slots
  pub used : (k : ℕ) → k < length order → is_named (ranked slots order k) ≡ true
  pub rising : (j k : ℕ) → j < k → k < length order → name_cmp (ranked slots order j).name (ranked slots order k).name ≡ Less
  pub each : (place : ℕ) → place < length slots → is_named (entry_at slots place) ≡ true → list_any (λ p. p == place) order ≡ true
  pub counted : length order ≡ count_by is_named slots

-- The name has rank k.
pub record IsRankOf (slots : List DentryForm) (order : List ℕ) (name : List ℕ) (k : ℕ) : Type 0 where
  pub in_range : k < length order
  pub same : (ranked slots order k).name ≡ name

-- The name isn't there, and would have rank k.
pub record IsGapFor (slots : List DentryForm) (order : List ℕ) (name : List ℕ) (k : ℕ) : Type 0 where
  pub in_range : k ≤ length order
  pub before : (j : ℕ) → j < k → name_cmp (ranked slots order j).name name ≡ Less
  pub behind : (j : ℕ) → k ≤ j → j < length order → name_cmp name (ranked slots order j).name ≡ Less

-- The names above this one are those from rank k on.
pub record IsNextRank (slots : List DentryForm) (order : List ℕ) (after : List ℕ) (k : ℕ) : Type 0 where
  pub in_range : k ≤ length order
  pub not_above : (j : ℕ) → j < k → name_cmp after (ranked slots order j).name ≢ Less
  pub above : (j : ℕ) → k ≤ j → j < length order → name_cmp after (ranked slots order j).name ≡ Less

-- Each number is below those before it.
abbrev pub IsFalling : List ℕ → Type 0
IsFalling xs = (j k : ℕ) → j < k → k < length xs → slice_index xs k < slice_index xs j

-- The places of the free slots, the lowest last.
pub record IsFreeList (slots : List DentryForm) (free : List ℕ) : Type 0 where
  pub in_range : (k : ℕ) → k < length free → slice_index free k < length slots
  pub unused : (k : ℕ) → k < length free → is_named (entry_at slots (slice_index free k)) ≡ false
  pub falling : IsFalling free
  pub each : (place : ℕ) → place < length slots → is_named (entry_at slots place) ≡ false → list_any (λ p. p == place) free ≡ true
  pub counted : length free + count_by is_named slots ≡ length slots

-- So many of the places are above this one.
pub record AreAbove (free : List ℕ) (place count : ℕ) : Type 0 where
  pub in_range : count ≤ length free
  pub above : (k : ℕ) → k < count → place < slice_index free k
  pub rest : (k : ℕ) → count ≤ k → k < length free → slice_index free k ≤ place

-- what is true of a directory and what is kept beside it: the order of the names, and the free slots
pub record IsKept (d : Directory) (order places : List ℕ) : Type 0 where
  pub directory : IsDirectory d
  pub index : IsIndex d.slots order
  pub free : IsFreeList d.slots places
