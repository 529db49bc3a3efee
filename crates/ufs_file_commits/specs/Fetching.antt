-- Blocks of a file that are read from a store.
use Rattle.std.specs.Prelude.{ℕ, ◌≡◌, Bool, IsTrue, List, length, true, Some}
use Rattle.std.specs.List.{slice_get}
use Rattle.ufs_disk.specs.Moments.{LeavesOnly}
use Rattle.ufs_file.specs.Content.{IsContentOf}
use Rattle.ufs_file.specs.Hand.{FileState, whole_as}
use Rattle.ufs_ledger.specs.Ledger.{IsLedgerOf, IsLeftBy, Ledger}
use Rattle.ufs_store.specs.Ledgers.{HasLedger}
use Rattle.ufs_store.specs.State.{StoreState}
use Rattle.ufs_file_commits.specs.Standing.{IsReadable}

-- The file is as before, but for its bytes and for which of its blocks are in memory.
abbrev pub IsReadOn : FileState → FileState → Type 0
IsReadOn f g = g ≡ record f { content = record (f.content) { bytes = g.content.bytes; there = g.content.there } }

-- Some blocks of the file were read, and stay in memory; the store has done nothing else. Which bytes the file may have is told
-- more closely, and those that it has on the disk it may have still.
pub record HasFetched (visible keeps : Bool) (s t : StoreState) (f g : FileState) : Type 0 where
  pub rest : IsReadOn f g
  pub still : length g.content.bytes ≡ length f.content.bytes
  pub marks : length g.content.there ≡ length f.content.there
  pub kept : (place : ℕ) → slice_get f.content.there place ≡ Some true → slice_get g.content.there place ≡ Some true
  pub fewer : (bytes : List ℕ) → IsContentOf g.content bytes → IsContentOf f.content bytes
  pub read : IsTrue visible → (l : Ledger) (bytes : List ℕ) → IsLedgerOf s.sectors s.moments.state l → IsReadable l (whole_as bytes f) → IsContentOf f.content bytes → IsContentOf g.content bytes
  pub crash : IsTrue visible → (l : Ledger) → IsLedgerOf s.sectors s.moments.state l → LeavesOnly keeps (IsLeftBy s.sectors l) s.moments t.moments
  pub on_disk : IsTrue visible → (l : Ledger) → IsLedgerOf s.sectors s.moments.state l → IsLedgerOf t.sectors t.moments.state l
  pub ledger : IsTrue visible → (l : Ledger) → HasLedger s l → HasLedger t l
  pub store : t ≡ record s { moments = t.moments; faults = t.faults }
