-- A file of which not all is in memory, beside the one that it is with its bytes.
use Rattle.std.specs.Prelude.{ℕ, ◌≡◌, List, true, Some}
use Rattle.std.specs.List.{slice_get}
use Rattle.ufs_file.specs.Content.{IsContentOf}
use Rattle.ufs_file.specs.Hand.{FileState, whole_as}
use Rattle.ufs_file_commits.specs.State.{DurableState, IsNoted, whole_of}
use Rattle.ufs_file_commits.specs.Writes.{writes_of}

-- ---- laws

-- What is written of it is in memory: so the writes are the same.
abbrev pub WritesAreWhole : Type 0
WritesAreWhole = (f : FileState) (bytes : List ℕ) → ((place : ℕ) → slice_get f.content.dirty place ≡ Some true → slice_get f.content.there place ≡ Some true)
    → IsContentOf f.content bytes → writes_of (whole_as bytes f) ≡ writes_of f

-- The log notes both alike.
abbrev pub NotedAsWhole : Type 0
NotedAsWhole = (f : DurableState) (bytes : List ℕ) → IsNoted f → IsContentOf f.file.content bytes → IsNoted (whole_of bytes f)
