-- What changes a file's bytes, and what the file may show after a crash.
use Rattle.std.specs.Prelude.{ℕ, ◌≡◌, ◌≤◌, ◌<◌, List, [], ◌∷◌, length, take, slice_index_or}
use Rattle.ufs_model.specs.FileBytes.{put_at, resized}
use Rattle.ufs_crash_laws.specs.declared.data.FileChange.{FileChange}
use Rattle.ufs_crash_laws.specs.declared.data.FileChange.TheVariants as change

-- the bytes after one change
abbrev pub changed : List ℕ → FileChange → List ℕ
changed old (change.Written at bytes) = put_at old at bytes
changed old (change.Resized size) = resized old size

-- the bytes after all of some changes, in turn
abbrev pub all_changed : List ℕ → List FileChange → List ℕ
all_changed old [] = old
all_changed old (c ∷ changes) = all_changed (changed old c) changes

-- the bytes after the first so many of a file's changes
abbrev pub bytes_after : List ℕ → List FileChange → ℕ → List ℕ
bytes_after opening changes count = all_changed opening (take count changes)

-- the byte at a place; past the end it is 0
abbrev pub byte_at : List ℕ → ℕ → ℕ
byte_at bytes place = slice_index_or bytes place 0

-- A byte that the file had at the place after so many of its changes, or after more. Where it was shorter that is 0.
pub record MayShow (opening : List ℕ) (changes : List FileChange) (count place byte : ℕ) : Type 0 where
  pub upto : ℕ
  pub later : count ≤ upto
  pub made : upto ≤ length changes
  pub is : byte ≡ byte_at (bytes_after opening changes upto) place

-- The bytes are as long as the file after so many of its changes, and each is one that it may show.
pub record IsShown (opening : List ℕ) (changes : List FileChange) (count : ℕ) (bytes : List ℕ) : Type 0 where
  pub made : count ≤ length changes
  pub size : length bytes ≡ length (bytes_after opening changes count)
  pub each : (place : ℕ) → place < length bytes → MayShow opening changes count place (byte_at bytes place)
