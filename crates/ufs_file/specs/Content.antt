-- What a file has in memory, as callers see it.
use Rattle.std.specs.Prelude.{ℕ, ◌≡◌, ◌+◌, ◌*◌, ◌/◌, ◌%◌, ◌-◌, ◌≤◌, ◌<◌, ◌==◌, List, [], ◌∷◌, ◌++◌, Bool, true, false, Some, take, drop, replicate, length, slice_get, if◌then◌else◌}
use Rattle.ufs_base.specs.declared.sizes.TheConstants.{BLOCK}
use Rattle.ufs_model.specs.Excuses as excuses
use Rattle.ufs_model.specs.FileBytes.{part, resized}
use Rattle.ufs_file.specs.Lists.{over}

-- A file's bytes; and by their places which of its blocks were written since they were read or made, and which are in
-- memory. Zeros stand for the bytes of a block that isn't: what they are in truth the disk alone has (`IsContentOf`).
pub record Content : Type 0 where
  pub bytes : List ℕ
  pub dirty : List Bool
  pub there : List Bool

-- no byte, no block
abbrev pub no_content : Content
no_content = record { bytes = []; dirty = []; there = [] }

-- the blocks of so many bytes
abbrev pub block_count : ℕ → ℕ
block_count size = excuses.blocks_of size

-- lengthened with zeros, in new blocks where the last one has no room. The block in which it ended is written: behind the
-- end the disk may have what isn't the file's
abbrev pub grown : Content → ℕ → Content
grown c size = record {
  bytes = c.bytes ++ replicate (size - length c.bytes) 0;
  dirty = take (length c.bytes / BLOCK) c.dirty ++ replicate (block_count size - length c.bytes / BLOCK) true;
  there = c.there ++ replicate (block_count size - length c.there) true;
}

-- The blocks from one place on, below another, are in memory: zeros stand in those that weren't.
abbrev pub covered : Content → ℕ → ℕ → Content
covered c from to = record c { there = over c.there from (replicate (to - from) true) }

-- bytes over those that are there; the blocks in which they lie are in memory, and written
abbrev pub written_over : Content → ℕ → List ℕ → Content
written_over c at fresh = record {
  bytes = over c.bytes at fresh;
  dirty = over c.dirty (at / BLOCK) (replicate (block_count (at + length fresh) - at / BLOCK) true);
  there = over c.there (at / BLOCK) (replicate (block_count (at + length fresh) - at / BLOCK) true);
}

-- the marks of what a cut leaves: the block that it goes through is written
abbrev pub marks_cut : List Bool → ℕ → List Bool
marks_cut dirty size = if size % BLOCK == 0 then take (size / BLOCK) dirty else take (size / BLOCK) dirty ++ true ∷ []

abbrev pub shortened : Content → ℕ → Content
shortened c size = record { bytes = take size c.bytes; dirty = marks_cut c.dirty size; there = take (block_count size) c.there }

-- the block at a place, whole: with zeros behind the file's end
abbrev pub block_bytes : List ℕ → ℕ → List ℕ
block_bytes bytes place = resized (drop (BLOCK * place) bytes) BLOCK

-- what the file has of the block at a place: fewer bytes where it ends in it
abbrev pub own_bytes : List ℕ → ℕ → List ℕ
own_bytes bytes place = part bytes (BLOCK * place) BLOCK

-- no block marked
abbrev pub cleaned : Content → Content
cleaned c = record c { dirty = replicate (length c.dirty) false }

-- bytes that were read, in as many blocks as they need
abbrev pub as_read : List ℕ → Content
as_read bytes = record { bytes = bytes; dirty = replicate (block_count (length bytes)) false; there = replicate (block_count (length bytes)) true }

-- so many bytes of which none was read
abbrev pub unread : ℕ → Content
unread size = record { bytes = replicate size 0; dirty = replicate (block_count size) false; there = replicate (block_count size) false }

-- one block read; what it has behind the file's end isn't the file's
abbrev pub loaded : Content → ℕ → List ℕ → Content
loaded c place block = record c { bytes = over c.bytes (BLOCK * place) (take (length c.bytes - BLOCK * place) block); there = over c.there place (true ∷ []) }

-- the blocks from one place on, below another, are in memory
abbrev pub AreThere : List Bool → ℕ → ℕ → Type 0
AreThere there from end = (place : ℕ) → from ≤ place → place < end → slice_get there place ≡ Some true

-- These may be the file's bytes: there are as many, and what is in memory is so.
pub record IsContentOf (c : Content) (bytes : List ℕ) : Type 0 where
  pub long : length bytes ≡ length c.bytes
  pub same : (place : ℕ) → slice_get c.there place ≡ Some true → block_bytes bytes place ≡ block_bytes c.bytes place
