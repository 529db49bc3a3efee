-- What a file's blocks in memory stand for.
use Rattle.std.specs.Prelude.{◌≡◌, ℕ, suc, ◌+◌, ◌*◌, ◌-◌, ◌<◌, ◌≤◌, List, [], ◌∷◌, ◌++◌, map, take, drop, replicate, length, All, Bool, true, if◌then◌else◌}
use Rattle.std.specs.declared.alloc.Global.{Global}
use Rattle.std.specs.declared.vec.Vec.{Vec}
use Rattle.ufs_base.specs.declared.sizes.TheConstants.{BLOCK}
use Rattle.ufs_file.specs.Span.{AreWithin}
use Rattle.ufs_file.specs.declared.blocks.Block.{Block}
use Rattle.ufs_file.specs.declared.span.Span.{Span}

-- the most bytes that a file holds: those of all blocks that an image can have. No request lengthens a file past `max_size`
-- of `ufs_model`, but one that an image has may be longer.
abbrev pub max_held : ℕ
max_held = 268435456

-- a block's bytes, or zeros in their stead where it isn't in memory
abbrev pub shown : Block → List ℕ
shown b = if b.there then b.bytes.items else replicate BLOCK 0

-- the bytes of the blocks in order
abbrev pub bytes_in : List Block → List ℕ
bytes_in [] = []
bytes_in (b ∷ bs) = shown b ++ bytes_in bs

-- which blocks were written since they were read or made
abbrev pub marks_of : List Block → List Bool
marks_of bs = map (λ (b : Block). b.dirty) bs

-- which blocks are in memory
abbrev pub there_of : List Block → List Bool
there_of bs = map (λ (b : Block). b.there) bs

-- how many of them aren't
abbrev pub absent : List Bool → ℕ
absent [] = 0
absent (there ∷ rest) = if there then absent rest else suc (absent rest)

-- of those from one place on, below another
abbrev pub absent_within : List Bool → ℕ → ℕ → ℕ
absent_within there from to = absent (take (to - from) (drop from there))

-- the bytes of a block of zeros
abbrev pub IsZeros : Vec ℕ Global → Type 0
IsZeros v = v.items ≡ replicate BLOCK 0

-- A block that is in memory is there whole, and no other one was written.
pub record IsWhole (b : Block) : Type 0 where
  pub size : b.there ≡ true → length b.bytes.items ≡ BLOCK
  pub written : b.dirty ≡ true → b.there ≡ true

-- The blocks hold so many bytes, no block too many, and zeros behind the end.
pub record IsTable (size : ℕ) (bs : List Block) : Type 0 where
  pub whole : All IsWhole bs
  pub room : size ≤ BLOCK * length bs
  pub few : BLOCK * length bs < size + BLOCK
  pub small : size ≤ max_held
  pub zeros : drop size (bytes_in bs) ≡ replicate (BLOCK * length bs - size) 0

-- a table, and a span that has its blocks that were written since they were read or made
pub record IsKept (size : ℕ) (bs : List Block) (written : Span) : Type 0 where
  pub table : IsTable size bs
  pub within : AreWithin written (marks_of bs)
