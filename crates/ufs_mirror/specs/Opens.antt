-- What opening a pair of images gives.
use Rattle.std.specs.Prelude.{◌≡◌, ℕ, Bool, IsTrue, Option, Some, None, [], if◌then◌else◌, nat_lt, ◌==◌, ◌&&◌}
use Rattle.std.specs.List.{AllByRecursion}
use Rattle.ufs_base.specs.Images.{Image}
use Rattle.ufs_disk.specs.Disk.{State, IsImage}
use Rattle.ufs_disk.specs.Moments.{Moments}
use Rattle.ufs_mirror.specs.Calls.{Rests}
use Rattle.ufs_mirror.specs.Labels.{generation}
use Rattle.ufs_mirror.specs.Pairs.{Pair, Pairs, Runs, Snap, pairs_of, state_of}

-- an image but for its label
abbrev pub unlabelled : ℕ → Image → Image
unlabelled size image sector = if nat_lt sector size then image sector else []

-- Of two labels the greater is picked, the first at a tie.
abbrev pub opened : ℕ → Image → Image → Option Image
opened size first second =
    let one = generation (first size) in
    let other = generation (second size) in
    if one == 0 && other == 0 then None
    else if nat_lt one other then Some (unlabelled size second) else Some (unlabelled size first)

-- Whatever pair of images the legs leave then: where it opens, it opens to an image of the mirror.
abbrev pub OpensRight : ℕ → Pair → Type 0
OpensRight size pair = (first second image : Image) → IsImage pair.first first → IsImage pair.second second
    → opened size first second ≡ Some image → IsImage (state_of size pair) image

-- so at each moment; of legs that keep no moments this is known of now alone
pub record OpenRight (keeps : Bool) (size : ℕ) (pairs : Pairs) : Type 0 where
  pub now : OpensRight size pairs.now
  pub before : IsTrue keeps → AllByRecursion (OpensRight size) pairs.earlier

-- whatever pair of images the legs leave then: where it opens, it opens to an image that has P
abbrev pub OpensOnly : ℕ → (Image → Type 0) → Pair → Type 0
OpensOnly size P pair = (first second image : Image) → IsImage pair.first first → IsImage pair.second second
    → opened size first second ≡ Some image → P image

-- an image that opening what the legs leave might give
pub record MayOpen (size : ℕ) (first second : State) (image : Image) : Type 0 where
  pub one : Image
  pub other : Image
  pub left : IsImage first one
  pub right : IsImage second other
  pub opens : opened size one other ≡ Some image

-- What opening two legs does to them, at each moment. First they only rest, whichever of them does so when. From then on
-- the pair is only in moments that have R.
pub record Opening (one other : Bool) (R : Pair → Type 0) (first second : Moments) (pairs : Pairs) : Type 0 where
  pub begun : Snap
  pub first_rests : Rests one first begun.first
  pub second_rests : Rests other second begun.second
  pub run : Runs (one && other) R (pairs_of [] begun) pairs
