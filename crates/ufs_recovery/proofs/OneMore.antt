-- Inodes are written anew, one after the other.
use Rattle.std.proofs.Common.{◌≡◌, ◌≢◌, ℕ, zero, suc, ◌+◌, ◌<◌, ◌⊎◌, inl, inr, List, [], ◌∷◌, length, get_or, Bool, Option, Some, ap, sym, refl, ◌∙◌, subst, arith}
use Rattle.std.specs.List.{slice_get}
use Rattle.std.proofs.lemmas.Bool.{cases_eq}
use Rattle.ufs_base.specs.Images.{Image}
use Rattle.ufs_disk.specs.Disk.{State, put, IsImage}
use Rattle.ufs_disk.specs.Moments.{Moments, LeavesOnly}
use Rattle.ufs_disk.proofs.Images.{put_same, put_other}
use Rattle.ufs_disk.proofs.Runs.{goes_on}
use Rattle.ufs_layout.specs.InodeForm.{inode_of}
use Rattle.ufs_layout.specs.declared.geometry.Geometry.{Geometry}
use Rattle.ufs_recovery.specs.Cleared.{cleared, sector_at, Numbers, IsClearedAt, IsMixedCleared, AreClearedBelow, IsPartlyCleared, HasSectorPut}

module _ (g : Geometry) (kind : ℕ) (numbers : Numbers) where
  pub none_mixed : (before : Image) → IsMixedCleared g kind numbers before before
  none_mixed before sector = inl refl

  pub none_cleared : (image : Image) → AreClearedBelow g kind numbers 0 image
  none_cleared image place number less chosen = absurd (omega (arith, less))

  -- Where no number stands, nothing is to be done.
  pub cleared_past : (place : ℕ) (image : Image) → ((number : ℕ) → slice_get numbers place ≡ Some (Some number) → ⊥) → AreClearedBelow g kind numbers place image → AreClearedBelow g kind numbers (place + 1) image
  cleared_past place image none below at number less chosen = by (cases_eq at place)
    where
      by : (at ≡ place) ⊎ (at ≢ place) → inode_of (image (sector_at g at)) ≡ Some (cleared kind number)
      by (inl same) = absurd (none number (subst (λ k. slice_get numbers k ≡ Some (Some number)) same chosen))
      by (inr other) = below at number (omega (arith, less, other)) chosen

  module _ (place number : ℕ) (bytes : List ℕ) (chosen : slice_get numbers place ≡ Some (Some number)) (form : inode_of bytes ≡ Some (cleared kind number)) where
    -- one more is cleared
    pub one_mixed : (before image now : Image) → IsMixedCleared g kind numbers before image → now ≡ put (sector_at g place) bytes image → IsMixedCleared g kind numbers before now
    one_mixed before image now mixed is sector = by (cases_eq sector (sector_at g place))
      where
        by : (sector ≡ sector_at g place) ⊎ (sector ≢ sector_at g place) → (now sector ≡ before sector) ⊎ IsClearedAt g kind numbers sector (now sector)
        by (inl same) =
            let here : now sector ≡ bytes = ap (λ (d : Image). d sector) is ∙ ap (λ k. put (sector_at g place) bytes image k) same ∙ put_same (sector_at g place) bytes image in
            inr (record { place = place; number = number; chosen = chosen; there = same; form = ap inode_of here ∙ form })
        by (inr other) =
            let here : now sector ≡ image sector = ap (λ (d : Image). d sector) is ∙ put_other (sector_at g place) sector bytes image other in
            subst (λ (b : List ℕ). (b ≡ before sector) ⊎ IsClearedAt g kind numbers sector b) (sym here) (mixed sector)

    pub one_cleared : (image now : Image) → now ≡ put (sector_at g place) bytes image → AreClearedBelow g kind numbers place image → AreClearedBelow g kind numbers (place + 1) now
    one_cleared image now is below at n less at_chosen = by (cases_eq at place)
      where
        by : (at ≡ place) ⊎ (at ≢ place) → inode_of (now (sector_at g at)) ≡ Some (cleared kind n)
        by (inl same) =
            let here : now (sector_at g at) ≡ bytes = ap (λ (d : Image). d (sector_at g at)) is ∙ ap (λ k. put (sector_at g place) bytes image (sector_at g k)) same ∙ put_same (sector_at g place) bytes image in
            let both : ◌≡◌ {A = Option (Option ℕ)} (Some (Some number)) (Some (Some n)) = sym chosen ∙ ap (slice_get numbers) (sym same) ∙ at_chosen in
            let equal : number ≡ n = cc in
            ap inode_of here ∙ form ∙ ap (λ k. Some (cleared kind k)) equal
        by (inr other) =
            let elsewhere : sector_at g at ≢ sector_at g place = λ same. other (omega (arith, same)) in
            let here : now (sector_at g at) ≡ image (sector_at g at) = ap (λ (d : Image). d (sector_at g at)) is ∙ put_other (sector_at g place) (sector_at g at) bytes image elsewhere in
            ap inode_of here ∙ below at n (omega (arith, less, other)) at_chosen

    pub one_crash : (keeps : Bool) (first old new : Moments) → LeavesOnly keeps (IsPartlyCleared g kind numbers first.state) first old → LeavesOnly keeps (HasSectorPut (sector_at g place) bytes old.state) old new
        → LeavesOnly keeps (IsPartlyCleared g kind numbers first.state) first new
    one_crash keeps first old new so_far call = goes_on keeps (IsPartlyCleared g kind numbers first.state) (HasSectorPut (sector_at g place) bytes old.state) first old new so_far call leads
      where
        leads : (image : Image) → HasSectorPut (sector_at g place) bytes old.state image → IsPartlyCleared g kind numbers first.state image
        leads image from = by from.is
          where
            was : IsPartlyCleared g kind numbers first.state from.before
            was = so_far.after from.before from.left

            by : (image ≡ from.before) ⊎ (image ≡ put (sector_at g place) bytes from.before) → IsPartlyCleared g kind numbers first.state image
            by (inl e) = subst (IsPartlyCleared g kind numbers first.state) (sym e) was
            by (inr e) = record { before = was.before; left = was.left; mixed = one_mixed was.before from.before image was.mixed e }

pub begins_cleared : (g : Geometry) (kind : ℕ) (numbers : Numbers) (state : State) (image : Image) → IsImage state image → IsPartlyCleared g kind numbers state image
begins_cleared g kind numbers state image left = record { before = image; left = left; mixed = none_mixed g kind numbers image }

-- an element that is there
pub get_there : {X : Type 0} (xs : List X) (k : ℕ) (d : X) → k < length xs → slice_get xs k ≡ Some (get_or xs k d)
get_there [] k d less = absurd (omega (arith, less))
get_there (x ∷ xs) zero d less = refl
get_there (x ∷ xs) (suc k) d less = get_there xs k d (omega (arith, less))

-- whatever is read past the end
pub any_default : {X : Type 0} (xs : List X) (k : ℕ) (d e : X) → k < length xs → get_or xs k d ≡ get_or xs k e
any_default [] k d e less = absurd (omega (arith, less))
any_default (x ∷ xs) zero d e less = refl
any_default (x ∷ xs) (suc k) d e less = any_default xs k d e (omega (arith, less))
