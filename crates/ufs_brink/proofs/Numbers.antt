-- How the numbers of an image go on through a session.
use Rattle.std.proofs.Common.{◌≡◌, ◌≤◌, ◌+◌, ◌*◌, ℕ, List, [], ap, arith, sym, refl, subst, ◌∙◌}
use Rattle.std.proofs.Math.Nat.{add-mul}
use Rattle.ufs_base.specs.Images.{Image}
use Rattle.ufs_image.specs.Fold.{folded}
use Rattle.ufs_image.specs.Volume.{superblock_of, volume_of}
use Rattle.ufs_layout.specs.Superblock.{geometry_of}
use Rattle.ufs_layout.specs.declared.geometry.Geometry.{Geometry}
use Rattle.ufs_layout.specs.declared.records.Committed.{Committed}
use Rattle.ufs_layout.specs.declared.superblock.Super.{Super}
use Rattle.ufs_recovery.specs.Recovered.{AreCommitsBelow, AreInodesBelow, IsRecovered, log_of}
use Rattle.ufs_told.specs.Numbers.{most_raised}
use Rattle.ufs_told.specs.Told.{IsRaisedBy}
use Rattle.ufs_store.specs.State.{StoreState, geometry_of_store}
use Rattle.ufs_brink.specs.Numbers.{BeginsFrom, ClosesFrom, GoesOnFrom, IsMendedBy, IsNextOf, RaisesNumbers}

-- ---- recoveries

pub mended_none : (image : Image) → IsMendedBy 0 image image
mended_none image = record { geometry = refl; epoch = omega arith; epoch_most = omega arith; number = λ n next. next }

pub mended_same : (e : ℕ) (before mid behind : Image) → behind ≡ mid → IsMendedBy e before mid → IsMendedBy e before behind
mended_same e before mid behind same is = subst (IsMendedBy e before) (sym same) is

pub mended_then : (e f : ℕ) (before mid behind : Image) → IsMendedBy e before mid → IsMendedBy f mid behind → IsMendedBy (e + f) before behind
mended_then e f before mid behind front back =
    let a = front.epoch in
    let b = back.epoch in
    let c = front.epoch_most in
    let d = back.epoch_most in
    record { geometry = back.geometry ∙ front.geometry; epoch = omega (arith, a, b); epoch_most = omega (arith, c, d); number = λ n next. back.number n (front.number n next) }

pub mended_more : (e f : ℕ) (before behind : Image) → e ≤ f → IsMendedBy e before behind → IsMendedBy f before behind
mended_more e f before behind more is = let a = is.epoch_most in record { geometry = is.geometry; epoch = is.epoch; epoch_most = omega (arith, a, more); number = is.number }

-- an image in whose epoch nothing is committed is as its transactions leave it
folds_none : (image : Image) → log_of image ≡ [] → (volume_of (superblock_of image) image).image ≡ image
folds_none image none = ap (λ (log : List Committed). folded (geometry_of (superblock_of image)) log image) none

module _ (before behind : Image) (is : IsRecovered before behind) (none : log_of behind ≡ []) where
  same_geometry : geometry_of (superblock_of behind) ≡ geometry_of (superblock_of before)
  same_geometry = ap geometry_of is.superblock

  -- the inodes have the numbers that they had
  inodes_behind : (n : ℕ) → IsNextOf before n → AreInodesBelow (geometry_of (superblock_of before)) behind n
  inodes_behind n next k ranged = let same = is.numbers k ranged in let less = next.inodes k ranged in omega (arith, same, less)

  next_behind : (n : ℕ) → IsNextOf before n → IsNextOf behind n
  next_behind n next = record {
    some = next.some;
    known = is.least n next.some next.known (inodes_behind n next) next.logged;
    inodes = subst (λ (x : Geometry × Image). AreInodesBelow x.0 x.1 n) (λ i. (sym same_geometry i, sym (folds_none behind none) i)) (inodes_behind n next);
    logged = subst (λ (log : List Committed). AreCommitsBelow log n) (sym none) tt;
  }

  pub mended_once : IsMendedBy 1 before behind
  mended_once =
      let up : (superblock_of behind).epoch ≡ (superblock_of before).epoch + 1 = ap (λ (h : Super). h.epoch) is.superblock in
      record { geometry = same_geometry; epoch = omega (arith, up); epoch_most = omega (arith, up); number = next_behind }

-- ---- a store on an image

pub begins_from : (before mid : Image) (s : StoreState) → IsMendedBy 2 before mid → GoesOnFrom mid s → BeginsFrom before s
begins_from before mid s mended goes =
    let a = mended.epoch in
    let b = mended.epoch_most in
    let at = goes.epoch in
    let number = goes.number in
    record {
      geometry = goes.geometry ∙ mended.geometry;
      epoch = omega (arith, a, at);
      epoch_most = omega (arith, b, at);
      number_most = λ n next. let known = (mended.number n next).known in omega (arith, known, number);
    }

-- ---- the whole

module _ (before behind : Image) (requests : ℕ) (first last : StoreState) (begins : BeginsFrom before first) (served : IsRaisedBy requests first last) (closes : ClosesFrom last behind) where
  abbrev most : ℕ
  most = most_raised (geometry_of (superblock_of before))

  same_most : most_raised (geometry_of_store first) ≡ most
  same_most = ap (λ (g : Geometry). most_raised g) begins.geometry

  same_inodes : (geometry_of_store last).inodes ≡ (geometry_of (superblock_of before)).inodes
  same_inodes = ap (λ (g : Geometry). g.inodes) (served.geometry ∙ begins.geometry)

  all_raised : requests * most_raised (geometry_of_store first) ≡ requests * most
  all_raised = ap (λ (n : ℕ). requests * n) same_most

  one_more : (requests + 1) * most ≡ requests * most + most
  one_more = add-mul requests 1 most ∙ one
    where
      one : requests * most + 1 * most ≡ requests * most + most
      one = omega arith

  pub raises_numbers : RaisesNumbers requests before behind
  raises_numbers =
      let r = served.raised in
      let e1 = begins.epoch in
      let e2 = r.epoch in
      let e3 = closes.epoch in
      let m1 = begins.epoch_most in
      let m2 = r.epoch_most in
      let m3 = closes.epoch_most in
      let n2 = r.number_most in
      let n3 = closes.number_most in
      let inodes = same_inodes in
      let all = all_raised in
      let one = one_more in
      record {
        epoch = omega (arith, e1, e2, e3);
        epoch_most = omega (arith, m1, m2, m3, inodes, all, one);
        number_most = λ n next. let n1 = begins.number_most n next in omega (arith, n1, n2, n3, inodes, all, one);
      }
