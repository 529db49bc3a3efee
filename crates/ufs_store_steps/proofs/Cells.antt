-- Images of a disk's state, and of its cells.
use Rattle.std.proofs.Common.{List, ◌∷◌, ◌++◌, None, ◌≡◌, ◌⊎◌, ℕ, zero, suc, ◌+◌, ◌<◌, ◌≤◌, inl, inr, ⊎_elim, Bool, true, false, [], length, map, Some, unwrap_or, ap, sym, refl, ◌∙◌, subst, arith}
use Rattle.std.specs.Prelude.{Ok, nat_lt, if◌then◌else◌, slice_get}
use Rattle.std.specs.List.{range_with_len}
use Rattle.std.proofs.lemmas.Bool.Decides.{nat_tests}
use Rattle.std.proofs.lemmas.Option.{slice_get_past}
use native.Mathlib.Decide.{dec_le}
use Rattle.ufs_base.specs.Images.{Image}
use Rattle.ufs_disk.specs.Disk.{Cell, State, IsAmong, IsImage, IsWhole, possible, seen}
use Rattle.ufs_disk.proofs.Images.{seen_is_image}
use Rattle.ufs_image.specs.Opens.{ImageTree, opens}
use Rattle.ufs_model.specs.Start.{PathNodes}
use Rattle.ufs_hand_laws.specs.Parts.{Cells}
use Rattle.ufs_hand_laws.specs.DiskBytes.{empty_cell, state_of}
use Rattle.ufs_hand_laws.specs.Shown.{nodes_of, OpensTo, OpensAs}
use Rattle.ufs_hand_laws.specs.Commits.{TreesGo, TreesMayGo}
use Rattle.ufs_store_steps.specs.Cells.{cells_of, AreCellsOf}

get_range : {X : Type 0} (f : ℕ → X) (n from k : ℕ) → k < n → slice_get (map f (range_with_len from n)) k ≡ Some (f (from + k))
get_range f zero from k low = absurd (omega (arith, low))
get_range f (suc n) from zero low = ap (λ m. Some (f m)) (let e : from ≡ from + 0 = omega arith in e)
get_range f (suc n) from (suc k) low = get_range f n (from + 1) k (omega (arith, low)) ∙ ap (λ m. Some (f m)) (let e : from + 1 + k ≡ from + suc k = omega arith in e)

length_range : {X : Type 0} (f : ℕ → X) (n from : ℕ) → length (map f (range_with_len from n)) ≡ n
length_range f zero from = refl
length_range f (suc n) from = let i = length_range f n (from + 1) in omega (arith, i)

pub cells_are_there : (sectors : ℕ) (state : State) → AreCellsOf sectors state (cells_of sectors state)
cells_are_there sectors state = record { size = length_range state sectors 0; each = λ sector low. get_range state sectors 0 sector low ∙ ap (λ k. Some (state k)) (let e : 0 + sector ≡ sector = omega arith in e) }

same_list : {X : Type 0} (xs ys : List X) → ((i : ℕ) → slice_get xs i ≡ slice_get ys i) → xs ≡ ys
same_list [] [] same = refl
same_list [] (y ∷ ys) same = let e : None ≡ Some y = same 0 in cc
same_list (x ∷ xs) [] same = let e : Some x ≡ None = same 0 in cc
same_list (x ∷ xs) (y ∷ ys) same = let e : Some x ≡ Some y = same 0 in let first : x ≡ y = cc in let rest = same_list xs ys (λ i. same (suc i)) in λ j. first j ∷ rest j

-- those are the only ones
pub only_cells : (sectors : ℕ) (state : State) (cells : Cells) → AreCellsOf sectors state cells → cells_of sectors state ≡ cells
only_cells sectors state cells are = same_list (cells_of sectors state) cells (λ i. at i (dec_le (i + 1) sectors))
  where
    there : AreCellsOf sectors state (cells_of sectors state)
    there = cells_are_there sectors state

    at : (i : ℕ) → Dec (i + 1 ≤ sectors) → slice_get (cells_of sectors state) i ≡ slice_get cells i
    at i (yes l) = there.each i (omega arith) ∙ sym (are.each i (omega arith))
    at i (no l) = slice_get_past (cells_of sectors state) i (let z = there.size in omega arith) ∙ sym (slice_get_past cells i (let z = are.size in omega arith))

module _ (sectors : ℕ) (state : State) (cells : Cells) (are : AreCellsOf sectors state cells) where
  pub cell_within : (s : ℕ) → s < sectors → state_of cells s ≡ state s
  cell_within s low = ap (λ o. unwrap_or o empty_cell) (are.each s low)

  cell_past : (s : ℕ) → sectors ≤ s → state_of cells s ≡ empty_cell
  cell_past s high = ap (λ o. unwrap_or o empty_cell) (slice_get_past cells s (let size = are.size in omega (arith, size, high)))

  -- an image of the cells, with what a read gives past the disk's end
  abbrev pub whole : Image → Image
  whole image s = if nat_lt s sectors then image s else seen state s

  pub whole_left : (image : Image) → IsImage (state_of cells) image → IsImage state (whole image)
  whole_left image left s = by (nat_lt s sectors) refl
    where
      by : (b : Bool) → nat_lt s sectors ≡ b → IsAmong (possible (state s)) (if b then image s else seen state s)
      by true e = let low : s < sectors = grind (arith, nat_tests, e) in subst (λ (c : Cell). IsAmong (possible c) (image s)) (cell_within s low) (left s)
      by false e = seen_is_image state s

  pub whole_same : (image : Image) (s : ℕ) → s < sectors → whole image s ≡ image s
  whole_same image s low = ap (λ b. if b then image s else seen state s) (let e : nat_lt s sectors ≡ true = grind (arith, nat_tests, low) in e)

  -- an image of the state, with nothing past the disk's end
  abbrev pub cut : Image → Image
  cut image s = if nat_lt s sectors then image s else []

  pub cut_left : (image : Image) → IsImage state image → IsImage (state_of cells) (cut image)
  cut_left image left s = by (nat_lt s sectors) refl
    where
      by : (b : Bool) → nat_lt s sectors ≡ b → IsAmong (possible (state_of cells s)) (if b then image s else [])
      by true e = let low : s < sectors = grind (arith, nat_tests, e) in subst (λ (c : Cell). IsAmong (possible c) (image s)) (sym (cell_within s low)) (left s)
      by false e = let high : sectors ≤ s = grind (arith, nat_tests, e) in subst (λ (c : Cell). IsAmong (possible c) []) (sym (cell_past s high)) (inl refl)

  pub cut_same : (image : Image) (s : ℕ) → s < sectors → image s ≡ cut image s
  cut_same image s low = sym (ap (λ b. if b then image s else []) (let e : nat_lt s sectors ≡ true = grind (arith, nat_tests, low) in e))

-- ---- a disk with nothing past its end is its cells

no_cell : (cell : Cell) → possible cell ≡ [] ∷ [] → cell ≡ empty_cell
no_cell cell is = let both = none cell.older cell.seen is in λ i. record { older = both.0 i; seen = both.1 i }
  where
    none : (older : List (List ℕ)) (seen : List ℕ) → older ++ seen ∷ [] ≡ [] ∷ [] → (older ≡ []) × (seen ≡ [])
    none [] seen e = let s : seen ≡ [] = cc in (refl, s)
    none (x ∷ []) seen e = cc
    none (x ∷ y ∷ more) seen e = cc

pub whole_cells : (sectors : ℕ) (state : State) → IsWhole sectors state → state_of (cells_of sectors state) ≡ state
whole_cells sectors state whole = λ i s. at s (dec_le (s + 1) sectors) i
  where
    at : (s : ℕ) → Dec (s + 1 ≤ sectors) → state_of (cells_of sectors state) s ≡ state s
    at s (yes l) = cell_within sectors state (cells_of sectors state) (cells_are_there sectors state) s (omega arith)
    at s (no l) = cell_past sectors state (cells_of sectors state) (cells_are_there sectors state) s (omega arith) ∙ sym (no_cell (state s) (whole.beyond s (omega arith)))

-- ---- what is shown of the states holds of their cells

-- one image goes on from another
abbrev pub ImageGoes : ℕ → (PathNodes → PathNodes → Type 0) → Image → Image → Type 0
ImageGoes sectors Goes before image = (tree : ImageTree) → opens sectors before ≡ Ok tree → OpensTo (Goes (nodes_of tree)) sectors image

-- an image opens by the sectors of the disk
abbrev pub OpensWithin : ℕ → State → Type 0
OpensWithin sectors state = (image other : Image) → IsImage state image → ((s : ℕ) → s < sectors → image s ≡ other s) → opens sectors other ≡ opens sectors image

module _ (sectors : ℕ) (old new : State) (one other : Cells) (a : AreCellsOf sectors old one) (b : AreCellsOf sectors new other) (was : OpensWithin sectors old) (is : OpensWithin sectors new) where
  opens_whole : (image : Image) → IsImage (state_of other) image → opens (length other) image ≡ opens sectors (whole sectors new other b image)
  opens_whole image left = ap (λ n. opens n image) b.size ∙ is (whole sectors new other b image) image (whole_left sectors new other b image left) (whole_same sectors new other b image)

  opens_cut : (image : Image) → IsImage old image → opens (length one) (cut sectors old one a image) ≡ opens sectors image
  opens_cut image left = ap (λ n. opens n (cut sectors old one a image)) a.size ∙ was image (cut sectors old one a image) left (cut_same sectors old one a image)

  pub cells_open_as : ((image : Image) → IsImage new image → (before : Image) × IsImage old before × (opens sectors image ≡ opens sectors before)) → OpensAs one other
  cells_open_as step image left =
      let x = step (whole sectors new other b image) (whole_left sectors new other b image left) in
      (cut sectors old one a x.0, cut_left sectors old one a x.0 x.1, opens_whole image left ∙ x.2 ∙ sym (opens_cut x.0 x.1))

  module _ (Goes : PathNodes → PathNodes → Type 0) where
    goes_on : (image before : Image) → IsImage (state_of other) image → IsImage old before → ImageGoes sectors Goes before (whole sectors new other b image)
        → (tree : ImageTree) → opens (length one) (cut sectors old one a before) ≡ Ok tree → OpensTo (Goes (nodes_of tree)) (length other) image
    goes_on image before left from goes tree opened =
        let there = goes tree (sym (opens_cut before from) ∙ opened) in (there.0, opens_whole image left ∙ there.1, there.2)

    pub cells_go : ((image : Image) → IsImage new image → (before : Image) × IsImage old before × ImageGoes sectors Goes before image) → TreesGo Goes one other
    cells_go step image left =
        let x = step (whole sectors new other b image) (whole_left sectors new other b image left) in
        (cut sectors old one a x.0, cut_left sectors old one a x.0 x.1, goes_on image x.0 left x.1 x.2)

    pub cells_may_go : ((image : Image) → IsImage new image → (before : Image) × IsImage old before × ((opens sectors image ≡ opens sectors before) ⊎ ImageGoes sectors Goes before image)) → TreesMayGo Goes one other
    cells_may_go step image left =
        let x = step (whole sectors new other b image) (whole_left sectors new other b image left) in
        (cut sectors old one a x.0, cut_left sectors old one a x.0 x.1, ⊎_elim (λ same. inl (opens_whole image left ∙ same ∙ sym (opens_cut x.0 x.1))) (λ goes. inr (goes_on image x.0 left x.1 goes)) x.2)
