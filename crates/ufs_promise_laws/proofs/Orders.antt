-- Two slots are set in either order.
use Rattle.std.proofs.Common.{◌≡◌, ◌≢◌, ℕ, zero, suc, ◌<◌, ◌⊎◌, inl, inr, List, [], ◌∷◌, length, set, ap, sym, refl, ◌∙◌, subst, arith}
use Rattle.std.proofs.lemmas.Bool.{cases_eq}
use Rattle.std.proofs.lemmas.List.{get_or-set_same, get_or-set_other, length-set}
use Rattle.ufs_layout.specs.DentryForm.{DentryForm}
use Rattle.ufs_layout.specs.declared.geometry.Geometry.{Geometry}
use Rattle.ufs_dirs.specs.Directory.{Directory}
use Rattle.ufs_dirs.specs.Changes.{place_of, IsSlot, with_entry}
use Rattle.ufs_dirs.specs.declared.Slot.{Slot}
use Rattle.ufs_dir_tree.specs.DirTable.{no_dir, dir_at, blocks_at}
use Rattle.ufs_dir_tree.specs.Steps.{DirState, Put, after}
use Rattle.ufs_promise_laws.specs.Held.{MayPut}
use Rattle.ufs_promise_laws.specs.Names.{IsEitherOrder}
use Rattle.ufs_promise_laws.proofs.NamesKept.{has_dir}

set_apart : {X : Type 0} (xs : List X) (i j : ℕ) (x y : X) → (i ≡ j → ⊥) → set (set xs j y) i x ≡ set (set xs i x) j y
set_apart [] i j x y apart = refl
set_apart (z ∷ zs) zero zero x y apart = absurd (apart refl)
set_apart (z ∷ zs) zero (suc j) x y apart = refl
set_apart (z ∷ zs) (suc i) zero x y apart = refl
set_apart (z ∷ zs) (suc i) (suc j) x y apart = ap (λ ws. z ∷ ws) (set_apart zs i j x y (λ same. apart (ap suc same)))

set_twice : {X : Type 0} (xs : List X) (i : ℕ) (x y : X) → set (set xs i y) i x ≡ set xs i x
set_twice [] i x y = refl
set_twice (z ∷ zs) zero x y = refl
set_twice (z ∷ zs) (suc i) x y = ap (λ ws. z ∷ ws) (set_twice zs i x y)

module _ (g : Geometry) (s : DirState) where
  abbrev with_dirs : List Directory → DirState
  with_dirs dirs = record { table = record { dirs = dirs; free = s.table.free }; kinds = s.kinds; zeroed = s.zeroed }

  abbrev dirs : List Directory
  dirs = s.table.dirs

  -- two directories
  others : (i j : ℕ) (a b : Slot) (d e : DentryForm) → i ≢ j → after (Put i a d) (after (Put j b e) s) ≡ after (Put j b e) (after (Put i a d) s)
  others i j a b d e apart =
      let x : Directory = with_entry (dir_at s.table i) a d in
      let y : Directory = with_entry (dir_at s.table j) b e in
      let first : dir_at (after (Put j b e) s).table i ≡ dir_at s.table i = get_or-set_other dirs j i y no_dir apart in
      let second : dir_at (after (Put i a d) s).table j ≡ dir_at s.table j = get_or-set_other dirs i j x no_dir (λ same. apart (sym same)) in
      ap (λ (z : Directory). with_dirs (set (set dirs j y) i (with_entry z a d))) first ∙ ap with_dirs (set_apart dirs i j x y apart) ∙ sym (ap (λ (z : Directory). with_dirs (set (set dirs i x) j (with_entry z b e))) second)

  -- one directory
  one : (i : ℕ) (a b : Slot) (d e : DentryForm) → i < length dirs → place_of (blocks_at s.table i) a ≢ place_of (blocks_at s.table i) b → after (Put i a d) (after (Put i b e) s) ≡ after (Put i b e) (after (Put i a d) s)
  one i a b d e within apart =
      let x : Directory = with_entry (dir_at s.table i) a d in
      let y : Directory = with_entry (dir_at s.table i) b e in
      let first : dir_at (after (Put i b e) s).table i ≡ y = get_or-set_same dirs i y no_dir within in
      let second : dir_at (after (Put i a d) s).table i ≡ x = get_or-set_same dirs i x no_dir within in
      let slots = set_apart (dir_at s.table i).slots (place_of (blocks_at s.table i) a) (place_of (blocks_at s.table i) b) d e apart in
      ap (λ (z : Directory). with_dirs (set (set dirs i y) i (with_entry z a d))) first ∙ ap with_dirs (set_twice dirs i (with_entry y a d) y)
      ∙ ap (λ ss. with_dirs (set dirs i (record { blocks = blocks_at s.table i; slots = ss }))) slots
      ∙ sym (ap (λ (z : Directory). with_dirs (set (set dirs i x) i (with_entry z b e))) second ∙ ap with_dirs (set_twice dirs i (with_entry x b e) x))

  still : (i j : ℕ) (a b : Slot) (d e : DentryForm) → MayPut g s i a d → MayPut g s j b e → MayPut g (after (Put j b e) s) i a d
  still i j a b d e may also = record { in_range = may.in_range; in_dir = by (cases_eq i j); form = may.form }
    where
      moved : (x : Directory) → x.blocks ≡ blocks_at s.table i → length x.slots ≡ length (dir_at s.table i).slots → IsSlot x a
      moved x blocks count =
          let inside = may.in_dir.in_blocks in
          let place : place_of x.blocks a ≡ place_of (blocks_at s.table i) a = ap (λ bs. place_of bs a) blocks in
          record { in_sector = may.in_dir.in_sector; in_blocks = omega (arith, inside, place, count) }

      by : (i ≡ j) ⊎ (i ≢ j) → IsSlot (dir_at (after (Put j b e) s).table i) a
      by (inr apart) = let same = get_or-set_other dirs j i (with_entry (dir_at s.table j) b e) no_dir apart in moved (dir_at (after (Put j b e) s).table i) (ap (λ (z : Directory). z.blocks) same) (ap (λ (z : Directory). length z.slots) same)
      by (inl same) =
          let here : dir_at (after (Put j b e) s).table j ≡ with_entry (dir_at s.table j) b e = get_or-set_same dirs j (with_entry (dir_at s.table j) b e) no_dir (has_dir g s j b e also) in
          let now : dir_at (after (Put j b e) s).table i ≡ with_entry (dir_at s.table i) b e = ap (dir_at (after (Put j b e) s).table) same ∙ here ∙ ap (λ k. with_entry (dir_at s.table k) b e) (sym same) in
          moved (dir_at (after (Put j b e) s).table i) (ap (λ (z : Directory). z.blocks) now) (ap (λ (z : Directory). length z.slots) now ∙ length-set (dir_at s.table i).slots (place_of (blocks_at s.table i) b) e)

  pub either : (i j : ℕ) (a b : Slot) (d e : DentryForm) → MayPut g s i a d → MayPut g s j b e → (i ≡ j → place_of (blocks_at s.table i) a ≢ place_of (blocks_at s.table i) b) → IsEitherOrder g s i j a b d e
  either i j a b d e may also apart = record { may = still i j a b d e may also; same = by (cases_eq i j) }
    where
      by : (i ≡ j) ⊎ (i ≢ j) → after (Put i a d) (after (Put j b e) s) ≡ after (Put j b e) (after (Put i a d) s)
      by (inl same) = subst (λ k. after (Put i a d) (after (Put k b e) s) ≡ after (Put k b e) (after (Put i a d) s)) same (one i a b d e (has_dir g s i a d may) (apart same))
      by (inr other) = others i j a b d e other
