-- How inodes stand after a record.
use Rattle.std.proofs.Common.{◌≡◌, ◌≢◌, inl, inr, ℕ, zero, suc, ◌+◌, ◌-◌, ◌*◌, ◌^◌, ◌<◌, ◌≤◌, List, ◌∷◌, ◌++◌, Bool, true, false, ◌&&◌, Option, length, take, set, refl, ap, sym, ◌∙◌, arith}
use Rattle.std.specs.Prelude.{if◌then◌else◌, ◌==◌, nat_le, nat_lt, min, map, unwrap_or}
use Rattle.std.specs.List.{range_with_len}
use Rattle.std.proofs.lemmas.Bool.{cases_Bool, and_parts, eq-eqb, ne_eqb, leb-true}
use Rattle.std.proofs.lemmas.List.{length-append, length-take}
use Rattle.std.proofs.lemmas.List.FromFn.{get_or-map-range_with_len}
use Rattle.ufs_layout.specs.Areas.{IsGeometry, first_of_data, sector_of_inode, is_inode_number}
use Rattle.ufs_base.specs.Images.{Image}
use Rattle.ufs_image.specs.Images.{form_at}
use Rattle.ufs_layout.specs.InodeForm.{InodeForm, inode_bytes, free_inode}
use Rattle.ufs_layout.specs.Records.{is_record, FitsRecord}
use Rattle.ufs_image.specs.Fold.{is_in_range, is_newer, after_delta, with_valid}
use Rattle.ufs_image.specs.BadSectors.{keeps_too_many}
use Rattle.ufs_layout.specs.declared.inode.Extent.{Extent}
use Rattle.ufs_layout.specs.declared.geometry.Geometry.{Geometry}
use Rattle.ufs_layout.specs.declared.records.LogRecord.{LogRecord}
use Rattle.ufs_layout.specs.declared.records.LogRecord.TheVariants.{Delta, Place, Free}
use Rattle.ufs_journal.proofs.Numbers.{form_of, touches, untouched, quiet, applied_inode, delta_back, free_back}
use Rattle.ufs_scan.specs.Standings.{standing_of, standings, no_standing, standing_at, changed, stepped, outkeeps}
use Rattle.ufs_scan.specs.declared.standing.Standing.{Standing}

-- ---- lists over a range

same_range : {X : Type 0} (f e : ℕ → X) (a n : ℕ) → ((j : ℕ) → a ≤ j → j < a + n → f j ≡ e j) → map f (range_with_len a n) ≡ map e (range_with_len a n)
same_range f e a zero same = refl
same_range f e a (suc n) same = λ i. same a (omega arith) (omega arith) i ∷ same_range f e (a + 1) n (λ j low high. same j (omega (arith, low)) (omega (arith, high))) i

set_range : {X : Type 0} (f e : ℕ → X) (v : X) (a n i : ℕ) → i < n → v ≡ e (a + i) → ((j : ℕ) → a ≤ j → j < a + n → j ≢ a + i → f j ≡ e j) → set (map f (range_with_len a n)) i v ≡ map e (range_with_len a n)
set_range f e v a zero i less here other = absurd (omega (arith, less))
set_range f e v a (suc n) zero less here other =
    let at : v ≡ e a = here ∙ ap e (omega arith) in
    λ k. at k ∷ same_range f e (a + 1) n (λ j low high. other j (omega (arith, low)) (omega (arith, high)) (λ same. absurd (omega (arith, same, low)))) k
set_range f e v a (suc n) (suc i) less here other =
    let moved : a + suc i ≡ a + 1 + i = omega arith in
    let first : f a ≡ e a = other a (omega arith) (omega arith) (λ same. absurd (omega (arith, same))) in
    λ k. first k ∷ set_range f e v (a + 1) n i (omega (arith, less)) (here ∙ ap e moved) (λ j low high ne. other j (omega (arith, low)) (omega (arith, high)) (λ same. ne (same ∙ moved))) k

-- ---- one record

module _ (g : Geometry) (taken : IsGeometry g) (number : ℕ) (small : number < 2 ^ 64) (before now : Image) where
  inside : (inode : ℕ) → inode < 1 + g.inodes → sector_of_inode g inode < 8 * first_of_data g
  inside inode less = omega (arith, less, taken.least_journal)

  stands : (inode : ℕ) → is_inode_number g inode ≡ true → standing_at (standings g before now) inode ≡ standing_of g before now inode
  stands inode is =
      let parts = and_parts (nat_le 1 inode) (nat_le inode g.inodes) is in
      let low = leb-true 1 inode parts.0 in
      let high = leb-true inode g.inodes parts.1 in
      get_or-map-range_with_len (standing_of g before now) 1 g.inodes (inode - 1) inode no_standing (omega (arith, low, high)) (omega (arith, low))

  -- another inode's record
  other : (r : LogRecord) (j : ℕ) → j < 1 + g.inodes → touches g (sector_of_inode g j) r ≡ false → standing_of g before now j ≡ standing_of g before (with_valid g number before r now) j
  other r j less none = ap (λ (x : List ℕ). record { before = (form_at g before j).number; number = (form_of x).number; count = length (form_of x).extents }) (sym (untouched g (sector_of_inode g j) (inside j less) number r before now none))

  apart : (inode j : ℕ) → is_inode_number g inode ≡ true → 1 ≤ j → j ≢ 1 + (inode - 1) → (is_inode_number g inode && sector_of_inode g inode == sector_of_inode g j) ≡ false
  apart inode j is low ne =
      let some : 1 ≤ inode = leb-true 1 inode (and_parts (nat_le 1 inode) (nat_le inode g.inodes) is).0 in
      let differ : sector_of_inode g inode ≢ sector_of_inode g j = λ same. ne (omega (arith, same, some, low)) in
      (λ i. is i && ne_eqb (sector_of_inode g inode) (sector_of_inode g j) differ i)

  step_inode : (r : LogRecord) (inode count : ℕ) (form : InodeForm) → ((t : ℕ) → touches g t r ≡ (is_inode_number g inode && sector_of_inode g inode == t))
      → (is_inode_number g inode ≡ true → nat_lt (form_at g before inode).number number ≡ true → form_of (with_valid g number before r now (sector_of_inode g inode)) ≡ form)
      → form.number ≡ number → length form.extents ≡ count
      → (if is_inode_number g inode then set (standings g before now) (inode - 1) (changed number count (standing_at (standings g before now) inode)) else standings g before now) ≡ standings g before (with_valid g number before r now)
  step_inode r inode count form touch applies numbered counted = elim (cases_Bool (is_inode_number g inode)) [
    | inl it ↦ ap (λ b. if b then set (standings g before now) (inode - 1) (changed number count (standing_at (standings g before now) inode)) else standings g before now) it
        ∙ (let parts = and_parts (nat_le 1 inode) (nat_le inode g.inodes) it in
        let low = leb-true 1 inode parts.0 in
        let high = leb-true inode g.inodes parts.1 in
        let same : inode ≡ 1 + (inode - 1) = omega (arith, low) in
        set_range (standing_of g before now) (standing_of g before (with_valid g number before r now)) _ 1 g.inodes (inode - 1) (omega (arith, low, high))
        (ap (changed number count) (stands inode it) ∙ here it (nat_lt (form_at g before inode).number number) refl ∙ ap (standing_of g before (with_valid g number before r now)) same)
        (λ j from to ne. other r j to (touch (sector_of_inode g j) ∙ apart inode j it from ne)))
    | inr out ↦ ap (λ b. if b then set (standings g before now) (inode - 1) (changed number count (standing_at (standings g before now) inode)) else standings g before now) out
        ∙ same_range (standing_of g before now) (standing_of g before (with_valid g number before r now)) 1 g.inodes (λ j low high. other r j high (touch (sector_of_inode g j) ∙ ap (λ b. b && sector_of_inode g inode == sector_of_inode g j) out))
  ]
    where
      here : is_inode_number g inode ≡ true → (b : Bool) → nat_lt (form_at g before inode).number number ≡ b
          → changed number count (standing_of g before now inode) ≡ standing_of g before (with_valid g number before r now) inode
      here it true newer =
          ap (λ b. if b then record { before = (form_at g before inode).number; number = number; count = count } else standing_of g before now inode) newer
          ∙ (λ i. record { before = (form_at g before inode).number; number = sym numbered i; count = sym counted i })
          ∙ ap (λ (f : InodeForm). record { before = (form_at g before inode).number; number = f.number; count = length f.extents }) (sym (applies it newer))
      here it false old =
          let high = leb-true inode g.inodes (and_parts (nat_le 1 inode) (nat_le inode g.inodes) it).1 in
          ap (λ b. if b then record { before = (form_at g before inode).number; number = number; count = count } else standing_of g before now inode) old
          ∙ ap (λ (x : List ℕ). record { before = (form_at g before inode).number; number = (form_of x).number; count = length (form_of x).extents }) (sym (quiet g (sector_of_inode g inode) (inside inode (omega (arith, high))) number r before now old))

  in_its_sector : (inode : ℕ) → is_inode_number g inode ≡ true → is_inode_number g inode && sector_of_inode g inode == sector_of_inode g inode ≡ true
  in_its_sector inode it = λ i. it i && eq-eqb (sector_of_inode g inode) (sector_of_inode g inode) refl i

  low_sector : (inode : ℕ) → is_inode_number g inode ≡ true → sector_of_inode g inode < 8 * first_of_data g
  low_sector inode it = let high = leb-true inode g.inodes (and_parts (nat_le 1 inode) (nat_le inode g.inodes) it).1 in inside inode (omega (arith, high))

  step_delta : (inode kind size keep : ℕ) (extents : List Extent) → is_record (Delta inode kind size keep extents) ≡ true → FitsRecord (Delta inode kind size keep extents)
      → stepped g number (Delta inode kind size keep extents) (standings g before now) ≡ standings g before (with_valid g number before (Delta inode kind size keep extents) now)
  step_delta inode kind size keep extents is fits =
      let r : LogRecord = Delta inode kind size keep extents in
      let form : InodeForm = after_delta (form_at g now inode) number kind size keep extents in
      let long : length (take keep (form_at g now inode).extents ++ extents) ≡ min keep (length (form_at g now inode).extents) + length extents =
      length-append (take keep (form_at g now inode).extents) extents ∙ ap (λ n. n + length extents) (length-take keep (form_at g now inode).extents) in
      elim (cases_Bool (is_inode_number g inode)) [
        | inl it ↦ ap (λ (one : Standing). if is_inode_number g inode then set (standings g before now) (inode - 1) (changed number (min keep one.count + length extents) (standing_at (standings g before now) inode)) else standings g before now) (stands inode it)
            ∙ step_inode r inode (min keep (length (form_at g now inode).extents) + length extents) form (λ t. refl)
            (λ in_range newer. ap form_of (applied_inode g (sector_of_inode g inode) (low_sector inode in_range) number inode (λ d. inode_bytes (after_delta (form_at g d inode) number kind size keep extents)) before now (in_its_sector inode in_range) newer)
            ∙ ap (λ (o : Option InodeForm). unwrap_or o (free_inode 0)) (delta_back (now (sector_of_inode g inode)) number inode kind size keep extents is fits small)) refl long
        | inr out ↦ step_out r inode out (λ t. refl) _
      ]
    where
      step_out : (r : LogRecord) (inode : ℕ) → is_inode_number g inode ≡ false → ((t : ℕ) → touches g t r ≡ (is_inode_number g inode && sector_of_inode g inode == t)) → (other_ : List Standing)
          → (if is_inode_number g inode then other_ else standings g before now) ≡ standings g before (with_valid g number before r now)
      step_out r inode out touch other_ = ap (λ b. if b then other_ else standings g before now) out
          ∙ same_range (standing_of g before now) (standing_of g before (with_valid g number before r now)) 1 g.inodes (λ j low high. other r j high (touch (sector_of_inode g j) ∙ ap (λ b. b && sector_of_inode g inode == sector_of_inode g j) out))

  step_free : (inode : ℕ) → stepped g number (Free inode) (standings g before now) ≡ standings g before (with_valid g number before (Free inode) now)
  step_free inode = step_inode (Free inode) inode 0 (free_inode number) (λ t. refl)
      (λ in_range newer. ap form_of (applied_inode g (sector_of_inode g inode) (low_sector inode in_range) number inode (λ d. inode_bytes (free_inode number)) before now (in_its_sector inode in_range) newer)
      ∙ ap (λ (o : Option InodeForm). unwrap_or o (free_inode 0)) (free_back number small)) refl refl

  step_place : (sector slot : ℕ) (dentry : Rattle.ufs_layout.specs.DentryForm.DentryForm) → standings g before now ≡ standings g before (with_valid g number before (Place sector slot dentry) now)
  step_place sector slot dentry = same_range (standing_of g before now) (standing_of g before (with_valid g number before (Place sector slot dentry) now)) 1 g.inodes (λ j low high. other (Place sector slot dentry) j high refl)

  -- each record, as it is folded
  pub step : (r : LogRecord) → is_record r ≡ true → FitsRecord r → stepped g number r (standings g before now) ≡ standings g before (with_valid g number before r now)
  step (Delta inode kind size keep extents) is fits = step_delta inode kind size keep extents is fits
  step (Place sector slot dentry) is fits = step_place sector slot dentry
  step (Free inode) is fits = step_free inode

  none_both : (b : Bool) → false ≡ b && false
  none_both true = refl
  none_both false = refl

  -- and whether it keeps too many
  pub keeps : (r : LogRecord) → outkeeps g number r (standings g before now) ≡ (is_in_range g r && keeps_too_many g number before now r)
  keeps (Delta inode kind size keep extents) = elim (cases_Bool (is_inode_number g inode)) [
    | inl it ↦ ap (λ (one : Standing). is_inode_number g inode && (nat_lt one.before number && nat_lt one.count keep)) (stands inode it)
    | inr out ↦ ap (λ b. b && (nat_lt (standing_at (standings g before now) inode).before number && nat_lt (standing_at (standings g before now) inode).count keep)) out
        ∙ sym (ap (λ b. b && (is_newer g number before inode && nat_lt (length (form_at g now inode).extents) keep)) out)
  ]
  keeps (Place sector slot dentry) = none_both (is_in_range g (Place sector slot dentry))
  keeps (Free inode) = none_both (is_in_range g (Free inode))
