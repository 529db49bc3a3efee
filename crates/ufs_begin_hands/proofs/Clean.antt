-- The test tells just the clean disks.
use Rattle.std.proofs.Common.{◌≡◌, inl, inr, ℕ, zero, suc, ◌+◌, ◌<◌, ◌≤◌, Bool, true, false, cond, eqb, List, [], ◌∷◌, ◌++◌, Option, Some, None, Result, Ok, Err, ap, sym, refl, ◌∙◌, subst, arith}
use Rattle.std.specs.Prelude.{MatchResult, is_none}
use Rattle.std.specs.List.{list_all, range_with_len}
use Rattle.std.specs.Str.{bytes_eq}
use Rattle.std.proofs.lemmas.Bool.{and_from, and_parts}
use Rattle.std.proofs.lemmas.Slice.Eq.{bytes_eq-Decides}
use native.Mathlib.Decide.{dec_le}
use Rattle.ufs_base.specs.Images.{Image}
use Rattle.ufs_disk.specs.Disk.{IsAmong, IsImage, IsSettled, IsWhole, State, possible, seen}
use Rattle.ufs_disk.proofs.Images.{seen_is_image}
use Rattle.ufs_image.specs.Damage.{bad_tree}
use Rattle.ufs_image.specs.Proper.{IsProperImage, IsProperVolume}
use Rattle.ufs_image.specs.Volume.{Refusal, Volume, damage_of, superblock_of, volume}
use Rattle.ufs_image.proofs.Journals.{taken}
use Rattle.ufs_recovery.specs.Recovered.{IsCleanDisk}
use Rattle.ufs_recovery.proofs.Ends.{none_in_clean, proper_volume}
use Rattle.ufs_hand_laws.proofs.Keys.{alike, itself}
use Rattle.ufs_begin_hands.specs.Seen.{is_clean, is_clean_in, is_nothing, is_settled, is_still}

-- ---- each of some sectors

each_in : (p : ℕ → Bool) (n from : ℕ) → list_all p (range_with_len from n) ≡ true → (k : ℕ) → k < n → p (from + k) ≡ true
each_in p zero from all k low = absurd (omega (arith, low))
each_in p (suc n) from all zero low = ap p (let e : from + 0 ≡ from = omega arith in e) ∙ (and_parts _ _ all).0
each_in p (suc n) from all (suc k) low = ap p (let e : from + suc k ≡ from + 1 + k = omega arith in e) ∙ each_in p n (from + 1) (and_parts _ _ all).1 k (omega (arith, low))

in_each : (p : ℕ → Bool) (n from : ℕ) → ((k : ℕ) → k < n → p (from + k) ≡ true) → list_all p (range_with_len from n) ≡ true
in_each p zero from each = refl
in_each p (suc n) from each =
    and_from _ _ (ap p (let e : from ≡ from + 0 = omega arith in e) ∙ each 0 (omega arith))
    (in_each p n (from + 1) (λ k low. ap p (let e : from + 1 + k ≡ from + suc k = omega arith in e) ∙ each (suc k) (omega (arith, low))))

-- ---- nothing is pending

older_seen : (older : List (List ℕ)) (last bytes : List ℕ) → list_all (λ b. bytes_eq b last) older ≡ true → IsAmong (older ++ last ∷ []) bytes → bytes ≡ last
older_seen [] last bytes all (inl is) = is
older_seen [] last bytes all (inr none) = absurd none
older_seen (x ∷ older) last bytes all (inl is) = is ∙ (bytes_eq-Decides x last).0 (and_parts _ _ all).0
older_seen (x ∷ older) last bytes all (inr rest) = older_seen older last bytes (and_parts _ _ all).1 rest

seen_older : (older : List (List ℕ)) (last : List ℕ) → ((bytes : List ℕ) → IsAmong (older ++ last ∷ []) bytes → bytes ≡ last) → list_all (λ b. bytes_eq b last) older ≡ true
seen_older [] last each = refl
seen_older (x ∷ older) last each = and_from _ _ ((bytes_eq-Decides x last).1 (each x (inl refl))) (seen_older older last (λ bytes among. each bytes (inr among)))

module _ (sectors : ℕ) (state : State) where
  pub settled : IsWhole sectors state → is_settled sectors state ≡ true → IsSettled state
  settled whole all image left = λ i sector. at sector (dec_le (suc sector) sectors) i
    where
      none : (bytes : List ℕ) → IsAmong ([] ∷ []) bytes → bytes ≡ []
      none bytes (inl is) = is
      none bytes (inr more) = absurd more

      at : (sector : ℕ) → Dec (suc sector ≤ sectors) → image sector ≡ seen state sector
      at sector (yes low) = older_seen (state sector).older (state sector).seen (image sector) (ap (λ s. is_still (state s)) (let e : sector ≡ 0 + sector = omega arith in e) ∙ each_in (λ s. is_still (state s)) sectors 0 all sector (omega (arith, low))) (left sector)
      at sector (no high) =
          let empty = whole.beyond sector (omega (arith, high)) in
          none (image sector) (subst (λ (xs : List (List ℕ)). IsAmong xs (image sector)) empty (left sector))
          ∙ sym (none (seen state sector) (subst (λ (xs : List (List ℕ)). IsAmong xs (seen state sector)) empty (seen_is_image state sector)))

  -- what the disk reads, with these bytes in one sector
  abbrev put : ℕ → List ℕ → Image
  put at bytes sector = cond (eqb sector at) bytes (seen state sector)

  pub still : IsSettled state → is_settled sectors state ≡ true
  still settles = in_each (λ s. is_still (state s)) sectors 0 (λ k low. ap (λ s. is_still (state s)) (let e : 0 + k ≡ k = omega arith in e) ∙ seen_older (state k).older (state k).seen (λ bytes among. same k bytes (settles (put k bytes) (left k bytes among))))
    where
      left : (k : ℕ) (bytes : List ℕ) → IsAmong (possible (state k)) bytes → IsImage state (put k bytes)
      left k bytes among sector = by (eqb sector k) refl
        where
          by : (b : Bool) → eqb sector k ≡ b → IsAmong (possible (state sector)) (cond b bytes (seen state sector))
          by true is = subst (λ (s : ℕ). IsAmong (possible (state s)) bytes) (sym (alike sector k is)) among
          by false is = seen_is_image state sector

      same : (k : ℕ) (bytes : List ℕ) → put k bytes ≡ seen state → bytes ≡ seen state k
      same k bytes is = sym (ap (λ b. cond b bytes (seen state k)) (itself k)) ∙ ap (λ (image : Image). image k) is

-- ---- the image is proper, and marked clean

nothing : {A : Type 0} (xs : List A) → is_nothing xs ≡ true → xs ≡ []
nothing [] is = refl
nothing (x ∷ xs) is = (let off : false ≡ true = is in absurd cc)

none_of : {A : Type 0} (o : Option A) → is_none o ≡ true → o ≡ None
none_of None is = refl
none_of (Some x) is = (let off : false ≡ true = is in absurd cc)

module _ (sectors : ℕ) (image : Image) where
  -- a volume is that of the image's superblock
  clean_of : (v : Volume) → volume sectors image ≡ Ok v → v.superblock.clean ≡ (superblock_of image).clean
  clean_of v e = ap (λ (w : Volume). w.superblock.clean) (taken sectors image v e).same

  pub proper : is_clean_in image (volume sectors image) ≡ true → IsProperImage sectors image × ((superblock_of image).clean ≡ true)
  proper = by (volume sectors image) refl
    where
      by : (r : Result Volume Refusal) → volume sectors image ≡ r → is_clean_in image r ≡ true → IsProperImage sectors image × ((superblock_of image).clean ≡ true)
      by (Err refusal) e is = (let off : false ≡ true = is in absurd cc)
      by (Ok v) e is =
          let clean = and_parts _ _ is in
          let tree = and_parts _ _ clean.1 in
          let later = and_parts _ _ tree.1 in
          let empty = and_parts _ _ later.1 in
          let last = and_parts _ _ empty.1 in
          let volume_is : IsProperVolume image v = record {
            has_tree = none_of (bad_tree v.geometry v.image) tree.0;
            none_later = later.0;
            if_clean = λ _. record { no_entry = empty.0; numbers_below = last.0; undamaged = nothing (damage_of v) last.1 };
          } in
          (subst (λ (q : Result Volume Refusal). MatchResult q (IsProperVolume image) (λ _. ⊥)) (sym e) volume_is, sym (clean_of v e) ∙ clean.0)

  pub told : IsProperImage sectors image → (superblock_of image).clean ≡ true → is_clean_in image (volume sectors image) ≡ true
  told is clean =
      let v = proper_volume sectors image is in
      let marked = clean_of v.0 v.1 ∙ clean in
      let its = v.2.if_clean marked in
      ap (is_clean_in image) v.1
      ∙ and_from _ _ marked
      (and_from _ _ (ap is_none v.2.has_tree)
      (and_from _ _ v.2.none_later
      (and_from _ _ its.no_entry
      (and_from _ _ its.numbers_below (ap is_nothing its.undamaged)))))

-- ---- the whole

pub clean_disk : (sectors : ℕ) (state : State) → IsWhole sectors state → is_clean sectors state ≡ true → IsCleanDisk sectors state
clean_disk sectors state whole is =
    let both = and_parts _ _ is in
    let image = proper sectors (seen state) both.1 in
    record {
      proper = record { settled = settled sectors state whole both.0; proper = image.0 };
      clean = image.1;
      empty = none_in_clean sectors (seen state) image.0 image.1;
    }

pub told_clean : (sectors : ℕ) (state : State) → IsCleanDisk sectors state → is_clean sectors state ≡ true
told_clean sectors state is = and_from _ _ (still sectors state is.proper.settled) (told sectors (seen state) is.proper.proper is.clean)
