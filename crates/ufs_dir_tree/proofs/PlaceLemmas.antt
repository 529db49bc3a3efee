-- Names that stay in their slots.
use Rattle.std.proofs.Common.{◌≡◌, ◌≢◌, ℕ, ◌+◌, ◌*◌, ◌/◌, ◌%◌, ◌<◌, ◌≤◌, ◌⊎◌, inl, inr, List, [], ◌∷◌, ◌++◌, Bool, true, false, cond, eqb, Some, None, length, ap, sym, refl, ◌∙◌, subst, arith, length-set}
use Rattle.std.specs.List.{position_or_len}
use Rattle.std.proofs.lemmas.Bool.{cases_eq, cases_lt, true≢false}
use Rattle.std.proofs.lemmas.List.{get_or-set_same, get_or-set_other, get_or_past}
use Rattle.std.proofs.lemmas.List.Folds.{position_or_len_push}
use Rattle.ufs_layout.specs.DentryForm.{DentryForm, free_slot, is_named}
use Rattle.ufs_dirs.specs.Directory.{Directory, entry_at, entry_of}
use Rattle.ufs_dirs.specs.Changes.{IsSlot, entry_in, place_of, with_entry}
use Rattle.ufs_dirs.specs.declared.Slot.{Slot}
use Rattle.ufs_dirs.proofs.KeptLemmas.{entry_at-added, entry_of-added}
use Rattle.ufs_dir_tree.specs.DirTable.{no_dir}
use Rattle.ufs_dir_tree.specs.DirCalls.{StandsAt}
use Rattle.ufs_dir_tree.specs.DirEdits.{ChangesOne, IsSized, KeepsPlaces, SetsEntry, dir_in}
use Rattle.ufs_dir_tree.specs.Steps.{grown}

-- where only one directory changed
pub places_by : (old new : List Directory) (p : ℕ) → ChangesOne old new p → ((name : List ℕ) (slot : Slot) → StandsAt (dir_in new p) name slot → StandsAt (dir_in old p) name slot) → KeepsPlaces old new
places_by old new p one here i name slot stands = by (cases_eq i p)
  where
    by : (i ≡ p) ⊎ (i ≢ p) → StandsAt (dir_in old i) name slot
    by (inl at) = subst (λ j. StandsAt (dir_in old j) name slot) (sym at) (here name slot (subst (λ j. StandsAt (dir_in new j) name slot) at stands))
    by (inr other) = subst (λ (d : Directory). StandsAt d name slot) (one.others i other) stands

pub places_on : (a b c : List Directory) → KeepsPlaces a b → KeepsPlaces b c → KeepsPlaces a c
places_on a b c first next i name slot stands = first i name slot (next i name slot stands)

pub places_same : (old new : List Directory) → new ≡ old → KeepsPlaces old new
places_same old new same i name slot stands = subst (λ (l : List Directory). StandsAt (dir_in l i) name slot) same stands

-- no name stands in a directory without slots
none_in : (name : List ℕ) (slot : Slot) → StandsAt no_dir name slot → ⊥
none_in name slot stands = let within = stands.place.slot.in_blocks in omega (arith, within)

pub places_freed : (old new : List Directory) (p : ℕ) → ChangesOne old new p → dir_in new p ≡ no_dir → KeepsPlaces old new
places_freed old new p one gone = places_by old new p one (λ name slot stands. absurd (none_in name slot (subst (λ (d : Directory). StandsAt d name slot) gone stands)))

-- ---- a slot is cleared

module _ (d : Directory) (s : Slot) (x : List ℕ) (is : IsSlot d s) (none : entry_of (with_entry d s free_slot).slots x ≡ None) (others : (other : List ℕ) → other ≢ x → entry_of (with_entry d s free_slot).slots other ≡ entry_of d.slots other) where
  cleared : Directory
  cleared = with_entry d s free_slot

  -- it isn't the one that was cleared
  off : (name : List ℕ) (slot : Slot) → StandsAt (with_entry d s free_slot) name slot → place_of d.blocks slot ≢ place_of d.blocks s
  off name slot stands at =
      let free = ap (entry_at (with_entry d s free_slot).slots) at ∙ get_or-set_same d.slots (place_of d.blocks s) free_slot free_slot is.in_blocks in
      true≢false (sym stands.place.used ∙ ap is_named free)

  same : (name : List ℕ) (slot : Slot) → StandsAt (with_entry d s free_slot) name slot → entry_in (with_entry d s free_slot) slot ≡ entry_in d slot
  same name slot stands = get_or-set_other d.slots (place_of d.blocks s) (place_of d.blocks slot) free_slot free_slot (off name slot stands)

  differs : (name : List ℕ) (slot : Slot) → StandsAt (with_entry d s free_slot) name slot → name ≢ x
  differs name slot stands at = let gone = ap (entry_of (with_entry d s free_slot).slots) at ∙ none in let some = stands.entry in cc

  pub stood_before : (name : List ℕ) (slot : Slot) → StandsAt (with_entry d s free_slot) name slot → StandsAt d name slot
  stood_before name slot stands =
      let read = same name slot stands in
      record {
        place = record {
          slot = record { in_sector = stands.place.slot.in_sector; in_blocks = omega (arith, stands.place.slot.in_blocks, length-set d.slots (place_of d.blocks s) free_slot) };
          used = ap is_named (sym read) ∙ stands.place.used;
          named = ap (λ (e : DentryForm). e.name) (sym read) ∙ stands.place.named;
        };
        entry = sym (others name (differs name slot stands)) ∙ stands.entry ∙ ap (λ (e : DentryForm). Some e) read;
      }

pub places_cleared : (old new : List Directory) (p : ℕ) (s : Slot) (x : List ℕ) → IsSlot (dir_in old p) s → dir_in new p ≡ with_entry (dir_in old p) s free_slot → SetsEntry old new p x None → KeepsPlaces old new
places_cleared old new p s x is at sets =
    places_by old new p sets.one (λ name slot stands.
    stood_before (dir_in old p) s x is (ap (λ (d : Directory). entry_of d.slots x) (sym at) ∙ sets.names.this)
    (λ other apart. ap (λ (d : Directory). entry_of d.slots other) (sym at) ∙ sets.names.others other apart) name slot (subst (λ (d : Directory). StandsAt d name slot) at stands))

-- ---- a block comes behind the others

module _ (d : Directory) (b : ℕ) (sized : IsSized d) where
  at_first : (blocks : List ℕ) (sector : ℕ) → (position_or_len (λ b. eqb b sector) (blocks ++ b ∷ []) ≡ position_or_len (λ b. eqb b sector) blocks) ⊎ (length blocks ≤ position_or_len (λ b. eqb b sector) (blocks ++ b ∷ []))
  at_first blocks sector = by (eqb (position_or_len (λ b. eqb b sector) blocks) (length blocks)) (position_or_len_push (λ b. eqb b sector) blocks b)
    where
      first : ℕ
      first = position_or_len (λ b. eqb b sector) blocks

      by : (v : Bool) → position_or_len (λ b. eqb b sector) (blocks ++ b ∷ []) ≡ cond v (length blocks + cond (eqb b sector) 0 1) (position_or_len (λ b. eqb b sector) blocks) → (position_or_len (λ b. eqb b sector) (blocks ++ b ∷ []) ≡ position_or_len (λ b. eqb b sector) blocks) ⊎ (length blocks ≤ position_or_len (λ b. eqb b sector) (blocks ++ b ∷ []))
      by true e = inr (omega (arith, e))
      by false e = inl e

  abbrev first_in : List ℕ → Slot → ℕ
  first_in blocks slot = position_or_len (λ b. eqb b (slot.sector / 8)) blocks

  beyond : (pos count m s place size : ℕ) → place ≡ 64 * pos + 8 * m + s → size ≡ 64 * count → count ≤ pos → place < size → ⊥
  beyond pos count m s place size at of past within = omega arith

  pub stood_with : (name : List ℕ) (slot : Slot) → StandsAt (grown b d) name slot → StandsAt d name slot
  stood_with name slot stands = by (cases_lt there (length d.slots)) (at_first d.blocks (slot.sector / 8))
    where
      there : ℕ
      there = place_of (grown b d).blocks slot

      read : entry_in (grown b d) slot ≡ entry_at d.slots (place_of (grown b d).blocks slot)
      read = entry_at-added d.slots (place_of (grown b d).blocks slot)

      stays : place_of (grown b d).blocks slot ≡ place_of d.blocks slot → place_of (grown b d).blocks slot < length d.slots → StandsAt d name slot
      stays at within =
          let read_here : entry_in (grown b d) slot ≡ entry_in d slot = read ∙ ap (entry_at d.slots) at in
          record {
            place = record {
              slot = record { in_sector = stands.place.slot.in_sector; in_blocks = subst (λ (p : ℕ). p < length d.slots) at within };
              used = ap is_named (sym read_here) ∙ stands.place.used;
              named = ap (λ (e : DentryForm). e.name) (sym read_here) ∙ stands.place.named;
            };
            entry = sym (entry_of-added d.slots name) ∙ stands.entry ∙ ap (λ (e : DentryForm). Some e) read_here;
          }

      by : (place_of (grown b d).blocks slot < length d.slots) ⊎ (length d.slots ≤ place_of (grown b d).blocks slot) → (first_in (d.blocks ++ b ∷ []) slot ≡ first_in d.blocks slot) ⊎ (length d.blocks ≤ first_in (d.blocks ++ b ∷ []) slot) → StandsAt d name slot
      by (inr past) at = absurd (true≢false (sym stands.place.used ∙ ap is_named (read ∙ get_or_past d.slots (place_of (grown b d).blocks slot) free_slot past)))
      by (inl within) (inr past) = absurd (beyond (first_in (d.blocks ++ b ∷ []) slot) (length d.blocks) (slot.sector % 8) slot.slot (place_of (grown b d).blocks slot) (length d.slots) refl sized past within)
      by (inl within) (inl at) = stays (ap (λ (k : ℕ). 64 * k + 8 * (slot.sector % 8) + slot.slot) at) within

pub places_grown : (old new : List Directory) (p b : ℕ) → IsSized (dir_in old p) → ChangesOne old new p → dir_in new p ≡ grown b (dir_in old p) → KeepsPlaces old new
places_grown old new p b sized one at = places_by old new p one (λ name slot stands. stood_with (dir_in old p) b sized name slot (subst (λ (d : Directory). StandsAt d name slot) at stands))
