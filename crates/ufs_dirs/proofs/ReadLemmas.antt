-- A block that is read, slot by slot.
use Rattle.std.proofs.Common.{◌≡◌, ℕ, ◌+◌, ◌-◌, ◌*◌, ◌<◌, List, [], ◌∷◌, ◌++◌, Bool, false, eqb, ltb, leb, ◌&&◌, ◌||◌, length, set, replicate, take, drop, flat_map, ap, sym, refl, ◌∙◌, arith, Result, Ok, Err, OnOk, is_err, IsTrue}
use Rattle.std.proofs.Math.Seq.{take-append_seam, take-add}
use Rattle.std.proofs.lemmas.Bool.{and_parts, eqb-true, ltb-false, true≢false}
use Rattle.std.proofs.lemmas.List.{get_or-set_same, get_or-set_other, set-get_or, get_or_past, take-set-le, drop-set-add, take_more_set, flat_map_more, length-drop, take_all}
use Rattle.std.proofs.lemmas.List.Elements.{All-get_or}
use Rattle.ufs_layout.specs.DentryForm.{DentryForm, dentry_bytes, free_slot, is_dentry, is_named}
use Rattle.ufs_dirs.specs.Directory.{Directory, IsDirectory, entry_at}
use Rattle.ufs_dirs.specs.Reading.{IsReadSoFar, ReadsSlot, slot_bytes}
use Rattle.ufs_dirs.specs.Changes.{bytes_of_block}
use Rattle.ufs_dirs.proofs.KeptLemmas.{entry_at-added}

no_name : (name : List ℕ) → ltb 0 (length name) ≡ false → name ≡ []
no_name [] e = refl
no_name (b ∷ bs) e = absurd (omega (arith, ltb-false 0 (length (b ∷ bs)) e))

-- on its form and with no name, it is the free slot
pub free_form : (e : DentryForm) → IsTrue (is_dentry e) → is_named e ≡ false → e ≡ free_slot
free_form e form free =
    let parts = and_parts (leb (length e.name) 58) (is_named e || eqb e.inode 0 && eqb e.kind 0) form in
    let zeros = and_parts (eqb e.inode 0) (eqb e.kind 0) (ap (λ (b : Bool). b || eqb e.inode 0 && eqb e.kind 0) (sym free) ∙ parts.1) in
    λ i. record { inode = eqb-true e.inode 0 zeros.0 i; kind = eqb-true e.kind 0 zeros.1 i; name = no_name e.name free i }

-- a free slot that is read changes nothing
pub reads_free : (d : Directory) → IsDirectory d → (place : ℕ) (e : DentryForm) (bytes : List ℕ) → place < length d.slots → is_named (entry_at d.slots place) ≡ false → IsTrue (is_dentry e) → is_named e ≡ false → bytes ≡ dentry_bytes e → ReadsSlot d d place bytes
reads_free d is place e bytes inside free form unnamed spelled =
    let here = free_form (entry_at d.slots place) (All-get_or (λ x. IsTrue (is_dentry x)) d.slots place free_slot inside is.forms) free in
    let there = free_form e form unnamed in
    record {
      spelling = ap dentry_bytes (here ∙ sym there) ∙ sym spelled;
      slots = ap (λ (s : List DentryForm). let x : Directory = record d { slots = s } in x) (sym (set-get_or d.slots place free_slot));
    }

pub reads_used : (d new : Directory) (place : ℕ) (e : DentryForm) (bytes : List ℕ) → place < length d.slots → new ≡ record d { slots = set d.slots place e } → bytes ≡ dentry_bytes e → ReadsSlot d new place bytes
reads_used d new place e bytes inside is spelled =
    let at : entry_at new.slots place ≡ e = ap (λ (x : Directory). entry_at x.slots place) is ∙ get_or-set_same d.slots place e free_slot inside in
    record {
      spelling = ap dentry_bytes at ∙ sym spelled;
      slots = is ∙ ap (λ (x : DentryForm). let y : Directory = record d { slots = set d.slots place x } in y) (sym at);
    }

-- nothing is read yet
pub none_read : (old d : Directory) (block : ℕ) (bytes : List ℕ) → IsDirectory d → d ≡ record { blocks = old.blocks ++ block ∷ []; slots = old.slots ++ replicate 64 free_slot } → IsReadSoFar old block bytes 0 d
none_read old d block bytes is added = record {
  directory = is;
  blocks = ap (λ (x : Directory). x.blocks) added;
  kept = ap (λ (x : Directory). take (length old.slots) x.slots) added ∙ take-append_seam old.slots (replicate 64 free_slot);
  spelling = refl;
  free = λ place h.
      ap (λ (x : Directory). is_named (entry_at x.slots place)) added ∙ ap is_named (entry_at-added old.slots place) ∙ ap is_named (get_or_past old.slots place free_slot (omega arith));
}

-- a slot more is read
pub more_read : (old d new : Directory) (block : ℕ) (bytes : List ℕ) (k place : ℕ) → IsReadSoFar old block bytes k d → IsDirectory new → place ≡ length old.slots + k → place < length d.slots → ReadsSlot d new place (slot_bytes bytes k) → IsReadSoFar old block bytes (k + 1) new
more_read old d new block bytes k place so_far is at inside reads =
    let n = length old.slots in
    let e = entry_at new.slots place in
    let row : List DentryForm = drop n d.slots in
    let changed : new.slots ≡ set d.slots (n + k) e = ap (λ (x : Directory). x.slots) reads.slots ∙ ap (λ (p : ℕ). set d.slots p e) at in
    let in_row : k < length row = omega (arith, length-drop n d.slots) in
    let front : take (k + 1) (drop n new.slots) ≡ take k row ++ e ∷ [] = ap (λ (s : List DentryForm). take (k + 1) (drop n s)) changed ∙ ap (take (k + 1)) (drop-set-add n d.slots k e) ∙ take_more_set row k e in_row in
    let size : 64 * k + 64 ≡ 64 * (k + 1) = omega arith in
    record {
      directory = is;
      blocks = ap (λ (x : Directory). x.blocks) reads.slots ∙ so_far.blocks;
      kept = ap (take n) changed ∙ take-set-le n d.slots (n + k) e (omega arith) ∙ so_far.kept;
      spelling =
          ap (flat_map dentry_bytes) front ∙ sym (flat_map_more dentry_bytes [] (take k row) e)
          ∙ ap (λ (b : List ℕ). b ++ dentry_bytes e) so_far.spelling ∙ ap (λ (b : List ℕ). take (64 * k) bytes ++ b) reads.spelling
          ∙ sym (take-add (64 * k) 64 bytes) ∙ ap (λ (m : ℕ). take m bytes) size;
      free = λ p h.
          ap (λ (s : List DentryForm). is_named (entry_at s p)) changed ∙ ap is_named (get_or-set_other d.slots (n + k) p e free_slot (λ same. omega arith)) ∙ so_far.free p (omega arith);
    }

-- what holds of a success
pub on_ok : {A E : Type 0} (r : Result A E) (P : Type 0) → is_err r ≡ false → OnOk r P → P
on_ok (Ok a) P e h = h
on_ok (Err x) P e h = absurd (true≢false e)

-- the piece of the bytes that a call was given
pub slot_piece : (bytes : List ℕ) (k : ℕ) → take (64 * k + 64 - 64 * k) (drop (64 * k) bytes) ≡ slot_bytes bytes k
slot_piece bytes k = let size : 64 * k + 64 - 64 * k ≡ 64 = omega arith in ap (λ (n : ℕ). take n (drop (64 * k) bytes)) size

-- the bytes of a block that is read whole
pub whole_read : (old d : Directory) (block : ℕ) (bytes : List ℕ) (k : ℕ) → IsDirectory old → length bytes ≡ 4096 → k ≡ 64 → IsReadSoFar old block bytes k d → bytes_of_block d.slots (length old.blocks) ≡ bytes
whole_read old d block bytes k is sized end so_far =
    ap (λ (n : ℕ). flat_map dentry_bytes (take 64 (drop n d.slots))) (sym is.sized)
    ∙ ap (λ (n : ℕ). flat_map dentry_bytes (take n (drop (length old.slots) d.slots))) (sym end)
    ∙ so_far.spelling ∙ take_all (64 * k) bytes (omega arith)
