-- What a place may show, change by change, is a byte that it had since.
use Rattle.std.proofs.Common.{◌≡◌, ◌≤◌, ◌<◌, ℕ, zero, suc, ◌+◌, ◌-◌, ◌⊎◌, inl, inr, Bool, true, false, cond, ltb, List, [], ◌∷◌, ◌++◌, length, take, drop, get_or, replicate, ap, sym, refl, ◌∙◌, subst, arith, length-append, append_assoc}
use Rattle.std.proofs.lemmas.Bool.{ltb-true, ltb-false, cases_lt}
use Rattle.std.proofs.lemmas.List.{get_or_append_left, get_or-append_right, get_or-replicate, get_or-take, get_or-drop, get_or_past, length-replicate, length-take-le, length-drop}
use Rattle.std.proofs.Math.Seq.{take-add}
use Rattle.ufs_model.specs.FileBytes.{put_at, resized}
use Rattle.ufs_crash_laws.specs.FileChanges.{changed, all_changed, bytes_after, byte_at, MayShow}
use Rattle.ufs_crash_laws.specs.Places.{zero_past, left_at, left_by, may_show, IsOneOf}
use Rattle.ufs_crash_laws.specs.Explained.{ShowsSynced}
use Rattle.ufs_crash_laws.proofs.Facts.Shows.{all_changed-append, may_show_earlier}
use Rattle.ufs_crash_laws.specs.declared.data.FileChange.{FileChange}
use Rattle.ufs_crash_laws.specs.declared.data.FileChange.TheVariants as change

-- ---- bytes after a change

-- zeros behind bytes change no byte
pub byte_padded : (old : List ℕ) (n place : ℕ) → byte_at (old ++ replicate {A = ℕ} n 0) place ≡ byte_at old place
byte_padded old n place = by (cases_lt place (length old))
  where
    zeros : (at : ℕ) → (at < n) ⊎ (n ≤ at) → get_or {A = ℕ} (replicate n 0) at 0 ≡ 0
    zeros at (inl h) = get_or-replicate n at 0 0 h
    zeros at (inr h) = get_or_past (replicate n 0) at 0 (let e = length-replicate {A = ℕ} n 0 in omega (arith, e, h))

    by : (place < length old) ⊎ (length old ≤ place) → byte_at (old ++ replicate {A = ℕ} n 0) place ≡ byte_at old place
    by (inl h) = get_or_append_left old (replicate n 0) 0 place h
    by (inr h) = get_or-append_right old (replicate n 0) (length old) place 0 refl h ∙ zeros (place - length old) (cases_lt (place - length old) n) ∙ sym (get_or_past old place 0 h)

module _ (old : List ℕ) (at : ℕ) (bytes : List ℕ) where
  front_long : length (take at (old ++ replicate (at - length old) 0)) ≡ at
  front_long = length-take-le at (old ++ replicate (at - length old) 0) (let e = length-append old (replicate (at - length old) 0) in let f = length-replicate {A = ℕ} (at - length old) 0 in omega (arith, e, f))

  put_split : put_at old at bytes ≡ take at (old ++ replicate (at - length old) 0) ++ (bytes ++ drop (at + length bytes) old)
  put_split = append_assoc (take at (old ++ replicate (at - length old) 0)) bytes (drop (at + length bytes) old)

  pub put_before : (place : ℕ) → place < at → byte_at (put_at old at bytes) place ≡ byte_at old place
  put_before place h =
      ap (λ l. get_or l place 0) put_split ∙ get_or_append_left (take at (old ++ replicate (at - length old) 0)) (bytes ++ drop (at + length bytes) old) 0 place (omega (arith, front_long, h))
      ∙ get_or-take at (old ++ replicate (at - length old) 0) place 0 h ∙ byte_padded old (at - length old) place

  pub put_in : (place : ℕ) → at ≤ place → place < at + length bytes → byte_at (put_at old at bytes) place ≡ byte_at bytes (place - at)
  put_in place h below =
      ap (λ l. get_or l place 0) put_split ∙ get_or-append_right (take at (old ++ replicate (at - length old) 0)) (bytes ++ drop (at + length bytes) old) at place 0 front_long h
      ∙ get_or_append_left bytes (drop (at + length bytes) old) 0 (place - at) (omega (arith, h, below))

  pub put_after : (place : ℕ) → at + length bytes ≤ place → byte_at (put_at old at bytes) place ≡ byte_at old place
  put_after place h =
      ap (λ l. get_or l place 0) put_split ∙ get_or-append_right (take at (old ++ replicate (at - length old) 0)) (bytes ++ drop (at + length bytes) old) at place 0 front_long (omega (arith, h))
      ∙ get_or-append_right bytes (drop (at + length bytes) old) (length bytes) (place - at) 0 refl (omega (arith, h))
      ∙ get_or-drop (at + length bytes) old (place - at - length bytes) 0
      ∙ ap (λ n. get_or old n 0) (omega (arith, h))

pub resized_in : (old : List ℕ) (size place : ℕ) → place < size → byte_at (resized old size) place ≡ byte_at old place
resized_in old size place h = get_or-take size (old ++ replicate (size - length old) 0) place 0 h ∙ byte_padded old (size - length old) place

pub resized_size : (old : List ℕ) (size : ℕ) → length (resized old size) ≡ size
resized_size old size = length-take-le size (old ++ replicate (size - length old) 0) (let e = length-append old (replicate (size - length old) 0) in let f = length-replicate {A = ℕ} (size - length old) 0 in omega (arith, e, f))

pub resized_out : (old : List ℕ) (size place : ℕ) → size ≤ place → byte_at (resized old size) place ≡ 0
resized_out old size place h = get_or_past (resized old size) place 0 (omega (arith, resized_size old size, h))

-- ---- what a change leaves at a place

-- the last of some bytes
abbrev last_of : ℕ → List ℕ → ℕ
last_of byte [] = byte
last_of byte (b ∷ bytes) = last_of b bytes

past_zero : (old : List ℕ) (place : ℕ) → last_of (byte_at old place) (zero_past (length old) place) ≡ byte_at old place
past_zero old place = by (ltb place (length old)) refl
  where
    by : (t : Bool) → ltb place (length old) ≡ t → last_of (byte_at old place) (cond t [] (0 ∷ [])) ≡ byte_at old place
    by true e = refl
    by false e = sym (get_or_past old place 0 (ltb-false place (length old) e))

pub left_is : (old : List ℕ) (c : FileChange) (place : ℕ) → byte_at (changed old c) place ≡ last_of (byte_at old place) (left_at (length old) c place)
left_is old (change.Written at bytes) place = by (ltb place at) refl (ltb place (at + length bytes)) refl
  where
    by : (a : Bool) → ltb place at ≡ a → (b : Bool) → ltb place (at + length bytes) ≡ b
        → byte_at (put_at old at bytes) place ≡ last_of (byte_at old place) (cond a (zero_past (length old) place) (cond b (byte_at bytes (place - at) ∷ []) []))
    by true e b f = put_before old at bytes place (ltb-true place at e) ∙ sym (past_zero old place)
    by false e true f = put_in old at bytes place (ltb-false place at e) (ltb-true place (at + length bytes) f)
    by false e false f = put_after old at bytes place (ltb-false place (at + length bytes) f)
left_is old (change.Resized size) place = by (ltb place size) refl (ltb place (length old)) refl
  where
    by : (a : Bool) → ltb place size ≡ a → (b : Bool) → ltb place (length old) ≡ b
        → byte_at (resized old size) place ≡ last_of (byte_at old place) (cond a (zero_past (length old) place) (cond b (0 ∷ []) []))
    by true e b f = resized_in old size place (ltb-true place size e) ∙ sym (past_zero old place)
    by false e true f = resized_out old size place (ltb-false place size e)
    by false e false f = resized_out old size place (ltb-false place size e) ∙ sym (get_or_past old place 0 (ltb-false place (length old) f))

-- it leaves one byte at most
left_one : (size : ℕ) (c : FileChange) (place : ℕ) → length (left_at size c place) ≤ 1
left_one size (change.Written at bytes) place = by (ltb place at) (ltb place size) (ltb place (at + length bytes))
  where
    by : (a b d : Bool) → length {A = ℕ} (cond a (cond b [] (0 ∷ [])) (cond d (byte_at bytes (place - at) ∷ []) [])) ≤ 1
    by true true d = omega arith
    by true false d = omega arith
    by false b true = omega arith
    by false b false = omega arith
left_one size (change.Resized to) place = by (ltb place to) (ltb place size)
  where
    by : (a b : Bool) → length {A = ℕ} (cond a (cond b [] (0 ∷ [])) (cond b (0 ∷ []) [])) ≤ 1
    by true true = omega arith
    by true false = omega arith
    by false true = omega arith
    by false false = omega arith

-- ---- one of these, and a byte that it had

one_left : (xs ys : List ℕ) (byte : ℕ) → IsOneOf xs byte → IsOneOf (xs ++ ys) byte
one_left [] ys byte h = absurd h
one_left (x ∷ xs) ys byte (inl e) = inl e
one_left (x ∷ xs) ys byte (inr h) = inr (one_left xs ys byte h)

one_right : (xs ys : List ℕ) (byte : ℕ) → IsOneOf ys byte → IsOneOf (xs ++ ys) byte
one_right [] ys byte h = h
one_right (x ∷ xs) ys byte h = inr (one_right xs ys byte h)

one_of : (xs ys : List ℕ) (byte : ℕ) → IsOneOf (xs ++ ys) byte → IsOneOf xs byte ⊎ IsOneOf ys byte
one_of [] ys byte h = inr h
one_of (x ∷ xs) ys byte (inl e) = inl (inl e)
one_of (x ∷ xs) ys byte (inr h) = by (one_of xs ys byte h)
  where
    by : IsOneOf xs byte ⊎ IsOneOf ys byte → IsOneOf (x ∷ xs) byte ⊎ IsOneOf ys byte
    by (inl h) = inl (inr h)
    by (inr h) = inr h

-- the byte was there before, or the change left it
step_to : (b : ℕ) (xs ys : List ℕ) (byte : ℕ) → byte ≡ last_of b xs → IsOneOf (b ∷ (xs ++ ys)) byte
step_to b [] ys byte e = inl e
step_to b (x ∷ xs) ys byte e = inr (step_to x xs ys byte e)

-- the only byte that is left is the last
only : (b : ℕ) (xs : List ℕ) (byte : ℕ) → length xs ≤ 1 → IsOneOf xs byte → byte ≡ last_of b xs
only b [] byte short h = absurd h
only b (x ∷ []) byte short (inl e) = e
only b (x ∷ []) byte short (inr h) = absurd h
only b (x ∷ y ∷ xs) byte short h = absurd (omega arith)

-- The byte was there after some of the changes.
abbrev WasThere : List ℕ → List FileChange → ℕ → ℕ → Type 0
WasThere old changes place byte = (n : ℕ) × (n ≤ length changes) × (byte ≡ byte_at (all_changed old (take n changes)) place)

was_one : (old : List ℕ) (changes : List FileChange) (place byte n : ℕ) → n ≤ length changes → byte ≡ byte_at (all_changed old (take n changes)) place → IsOneOf (byte_at old place ∷ left_by old changes place) byte
was_one old changes place byte zero le e = inl e
was_one old [] place byte (suc n) le e = inl e
was_one old (c ∷ changes) place byte (suc n) le e = by (was_one (changed old c) changes place byte n (omega arith) e)
  where
    by : IsOneOf (byte_at (changed old c) place ∷ left_by (changed old c) changes place) byte → IsOneOf (byte_at old place ∷ (left_at (length old) c place ++ left_by (changed old c) changes place)) byte
    by (inl h) = step_to (byte_at old place) (left_at (length old) c place) (left_by (changed old c) changes place) byte (h ∙ left_is old c place)
    by (inr h) = inr (one_right (left_at (length old) c place) (left_by (changed old c) changes place) byte h)

one_was : (old : List ℕ) (changes : List FileChange) (place byte : ℕ) → IsOneOf (byte_at old place ∷ left_by old changes place) byte → WasThere old changes place byte
one_was old [] place byte (inl e) = (0, omega arith, e)
one_was old [] place byte (inr h) = absurd h
one_was old (c ∷ changes) place byte h = by (one_was (changed old c) changes place byte) h
  where
    on : WasThere (changed old c) changes place byte → WasThere old (c ∷ changes) place byte
    on was = (suc was.0, omega (arith, was.1), was.2)

    later : (IsOneOf (byte_at (changed old c) place ∷ left_by (changed old c) changes place) byte → WasThere (changed old c) changes place byte)
        → IsOneOf (left_at (length old) c place) byte ⊎ IsOneOf (left_by (changed old c) changes place) byte → WasThere old (c ∷ changes) place byte
    later rest (inl h) = on (rest (inl (only (byte_at old place) (left_at (length old) c place) byte (left_one (length old) c place) h ∙ sym (left_is old c place))))
    later rest (inr h) = on (rest (inr h))

    by : (IsOneOf (byte_at (changed old c) place ∷ left_by (changed old c) changes place) byte → WasThere (changed old c) changes place byte)
        → IsOneOf (byte_at old place ∷ (left_at (length old) c place ++ left_by (changed old c) changes place)) byte → WasThere old (c ∷ changes) place byte
    by rest (inl e) = (0, omega arith, e)
    by rest (inr h) = later rest (one_of (left_at (length old) c place) (left_by (changed old c) changes place) byte h)

-- ---- both ways

bytes_on : (opening : List ℕ) (changes : List FileChange) (count n : ℕ) → bytes_after opening changes (count + n) ≡ all_changed (bytes_after opening changes count) (take n (drop count changes))
bytes_on opening changes count n = ap (all_changed opening) (take-add count n changes) ∙ all_changed-append opening (take count changes) (take n (drop count changes))

pub may_show_listed : (opening : List ℕ) (changes : List FileChange) (count place byte : ℕ) → MayShow opening changes count place byte → IsOneOf (may_show opening changes count place) byte
may_show_listed opening changes count place byte may =
    was_one (bytes_after opening changes count) (drop count changes) place byte (may.upto - count)
    (omega (arith, length-drop count changes, may.made))
    (may.is ∙ ap (λ n. byte_at (bytes_after opening changes n) place) (let e : may.upto ≡ count + (may.upto - count) = omega (arith, may.later) in e) ∙ ap (λ bytes. byte_at bytes place) (bytes_on opening changes count (may.upto - count)))

pub listed_may_show : (opening : List ℕ) (changes : List FileChange) (count place byte : ℕ) → count ≤ length changes → IsOneOf (may_show opening changes count place) byte → MayShow opening changes count place byte
listed_may_show opening changes count place byte made h =
    let was = one_was (bytes_after opening changes count) (drop count changes) place byte h in
    record {
      upto = count + was.0;
      later = omega arith;
      made = omega (arith, length-drop count changes, was.1, made);
      is = was.2 ∙ sym (ap (λ bytes. byte_at bytes place) (bytes_on opening changes count was.0));
    }

-- ---- what no later change reaches

-- Where no change after the synced ones reaches a place, it shows the synced byte.
pub untouched_stands : (opening : List ℕ) (changes : List FileChange) (synced : ℕ) (bytes : List ℕ) (place : ℕ) → left_by (bytes_after opening changes synced) (drop synced changes) place ≡ [] → place < length bytes
    → ShowsSynced opening changes synced bytes → byte_at bytes place ≡ byte_at (bytes_after opening changes synced) place
untouched_stands opening changes synced bytes place none below shows =
    by (subst (λ later. IsOneOf (byte_at (bytes_after opening changes synced) place ∷ later) (byte_at bytes place)) none
    (may_show_listed opening changes synced place (byte_at bytes place) (may_show_earlier opening changes synced shows.count place (byte_at bytes place) shows.covers (shows.shown.each place below))))
  where
    by : (byte_at bytes place ≡ byte_at (bytes_after opening changes synced) place) ⊎ ⊥ → byte_at bytes place ≡ byte_at (bytes_after opening changes synced) place
    by (inl e) = e
    by (inr h) = absurd h

-- A file is never shown shorter than it was at its shortest since the synced changes.
pub size_stands : (opening : List ℕ) (changes : List FileChange) (synced least : ℕ) (bytes : List ℕ) → ShowsSynced opening changes synced bytes
    → ((count : ℕ) → synced ≤ count → count ≤ length changes → least ≤ length (bytes_after opening changes count)) → least ≤ length bytes
size_stands opening changes synced least bytes shows each = omega (arith, shows.shown.size, each shows.count shows.covers shows.shown.made)
