-- Worked rows: bytes after changes, and what their places may show.
use Rattle.std.proofs.Common.{◌≡◌, ◌≤◌, ℕ, zero, suc, inl, inr, List, [], ◌∷◌, refl, arith}
use Rattle.std.specs.Prelude.{codes}
use Rattle.ufs_crash_laws.specs.FileChanges.{bytes_after, byte_at, MayShow, IsShown}
use Rattle.ufs_crash_laws.specs.Places.{may_show, IsOneOf}
use Rattle.ufs_crash_laws.specs.declared.data.FileChange.{FileChange}
use Rattle.ufs_crash_laws.specs.declared.data.FileChange.TheVariants as change
use Rattle.ufs_crash_laws.proofs.Facts.Options.{options, shown_options, options_shown}

-- ---- written, cut, and written past a gap

abbrev cut : List FileChange
cut = change.Written 0 (codes "aaaa") ∷ change.Resized 2 ∷ change.Written 4 (codes "bb") ∷ []

-- no change yet: the opening bytes
none_yet : bytes_after (codes "zz") cut 0 ≡ codes "zz"
none_yet = refl

-- each number has its own bytes, and later changes aren't among them
first : bytes_after [] cut 1 ≡ codes "aaaa"
first = refl

second : bytes_after [] cut 2 ≡ codes "aa"
second = refl

-- a gap reads as zeros
third : bytes_after [] cut 3 ≡ 97 ∷ 97 ∷ 0 ∷ 0 ∷ 98 ∷ 98 ∷ []
third = refl

-- an extension does so too
extended : bytes_after (codes "a") (change.Resized 3 ∷ []) 1 ≡ 97 ∷ 0 ∷ 0 ∷ []
extended = refl

-- past the end there is 0
past_the_end : byte_at (codes "aaaa") 4 ≡ 0
past_the_end = refl

-- a place that is kept has one byte
kept : may_show [] cut 1 0 ≡ 97 ∷ []
kept = refl

-- one that is cut off has 0 besides, and the gap's 0
cut_off : may_show [] cut 1 2 ≡ 97 ∷ 0 ∷ 0 ∷ []
cut_off = refl

-- and what went before doesn't count
later_alone : may_show [] cut 2 1 ≡ 97 ∷ []
later_alone = refl

-- ---- written anew

abbrev anew : List FileChange
anew = change.Written 0 (codes "aaaa") ∷ change.Written 0 (codes "bb") ∷ []

-- a later write's byte may show, and an earlier one's not
a_later_byte : MayShow [] anew 1 0 98
a_later_byte = record { upto = 2; later = omega arith; made = omega arith; is = refl }

no_earlier_byte : MayShow [] anew 2 0 97 → ⊥
no_earlier_byte may = by may.upto may.later may.made may.is
  where
    by : (upto : ℕ) → 2 ≤ upto → upto ≤ 2 → ◌≡◌ {A = ℕ} 97 (byte_at (bytes_after [] anew upto) 0) → ⊥
    by zero low high e = omega arith
    by (suc zero) low high e = omega arith
    by (suc (suc zero)) low high e = omega (arith, e)
    by (suc (suc (suc n))) low high e = omega arith

-- A later write may show at each of its places by itself,
anew_options : options [] anew 1 ≡ (97 ∷ 98 ∷ []) ∷ (97 ∷ 98 ∷ []) ∷ (97 ∷ []) ∷ (97 ∷ []) ∷ []
anew_options = refl

half_of_it : IsShown [] anew 1 (codes "baaa")
half_of_it = options_shown [] anew 1 (omega arith) (codes "baaa") (inr (inl refl), (inl refl, (inl refl, (inl refl, tt))))

-- but not elsewhere,
nowhere_else : IsShown [] anew 1 (codes "aaba") → ⊥
nowhere_else shown = elsewhere (shown_options [] anew 1 (codes "aaba") shown).1.1.0
  where
    elsewhere : IsOneOf (97 ∷ []) 98 → ⊥
    elsewhere (inl e) = omega (arith, e)
    elsewhere (inr h) = h

-- and with both changes the earlier bytes show no more.
no_earlier : IsShown [] anew 2 (codes "aaaa") → ⊥
no_earlier shown = at_first (shown_options [] anew 2 (codes "aaaa") shown).0
  where
    at_first : IsOneOf (98 ∷ []) 97 → ⊥
    at_first (inl e) = omega (arith, e)
    at_first (inr h) = h

-- ---- the size is that of the number

-- Behind two bytes that are synced two more are written. The number of changes gives the size: a crash leaves two bytes
-- or four, and no three.
abbrev longer : List FileChange
longer = change.Written 0 (codes "aa") ∷ change.Written 2 (codes "bb") ∷ []

two_bytes : IsShown [] longer 1 (codes "aa")
two_bytes = options_shown [] longer 1 (omega arith) (codes "aa") (inl refl, (inl refl, tt))

no_three : (count : ℕ) → IsShown [] longer count (codes "aab") → ⊥
no_three zero shown = omega (arith, shown.size)
no_three (suc zero) shown = omega (arith, shown.size)
no_three (suc (suc zero)) shown = omega (arith, shown.size)
no_three (suc (suc (suc n))) shown = omega (arith, shown.made)

-- a number above that of the changes shows nothing
no_more : (bytes : List ℕ) → IsShown [] longer 3 bytes → ⊥
no_more bytes shown = omega (arith, shown.made)
