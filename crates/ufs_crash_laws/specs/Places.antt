-- Change by change: the bytes that a place of a file may show.
use Rattle.std.specs.Prelude.{ℕ, ◌+◌, ◌-◌, ◌≡◌, ◌⊎◌, nat_lt, List, [], ◌∷◌, ◌++◌, length, drop, if◌then◌else◌}
use Rattle.ufs_crash_laws.specs.FileChanges.{changed, bytes_after, byte_at}
use Rattle.ufs_crash_laws.specs.declared.data.FileChange.{FileChange}
use Rattle.ufs_crash_laws.specs.declared.data.FileChange.TheVariants as change

-- 0 where the place lies past the end of a file that is so long
abbrev pub zero_past : ℕ → ℕ → List ℕ
zero_past size place = if nat_lt place size then [] else 0 ∷ []

-- What a change leaves at a place of a file that was so long, where it reaches it: the byte of a write, and 0 where it
-- cuts the place off, or covers it by a gap or an extension.
abbrev pub left_at : ℕ → FileChange → ℕ → List ℕ
left_at size (change.Written at bytes) place =
    if nat_lt place at then zero_past size place
    else (if nat_lt place (at + length bytes) then byte_at bytes (place - at) ∷ [] else [])
left_at size (change.Resized to) place =
    if nat_lt place to then zero_past size place
    else (if nat_lt place size then 0 ∷ [] else [])

-- what some changes leave there, one after the other
abbrev pub left_by : List ℕ → List FileChange → ℕ → List ℕ
left_by bytes [] place = []
left_by bytes (c ∷ changes) place = left_at (length bytes) c place ++ left_by (changed bytes c) changes place

-- the byte after so many changes, and what each later change leaves
abbrev pub may_show : List ℕ → List FileChange → ℕ → ℕ → List ℕ
may_show opening changes count place =
    byte_at (bytes_after opening changes count) place ∷ left_by (bytes_after opening changes count) (drop count changes) place

-- the byte is one of these
abbrev pub IsOneOf : List ℕ → ℕ → Type 0
IsOneOf [] byte = ⊥
IsOneOf (b ∷ bytes) byte = (byte ≡ b) ⊎ IsOneOf bytes byte
