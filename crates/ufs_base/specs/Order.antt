-- Texts by their bytes.
use Rattle.std.specs.Prelude.{ℕ, List, Bool, map}
use Rattle.std.specs.FinMap.{is_sorted}
use Rattle.std.specs.declared.cmp.Ordering.{Ordering}
use Rattle.std.specs.Ordering.{nat_cmp}
use Rattle.std.specs.Cmp.Lexicographic.{slice_cmp}

-- the first byte in which they differ decides, and a front comes before what it begins
abbrev pub bytes_cmp : List ℕ → List ℕ → Ordering
bytes_cmp = slice_cmp nat_cmp

-- each name is below those after it
abbrev pub names_rise : List (List ℕ) → Bool
names_rise names = is_sorted bytes_cmp (map {B = List ℕ × Unit {0}} (λ name. (name, tt)) names)
