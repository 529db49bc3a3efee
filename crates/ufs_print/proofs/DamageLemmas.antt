-- The lines of a list of damage.
use Rattle.std.proofs.Common.{◌≡◌, ℕ, ◌<◌, List, [], ◌∷◌, ◌++◌, ap, sym, refl, ◌∙◌, length, arith, Result, Ok, Err, OnErr}
use Rattle.std.specs.Prelude.{flat_map, map}
use Rattle.ufs_damage.specs.Meaning.{meaning}
use Rattle.ufs_damage.specs.declared.damage.Damage.{Damage}
use Rattle.ufs_image.specs.Damage as image
use Rattle.ufs_print.specs.DamageLines.{damage_line, damage_lines}

abbrev pub own_line : Damage → List ℕ
own_line d = damage_line (meaning d)

abbrev pub told_lines : List Damage → List ℕ
told_lines ds = damage_lines (map meaning ds)

pub lines_own : (ds : List Damage) → flat_map own_line ds ≡ told_lines ds
lines_own [] = refl
lines_own (d ∷ ds) = ap (λ rest. own_line d ++ rest) (lines_own ds)

pub none_told : (ds : List Damage) (list : List image.Damage) → map meaning ds ≡ list → length ds ≡ 0 → list ≡ []
none_told [] list is none = sym is
none_told (d ∷ ds) list is none = absurd (omega (arith, none))

pub some_told : (ds : List Damage) (list : List image.Damage) → map meaning ds ≡ list → 0 < length ds → list ≡ [] → ⊥
some_told [] list is some none = absurd (omega (arith, some))
some_told (d ∷ ds) list is some none = let both : meaning d ∷ map meaning ds ≡ [] = is ∙ none in cc

-- what holds is said of an error
pub on_err : {T E P : Type 0} (r : Result T E) → P → OnErr r P
on_err (Ok v) p = tt
on_err (Err e) p = p
