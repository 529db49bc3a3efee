-- Words of why a sector is off, as they are tested.
use Rattle.std.specs.Prelude.{ℕ, List, [], ◌∷◌, Bool, false, ◌==◌, ◌||◌, Option, Some, None, option_map, nat_lt}
use Rattle.std.specs.List.{find}
use Rattle.ufs_image.specs.Journal.{FoundSector}
use Rattle.ufs_image.specs.BadSectors.{is_off, is_repeated, lacks_records, is_behind_commit, is_old, shares_number, leaves_range}
use Rattle.ufs_layout.specs.declared.geometry.Geometry.{Geometry}

abbrev pub has_number : ℕ → Option ℕ → Bool
has_number number None = false
has_number number (Some other) = other == number

-- the first that is off for what the journal alone tells
abbrev pub first_off : Geometry → ℕ → List FoundSector → Option ℕ
first_off g next all = option_map (λ (f : FoundSector). f.0) (find (is_off g next all) all)

-- the same, where the sectors that each test looks at are given by themselves
abbrev pub is_off_in : Geometry → ℕ → List FoundSector → List FoundSector → List FoundSector → FoundSector → Bool
is_off_in g next places commits numbers f =
    is_repeated places f || lacks_records places f || is_behind_commit commits f || is_old next f || shares_number numbers f || leaves_range g f

abbrev pub first_in : Geometry → ℕ → List FoundSector → List FoundSector → List FoundSector → List FoundSector → Option ℕ
first_in g next places commits numbers all = option_map (λ (f : FoundSector). f.0) (find (is_off_in g next places commits numbers) all)

-- the lower of two, where there are any
abbrev pub lower : Option ℕ → Option ℕ → Option ℕ
lower None other = other
lower (Some s) None = Some s
lower (Some s) (Some t) = Some (Rattle.std.specs.Prelude.min s t)

abbrev pub lowest_of : List ℕ → Option ℕ
lowest_of [] = None
lowest_of (s ∷ ss) = lower (Some s) (lowest_of ss)
