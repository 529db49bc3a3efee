-- The names that were met.
use Rattle.std.specs.Prelude.{ℕ, List, Bool}
use Rattle.std.specs.List.{list_any}
use Rattle.std.specs.Str.{bytes_eq}
use denote.Ref.{Bor}

-- One of these names is this one.
abbrev pub is_among : List (Bor (List ℕ)) → List ℕ → Bool
is_among names name = list_any (λ (k : Bor (List ℕ)). bytes_eq k.now name) names
