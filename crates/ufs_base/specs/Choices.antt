-- Choices between what there may be: the first refusal, a value under a test.
use Rattle.std.specs.Prelude.{Bool, Option, Some, None, if◌then◌else◌}

-- the value where the test holds
abbrev pub some_if : {X : Type 0} → Bool → X → Option X
some_if test x = if test then Some x else None

-- a refusal where the test holds
abbrev pub refused_if : {X : Type 0} → Bool → X → Option X
refused_if test x = some_if test x

-- the left refusal, or else the right one
abbrev pub first_of : {X : Type 0} → Option X → Option X → Option X
first_of None next = next
first_of (Some x) next = Some x
