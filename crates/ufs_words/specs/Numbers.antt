-- The numbers of the command line.
use Rattle.std.specs.Prelude.{ℕ, ◌+◌, ◌-◌, ◌*◌, List, Bool, ◌&&◌, nat_le, length, fold, if◌then◌else◌, Option, Some, None}
use Rattle.std.specs.List.{list_all}

abbrev pub is_digit : ℕ → Bool
is_digit b = nat_le 48 b && nat_le b 57

abbrev pub value_of : List ℕ → ℕ
value_of digits = fold (λ n b. n * 10 + (b - 48)) 0 digits

-- one to ten decimal digits, leading zeros allowed
abbrev pub is_number : List ℕ → Bool
is_number word = nat_le 1 (length word) && (nat_le (length word) 10 && list_all is_digit word)

-- a number that is at most so much
abbrev pub number_up_to : ℕ → List ℕ → Option ℕ
number_up_to most word = if is_number word && nat_le (value_of word) most then Some (value_of word) else None
