-- Lists of clients.
use Rattle.std.specs.Prelude.{ℕ, Bool, not, ◌==◌}

abbrev pub is_another : ℕ → ℕ → Bool
is_another client other = not (other == client)
