-- Rings that threads share, by their count.
use Rattle.std.proofs.Common.{◌≡◌, ℕ, List, length, map, replicate, sym, ap, ◌∙◌}
use Rattle.std.proofs.lemmas.List.{length-map, length-replicate}

pub count_of_rooms : {S : Type 0} (room_of : S → ℕ) (rings : List S) (n room : ℕ) → map room_of rings ≡ replicate n room → length rings ≡ n
count_of_rooms room_of rings n room e = sym (length-map rings room_of) ∙ ap length e ∙ length-replicate n room
