-- Which lines a text has.
use Rattle.std.specs.Prelude.{ℕ, ◌-◌, List, [], ◌∷◌, ◌++◌, ◌==◌, length, take, slice_index, if◌then◌else◌}
use Rattle.std.specs.List.{slice_split}

-- without the byte 0x0d that stands last, where one does
abbrev pub without_return : List ℕ → List ℕ
without_return line = if slice_index line (length line - 1) == 13 then take (length line - 1) line else line

-- of the pieces between the bytes 0x0a, all but the last are lines with a line end
abbrev pub all_ended : List (List ℕ) → List (List ℕ)
all_ended [] = []
all_ended (last ∷ []) = []
all_ended (line ∷ next ∷ pieces) = without_return line ∷ all_ended (next ∷ pieces)

-- the last piece is a line where it isn't empty, and keeps all its bytes
abbrev pub all_unended : List (List ℕ) → List (List ℕ)
all_unended [] = []
all_unended ([] ∷ []) = []
all_unended ((b ∷ line) ∷ []) = (b ∷ line) ∷ []
all_unended (line ∷ next ∷ pieces) = all_unended (next ∷ pieces)

-- the lines that have a line end
abbrev pub ended_lines : List ℕ → List (List ℕ)
ended_lines text = all_ended (slice_split (λ b. b == 10) text)

-- the line that has none, if there is one
abbrev pub unended_line : List ℕ → List (List ℕ)
unended_line text = all_unended (slice_split (λ b. b == 10) text)

-- all lines
abbrev pub lines_in : List ℕ → List (List ℕ)
lines_in text = ended_lines text ++ unended_line text
