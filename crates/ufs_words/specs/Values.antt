-- The value of an option of the command line, wherever it stands.
use Rattle.std.specs.Prelude.{ℕ, List, [], ◌∷◌, ◌++◌, ◌==◌, if◌then◌else◌, Option, Some, None, codes}
use Rattle.std.specs.Str.{bytes_eq}

-- what follows this front of a word
abbrev pub behind : List ℕ → List ℕ → Option (List ℕ)
behind [] word = Some word
behind (c ∷ front) [] = None
behind (c ∷ front) (b ∷ word) = if b == c then behind front word else None

-- the first of some words
abbrev pub first_word : List (List ℕ) → Option (List ℕ)
first_word [] = None
first_word (word ∷ words) = Some word

abbrev pub attached_or : Option (List ℕ) → Option (List ℕ) → Option (List ℕ)
attached_or (Some value) later = Some value
attached_or None later = later

-- The word behind the first one that is the option's name, or what stands behind the name and `=` in one word, where that
-- comes first.
abbrev pub option_value : List ℕ → List (List ℕ) → Option (List ℕ)
option_value name [] = None
option_value name (word ∷ words) =
    if bytes_eq word name then first_word words
    else attached_or (behind (name ++ codes "=") word) (option_value name words)

-- the path of the image's file
abbrev pub image_word : List (List ℕ) → Option (List ℕ)
image_word words = option_value (codes "--image") words

-- the path of the mirror's file
abbrev pub mirror_word : List (List ℕ) → Option (List ℕ)
mirror_word words = option_value (codes "--mirror") words
