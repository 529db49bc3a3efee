-- A padded list is given back by its front.
use Rattle.std.specs.Prelude.{ℕ, ◌≡◌, ◌-◌, List, ◌++◌, take, replicate}
use Rattle.std.proofs.Common.{arith, ◌∙◌, sym, ap}
use Rattle.std.proofs.lemmas.List.{length-take-le, take-append-drop}
use Rattle.ufs_layout.specs.Words.{padded, IsPadded, count_of}

-- as many as are counted
pub count_of-take : {X : Type 0} (filler : X) (size count : ℕ) (xs : List X) → IsPadded filler size count xs → count_of (take count xs) ≡ count
count_of-take filler size count xs is = length-take-le count xs (omega (arith, is.counted, is.sized))

pub padded-take : {X : Type 0} (filler : X) (size count : ℕ) (xs : List X) → IsPadded filler size count xs → padded filler size (take count xs) ≡ xs
padded-take filler size count xs is =
    ap (λ (n : ℕ). take count xs ++ replicate (size - n) filler) (count_of-take filler size count xs is)
    ∙ ap (λ (r : List _). take count xs ++ r) (sym is.rest)
    ∙ take-append-drop count xs
