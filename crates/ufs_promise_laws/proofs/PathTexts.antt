-- Both texts of a whole path are one.
use Rattle.std.proofs.Common.{◌≡◌, ℕ, List, [], ◌∷◌, ◌++◌, ◌&&◌, ap, sym, refl, ◌∙◌}
use Rattle.std.proofs.lemmas.Bool.{and_parts}
use Rattle.std.proofs.lemmas.List.{append-nil}
use Rattle.ufs_image.specs.Walks.{joined, path_text, ArePieces}
use Rattle.ufs_model.specs.Paths.{whole_path}
use Rattle.ufs_model.proofs.Facts.Pieces.{ArePlain, is_free, is_some_name}

whole_joined : (name : List ℕ) (names : List (List ℕ)) → whole_path (name ∷ names) ≡ joined (name ∷ names)
whole_joined name [] = sym (append-nil (47 ∷ name))
whole_joined name (next ∷ names) = ap (λ rest. (47 ∷ name) ++ rest) (whole_joined next names)

pub whole_text : (names : List (List ℕ)) → whole_path names ≡ path_text names
whole_text [] = refl
whole_text (name ∷ names) = whole_joined name names

pub plain_pieces : (names : List (List ℕ)) → ArePlain names → ArePieces names
plain_pieces [] all = tt
plain_pieces (name ∷ names) all = (ap (λ b. b && is_free name) all.0.some ∙ all.0.free, plain_pieces names all.1)

pub pieces_plain : (names : List (List ℕ)) → ArePieces names → ArePlain names
pieces_plain [] all = tt
pieces_plain (name ∷ names) all =
    let parts = and_parts (is_some_name name) (is_free name) all.0 in
    (record { some = parts.0; free = parts.1 }, pieces_plain names all.1)
