-- Lists of names that spell a whole path.
use Rattle.std.proofs.Common.{◌≡◌, ℕ, List, [], ◌∷◌, ◌++◌, Option, None, ap, refl, ◌∙◌}
use Rattle.ufs_base.specs.Choices.{first_of}
use Rattle.ufs_model.specs.Paths.{components, components_refusal, text_refusal}
use Rattle.ufs_model.specs.declared.data.Errno.{Errno}
use Rattle.ufs_model.proofs.Facts.Pieces.{ArePlain, components_plain, plain_append, plain_front, plain_back}
use Rattle.ufs_model.proofs.Facts.Allowed.{first_none, names_allowed, allowed_append, allowed_back}

-- each may stand in a path, and has bytes
pub record AreNames (names : List (List ℕ)) : Type 0 where
  pub plain : ArePlain names
  pub allowed : components_refusal names ≡ None

-- those of a path whose text isn't refused
pub names_of : (path : List ℕ) → text_refusal path ≡ None → AreNames (components path)
names_of path e = record { plain = components_plain path; allowed = names_allowed path e }

allowed_front : (xs ys : List (List ℕ)) → components_refusal (xs ++ ys) ≡ None → components_refusal xs ≡ None
allowed_front [] ys h = refl
allowed_front (x ∷ xs) ys h =
    let both = first_none _ (components_refusal (xs ++ ys)) h in
    ap (λ (o : Option Errno). first_of o (components_refusal xs)) both.0 ∙ allowed_front xs ys both.1

pub names_front : (xs ys : List (List ℕ)) → AreNames (xs ++ ys) → AreNames xs
names_front xs ys is = record { plain = plain_front xs ys is.plain; allowed = allowed_front xs ys is.allowed }

pub names_back : (xs ys : List (List ℕ)) → AreNames (xs ++ ys) → AreNames ys
names_back xs ys is = record { plain = plain_back xs ys is.plain; allowed = allowed_back xs ys is.allowed }

pub names_append : (xs ys : List (List ℕ)) → AreNames xs → AreNames ys → AreNames (xs ++ ys)
names_append xs ys is is' = record { plain = plain_append xs ys is.plain is'.plain; allowed = allowed_append xs ys is.allowed is'.allowed }
