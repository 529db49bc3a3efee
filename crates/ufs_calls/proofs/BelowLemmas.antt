-- Whether a path lies below a directory, by its bytes.
use Rattle.std.proofs.Common.{◌≡◌, ℕ, ◌≤◌, ◌<◌, List, [], ◌∷◌, true, false, ◌&&◌, eqb, length, take, get_or, ap, sym, refl, ◌∙◌, arith}
use Rattle.std.specs.Str.{bytes_eq}
use Rattle.ufs_model.specs.Directories.{is_below}
use Rattle.ufs_model.proofs.Facts.Rising.{none_first}

pub below_short : (dir path : List ℕ) → length path ≤ length dir → false ≡ is_below dir path
below_short [] [] h = refl
below_short [] (p ∷ path) h = absurd (omega arith)
below_short (d ∷ dir) [] h = refl
below_short (d ∷ dir) (p ∷ path) h = sym (none_first (eqb p d)) ∙ ap (λ b. eqb p d && b) (below_short dir path (omega arith))

pub below_other : (dir path : List ℕ) → length dir < length path → eqb (get_or path (length dir) 0) 47 ≡ false → false ≡ is_below dir path
below_other [] [] h e = absurd (omega arith)
below_other [] (p ∷ path) h e = sym (ap (λ b. b && bytes_eq [] []) e)
below_other (d ∷ dir) [] h e = refl
below_other (d ∷ dir) (p ∷ path) h e = sym (none_first (eqb p d)) ∙ ap (λ b. eqb p d && b) (below_other dir path (omega arith) e)

pub below_slash : (dir path : List ℕ) → length dir < length path → eqb (get_or path (length dir) 0) 47 ≡ true → bytes_eq (take (length dir) path) dir ≡ is_below dir path
below_slash [] [] h e = absurd (omega arith)
below_slash [] (p ∷ path) h e = sym (ap (λ b. b && bytes_eq [] []) e)
below_slash (d ∷ dir) [] h e = absurd (omega arith)
below_slash (d ∷ dir) (p ∷ path) h e = ap (λ b. eqb p d && b) (below_slash dir path (omega arith) e)
