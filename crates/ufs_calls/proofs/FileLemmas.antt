-- A file's bytes are moved out of a map and, changed or not, back.
use Rattle.std.proofs.Common.{◌≡◌, ap, sym, ◌∙◌, Some, None, List, [], ℕ}
use Rattle.std.specs.Prelude.{unwrap_or}
use Rattle.std.specs.Cmp.{nat_cmp_total}
use Rattle.std.specs.FinMap as map
use Rattle.std.specs.FinMap.{nat_cmp-IsAntisymmetric}
use Rattle.ufs_model.specs.PosixTree.{Files}
use Rattle.ufs_model.specs.FileBytes.{bytes_of}
use Rattle.ufs_model.proofs.Facts.Lookups.{inserted_here}
use Rattle.ufs_calls.proofs.Facts.Inserts.{insert_again, insert_same}

-- what is there isn't absent
pub still_there : (bytes taken : Files) (file : ℕ) → taken ≡ map.insert bytes file [] → map.get taken file ≡ None → ⊥
still_there bytes taken file is absent =
    let no : Some [] ≡ None = sym (ap (λ (m : Files). map.get m file) is ∙ inserted_here nat_cmp_total nat_cmp-IsAntisymmetric bytes file []) ∙ absent in
    cc

module _ (bytes taken new : Files) (file : ℕ) (held put : List ℕ) (had : Some held ≡ map.get bytes file) (moved : taken ≡ map.insert bytes file []) (is : new ≡ map.insert taken file put) where
  -- what the file has, once its bytes are back
  back : new ≡ map.insert bytes file put
  back = is ∙ ap (λ (m : Files). map.insert m file put) moved ∙ insert_again nat_cmp_total nat_cmp-IsAntisymmetric bytes file [] put

  pub changed : (f : List ℕ → List ℕ) → put ≡ f held → new ≡ map.insert bytes file (f (bytes_of bytes file))
  changed f e = back ∙ ap (map.insert bytes file) (e ∙ ap f (ap (λ o. unwrap_or o []) had))

  pub unchanged : put ≡ held → new ≡ bytes
  unchanged e = back ∙ ap (map.insert bytes file) e ∙ insert_same nat_cmp_total nat_cmp-IsAntisymmetric bytes file held (sym had)
