-- Files with the bytes that a tree has for them, all in memory.
use Rattle.std.proofs.Common.{◌≡◌, ◌<◌, ◌^◌, ℕ, List, [], ◌∷◌, Bool, true, false, Option, Some, length, replicate, ap, sym, refl, ◌∙◌, subst, arith}
use Rattle.std.specs.Prelude.{unwrap_or}
use Rattle.std.specs.FinMap as map
use Rattle.std.proofs.lemmas.List.{length-replicate}
use Rattle.ufs_file.specs.Content.{IsContentOf}
use Rattle.ufs_file.specs.Hand.{FileState, IsFileOf, whole_as}
use Rattle.ufs_model.specs.FileBytes.{bytes_of}
use Rattle.ufs_model.specs.PosixTree.{PosixTree}
use Rattle.ufs_file_commits.specs.Committing.{FitsInode}
use Rattle.ufs_file_commits.specs.State.{DurableState, file_cleaned, file_committed, whole_of}

-- ---- what a tree has for a file here

module _ (t : PosixTree) (file : ℕ) (f : FileState) (is : (f.file ≡ file) × IsFileOf f t) where
  pub tree_has : map.get t.bytes file ≡ Some (bytes_of t.bytes file)
  tree_has = has ∙ ap Some (sym (ap (λ (o : Option (List ℕ)). unwrap_or o []) has))
    where
      has : map.get t.bytes file ≡ Some is.1.bytes
      has = ap (map.get t.bytes) (sym is.0) ∙ is.1.has

  pub tree_may : IsContentOf f.content (bytes_of t.bytes file)
  tree_may = subst (IsContentOf f.content) (sym (ap (λ (o : Option (List ℕ)). unwrap_or o []) (ap (map.get t.bytes) (sym is.0) ∙ is.1.has))) is.1.may

-- of a file without a byte it has none
pub tree_has_none : (t : PosixTree) (file : ℕ) (f : FileState) → (f.file ≡ file) × IsFileOf f t → f.content.bytes ≡ [] → bytes_of t.bytes file ≡ []
tree_has_none t file f is empty = none (bytes_of t.bytes file) ((tree_may t file f is).long ∙ ap (λ (bytes : List ℕ). length bytes) empty)
  where
    none : (xs : List ℕ) → length xs ≡ 0 → xs ≡ []
    none [] e = refl
    none (x ∷ xs) e = absurd (omega (arith, e))

-- A tree that has the same bytes for the file may have the file.
pub file_stays : (f : FileState) (t u : PosixTree) → map.get u.bytes f.file ≡ map.get t.bytes f.file → IsFileOf f t → IsFileOf f u
file_stays f t u same is = record { bytes = is.bytes; has = same ∙ is.has; may = is.may }

pub cleaned_stays : (f : FileState) (t : PosixTree) → IsFileOf f t → IsFileOf (file_cleaned f) t
cleaned_stays f t is = record { bytes = is.bytes; has = is.has; may = record { long = is.may.long; same = is.may.same } }

-- ---- with these bytes

pub fits_whole : (bytes : List ℕ) (f : FileState) → IsContentOf f.content bytes → FitsInode f → FitsInode (whole_as bytes f)
fits_whole bytes f may fits =
    let room = fits.room in
    let size = fits.size in
    let long = may.long in
    record { few = fits.few; runs = fits.runs; room = omega (arith, room, long); size = subst (λ (n : ℕ). n < 2 ^ 64) (sym long) size }

-- a file that is committed
pub whole_committed : (bytes : List ℕ) (x : DurableState) → whole_of bytes (file_committed x) ≡ file_committed (whole_of bytes x)
whole_committed bytes x = λ i. record {
  file = record {
    file = x.file.file;
    inode = x.file.inode;
    extents = x.file.extents;
    content = record { bytes = bytes; dirty = replicate (length x.file.content.dirty) false; there = replicate (length-replicate {A = Bool} (length x.file.content.dirty) false i) true };
  };
  log = record (x.log) { committed = x.log.noted };
  dropped = [];
}
