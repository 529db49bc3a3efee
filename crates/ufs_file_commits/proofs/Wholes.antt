-- A file of which not all is in memory, beside the one that it is with its bytes.
use Rattle.std.proofs.Common.{◌≡◌, ◌∙◌, ℕ, List, [], ◌∷◌, Bool, true, false, cond, Option, Some, None, length, unwrap_or, ap, arith, refl, sym}
use Rattle.std.specs.Prelude.{flat_map}
use Rattle.std.specs.List.{range_with_len, slice_get}
use Rattle.std.proofs.lemmas.List.{length-replicate}
use Rattle.std.proofs.lemmas.Option.{slice_get_within}
use Rattle.ufs_extent.specs.Runs.{blocks_of}
use Rattle.ufs_file.specs.Content.{IsContentOf}
use Rattle.ufs_file.specs.Hand.{FileState, whole_as}
use Rattle.ufs_file.proofs.ThereLemmas.{all_there}
use Rattle.ufs_file_commits.specs.Whole.{NotedAsWhole, WritesAreWhole}
use Rattle.ufs_file_commits.specs.Writes.{BlockWrite, write_at, write_of}

abbrev one_write : ℕ → List ℕ → List BlockWrite
one_write block bytes = record { block = block; bytes = bytes } ∷ []

module _ (f : FileState) (bytes : List ℕ) (written : (place : ℕ) → slice_get f.content.dirty place ≡ Some true → slice_get f.content.there place ≡ Some true) (may : IsContentOf f.content bytes) where
  same_write : (place : ℕ) → write_at (whole_as bytes f) place ≡ write_at f place
  same_write place = by (slice_get f.content.dirty place) refl
    where
      by : (o : Option Bool) → slice_get f.content.dirty place ≡ o → cond (unwrap_or o false) (write_of (whole_as bytes f) place ∷ []) [] ≡ cond (unwrap_or o false) (write_of f place ∷ []) []
      by None e = refl
      by (Some false) e = refl
      by (Some true) e = ap (λ (bs : List ℕ). one_write (unwrap_or (slice_get (blocks_of f.extents) place) 0) bs) (may.same place (written place e))

pub writes_are_whole : WritesAreWhole
writes_are_whole f bytes written may = λ i. flat_map (λ place. same_write f bytes written may place i) (range_with_len 0 (length f.content.dirty))

pub noted_as_whole : NotedAsWhole
noted_as_whole f bytes noted may = record {
  inode = noted.inode;
  runs = noted.runs;
  size = noted.size ∙ sym may.long;
  marks = noted.marks;
  held = length-replicate (length f.file.content.dirty) true;
  written = λ place e. all_there (length f.file.content.dirty) 0 (length f.file.content.dirty) (omega arith) place (omega arith) (slice_get_within f.file.content.dirty place true e);
  apart = noted.apart;
}
