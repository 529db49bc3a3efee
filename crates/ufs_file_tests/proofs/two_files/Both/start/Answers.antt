use Rattle.std.proofs.Common.{◌++◌, [], List, ℕ, ap, sym, refl, subst}
use Rattle.ufs_extent.specs.Runs.{blocks_of}
use Rattle.ufs_bitmap.specs.Taking.{IsApart}
use Rattle.ufs_bitmap.proofs.TakingLemmas.{apart_none}
use Rattle.ufs_file.specs.Hand.{FileState}
use Rattle.ufs_file_tests.proofs.two_files.Both.start.Goals as goal

pub invariant_of-result : goal.invariant_of-result
invariant_of-result c = record {
  first_number = ap (λ (f : FileState). f.file) c.in_ok-first.ensures.empty;
  second_number = ap (λ (f : FileState). f.file) c.in_ok-second.ensures.empty;
  apart = subst (λ (l : List ℕ). IsApart c.in_ok-pool.pool l)
      (sym (λ i. blocks_of (c.in_ok-first.ensures.empty i).extents ++ blocks_of (c.in_ok-second.ensures.empty i).extents)) (apart_none c.in_ok-pool.pool [] refl);
}
