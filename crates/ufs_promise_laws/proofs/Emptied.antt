-- A file that was emptied.
use Rattle.std.proofs.Common.{◌≡◌, ℕ, inl, inr, List, [], Some, None, ap, sym, refl, ◌∙◌}
use Rattle.std.specs.Prelude.{nat_eq}
use Rattle.std.specs.List.{IsDistinct}
use Rattle.ufs_bitmap.proofs.TakingLemmas.{distinct-none, distinct_back, has-none}
use Rattle.ufs_file_commits.specs.Standing.{StandsFor}
use Rattle.ufs_file_commits.specs.State.{DurableState, IsNoted, blocks_held}
use Rattle.ufs_extent.specs.Runs.{blocks_of}
use Rattle.ufs_layout.specs.declared.geometry.Geometry.{Geometry}
use Rattle.ufs_ledger.specs.Kept.{Numbers}
use Rattle.ufs_ledger.specs.Ledger.{Ledger}
use Rattle.ufs_promise_laws.specs.Sound.{IsFileSound}
use Rattle.ufs_promise_laws.specs.Stored.{IsFileStored, IsFileWhole, with_born}
use Rattle.ufs_promise_laws.specs.Requests.{emptied}
use Rattle.ufs_promise_laws.proofs.ListedBlocks.{clash}

module _ (d : DurableState) where
  pub emptied_noted : IsNoted d → IsNoted (emptied d)
  emptied_noted is = record { inode = is.inode; runs = refl; size = refl; marks = refl; apart = record { absent = λ b held. absurd (clash _ held (has-none b)); once = distinct-none }; held = refl; written = λ place on. on }

  emptied_once : IsDistinct nat_eq (blocks_held d) → IsDistinct nat_eq (blocks_held (emptied d))
  emptied_once once = distinct_back (blocks_of d.file.extents) (blocks_of d.dropped) once

  pub emptied_sound : (g : Geometry) → IsFileSound g d → IsFileSound g (emptied d)
  emptied_sound g is = record { noted = emptied_noted is.noted; once = emptied_once is.once; inode = is.inode }

  -- it stands where it stood
  emptied_stands : (l : Ledger) → StandsFor l d → StandsFor l (emptied d)
  emptied_stands l is = record {
    in_range = is.in_range;
    kind = is.kind;
    size = is.size;
    extents = is.extents;
    blocks = λ place block at. (let no = at in absurd cc);
    clean = λ place block at off. (let no = at in absurd cc);
  }

  emptied_stored : (l : Ledger) (numbers : Numbers) → IsFileStored l numbers d → IsFileStored l numbers (emptied d)
  emptied_stored l numbers (inl is) = inl (is.0, emptied_stands l is.1)
  emptied_stored l numbers (inr is) = inr (is.0, emptied_stands (with_born d.file.inode l) is.1)

  pub emptied_whole : (l : Ledger) (numbers : Numbers) → IsFileWhole l numbers d → IsFileWhole l numbers (emptied d)
  emptied_whole l numbers is = record {
    noted = emptied_noted is.noted;
    once = emptied_once is.once;
    own = λ place block at. (let no = at in absurd cc);
    stored = emptied_stored l numbers is.stored;
  }
