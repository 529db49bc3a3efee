-- Steps that were noted, on a disk.
use Rattle.std.proofs.Common.{◌≡◌, ℕ, ◌+◌, List, [], ◌∷◌, length, ap, sym, refl, ◌∙◌, arith, length-set}
use Rattle.ufs_layout.specs.Areas.{IsGeometry}
use Rattle.ufs_layout.specs.declared.geometry.Geometry.{Geometry}
use Rattle.ufs_dirs.specs.Changes.{with_entry}
use Rattle.ufs_dir_tree.specs.DirTable.{DirTable, IsUsed, no_dir, dir_at}
use Rattle.ufs_dir_tree.specs.Steps.{DirState, Step, Born, Grown, Put, Freed, grown, after, after_all, table_after_all}
use Rattle.ufs_image.specs.Catalog.{IsInode}
use Rattle.ufs_name_tree.specs.Notes.{MayNote, MayNoteAll}
use Rattle.ufs_name_tree.specs.Records as tables
use Rattle.ufs_name_tree.proofs.StepOrder.{all_after, told, told_is}
use Rattle.ufs_promise_laws.specs.Held.{MayStep, MaySteps}
use Rattle.ufs_promise_laws.specs.Steps.{records_of}

module _ (g : Geometry) (is : IsGeometry g) where
  ranged : (t : DirTable) (i : ℕ) → length t.dirs ≡ g.inodes + 1 → IsUsed t i → IsInode g i
  ranged t i counted used = record { from_one = used.from_one; within = omega (arith, used.within, counted) }

  one : (s : DirState) (x : Step) → length s.table.dirs ≡ g.inodes + 1 → MayNote s x → MayStep g s x
  one s (Born i kind) counted may = let free = may.free in record { in_range = record { from_one = free.from_one; within = omega (arith, free.within, counted) }; free = may.held; known = may.known }
  one s (Grown i block) counted may = record { in_range = ranged s.table i counted may.used; is_dir = may.is_dir; zeroed = may.zeroed; extents = may.extents }
  one s (Put i slot d) counted may = record { in_range = ranged s.table i counted may.used; in_dir = may.in_dir; form = record { spelled = may.form; inode = omega (arith, may.inode, counted, is.most_inodes) } }
  one s (Freed i) counted may = record { in_range = ranged s.table i counted may.used; no_root = may.no_root }

  still_counted : (s : DirState) (x : Step) → length (after x s).table.dirs ≡ length s.table.dirs
  still_counted s (Born i kind) = refl
  still_counted s (Grown i block) = length-set s.table.dirs i (grown block (dir_at s.table i))
  still_counted s (Put i slot d) = length-set s.table.dirs i (with_entry (dir_at s.table i) slot d)
  still_counted s (Freed i) = length-set s.table.dirs i no_dir

  pub noted_may : (s : DirState) (xs : List Step) → length s.table.dirs ≡ g.inodes + 1 → MayNoteAll s xs → MaySteps g s xs
  noted_may s [] counted may = tt
  noted_may s (x ∷ xs) counted may = (one s x counted may.0, noted_may (after x s) xs (still_counted s x ∙ counted) may.1)

pub noted_records : (s : DirState) (xs : List Step) → tables.records_of s.table xs ≡ records_of s xs
noted_records s xs = sym (told_is s xs) ∙ same s xs
  where
    same : (s : DirState) (xs : List Step) → told s xs ≡ records_of s xs
    same s [] = refl
    same s (x ∷ xs) = ap (λ rs. tables.record_of s.table x ∷ rs) (same (after x s) xs)

pub noted_lead : (s : DirState) (xs : List Step) → table_after_all xs s.table ≡ (after_all xs s).table
noted_lead s xs = sym (all_after s xs)
