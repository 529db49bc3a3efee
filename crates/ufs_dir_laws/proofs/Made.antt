-- The table that a catalog has.
use Rattle.std.proofs.Common.{◌≡◌, ℕ, zero, suc, ◌+◌, ◌≤◌, ◌<◌, inl, inr, List, [], ◌∷◌, Bool, true, false, map, ap, refl, ◌∙◌, arith}
use Rattle.std.specs.Prelude.{◌==◌, ◌||◌, not, nat_le, filter}
use Rattle.std.specs.List.{range_with_len}
use Rattle.std.specs.Cmp.{both_ways}
use Rattle.std.specs.FinSet as set
use Rattle.std.specs.FinSet.{contains-from_list_nat}
use Rattle.std.proofs.lemmas.Bool.{and_parts}
use Rattle.std.proofs.lemmas.Bool.Decides.{nat_tests}
use Rattle.std.proofs.lemmas.List.FromFn.{length-map-range_with_len, get_or-map-range_with_len}
use Rattle.ufs_layout.specs.Areas.{is_inode_number}
use Rattle.ufs_layout.specs.InodeForm.{is_used}
use Rattle.ufs_layout.specs.declared.geometry.Geometry.{Geometry}
use Rattle.ufs_dirs.specs.Directory.{Directory, has_block}
use Rattle.ufs_image.specs.Catalog.{Catalog, IsInode, slots_in}
use Rattle.ufs_image.proofs.Empty.{in_range}
use Rattle.ufs_image.proofs.Lists.{IsIn, in_filter, from_filter}
use Rattle.ufs_image.proofs.Listed.{in_at_place}
use Rattle.ufs_dir_tree.specs.DirTable.{DirTable, no_dir, dir_at}
use Rattle.ufs_dir_laws.specs.Tables.{dir_blocks, is_free_inode, IsTableOf}
use Rattle.ufs_dir_laws.proofs.Tables.{place_of_block}

has_it : (xs : List ℕ) (i : ℕ) → IsIn i xs → has_block xs i ≡ true
has_it [] i is = absurd is
has_it (x ∷ xs) i (inl same) = let here : (x == i) ≡ true = grind (arith, nat_tests, same) in ap (λ b. b || has_block xs i) here
has_it (x ∷ xs) i (inr is) = by (x == i) (has_it xs i is)
  where
    by : (b : Bool) → has_block xs i ≡ true → (b || has_block xs i) ≡ true
    by true e = refl
    by false e = e

module _ (g : Geometry) (c : Catalog) where
  abbrev dir_of : ℕ → Directory
  dir_of zero = no_dir
  dir_of (suc i) = record { blocks = dir_blocks c (suc i); slots = slots_in c (suc i) }

  abbrev numbers : List ℕ
  numbers = range_with_len 0 (g.inodes + 1)

  abbrev unused : List ℕ
  unused = filter (is_free_inode g c) numbers

  abbrev made : DirTable
  made = record { dirs = map dir_of numbers; free = set.from_list unused }

  dir_here : (i : ℕ) → i < g.inodes + 1 → dir_at made i ≡ dir_of i
  dir_here i within = get_or-map-range_with_len dir_of 0 (g.inodes + 1) i i no_dir within (omega arith)

  dir_inode : (i : ℕ) → IsInode g i → dir_of i ≡ record { blocks = dir_blocks c i; slots = slots_in c i }
  dir_inode zero inside = let first = inside.from_one in absurd (omega (arith, first))
  dir_inode (suc i) inside = refl

  at_inode : (i : ℕ) → IsInode g i → dir_at made i ≡ record { blocks = dir_blocks c i; slots = slots_in c i }
  at_inode i inside = let most = inside.within in dir_here i (omega (arith, most)) ∙ dir_inode i inside

  free : (i : ℕ) → set.contains made.free i ≡ is_free_inode g c i
  free i = contains-from_list_nat unused i ∙ both_ways _ _ listed unlisted
    where
      listed : has_block unused i ≡ true → is_free_inode g c i ≡ true
      listed e = let at = place_of_block unused i e in (from_filter (is_free_inode g c) numbers i (in_at_place i unused at.0 at.1)).1

      unlisted : is_free_inode g c i ≡ true → has_block unused i ≡ true
      unlisted e =
          let number = (and_parts (not (is_used (c.forms i))) (is_inode_number g i) e).1 in
          let high = (and_parts (nat_le 1 i) (nat_le i g.inodes) number).1 in
          let last : i ≤ g.inodes = grind (arith, nat_tests, high) in
          has_it unused i (in_filter (is_free_inode g c) numbers i (in_range 0 (g.inodes + 1) i (omega arith) (omega (arith, last))) e)

  pub has_table : (t : DirTable) × IsTableOf g c t
  has_table = (
    made,
    record {
      counted = length-map-range_with_len dir_of 0 (g.inodes + 1);
      none = dir_here 0 (omega arith);
      slots = λ i inside. ap (λ (d : Directory). d.slots) (at_inode i inside);
      blocks = λ i inside. ap (λ (d : Directory). d.blocks) (at_inode i inside);
      free = free;
    },
  )
