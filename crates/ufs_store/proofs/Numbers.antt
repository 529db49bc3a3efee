-- The commit numbers of inodes.
use Rattle.std.proofs.Common.{◌≡◌, ◌<◌, ◌≤◌, ℕ, List, [], ◌∷◌, Bool, true, false, refl, subst, arith}
use Rattle.std.specs.Prelude.{◌==◌, if◌then◌else◌}
use Rattle.ufs_image.specs.Catalog.{Catalog, IsInode}
use Rattle.ufs_image.specs.Fold.{after_delta, is_in_range}
use Rattle.ufs_image.specs.Folding.{is_newer_in, with_committed_in, with_form, with_record_in, with_records_in, with_valid_in}
use Rattle.ufs_layout.specs.InodeForm.{InodeForm, free_inode}
use Rattle.ufs_layout.specs.declared.geometry.Geometry.{Geometry}
use Rattle.ufs_layout.specs.declared.records.Committed.{Committed}
use Rattle.ufs_layout.specs.declared.records.LogRecord.{LogRecord}
use Rattle.ufs_layout.specs.declared.records.LogRecord.TheVariants.{Delta, Free, Place}

-- Each inode's number is below this one.
abbrev pub AreBelow : Geometry → Catalog → ℕ → Type 0
AreBelow g c n = (inode : ℕ) → IsInode g inode → (c.forms inode).number < n

-- So it is by another word for the geometry, and below a number that isn't lower.
pub below_more : (g h : Geometry) (c : Catalog) (n m : ℕ) → h ≡ g → n ≤ m → AreBelow g c n → AreBelow h c m
below_more g h c n m same least below inode ranged = let low = below inode (subst (λ x. IsInode x inode) same ranged) in omega (arith, low, least)

-- A transaction leaves an inode's number, or gives it its own.
module _ (g : Geometry) (number n : ℕ) (before : Catalog) (less : number < n) where
  either : (b : Bool) (new old : InodeForm) → new.number ≡ number → old.number < n → (if b then new else old).number < n
  either true new old is low = omega (arith, is, less)
  either false new old is low = low

  one_more : (r : LogRecord) (c : Catalog) → AreBelow g c n → AreBelow g (with_record_in number before r c) n
  one_more (Delta inode kind size keep extents) c below k ranged = by (is_newer_in number before inode)
    where
      by : (b : Bool) → ((if b then with_form inode (after_delta (c.forms inode) number kind size keep extents) c else c).forms k).number < n
      by true = either (k == inode) (after_delta (c.forms inode) number kind size keep extents) (c.forms k) refl (below k ranged)
      by false = below k ranged
  one_more (Place sector slot dentry) c below k ranged = below k ranged
  one_more (Free inode) c below k ranged = by (is_newer_in number before inode)
    where
      by : (b : Bool) → ((if b then with_form inode (free_inode number) c else c).forms k).number < n
      by true = either (k == inode) (free_inode number) (c.forms k) refl (below k ranged)
      by false = below k ranged

  valid : (r : LogRecord) (c : Catalog) → AreBelow g c n → AreBelow g (with_valid_in g number before r c) n
  valid r c below = by (is_in_range g r)
    where
      by : (b : Bool) → AreBelow g (if b then with_record_in number before r c else c) n
      by true = one_more r c below
      by false = below

  pub all_more : (rs : List LogRecord) (c : Catalog) → AreBelow g c n → AreBelow g (with_records_in g number before rs c) n
  all_more [] c below = below
  all_more (r ∷ rs) c below = all_more rs (with_valid_in g number before r c) (valid r c below)

pub committed_below : (g : Geometry) (t : Committed) (c : Catalog) (n : ℕ) → t.number < n → AreBelow g c n → AreBelow g (with_committed_in g t c) n
committed_below g t c n less below = all_more g t.number n c less t.records c below
