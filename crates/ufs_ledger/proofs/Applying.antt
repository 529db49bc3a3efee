-- Records keep no more extents than there are, by the catalog.
use Rattle.std.proofs.Common.{◌≡◌, ℕ, ◌<◌, List, [], ◌∷◌, Bool, true, false, length, ap, sym, refl, ◌∙◌, subst, arith}
use Rattle.std.specs.Prelude.{◌&&◌, ◌||◌, nat_lt, nat_le, ◌^◌}
use Rattle.std.proofs.lemmas.Bool.{and_parts}
use Rattle.std.proofs.lemmas.Bool.Decides.{nat_tests}
use Rattle.ufs_disk.specs.Disk.{Cell}
use Rattle.ufs_layout.specs.Areas.{is_inode_number}
use Rattle.ufs_layout.specs.Superblock.{geometry_of}
use Rattle.ufs_layout.specs.InodeForm.{InodeForm}
use Rattle.ufs_base.specs.Images.{Image}
use Rattle.ufs_image.specs.Images.{form_at}
use Rattle.ufs_image.specs.BadSectors.{keeps_too_many}
use Rattle.ufs_image.specs.Fold.{is_in_range, is_newer, with_valid, folded}
use Rattle.ufs_layout.specs.declared.geometry.Geometry.{Geometry}
use Rattle.ufs_layout.specs.declared.superblock.Super.{Super}
use Rattle.ufs_layout.specs.declared.records.LogRecord.{LogRecord}
use Rattle.ufs_layout.specs.declared.records.LogRecord.TheVariants.{Delta, Place, Free}
use Rattle.ufs_layout.specs.declared.records.Committed.{Committed}
use Rattle.ufs_journal.specs.Applied.{keeps_more}
use Rattle.ufs_journal.specs.Kept.{CanApply}
use Rattle.ufs_image.specs.Catalog.{Catalog, IsInode}
use Rattle.ufs_image.specs.Folding.{Spells, AreSpelled, is_newer_in, with_valid_in}
use Rattle.ufs_image.proofs.Steps.{record_step}
use Rattle.ufs_ledger.specs.Ledger.{Stand, IsLeft}
use Rattle.ufs_ledger.specs.Changes.{MayCommit, keeps_too_many_in, keeps_more_in}
use Rattle.ufs_ledger.proofs.Alike.{spelled_folds}

module _ (g : Geometry) (dirs : ℕ → Bool) where
  ranged : (inode : ℕ) → is_inode_number g inode ≡ true → IsInode g inode
  ranged inode is =
      let low = (and_parts (nat_le 1 inode) (nat_le inode g.inodes) is).0 in
      let high = (and_parts (nat_le 1 inode) (nat_le inode g.inodes) is).1 in
      record { from_one = grind (arith, nat_tests, low); within = grind (arith, nat_tests, high) }

  one_same : (number : ℕ) (before now : Image) (b c : Catalog) (r : LogRecord) → Spells g true dirs before b → Spells g true dirs now c
      → (is_in_range g r && keeps_too_many g number before now r) ≡ (is_in_range g r && keeps_too_many_in number b c r)
  one_same number before now b c (Delta inode kind size keep extents) sb sc = by (is_inode_number g inode) refl
    where
      by : (t : Bool) → is_inode_number g inode ≡ t → (t && (is_newer g number before inode && nat_lt (length (form_at g now inode).extents) keep)) ≡ (t && (is_newer_in number b inode && nat_lt (length (c.forms inode).extents) keep))
      by false e = refl
      by true e =
          let newer : is_newer g number before inode ≡ is_newer_in number b inode = ap (λ (f : InodeForm). nat_lt f.number number) (sb.forms inode (ranged inode e)) in
          let form = sc.forms inode (ranged inode e) in
          λ i. newer i && nat_lt (length (form i).extents) keep
  one_same number before now b c (Place sector slot dentry) sb sc = refl
  one_same number before now b c (Free inode) sb sc = refl

  all_same : (number : ℕ) → number < 2 ^ 64 → (before now : Image) (b c : Catalog) (rs : List LogRecord) → Spells g true dirs before b → Spells g true dirs now c → AreSpelled rs → keeps_more g number before rs now ≡ keeps_more_in g number b rs c
  all_same number small before now b c [] sb sc spelled = refl
  all_same number small before now b c (r ∷ rs) sb sc spelled =
      let head = one_same number before now b c r sb sc in
      let rest = all_same number small before (with_valid g number before r now) b (with_valid_in g number b r c) rs sb (record_step g true dirs number small before now b c r sb sc spelled.0) spelled.1 in
      λ i. head i || rest i

pub can_apply : (sectors : ℕ) (superblock : Super) (blocks : ℕ → Cell) (s : Stand) (image : Image) → IsLeft sectors superblock blocks s image → (t : Committed) → MayCommit (geometry_of superblock) t s → CanApply (geometry_of superblock) superblock.epoch t.number t.records image
can_apply sectors superblock blocks s image left t may =
    let g : Geometry = geometry_of superblock in
    let spelled = spelled_folds sectors superblock blocks s image left in
    subst (λ log. keeps_more g t.number (folded g log image) t.records (folded g log image) ≡ false) (sym left.logged)
    (all_same g s.dirs t.number may.fits.number (folded g s.log image) (folded g s.log image) s.catalog s.catalog t.records spelled spelled may.fits.records ∙ may.keeps)
