-- Folding leaves the blocks in which free dentry is set.
use Rattle.std.proofs.Common.{◌≡◌, ℕ, ◌<◌, ◌≤◌, List, [], ◌∷◌, ◌++◌, Bool, true, false, ap, sym, refl, ◌∙◌, arith}
use Rattle.std.specs.Prelude.{◌==◌, ◌||◌, ◌/◌, if◌then◌else◌}
use Rattle.std.specs.List.{list_any}
use Rattle.std.proofs.lemmas.Bool.Decides.{nat_tests}
use Rattle.ufs_layout.specs.Areas.{sector_of_inode, is_inode_number, is_data_sector, first_of_data}
use Rattle.ufs_layout.specs.InodeForm.{free_inode, inode_bytes}
use Rattle.ufs_layout.specs.DentryForm.{dentry_bytes}
use Rattle.ufs_base.specs.Images.{Image}
use Rattle.ufs_image.specs.Images.{with_sector, with_slot, form_at, block_at}
use Rattle.ufs_image.specs.Fold.{is_newer, with_inode, after_delta, with_valid, with_records, with_committed, folded}
use Rattle.ufs_layout.specs.declared.geometry.Geometry.{Geometry}
use Rattle.ufs_layout.specs.declared.records.LogRecord.{LogRecord}
use Rattle.ufs_layout.specs.declared.records.LogRecord.TheVariants.{Delta, Place, Free}
use Rattle.ufs_layout.specs.declared.records.Committed.{Committed}
use Rattle.ufs_image.specs.Agree.{IsOfBlock}
use Rattle.ufs_image.proofs.Journals.{inode_metadata}
use Rattle.ufs_image.proofs.Blocks.{block_same}
use Rattle.ufs_ledger.specs.Ledger.{is_set_in, is_held}

pub not_either : (a b : Bool) → (a || b) ≡ false → (a ≡ false) × (b ≡ false)
not_either true b e = let free = e in cc
not_either false b e = (refl, e)

pub neither : (a b : Bool) → a ≡ false → b ≡ false → (a || b) ≡ false
neither true b e h = let free = e in cc
neither false b e h = h

-- the log that has one transaction more holds more
pub held_before : (log : List Committed) (t : Committed) (block : ℕ) → is_held (log ++ t ∷ []) block ≡ false → is_held log block ≡ false
held_before [] t block e = refl
held_before (u ∷ log) t block e =
    let both = not_either (list_any (is_set_in block) u.records) (is_held (log ++ t ∷ []) block) e in
    neither (list_any (is_set_in block) u.records) (is_held log block) both.0 (held_before log t block both.1)

pub held_by_one : (log : List Committed) (t : Committed) (block : ℕ) → is_held (log ++ t ∷ []) block ≡ false → list_any (is_set_in block) t.records ≡ false
held_by_one [] t block e = (not_either (list_any (is_set_in block) t.records) false e).0
held_by_one (u ∷ log) t block e = held_by_one log t block (not_either (list_any (is_set_in block) u.records) (is_held (log ++ t ∷ []) block) e).1

pub held_after : (log : List Committed) (t : Committed) (block : ℕ) → is_held log block ≡ false → list_any (is_set_in block) t.records ≡ false → is_held (log ++ t ∷ []) block ≡ false
held_after [] t block e h = neither (list_any (is_set_in block) t.records) false h refl
held_after (u ∷ log) t block e h =
    let both = not_either (list_any (is_set_in block) u.records) (is_held log block) e in
    neither (list_any (is_set_in block) u.records) (is_held (log ++ t ∷ []) block) both.0 (held_after log t block both.1 h)

module _ (g : Geometry) (block : ℕ) (data' : first_of_data g ≤ block) (sector : ℕ) (of : IsOfBlock block sector) where
  not_inode : (inode : ℕ) → is_inode_number g inode ≡ true → (sector == sector_of_inode g inode) ≡ false
  not_inode inode is =
      let low = inode_metadata g inode is in
      let at = of.same in
      let apart : sector_of_inode g inode < sector = omega (arith, low, at, data') in
      grind (arith, nat_tests, apart)

  set_elsewhere : (number : ℕ) (before now : Image) (inode : ℕ) (bytes : List ℕ) (newer : Bool) → is_inode_number g inode ≡ true → (if newer then with_sector (sector_of_inode g inode) bytes now else now) sector ≡ now sector
  set_elsewhere number before now inode bytes true is = ap (λ b. if b then bytes else now sector) (not_inode inode is)
  set_elsewhere number before now inode bytes false is = refl

  one_record : (number : ℕ) (before now : Image) (r : LogRecord) → is_set_in block r ≡ false → with_valid g number before r now sector ≡ now sector
  one_record number before now (Delta inode kind size keep extents) free = by (is_inode_number g inode) refl
    where
      by : (b : Bool) → is_inode_number g inode ≡ b
          → (if b then (if is_newer g number before inode then with_inode g inode (after_delta (form_at g now inode) number kind size keep extents) now else now) else now) sector ≡ now sector
      by true e = set_elsewhere number before now inode (inode_bytes (after_delta (form_at g now inode) number kind size keep extents)) (is_newer g number before inode) e
      by false e = refl
  one_record number before now (Place other slot dentry) free = by (is_data_sector g other)
    where
      here : (b : Bool) → (sector == other) ≡ b → (if b then with_slot slot (dentry_bytes dentry) (now other) else now sector) ≡ now sector
      here false e = refl
      here true e =
          let same : sector ≡ other = grind (arith, nat_tests, e) in
          let at = of.same in
          let low = of.in_block in
          let its : other / 8 ≡ block = omega (arith, same, at, low) in
          let yes : (other / 8 == block) ≡ true = grind (arith, nat_tests, its) in
          absurd (let both = sym free ∙ yes in cc)

      by : (b : Bool) → (if b then with_sector other (with_slot slot (dentry_bytes dentry) (now other)) now else now) sector ≡ now sector
      by true = here (sector == other) refl
      by false = refl
  one_record number before now (Free inode) free = by (is_inode_number g inode) refl
    where
      by : (b : Bool) → is_inode_number g inode ≡ b → (if b then (if is_newer g number before inode then with_inode g inode (free_inode number) now else now) else now) sector ≡ now sector
      by true e = set_elsewhere number before now inode (inode_bytes (free_inode number)) (is_newer g number before inode) e
      by false e = refl

  all_records : (number : ℕ) (before now : Image) (rs : List LogRecord) → list_any (is_set_in block) rs ≡ false → with_records g number before rs now sector ≡ now sector
  all_records number before now [] free = refl
  all_records number before now (r ∷ rs) free =
      let both = not_either (is_set_in block r) (list_any (is_set_in block) rs) free in
      all_records number before (with_valid g number before r now) rs both.1 ∙ one_record number before now r both.0

  pub unheld_sector : (log : List Committed) (image : Image) → is_held log block ≡ false → folded g log image sector ≡ image sector
  unheld_sector [] image free = refl
  unheld_sector (t ∷ log) image free =
      let both = not_either (list_any (is_set_in block) t.records) (is_held log block) free in
      unheld_sector log (with_committed g t image) both.1 ∙ all_records t.number image image t.records both.0

pub unheld_block : (g : Geometry) (block : ℕ) → first_of_data g ≤ block → (log : List Committed) (image : Image) → is_held log block ≡ false → block_at (folded g log image) block ≡ block_at image block
unheld_block g block from log image free = block_same (folded g log image) image block (λ s of. unheld_sector g block from s of log image free)
