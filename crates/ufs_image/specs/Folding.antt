-- What committed records do to a catalog: what they do to an image, without its bytes.
use Rattle.std.specs.Prelude.{ℕ, ◌≡◌, ◌<◌, ◌≤◌, ◌+◌, ◌*◌, ◌/◌, ◌%◌, ◌^◌, ◌==◌, List, [], ◌∷◌, map, nat_lt, if◌then◌else◌, IsTrue, Bool, Some, length, slice_set}
use Rattle.std.specs.List.{AllByRecursion}
use Rattle.ufs_base.specs.declared.sizes.TheConstants.{SECTOR, SECTORS_PER_BLOCK, SLOTS_PER_SECTOR}
use Rattle.ufs_layout.specs.Areas.{first_of_data}
use Rattle.ufs_layout.specs.InodeForm.{InodeForm, is_inode, free_inode, FitsExtent}
use Rattle.ufs_layout.specs.DentryForm.{DentryForm}
use Rattle.ufs_layout.specs.Records.{is_record, FitsRecord}
use Rattle.ufs_base.specs.Images.{Image}
use Rattle.ufs_image.specs.Images.{inode_at, form_at}
use Rattle.ufs_image.specs.Fold.{is_in_range, after_delta}
use Rattle.ufs_layout.specs.declared.inode.Extent.{Extent}
use Rattle.ufs_layout.specs.declared.geometry.Geometry.{Geometry}
use Rattle.ufs_layout.specs.declared.records.LogRecord.{LogRecord}
use Rattle.ufs_layout.specs.declared.records.LogRecord.TheVariants.{Delta, Place, Free}
use Rattle.ufs_layout.specs.declared.records.Committed.{Committed}
use Rattle.ufs_image.specs.Catalog.{Catalog, IsInode}
use Rattle.ufs_image.specs.Nodes.{read_block}
use Rattle.ufs_image.specs.Agree.{IsOfBlock}

-- with another form of an inode
abbrev pub with_form : ℕ → InodeForm → Catalog → Catalog
with_form inode form c = record c { forms = λ k. if k == inode then form else c.forms k }

-- the place of a slot of a sector among the slots of the block
abbrev pub place_in_block : (sector slot : ℕ) → ℕ
place_in_block sector slot = SLOTS_PER_SECTOR * (sector % SECTORS_PER_BLOCK) + slot

-- with another dentry in a slot of a sector
abbrev pub with_dentry : (sector slot : ℕ) → DentryForm → Catalog → Catalog
with_dentry sector slot d c = record c { slots = λ block. if block == sector / SECTORS_PER_BLOCK then slice_set (c.slots block) (place_in_block sector slot) d else c.slots block }

-- Before its transaction the inode had a lower commit number.
abbrev pub is_newer_in : ℕ → Catalog → ℕ → Bool
is_newer_in number before inode = nat_lt (before.forms inode).number number

-- one record of the transaction with this number, which found `before`
abbrev pub with_record_in : ℕ → Catalog → LogRecord → Catalog → Catalog
with_record_in number before (Delta inode kind size keep extents) c =
    if is_newer_in number before inode then with_form inode (after_delta (c.forms inode) number kind size keep extents) c else c
with_record_in number before (Place sector slot dentry) c = with_dentry sector slot dentry c
with_record_in number before (Free inode) c = if is_newer_in number before inode then with_form inode (free_inode number) c else c

abbrev pub with_valid_in : Geometry → ℕ → Catalog → LogRecord → Catalog → Catalog
with_valid_in g number before r c = if is_in_range g r then with_record_in number before r c else c

abbrev pub with_records_in : Geometry → ℕ → Catalog → List LogRecord → Catalog → Catalog
with_records_in g number before [] c = c
with_records_in g number before (r ∷ rs) c = with_records_in g number before rs (with_valid_in g number before r c)

abbrev pub with_committed_in : Geometry → Committed → Catalog → Catalog
with_committed_in g t c = with_records_in g t.number c t.records c

-- one transaction after the other
abbrev pub folded_in : Geometry → List Committed → Catalog → Catalog
folded_in g [] c = c
folded_in g (t ∷ ts) c = folded_in g ts (with_committed_in g t c)

-- ---- which records

-- A form that has a spelling, and is read back.
pub record FitsForm (form : InodeForm) : Type 0 where
  pub spelled : IsTrue (is_inode form)
  pub size : form.size < 2 ^ 64
  pub number : form.number < 2 ^ 64
  pub extents : AllByRecursion FitsExtent form.extents

-- Each record is on its form, with its numbers in their types' ranges.
abbrev pub AreSpelled : List LogRecord → Type 0
AreSpelled = AllByRecursion (λ r. IsTrue (is_record r) × FitsRecord r)

pub record FitsCommitted (t : Committed) : Type 0 where
  pub number : t.number < 2 ^ 64
  pub records : AreSpelled t.records

-- The image shows the forms of all inodes, and spells the dentries of these blocks, which lie in the data area. Where it is
-- whole, no inode's sector is off its form.
pub record Spells (g : Geometry) (whole : Bool) (these : ℕ → Bool) (image : Image) (c : Catalog) : Type 0 where
  pub forms : (inode : ℕ) → IsInode g inode → form_at g image inode ≡ c.forms inode
  pub on_form : IsTrue whole → (inode : ℕ) → IsInode g inode → inode_at g image inode ≡ Some (c.forms inode)
  pub fit : (inode : ℕ) → IsInode g inode → FitsForm (c.forms inode)
  pub in_data : (block : ℕ) → IsTrue (these block) → first_of_data g ≤ block
  pub slots : (block : ℕ) → IsTrue (these block) → read_block image block ≡ map Some (c.slots block)
  pub sized : (block sector : ℕ) → IsTrue (these block) → IsOfBlock block sector → length (image sector) ≡ SECTOR

-- One delta of a file, committed.
abbrev pub file_commit : (number inode size keep : ℕ) → List Extent → Committed
file_commit number inode size keep extents = record { number = number; records = Delta inode 1 size keep extents ∷ [] }
