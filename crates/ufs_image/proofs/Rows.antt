-- One image, worked: 64 blocks, 16 inodes and 64 journal sectors, in use, with two commits in its journal.
use Rattle.std.proofs.Common.{ℕ, ◌≡◌, List, [], ◌∷◌, None, Some, refl}
use Rattle.std.specs.Prelude.{false, map, replicate, codes, Ok, Err, ◌==◌, if◌then◌else◌}
use Rattle.ufs_base.specs.Images.{Image}
use Rattle.ufs_layout.specs.Areas.{first_of_data}
use Rattle.ufs_layout.specs.InodeForm.{inode_bytes}
use Rattle.ufs_layout.specs.DentryForm.{free_slot}
use Rattle.ufs_layout.specs.Superblock.{super_bytes}
use Rattle.ufs_layout.specs.JournalSector.{HasRecords, HasCommit, journal_bytes}
use Rattle.ufs_layout.specs.declared.geometry.Geometry.{Geometry}
use Rattle.ufs_layout.specs.declared.inode.Extent.{Extent}
use Rattle.ufs_layout.specs.declared.records.LogRecord.{LogRecord}
use Rattle.ufs_layout.specs.declared.records.LogRecord.TheVariants.{Delta, Place}
use Rattle.ufs_layout.specs.declared.records.Committed.{Committed}
use Rattle.ufs_layout.specs.declared.superblock.Super.{Super}
use Rattle.ufs_image.specs.Images.{form_at, with_sector}
use Rattle.ufs_image.specs.Journal.{committed}
use Rattle.ufs_image.specs.Fold.{folded}
use Rattle.ufs_image.specs.Nodes.{read_block}
use Rattle.ufs_image.specs.Damage.{SharedBlock, ShortExtents, tree_damage}
use Rattle.ufs_image.specs.Volume.{NoSuperblock, BadRecord, BadTree}
use Rattle.ufs_image.specs.Opens.{entries}
use Rattle.ufs_image.specs.Formatted.{new_root, empty_sector}
use Rattle.ufs_image.specs.Catalog.{catalog_at}
use Rattle.ufs_image.specs.Walks.{inode_of, path_text}

abbrev small : Geometry
small = record { blocks = 64; inodes = 16; journal = 64 }

-- the data area begins at block 12, which is sector 96
data_begins : first_of_data small ≡ 12
data_begins = refl

-- ---- the image

abbrev superblock : Super
superblock = record { version = 1; blocks = 64; inodes = 16; journal = 64; epoch = 1; next = 1; clean = false }

abbrev one_block : ℕ → List Extent
one_block block = record { start = block; length = 1 } ∷ []

-- the birth of `/f`: the root gets block 12, whose first slot names inode 2
abbrev birth : List LogRecord
birth = Delta 1 2 4096 0 (one_block 12) ∷ Delta 2 1 0 0 [] ∷ Place 96 0 (record { inode = 2; kind = 1; name = codes "f" }) ∷ []

-- the file's one byte, in block 13
abbrev growth : List LogRecord
growth = Delta 2 1 1 0 (one_block 13) ∷ []

abbrev records : ℕ → List LogRecord → List ℕ
records txn rs = journal_bytes (record { epoch = 1; txn = txn; index = 0; content = HasRecords rs })

abbrev commit : (txn number : ℕ) → List ℕ
commit txn number = journal_bytes (record { epoch = 1; txn = txn; index = 1; content = HasCommit number })

abbrev worked : Image
worked sector =
    if sector == 0 then super_bytes superblock else
    if sector == 16 then inode_bytes new_root else
    if sector == 32 then records 1 birth else
    if sector == 33 then commit 1 1 else
    if sector == 34 then records 2 growth else
    if sector == 35 then commit 2 2 else
    if sector == 104 then 120 ∷ replicate 511 0 else empty_sector

-- ---- what it stands for

is_committed : committed small 1 worked ≡ record { number = 1; records = birth } ∷ record { number = 2; records = growth } ∷ []
is_committed = refl

abbrev committed_now : List Committed
committed_now = record { number = 1; records = birth } ∷ record { number = 2; records = growth } ∷ []

root_folded : form_at small (folded small committed_now worked) 1 ≡ record { kind = 2; extents = one_block 12; size = 4096; number = 1 }
root_folded = refl

file_folded : form_at small (folded small committed_now worked) 2 ≡ record { kind = 1; extents = one_block 13; size = 1; number = 2 }
file_folded = refl

stands_for : entries 512 worked ≡ Ok ((codes "/", None) ∷ (codes "/f", Some (codes "x")) ∷ [])
stands_for = refl

undamaged : tree_damage small (folded small committed_now worked) ≡ []
undamaged = refl

-- ---- its catalog

slots_folded : read_block (folded small committed_now worked) 12 ≡ map Some (record { inode = 2; kind = 1; name = codes "f" } ∷ replicate 63 free_slot)
slots_folded = refl

walked_to : inode_of (catalog_at small (folded small committed_now worked)) (codes "f" ∷ []) ≡ Some 2
walked_to = refl

text : path_text (codes "f" ∷ []) ≡ codes "/f"
text = refl

-- ---- refused

taken_out : entries 512 (with_sector 0 empty_sector worked) ≡ Err NoSuperblock
taken_out = refl

-- two commits of one transaction: the lower sector is named
twice : entries 512 (with_sector 35 (commit 1 1) worked) ≡ Err (BadRecord 33)
twice = refl

-- the file gets the root's block
abbrev shared : Image
shared = with_sector 34 (records 2 (Delta 2 1 1 0 (one_block 12) ∷ [])) worked

shared_refused : entries 512 shared ≡ Err (BadTree 1)
shared_refused = refl

shared_damage : tree_damage small (folded small (committed small 1 shared) shared) ≡ SharedBlock 12 1 2 ∷ []
shared_damage = refl

-- more bytes than the file's block has
long_damage : tree_damage small (folded small (committed small 1 (with_sector 34 (records 2 (Delta 2 1 4097 0 (one_block 13) ∷ [])) worked)) worked) ≡ ShortExtents 2 ∷ []
long_damage = refl

-- without its second commit the file is empty; without both the root is alone
one_commit : entries 512 (with_sector 35 empty_sector worked) ≡ Ok ((codes "/", None) ∷ (codes "/f", Some []) ∷ [])
one_commit = refl

no_commit : entries 512 (with_sector 33 empty_sector (with_sector 35 empty_sector worked)) ≡ Ok ((codes "/", None) ∷ [])
no_commit = refl
