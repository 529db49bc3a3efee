-- What is true of catalogs and of the images that have them.
use Rattle.std.specs.Prelude.{ℕ, ◌≡◌, ◌≢◌, ◌≤◌, ◌<◌, ◌+◌, ◌-◌, ◌*◌, ◌/◌, ◌⊎◌, List, [], ◌∷◌, ◌++◌, length, take, drop, map, flat_map, replicate, slice_set, Bool, true, false, IsTrue, Some, None, Ok}
use Rattle.std.specs.Option.{option_map}
use Rattle.std.specs.List.{AllByRecursion, slice_get}
use Rattle.std.specs.FinMap as fin
use Rattle.std.specs.FinMap.{from_entries}
use Rattle.ufs_base.specs.Images.{Image}
use Rattle.ufs_base.specs.declared.sizes.TheConstants.{SECTOR, SECTORS_PER_BLOCK, BLOCK, SLOTS_PER_SECTOR, SLOTS_PER_BLOCK}
use Rattle.ufs_layout.specs.Areas.{IsGeometry, sector_count, sector_of_inode, first_of_data}
use Rattle.ufs_layout.specs.InodeForm.{InodeForm, inode_bytes}
use Rattle.ufs_layout.specs.DentryForm.{DentryForm, dentry_bytes, free_slot}
use Rattle.ufs_layout.specs.declared.inode.Extent.{Extent}
use Rattle.ufs_layout.specs.declared.records.Committed.{Committed}
use Rattle.ufs_layout.specs.declared.geometry.Geometry.{Geometry}
use Rattle.ufs_image.specs.Images.{IsImageOf, block_at}
use Rattle.ufs_image.specs.Journal.{committed, epoch_in}
use Rattle.ufs_image.specs.Fold.{folded, with_committed, after_delta}
use Rattle.ufs_image.specs.Nodes.{read_block}
use Rattle.ufs_image.specs.Damage.{tree_damage, bad_tree, damage}
use Rattle.ufs_image.specs.Volume.{Volume, volume}
use Rattle.ufs_image.specs.Opens.{walked, below, PathEntry, NodeBytes, path_cmp, ImageTree, opens, file_bytes}
use Rattle.ufs_image.specs.Proper.{IsProperImage}
use Rattle.ufs_image.specs.Formatted.{empty_sector}
use Rattle.ufs_image.specs.Catalog.{Catalog, IsInode, HasBlock, IsDirBlock, HasDirBlocks, HasSlots, IsCatalogOf, catalog_at, slots_in}
use Rattle.ufs_image.specs.Sound.{IsSoundCatalog}
use Rattle.ufs_image.specs.Walks.{inode_of, path_text, ArePieces, node_of}
use Rattle.ufs_image.specs.Agree.{AgreeOn, HasPathSectors, IsOfForm, IsOfBlock, IsOfJournal}
use Rattle.ufs_image.specs.Folding.{Spells, FitsCommitted, folded_in, with_form, with_dentry, place_in_block, file_commit}
use Rattle.ufs_image.specs.Written.{IsWritten}
use Rattle.ufs_image.specs.Changes.{MayBecome, FreesOrphans, FreesUnnamed, KeepsWalks}
use Rattle.ufs_image.specs.Standing.{IsVolumeOf, MarksTaken, IsClosed}
use Rattle.ufs_image.specs.Stops.{IsPartlyHome, IsPartlyFreed}

-- ---- damage

-- Where the catalog of an image is sound, nothing of its tree is damaged.
abbrev pub SoundIsWhole : Geometry → Type 0
SoundIsWhole g = (image : Image) (c : Catalog) → IsCatalogOf g image c → IsSoundCatalog g c → (tree_damage g image ≡ []) × (bad_tree g image ≡ None)

-- And back.
abbrev pub WholeIsSound : Geometry → Type 0
WholeIsSound g = (image : Image) (c : Catalog) → IsCatalogOf g image c → bad_tree g image ≡ None → IsSoundCatalog g c

-- An image of whose tree nothing is damaged has a catalog.
abbrev pub HasCatalog : Geometry → Type 0
HasCatalog g = (image : Image) → bad_tree g image ≡ None → IsCatalogOf g image (catalog_at g image)

-- An image whose catalog is sound, and whose bitmap marks the blocks that are taken and no other, has no damage at all.
abbrev pub MarkedIsUndamaged : Geometry → Type 0
MarkedIsUndamaged g = (image : Image) (c : Catalog) → IsCatalogOf g image c → IsSoundCatalog g c → MarksTaken g image c → damage true g image ≡ []

-- ---- opening

-- An image that is taken and has a sound catalog stands for the tree that is walked.
abbrev pub OpensToWalked : ℕ → Type 0
OpensToWalked sectors = (image : Image) (v : Volume) (c : Catalog) → IsVolumeOf sectors image v c → opens sectors image ≡ Ok (from_entries (walked v))

-- And an image that stands for a tree is such a one.
abbrev pub OpensByCatalog : ℕ → Type 0
OpensByCatalog sectors = (image : Image) (tree : ImageTree) → opens sectors image ≡ Ok tree
    → (v : Volume) × IsVolumeOf sectors image v (catalog_at v.geometry v.image) × (tree ≡ from_entries (walked v))

-- Its geometry is one that is taken.
abbrev pub HasGeometry : ℕ → Type 0
HasGeometry sectors = (image : Image) (v : Volume) → volume sectors image ≡ Ok v → IsGeometry v.geometry × (sector_count v.geometry ≤ sectors)

-- It is proper, if no journal sector has a later epoch, and it is closed where it is clean.
abbrev pub IsProperByCatalog : ℕ → Type 0
IsProperByCatalog sectors = (image : Image) (v : Volume) (c : Catalog) → IsVolumeOf sectors image v c
    → ((sector : ℕ) → IsOfJournal v.geometry sector → epoch_in (image sector) ≤ v.superblock.epoch)
    → (IsTrue v.superblock.clean → IsClosed image v c) → IsProperImage sectors image

-- ---- paths

-- At the text of each whole path stands what a walk along its names meets.
abbrev pub StandsAtPaths : Volume → Type 0
StandsAtPaths v = (c : Catalog) → IsCatalogOf v.geometry v.image c → IsSoundCatalog v.geometry c → (names : List (List ℕ)) → ArePieces names
    → fin.get {R = path_cmp} (from_entries (walked v)) (path_text names) ≡ option_map (node_of v.image c) (inode_of c names)

-- The path has these names, and a walk along them meets the inode at which the node stands.
pub record IsMetAt (v : Volume) (c : Catalog) (path : List ℕ) (node : NodeBytes) : Type 0 where
  pub names : List (List ℕ)
  pub inode : ℕ
  pub text : path ≡ path_text names
  pub pieces : ArePieces names
  pub met : inode_of c names ≡ Some inode
  pub same : node ≡ node_of v.image c inode

-- Nothing stands elsewhere.
abbrev pub StandsNowhereElse : Volume → Type 0
StandsNowhereElse v = (c : Catalog) → IsCatalogOf v.geometry v.image c → IsSoundCatalog v.geometry c → (path : List ℕ) (node : NodeBytes)
    → fin.get {R = path_cmp} (from_entries (walked v)) path ≡ Some node → IsMetAt v c path node

-- One walk alone leads to an inode.
abbrev pub MeetsOnce : Geometry → Type 0
MeetsOnce g = (c : Catalog) → IsSoundCatalog g c → (names others : List (List ℕ)) (inode : ℕ) → inode_of c names ≡ Some inode → inode_of c others ≡ Some inode → names ≡ others

-- It has fewer names than there are inodes.
abbrev pub StaysShort : Geometry → Type 0
StaysShort g = (c : Catalog) → IsSoundCatalog g c → (names : List (List ℕ)) (inode : ℕ) → inode_of c names ≡ Some inode → IsInode g inode × (length names < g.inodes)

-- A deeper walk of the image lists the same.
abbrev pub ListsAllPaths : Geometry → Type 0
ListsAllPaths g = (image : Image) (c : Catalog) → IsCatalogOf g image c → IsSoundCatalog g c → (more : ℕ) → below (more + g.inodes) g image [] 1 ≡ below g.inodes g image [] 1

-- No path is listed twice.
abbrev pub ListsOnce : Volume → Type 0
ListsOnce v = (c : Catalog) → IsCatalogOf v.geometry v.image c → IsSoundCatalog v.geometry c
    → (i j : ℕ) (a b : PathEntry) → slice_get (walked v) i ≡ Some a → slice_get (walked v) j ≡ Some b → a.0 ≡ b.0 → i ≡ j

-- ---- what doesn't matter

-- The image is taken with this catalog too, and its folded sectors are those of `v` among these.
pub record IsTakenAlike (sectors : ℕ) (other : Image) (v : Volume) (c : Catalog) (these : ℕ → Bool) : Type 0 where
  pub found : Volume
  pub has : IsVolumeOf sectors other found c
  pub geometry : found.geometry ≡ v.geometry
  pub superblock : found.superblock ≡ v.superblock
  pub agree : AgreeOn (λ sector. IsTrue (these sector)) v.image found.image

-- Images that agree on what lies before the data area and on the blocks of directories have one catalog.
abbrev pub IgnoresFileBlocks : ℕ → Type 0
IgnoresFileBlocks sectors = (image other : Image) (v : Volume) (c : Catalog) (these : ℕ → Bool) → IsVolumeOf sectors image v c → HasPathSectors v.geometry c these
    → AgreeOn (λ sector. IsTrue (these sector)) image other → IsTakenAlike sectors other v c these

-- A file's bytes are those of its blocks.
abbrev pub KeepsFiles : Type 0
KeepsFiles = (image other : Image) (form : InodeForm) → AgreeOn (IsOfForm form) image other → file_bytes image form ≡ file_bytes other form

-- In a sound image they are as many as its size says.
abbrev pub HasSizes : ℕ → Type 0
HasSizes sectors = (image : Image) (g : Geometry) (c : Catalog) (inode : ℕ) → IsImageOf sectors image → sector_count g ≤ sectors → IsSoundCatalog g c → IsInode g inode
    → length (file_bytes image (c.forms inode)) ≡ (c.forms inode).size

-- The block at a place of a file has the file's bytes there, as far as its size goes.
abbrev pub HasBlockBytes : ℕ → Type 0
HasBlockBytes sectors = (image : Image) (g : Geometry) (c : Catalog) (inode place block : ℕ) → IsImageOf sectors image → sector_count g ≤ sectors → IsSoundCatalog g c → HasBlock g c inode place block
    → take BLOCK (drop (BLOCK * place) (file_bytes image (c.forms inode))) ≡ take ((c.forms inode).size - BLOCK * place) (block_at image block)

-- Images with one catalog that agree on the blocks of files stand for one tree.
abbrev pub HasOneTree : ℕ → Type 0
HasOneTree sectors = (image other : Image) (v w : Volume) (c : Catalog) → IsVolumeOf sectors image v c → IsVolumeOf sectors other w c → w.geometry ≡ v.geometry
    → ((inode : ℕ) → IsInode v.geometry inode → AgreeOn (IsOfForm (c.forms inode)) v.image w.image) → opens sectors other ≡ opens sectors image

-- ---- what is committed

-- It goes on alike over an image and over its catalog.
abbrev pub FoldsCatalogs : Geometry → Type 0
FoldsCatalogs g = (whole : Bool) (these : ℕ → Bool) (image : Image) (c : Catalog) (ts : List Committed) → Spells g whole these image c → AllByRecursion FitsCommitted ts
    → Spells g whole these (folded g ts image) (folded_in g ts c)

-- One more transaction is folded after the others.
abbrev pub FoldsOneMore : Geometry → Type 0
FoldsOneMore g = (ts : List Committed) (t : Committed) (image : Image) → folded g (ts ++ t ∷ []) image ≡ with_committed g t (folded g ts image)

-- An image has its catalog where it spells the blocks of directories.
abbrev pub SpellsDirs : Geometry → Type 0
SpellsDirs g = (these : ℕ → Bool) (image : Image) (c : Catalog) → Spells g true these image c → HasDirBlocks g c these → IsCatalogOf g image c

-- What is committed in an image of so many sectors is on its form, with numbers in their types' ranges.
abbrev pub HasCommitted : Geometry → Type 0
HasCommitted g = (sectors epoch : ℕ) (image : Image) → sector_count g ≤ sectors → IsImageOf sectors image → AllByRecursion FitsCommitted (committed g epoch image)

-- The image and the catalog with this transaction, which gave the file this form.
pub record IsWithFile (g : Geometry) (these : ℕ → Bool) (image : Image) (c d : Catalog) : Type 0 where
  pub spelled : Spells g true these image d
  pub catalog : IsCatalogOf g image d
  pub keeps : KeepsWalks g c d

-- After one delta of a file the image has the catalog with the file's new form, which is sound, and its walks are as they were.
abbrev pub CommitsFile : Geometry → Type 0
CommitsFile g = (these : ℕ → Bool) (image : Image) (c : Catalog) (number inode size keep : ℕ) (extents : List Extent)
    → Spells g true these image c → HasDirBlocks g c these → IsSoundCatalog g c → (c.forms inode).number < number
    → let t = file_commit number inode size keep extents in let form = after_delta (c.forms inode) number 1 size keep extents in
    FitsCommitted t → MayBecome g c inode form → IsWithFile g these (with_committed g t image) c (with_form inode form c)

-- ---- changes

-- A file that gets another form leaves a catalog sound, and its walks as they were.
abbrev pub ChangesFile : Geometry → Type 0
ChangesFile g = (c : Catalog) (inode : ℕ) (form : InodeForm) → IsSoundCatalog g c → MayBecome g c inode form → KeepsWalks g c (with_form inode form c)

-- So do orphans that are freed.
abbrev pub FreesAlike : Geometry → Type 0
FreesAlike g = (c d : Catalog) → IsSoundCatalog g c → FreesOrphans g c d → KeepsWalks g c d

-- So do some of the inodes that no name stands for.
abbrev pub FreesOneByOne : Geometry → Type 0
FreesOneByOne g = (c d : Catalog) → IsSoundCatalog g c → FreesUnnamed g c d → KeepsWalks g c d

-- The slots of this directory have the dentry at this place, and those of the others are as they were.
pub record HasSlotSet (g : Geometry) (c d : Catalog) (dir place : ℕ) (dentry : DentryForm) : Type 0 where
  pub here : slots_in d dir ≡ slice_set (slots_in c dir) place dentry
  pub others : (other : ℕ) → IsInode g other → other ≢ dir → slots_in d other ≡ slots_in c other

-- A dentry that is set stands at its place among the slots of its directory, and changes no other inode's.
abbrev pub SetsDentry : Geometry → Type 0
SetsDentry g = (c : Catalog) (sector slot dir place : ℕ) (dentry : DentryForm) → IsSoundCatalog g c → slot < SLOTS_PER_SECTOR
    → HasBlock g c dir place (sector / SECTORS_PER_BLOCK) → (c.forms dir).kind ≡ 2 → HasSlots g c dir
    → HasSlotSet g c (with_dentry sector slot dentry c) dir (SLOTS_PER_BLOCK * place + place_in_block sector slot) dentry

-- ---- bytes

-- An image that was written for a catalog has it.
abbrev pub WritesCatalog : Geometry → Type 0
WritesCatalog g = (image : Image) (c : Catalog) → IsWritten g image c → IsCatalogOf g image c

-- And an image that has a catalog has the bytes of its inodes
abbrev pub HasInodeBytes : Geometry → Type 0
HasInodeBytes g = (image : Image) (c : Catalog) → IsCatalogOf g image c → (inode : ℕ) → IsInode g inode → image (sector_of_inode g inode) ≡ inode_bytes (c.forms inode)

-- and of its directories.
abbrev pub HasDirBytes : Geometry → Type 0
HasDirBytes g = (image : Image) (c : Catalog) → IsCatalogOf g image c → (block : ℕ) → IsDirBlock g c block
    → ((sector : ℕ) → IsOfBlock block sector → length (image sector) ≡ SECTOR) → block_at image block ≡ flat_map dentry_bytes (c.slots block)

-- Each image of so many sectors shows the forms of its inodes.
abbrev pub ShowsForms : Geometry → Type 0
ShowsForms g = (sectors : ℕ) (image : Image) → sector_count g ≤ sectors → IsImageOf sectors image → Spells g false (λ _. false) image (catalog_at g image)

-- Where it has a catalog, it spells it, with any blocks of the data area whose slots it reads.
abbrev pub SpellsCatalog : Geometry → Type 0
SpellsCatalog g = (sectors : ℕ) (image : Image) (c : Catalog) (these : ℕ → Bool) → sector_count g ≤ sectors → IsImageOf sectors image → IsCatalogOf g image c
    → ((block : ℕ) → IsTrue (these block) → (first_of_data g ≤ block) × (block < g.blocks) × (read_block image block ≡ map Some (c.slots block))) → Spells g true these image c

-- A block of zeros spells free slots.
abbrev pub SpellsFree : Type 0
SpellsFree = (image : Image) (block : ℕ) → ((sector : ℕ) → IsOfBlock block sector → image sector ≡ empty_sector) → read_block image block ≡ map Some (replicate SLOTS_PER_BLOCK free_slot)

-- ---- writing home

-- A sector that has what folding makes of it already has the same after folding.
abbrev pub FoldsMixes : Geometry → Type 0
FoldsMixes g = (sectors : ℕ) (image mix : Image) (ts : List Committed) → sector_count g ≤ sectors → IsImageOf sectors image → AllByRecursion FitsCommitted ts
    → (sector : ℕ) → (mix sector ≡ image sector) ⊎ (mix sector ≡ folded g ts image sector) → folded g ts mix sector ≡ folded g ts image sector

-- An image that is partly written home stands for the same tree.
abbrev pub StopsAnywhere : ℕ → Type 0
StopsAnywhere sectors = (image mix : Image) (v : Volume) (c : Catalog) → IsImageOf sectors image → IsVolumeOf sectors image v c → IsPartlyHome v image mix → opens sectors mix ≡ opens sectors image

-- The image is taken with this catalog, and stands for the tree that the other one stood for.
pub record StandsStill (sectors : ℕ) (image mix : Image) (v : Volume) (d : Catalog) : Type 0 where
  pub found : Volume
  pub has : IsVolumeOf sectors mix found d
  pub geometry : found.geometry ≡ v.geometry
  pub tree : opens sectors mix ≡ opens sectors image

-- The same where inodes that no name stands for are freed on the way.
abbrev pub StopsFreeing : ℕ → Type 0
StopsFreeing sectors = (image mix : Image) (v : Volume) (c d : Catalog) → IsImageOf sectors image → IsVolumeOf sectors image v c → IsPartlyFreed v image mix c d → StandsStill sectors image mix v d
