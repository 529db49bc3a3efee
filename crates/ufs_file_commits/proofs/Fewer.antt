-- Ledgers of which a crash leaves no more in the blocks of a file: it is readable there as before.
use Rattle.std.proofs.Common.{◌≡◌, ℕ, List, [], false, Option, Some, sym, refl, subst}
use Rattle.std.specs.Prelude.{◌==◌, if◌then◌else◌}
use Rattle.std.specs.List.{slice_get}
use Rattle.ufs_disk.specs.Disk.{Cell, possible}
use Rattle.ufs_extent.specs.Runs.{blocks_of}
use Rattle.ufs_file.specs.Content.{own_bytes}
use Rattle.ufs_file.specs.Hand.{FileState}
use Rattle.ufs_layout.specs.Superblock.{geometry_of}
use Rattle.ufs_layout.specs.declared.geometry.Geometry.{Geometry}
use Rattle.ufs_layout.specs.declared.superblock.Super.{Super}
use Rattle.ufs_ledger.specs.Changes.{emptied, home_cells, rewritten, settled, settled_cell, tried}
use Rattle.ufs_ledger.specs.Ledger.{IsDataBlock, Ledger, Standing, is_held}
use Rattle.ufs_file_commits.specs.Standing.{HaveOnly, IsFileBlock, IsReadable}
use Rattle.ufs_file_commits.proofs.Standing.{same_block, settled_has}

-- What has only these bytes in the first cell has only these in the second.
abbrev pub IsNoMore : Cell → Cell → Type 0
IsNoMore a b = (bytes : List ℕ) → HaveOnly (possible a) bytes → HaveOnly (possible b) bytes

-- behind a checkpoint, where nothing is folded in the block,
pub home_no_more : (l : Ledger) (home : ℕ → List ℕ) (block : ℕ) → is_held l.now.log block ≡ false → IsNoMore (l.blocks block) (home_cells home l block)
home_no_more l home block free bytes only = subst (λ b. HaveOnly (possible (if b then record { older = []; seen = home block } else settled_cell (l.blocks block))) bytes) (sym free) (settled_has (l.blocks block) bytes only)

-- and behind a write of another block
elsewhere_no_more : (block : ℕ) (written : List ℕ) (cells : ℕ → Cell) (other : ℕ) → (other == block) ≡ false → IsNoMore (cells other) (rewritten block written cells other)
elsewhere_no_more block written cells other apart bytes only = subst (λ b. HaveOnly (possible (if b then record { older = possible (cells other); seen = written } else cells other)) bytes) (sym apart) only

-- ---- a file

-- Its blocks are a file's still, and those that aren't dirty have no more.
pub readable_on : (l m : Ledger) (f : FileState) → ((block : ℕ) → IsFileBlock l block → IsFileBlock m block)
    → ((place block : ℕ) → slice_get (blocks_of f.extents) place ≡ Some block → slice_get f.content.dirty place ≡ Some false → is_held l.now.log block ≡ false → IsNoMore (l.blocks block) (m.blocks block)) → IsReadable l f → IsReadable m f
readable_on l m f goes less readable = record {
  blocks = λ place block at clean. goes block (readable.blocks place block at clean);
  clean = λ place block at clean. less place block at clean (readable.blocks place block at clean).unheld (own_bytes f.content.bytes place) (readable.clean place block at clean);
}

-- a barrier, and a commit behind it of which it isn't known whether it passed
pub readable_settled : (l : Ledger) (maybe : Option Standing) (f : FileState) → IsReadable l f → IsReadable (record (settled l) { maybe = maybe }) f
readable_settled l maybe f readable =
    let m : Ledger = record (settled l) { maybe = maybe } in
    readable_on l m f (λ block was. same_block l m block refl refl was) (λ place block at clean free. settled_has (l.blocks block)) readable

-- a checkpoint of which it isn't known
pub readable_begun : (l : Ledger) (maybe : Option Standing) (home : ℕ → List ℕ) (f : FileState) → IsReadable l f → IsReadable (record l { maybe = maybe; blocks = home_cells home l }) f
readable_begun l maybe home f readable =
    let m : Ledger = record l { maybe = maybe; blocks = home_cells home l } in
    readable_on l m f (λ block was. same_block l m block refl refl was) (λ place block at clean free. home_no_more l home block free) readable

-- one that passed
pub readable_home : (l : Ledger) (superblock : Super) (home : ℕ → List ℕ) (f : FileState) → geometry_of superblock ≡ geometry_of l.superblock → IsReadable l f → IsReadable (emptied superblock home l) f
readable_home l superblock home f same readable =
    readable_on l (emptied superblock home l) f
    (λ block was. record { data_block = subst (λ (g : Geometry). IsDataBlock g block) (sym same) was.data_block; no_dir = was.no_dir; unheld = refl })
    (λ place block at clean free. home_no_more l home block free) readable

-- a write of other blocks that failed
pub readable_tried : (l : Ledger) (block : ℕ) (bytes reads : List ℕ) (f : FileState) → ((place other : ℕ) → slice_get (blocks_of f.extents) place ≡ Some other → slice_get f.content.dirty place ≡ Some false → (other == block) ≡ false)
    → IsReadable l f → IsReadable (tried block bytes reads l) f
readable_tried l block bytes reads f apart readable =
    readable_on l (tried block bytes reads l) f (λ other was. same_block l (tried block bytes reads l) other refl refl was)
    (λ place other at clean free now only. elsewhere_no_more block reads (rewritten block bytes l.blocks) other (apart place other at clean) now (elsewhere_no_more block bytes l.blocks other (apart place other at clean) now only)) readable
