-- What is read of the files of a server on its disk, also where a call of the disk failed.
use Rattle.std.proofs.Common.{◌≡◌, ℕ, ◌-◌, ◌*◌, ◌<◌, inl, inr, Bool, true, false, List, Option, Some, length, take, ap, refl, sym, ◌∙◌, arith}
use Rattle.std.specs.Prelude.{◌==◌, drop}
use Rattle.std.specs.List.{slice_get}
use Rattle.std.specs.FinMap as map
use Rattle.std.proofs.lemmas.Grind.{same_number_lists}
use Rattle.std.proofs.lemmas.List.{get_or-take, length-drop, length-take}
use Rattle.ufs_bitmap.specs.Blocks.{BlockSet}
use Rattle.ufs_bitmap.specs.Taking.{has}
use Rattle.ufs_extent.specs.Runs.{blocks_of}
use Rattle.ufs_file.specs.Content.{own_bytes}
use Rattle.ufs_file.specs.Hand.{FileState, whole_as}
use Rattle.ufs_image.proofs.Empty.{apart_false}
use Rattle.ufs_layout.specs.Superblock.{geometry_of}
use Rattle.ufs_layout.specs.declared.superblock.Super.{Super}
use Rattle.ufs_ledger.specs.Changes.{emptied, home_cells, settled, tried}
use Rattle.ufs_ledger.specs.Kept.{Counts}
use Rattle.ufs_ledger.specs.Ledger.{IsLedgerOf, Ledger, Standing}
use Rattle.ufs_ledger.proofs.Mixing.{has_byte_last}
use Rattle.ufs_model.specs.FileBytes.{bytes_of}
use Rattle.ufs_model.specs.History.{tree_after}
use Rattle.ufs_model.specs.PosixTree.{PosixTree}
use Rattle.ufs_model.specs.declared.data.Entry.{Entry}
use Rattle.ufs_crash_laws.specs.FileChanges.{byte_at}
use Rattle.ufs_file_commits.specs.Standing.{IsReadable}
use Rattle.ufs_file_commits.specs.State.{whole_of}
use Rattle.ufs_file_commits.proofs.Fewer.{readable_begun, readable_home, readable_settled, readable_tried}
use Rattle.ufs_promise_laws.specs.OnDisk.{AreReadable, IsOnDisk}
use Rattle.ufs_promise_laws.specs.OnDiskLaws.{OnDiskReads}
use Rattle.ufs_promise_laws.specs.Parts.{OneFile, Parts, TheNames, durable_in}
use Rattle.ufs_promise_laws.specs.Stored.{IsFileStored, IsStored}
use Rattle.ufs_promise_laws.proofs.Places.{held_at}

-- ---- calls of the disk, of which it may not be known whether they passed

pub settled_readable : (l : Ledger) (maybe : Option Standing) (t : PosixTree) (p : Parts) → AreReadable l t p → AreReadable (record (settled l) { maybe = maybe }) t p
settled_readable l maybe t p readable file s here = readable_settled l maybe (whole_as (bytes_of t.bytes file) s) (readable file s here)

pub begun_readable : (l : Ledger) (maybe : Option Standing) (home : ℕ → List ℕ) (t : PosixTree) (p : Parts) → AreReadable l t p → AreReadable (record l { maybe = maybe; blocks = home_cells home l }) t p
begun_readable l maybe home t p readable file s here = readable_begun l maybe home (whole_as (bytes_of t.bytes file) s) (readable file s here)

pub home_readable : (l : Ledger) (superblock : Super) (home : ℕ → List ℕ) (t : PosixTree) (p : Parts) → geometry_of superblock ≡ geometry_of l.superblock → AreReadable l t p → AreReadable (emptied superblock home l) t p
home_readable l superblock home t p same readable file s here = readable_home l superblock home (whole_as (bytes_of t.bytes file) s) same (readable file s here)

module _ (l : Ledger) (u : BlockSet) (start : PosixTree) (history : List Entry) (k : Counts) (p : Parts) (st : IsStored l u start history k p) where
  -- a file's block isn't fresh
  pub no_fresh : (file : ℕ) (s : FileState) → map.get p.files file ≡ Some s → (place block : ℕ) → slice_get (blocks_of s.extents) place ≡ Some block → has p.fresh block ≡ false
  no_fresh file s here place block at = by (has p.fresh block) refl
    where
      by : (b : Bool) → has p.fresh block ≡ b → has p.fresh block ≡ false
      by false e = e
      by true e = (let clash = st.spaced.apart (OneFile file) TheNames block (record { hand = s; here = here; held = held_at (durable_in p.commits s) place block at }) (inl e) in absurd cc)

  abbrev tree : PosixTree
  tree = tree_after start history

  pub stored_readable : AreReadable l tree p
  stored_readable file s here = by (st.each file s here).stored
    where
      by : IsFileStored l k.numbers (whole_of (bytes_of tree.bytes file) (durable_in p.commits s)) → IsReadable l (whole_as (bytes_of tree.bytes file) s)
      by (inl both) = record { blocks = λ place block at clean. both.1.blocks place block at; clean = both.1.clean }
      by (inr both) = record {
        blocks = λ place block at clean. let was = both.1.blocks place block at in record { data_block = was.data_block; no_dir = was.no_dir; unheld = was.unheld };
        clean = both.1.clean;
      }

  -- behind a write of a fresh block that failed
  pub tried_readable : (block : ℕ) (bytes seen : List ℕ) → has p.fresh block ≡ true → AreReadable (tried block bytes seen l) tree p
  tried_readable block bytes seen fresh file s here = readable_tried l block bytes seen (whole_as (bytes_of tree.bytes file) s) (λ place other at clean. apart place other at) (stored_readable file s here)
    where
      apart : (place other : ℕ) → slice_get (blocks_of s.extents) place ≡ Some other → (other == block) ≡ false
      apart place other at = apart_false other block (λ is. let no = no_fresh file s here place other at in let same = ap (has p.fresh) is in cc)

-- ---- a read

pub on_disk_reads : OnDiskReads
on_disk_reads s start history p file f place block bytes on told size here at clean = by on
  where
    whole : List ℕ
    whole = bytes_of (tree_after start history).bytes file

    rest : ℕ
    rest = length whole - 4096 * place

    own_length : length (own_bytes whole place) ≡ length (take rest bytes)
    own_length = omega (arith, size, length-take rest bytes, length-take 4096 (drop (4096 * place) whole), length-drop (4096 * place) whole)

    read : (l : Ledger) → IsLedgerOf s.sectors s.moments.state l → AreReadable l (tree_after start history) p → take rest bytes ≡ own_bytes whole place
    read l is readable = same_number_lists (take rest bytes) (own_bytes whole place) (sym own_length)
        (λ k less.
        let under : k < rest = omega (arith, less, length-take rest bytes) in
        get_or-take rest bytes k 0 under
        ∙ (readable file f here).clean place block at clean k (byte_at bytes k) (omega (arith, less, own_length)) (has_byte_last (l.blocks block).older (l.blocks block).seen k (byte_at bytes k) (ap (λ (b : List ℕ). byte_at b k) seen)))
      where
        seen : bytes ≡ (l.blocks block).seen
        seen = let is_block = (readable file f here).blocks place block at clean in told l is is_block.data_block is_block.unheld

    by : IsOnDisk s start history p → take rest bytes ≡ own_bytes whole place
    by (inl go) = read go.ledger go.has.by.is (stored_readable go.ledger s.unassigned.free start history go.counts p go.stored)
    by (inr st) = read st.ledger st.has st.clean
