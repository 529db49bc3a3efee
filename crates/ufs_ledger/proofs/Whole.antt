-- How a whole ledger keeps the promise.
use Rattle.std.proofs.Common.{◌≡◌, ℕ, ◌+◌, ◌*◌, ◌<◌, inl, inr, List, [], ◌∷◌, ◌++◌, false, Option, Some, None, ap, sym, refl, ◌∙◌, subst}
use Rattle.std.specs.Prelude.{◌/◌, ◌%◌, if◌then◌else◌}
use Rattle.std.specs.List.{slice_get}
use Rattle.ufs_disk.specs.Disk.{Cell, possible}
use Rattle.ufs_layout.specs.Superblock.{geometry_of}
use Rattle.ufs_image.specs.Nodes.{blocks_of}
use Rattle.ufs_layout.specs.declared.geometry.Geometry.{Geometry}
use Rattle.ufs_layout.specs.declared.superblock.Super.{Super}
use Rattle.ufs_layout.specs.declared.records.Committed.{Committed}
use Rattle.ufs_model.specs.PosixTree.{PosixTree, IsTree}
use Rattle.ufs_model.specs.FileBytes.{bytes_of}
use Rattle.ufs_model.specs.Laws.{KeepsTrees}
use Rattle.ufs_model.specs.History.{IsLegalFrom}
use Rattle.ufs_model.specs.declared.data.Entry.{Entry}
use Rattle.ufs_crash_laws.specs.FileChanges.{all_changed, byte_at}
use Rattle.ufs_crash_laws.specs.Changes.{changes_of}
use Rattle.ufs_crash_laws.specs.declared.data.FileChange.{FileChange}
use Rattle.ufs_ledger.specs.Ledger.{HasByte, is_held, Standing, with_one, Ledger}
use Rattle.ufs_ledger.specs.Changes.{settled_cell, settled, home_cells, without_log, written, committing, committed_one, beginning, emptied}
use Rattle.ufs_ledger.specs.Kept.{Numbers, shape_of, MayHave, AlwaysShows, IsStandKept, Counts, IsKeptBy, IsLedgerKept}
use Rattle.ufs_ledger.specs.Laws.{StandsOn}
use Rattle.ufs_ledger.proofs.Promise.{fewer_kept, writing_kept, commit_kept}

-- a settled cell has no more
settled_less : (cell : Cell) (place byte : ℕ) → HasByte (possible (settled_cell cell)) place byte → HasByte (possible cell) place byte
settled_less cell place byte (inl e) = last cell.older
  where
    last : (older : List (List ℕ)) → HasByte (older ++ cell.seen ∷ []) place byte
    last [] = inl e
    last (x ∷ older) = inr (last older)
settled_less cell place byte (inr none) = absurd none

-- ---- a checkpoint

module _ (g : Geometry) (l : Ledger) (home : ℕ → List ℕ) (start : PosixTree) (history : List Entry) (names : ℕ) (files : ℕ → ℕ) (n : Numbers) (kept : IsStandKept g l.blocks l.now start history names files n) where
  homely : (block place byte : ℕ) → is_held l.now.log block ≡ false → HasByte (possible (home_cells home l block)) place byte → HasByte (possible (l.blocks block)) place byte
  homely block place byte free has =
      settled_less (l.blocks block) place byte (subst (λ b. HasByte (possible (if b then record { older = []; seen = home block } else settled_cell (l.blocks block))) place byte) free has)

  at_file : (o : Option ℕ) → ((inode : ℕ) → o ≡ Some inode → (block place : ℕ) → slice_get (blocks_of (l.now.catalog.forms inode)) place ≡ Some block → is_held l.now.log block ≡ false)
      → (opening : List ℕ) (changes : List FileChange) (count : ℕ) → AlwaysShows l.blocks (shape_of l.now.catalog o) opening changes count → AlwaysShows (home_cells home l) (shape_of l.now.catalog o) opening changes count
  at_file o unheld opening changes count always = record { made = always.made; size = always.size; each = λ place byte under may. always.each place byte under (by o unheld place byte may) }
    where
      by : (o : Option ℕ) → ((inode : ℕ) → o ≡ Some inode → (block place : ℕ) → slice_get (blocks_of (l.now.catalog.forms inode)) place ≡ Some block → is_held l.now.log block ≡ false)
          → (place byte : ℕ) → MayHave (home_cells home l) (shape_of l.now.catalog o) place byte → MayHave l.blocks (shape_of l.now.catalog o) place byte
      by None unheld place byte may = absurd (let off = may.there in none off)
        where
          none : slice_get (shape_of l.now.catalog None).holds (place / 4096) ≡ Some may.block → ⊥
          none e = cc
      by (Some inode) unheld place byte may = record { block = may.block; there = may.there; has = homely may.block (place % 4096) byte (unheld inode refl may.block (place / 4096) may.there) may.has }

  emptied_kept : (log : List Committed) → ((block : ℕ) → is_held l.now.log block ≡ false → is_held log block ≡ false) → IsStandKept g (home_cells home l) (record (l.now) { log = log }) start history names files n
  emptied_kept log less = record {
    stored = record {
      made = kept.stored.made;
      paths = kept.stored.paths;
      inodes = kept.stored.inodes;
      unheld = λ inode place block has file. less block (kept.stored.unheld inode place block has file);
      shown = λ count file from to named. at_file (n.inode file)
          (λ inode at block place there. let is = kept.stored.inodes file inode at in kept.stored.unheld inode place block (record { in_range = is.0; there = there }) is.1)
          (bytes_of start.bytes file) (changes_of file start history) (files file) (kept.stored.shown count file from to named);
      fresh = kept.stored.fresh;
    };
    covers = kept.covers;
  }

-- ---- a write and a barrier

no_other : (l : Ledger) → l.maybe ≡ None → (other : Standing) → l.maybe ≡ Some other → ⊥
no_other l none other some = let off = sym none ∙ some in cc

pub ledger_kept : (l : Ledger) (start : PosixTree) (history : List Entry) (now maybe : Counts) → l.maybe ≡ None → IsLedgerKept l start history now maybe
    → ((block : ℕ) (bytes : List ℕ)
    → ((file place : ℕ) → slice_get (shape_of l.now.catalog (now.numbers.inode file)).holds place ≡ Some block → (at : ℕ) → at < 4096 → 4096 * place + at < (shape_of l.now.catalog (now.numbers.inode file)).size
    → byte_at bytes at ≡ byte_at (all_changed (bytes_of start.bytes file) (changes_of file start history)) (4096 * place + at))
    → IsLedgerKept (written block bytes l) start history now maybe)
    × IsLedgerKept (settled l) start history now maybe
ledger_kept l start history now maybe none kept = (
  λ block bytes is. record {
    here = writing_kept (geometry_of l.superblock) l.blocks l.now start history now.names now.files now.numbers kept.here block bytes is;
    there = λ other some. absurd (no_other l none other some);
  },
  record {
    here = fewer_kept (geometry_of l.superblock) l.blocks l.now start history now.names now.files now.numbers kept.here (settled l).blocks (λ block place byte has. settled_less (l.blocks block) place byte has);
    there = λ other some. absurd (no_other l none other some);
  },
)

-- ---- a commit

pub ledger_goes_on : (l : Ledger) (t : Committed) (start : PosixTree) (history : List Entry) (now next : Counts) → KeepsTrees → l.maybe ≡ None → IsTree start → IsLegalFrom 0 start history → IsLedgerKept l start history now now
    → StandsOn (geometry_of l.superblock) (settled l).blocks l.now (with_one (geometry_of l.superblock) t l.now) start history now.names next.names now.files next.files now.numbers next.numbers
    → IsLedgerKept (committing t (settled l)) start history now next × IsLedgerKept (committed_one t l) start history next next
ledger_goes_on l t start history now next keeps none is legal kept on = (
  record {
    here = still;
    there = λ other some.
        let same : record { superblock = l.superblock; stand = with_one (geometry_of l.superblock) t l.now } ≡ other = cc in
        (sym (ap (λ (o : Standing). geometry_of o.superblock) same), subst (λ (o : Standing). IsKeptBy (geometry_of l.superblock) (settled l).blocks o.stand start history next) same after);
  },
  record { here = after; there = λ other some. absurd (no_other l none other some) },
)
  where
    still : IsKeptBy (geometry_of l.superblock) (settled l).blocks l.now start history now
    still = fewer_kept (geometry_of l.superblock) l.blocks l.now start history now.names now.files now.numbers kept.here (settled l).blocks (λ block place byte has. settled_less (l.blocks block) place byte has)

    after : IsKeptBy (geometry_of l.superblock) (settled l).blocks (with_one (geometry_of l.superblock) t l.now) start history next
    after = commit_kept (geometry_of l.superblock) (settled l).blocks l.now start history now.names now.files now.numbers still keeps is legal (with_one (geometry_of l.superblock) t l.now) next.names next.files next.numbers on

-- ---- a checkpoint of the whole

module _ (l : Ledger) (superblock : Super) (home : ℕ → List ℕ) (start : PosixTree) (history : List Entry) (now maybe : Counts) (same : geometry_of superblock ≡ geometry_of l.superblock) (kept : IsLedgerKept l start history now maybe) where
  emptied_there : IsKeptBy (geometry_of l.superblock) (home_cells home l) (without_log l.now) start history now
  emptied_there = emptied_kept (geometry_of l.superblock) l home start history now.names now.files now.numbers kept.here [] (λ block free. refl)

  pub beginning_kept : IsLedgerKept (beginning superblock home l) start history now now
  beginning_kept = record {
    here = emptied_kept (geometry_of l.superblock) l home start history now.names now.files now.numbers kept.here l.now.log (λ block free. free);
    there = λ other some.
        let is : record { superblock = superblock; stand = without_log l.now } ≡ other = cc in
        (sym (ap (λ (o : Standing). geometry_of o.superblock) is) ∙ same, subst (λ (o : Standing). IsKeptBy (geometry_of l.superblock) (home_cells home l) o.stand start history now) is emptied_there);
  }

  pub emptied_is_kept : IsLedgerKept (emptied superblock home l) start history now now
  emptied_is_kept = record {
    here = subst (λ g. IsKeptBy g (home_cells home l) (without_log l.now) start history now) (sym same) emptied_there;
    there = λ other some. absurd (let none = some in cc);
  }
