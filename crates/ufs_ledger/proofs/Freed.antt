-- A directory's new block keeps the promise.
use Rattle.std.proofs.Common.{◌≡◌, ℕ, ◌≤◌, List, ap, sym, ◌∙◌, arith}
use Rattle.std.specs.Prelude.{IsTrue}
use Rattle.std.specs.Option.{option_map}
use Rattle.ufs_disk.specs.Disk.{Cell}
use Rattle.ufs_layout.specs.Areas.{IsGeometry}
use Rattle.ufs_layout.specs.declared.geometry.Geometry.{Geometry}
use Rattle.ufs_model.specs.PosixTree.{PosixTree}
use Rattle.ufs_model.specs.declared.data.Entry.{Entry}
use Rattle.ufs_image.specs.Sound.{IsSoundCatalog}
use Rattle.ufs_image.specs.Walks.{inode_of}
use Rattle.ufs_image.proofs.Changed.{walks_same}
use Rattle.ufs_image.proofs.Depth.{root_in_range}
use Rattle.ufs_image.proofs.Found.{reached}
use Rattle.ufs_ledger.specs.Ledger.{Stand, CoversDirs}
use Rattle.ufs_ledger.specs.Changes.{with_free_block}
use Rattle.ufs_ledger.specs.Kept.{Numbers, numbered, IsStandKept}
use Rattle.ufs_ledger.proofs.Joining.{same_slots}

module _ (g : Geometry) (s : Stand) (block : ℕ) (covers : CoversDirs g s) (no_dir : IsTrue (s.dirs block) → ⊥) (sound : IsSoundCatalog g s.catalog) (is : IsGeometry g) where
  walks : (names : List (List ℕ)) → inode_of (with_free_block block s).catalog names ≡ inode_of s.catalog names
  walks = walks_same s.catalog (with_free_block block s).catalog (λ k met. same_slots g s block covers no_dir sound k
      (reached g s.catalog sound 1 met.names k (root_in_range g s.catalog sound (let least = is.least_inodes in let some : 1 ≤ g.inodes = omega (arith, least) in some)) met.met).0)

  pub free_block_kept : (blocks : ℕ → Cell) (start : PosixTree) (history : List Entry) (names : ℕ) (files : ℕ → ℕ) (n : Numbers) → IsStandKept g blocks s start history names files n → IsStandKept g blocks (with_free_block block s) start history names files n
  free_block_kept blocks start history names files n kept = record {
    stored = record {
      made = kept.stored.made;
      paths = record {
        there = λ ns pieces. kept.stored.paths.there ns pieces ∙ ap (option_map (numbered s.catalog n)) (sym (walks ns));
        only = kept.stored.paths.only;
        back = λ ns inode pieces met file. kept.stored.paths.back ns inode pieces (sym (walks ns) ∙ met) file;
      };
      inodes = kept.stored.inodes;
      unheld = λ inode place b has file. kept.stored.unheld inode place b (record { in_range = has.in_range; there = has.there }) file;
      shown = kept.stored.shown;
      fresh = kept.stored.fresh;
    };
    covers = kept.covers;
  }
