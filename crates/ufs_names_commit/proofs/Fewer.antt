-- Fewer blocks in which dentries may be set.
use Rattle.std.proofs.Common.{◌≡◌, ℕ, ◌⊎◌, inl, inr, Bool, true, List}
use Rattle.std.specs.Prelude.{IsTrue}
use Rattle.ufs_bitmap.specs.Blocks.{BlockSet}
use Rattle.ufs_bitmap.specs.Taking.{has}
use Rattle.ufs_layout.specs.Superblock.{geometry_of}
use Rattle.ufs_ledger.specs.Changes.{with_dirs}
use Rattle.ufs_ledger.specs.Kept.{Counts, IsLedgerKept}
use Rattle.ufs_ledger.specs.Ledger.{CoversDirs, Ledger}
use Rattle.ufs_ledger.proofs.Joining.{shrinks}
use Rattle.ufs_model.specs.FileBytes.{bytes_of}
use Rattle.ufs_model.specs.History.{tree_after}
use Rattle.ufs_model.specs.PosixTree.{PosixTree}
use Rattle.ufs_model.specs.declared.data.Entry.{Entry}
use Rattle.ufs_file_commits.specs.Standing.{IsFileBlock, StandsFor}
use Rattle.ufs_file_commits.specs.State.{DurableState, whole_of}
use Rattle.ufs_store.specs.Ledgers.{HasLedger}
use Rattle.ufs_store.specs.State.{StoreState}
use Rattle.ufs_promise_laws.specs.Parts.{Parts, durable_in}
use Rattle.ufs_promise_laws.specs.Stored.{AreNamesStored, IsFileStored, IsFileWhole, IsSpelled, IsStored, with_born}

module _ (l : Ledger) (dirs : ℕ → Bool) (less : (block : ℕ) → IsTrue (dirs block) → IsTrue (l.now.dirs block)) where
  abbrev pub fewer : Ledger
  fewer = record l { now = with_dirs dirs l.now }

  pub file_block : (block : ℕ) → IsFileBlock l block → IsFileBlock fewer block
  file_block block was = record { data_block = was.data_block; no_dir = λ is. was.no_dir (less block is); unheld = was.unheld }

  stands : (f : DurableState) → StandsFor l f → StandsFor fewer f
  stands f stood = record {
    in_range = stood.in_range;
    kind = stood.kind;
    size = stood.size;
    extents = stood.extents;
    blocks = λ place block at. file_block block (stood.blocks place block at);
    clean = stood.clean;
  }

module _ (s : StoreState) (l : Ledger) (dirs : ℕ → Bool) (less : (block : ℕ) → IsTrue (dirs block) → IsTrue (l.now.dirs block)) (led : HasLedger s l) where
  -- The store knows the ledger with fewer of them, too, where those of directories are among them.
  pub fewer_known : CoversDirs (geometry_of l.superblock) (with_dirs dirs l.now) → HasLedger s (fewer l dirs less)
  fewer_known covers = record {
    going = led.going;
    by = record {
      is = shrinks s.sectors s.moments.state l dirs led.by.none led.by.is less covers;
      none = led.by.none;
      in_use = led.by.in_use;
      geometry = led.by.geometry;
      epoch = led.by.epoch;
      later = led.by.later;
      ready = led.by.ready;
    };
    superblock_is = led.superblock_is;
    added = led.added;
    numbered = led.numbered;
    unused = led.unused;
    settled = led.settled;
    older = led.older;
    fits = led.fits;
  }

module _ (l : Ledger) (dirs : ℕ → Bool) (less : (block : ℕ) → IsTrue (dirs block) → IsTrue (l.now.dirs block)) (u : BlockSet) (start : PosixTree) (history : List Entry) (k : Counts) (p : Parts) (st : IsStored l u start history k p) where
  kept : IsLedgerKept (fewer l dirs less) start history k k
  kept = record {
    here = record {
      stored = record {
        made = st.kept.here.stored.made;
        paths = st.kept.here.stored.paths;
        inodes = st.kept.here.stored.inodes;
        unheld = st.kept.here.stored.unheld;
        shown = st.kept.here.stored.shown;
        fresh = st.kept.here.stored.fresh;
      };
      covers = st.kept.here.covers;
    };
    there = st.kept.there;
  }

  names : AreNamesStored l k.numbers p.fresh p.names → AreNamesStored (fewer l dirs less) k.numbers p.fresh p.names
  names (inl none) = inl none
  names (inr n) = inr (record {
    committed = n.committed;
    steps = n.steps;
    has = n.has;
    noted = n.noted;
    may = n.may;
    dirs = n.dirs;
    kinds = n.kinds;
    sound = n.sound;
    live = n.live;
    known = λ inode place block at. n.known inode place block at;
  })

  stored : (f : DurableState) → IsFileStored l k.numbers f → IsFileStored (fewer l dirs less) k.numbers f
  stored f (inl both) = inl (both.0, stands l dirs less f both.1)
  stored f (inr both) = inr (both.0, stands (with_born f.file.inode l) dirs less f both.1)

  whole : (f : DurableState) → IsFileWhole l k.numbers f → IsFileWhole (fewer l dirs less) k.numbers f
  whole f was = record { noted = was.noted; once = was.once; own = was.own; stored = stored f was.stored }

  -- What is stored on the one is on the other, where fresh blocks may be a directory's there.
  pub fewer_stored : ((block : ℕ) → has p.fresh block ≡ true → IsFileBlock (fewer l dirs less) block ⊎ IsSpelled (fewer l dirs less) block) → IsStored (fewer l dirs less) u start history k p
  fewer_stored fresh = record {
    tree = st.tree;
    legal = st.legal;
    kept = kept;
    parts = st.parts;
    names = names st.names;
    counted = st.counted;
    noted = st.noted;
    each = λ file f here. whole (whole_of (bytes_of (tree_after start history).bytes file) (durable_in p.commits f)) (st.each file f here);
    spaced = record {
      apart = st.spaced.apart;
      usable = λ owner block not owns. file_block l dirs less block (st.spaced.usable owner block not owns);
      fresh = fresh;
      unheld = st.spaced.unheld;
      held = st.spaced.held;
    };
  }
