-- Another ledger of the same catalog.
use Rattle.std.proofs.Common.{◌≡◌, ℕ, ◌⊎◌, inl, inr, Bool, false, List, Some, ap, sym, refl, ◌∙◌, subst}
use Rattle.std.specs.Prelude.{IsTrue}
use Rattle.std.specs.List.{slice_get}
use Rattle.std.specs.FinMap as map
use Rattle.ufs_bitmap.specs.Blocks.{BlockSet}
use Rattle.ufs_bitmap.specs.Taking.{has}
use Rattle.ufs_disk.specs.Disk.{Cell, possible}
use Rattle.ufs_extent.specs.Runs.{blocks_of}
use Rattle.ufs_file.specs.Hand.{FileState}
use Rattle.ufs_image.specs.Catalog.{Catalog, HasBlock}
use Rattle.ufs_image.specs.Changes.{IsTakenBlock}
use Rattle.ufs_image.specs.Folding.{with_form}
use Rattle.ufs_layout.specs.Superblock.{geometry_of}
use Rattle.ufs_layout.specs.declared.geometry.Geometry.{Geometry}
use Rattle.ufs_ledger.specs.Kept.{Counts, IsLedgerKept}
use Rattle.ufs_ledger.specs.Ledger.{IsDataBlock, Ledger, is_held}
use Rattle.ufs_model.specs.FileBytes.{bytes_of}
use Rattle.ufs_model.specs.History.{tree_after}
use Rattle.ufs_model.specs.PosixTree.{PosixTree}
use Rattle.ufs_model.specs.declared.data.Entry.{Entry}
use Rattle.ufs_dir_tree.specs.Steps.{after_all}
use Rattle.ufs_promise_laws.specs.Held.{HasSoundNames, HasState, MaySteps}
use Rattle.ufs_file_commits.specs.Standing.{HaveOnly, IsFileBlock, StandsFor}
use Rattle.ufs_file_commits.specs.State.{DurableState, whole_of}
use Rattle.ufs_file_commits.proofs.Others.{stands_still}
use Rattle.ufs_promise_laws.specs.Parts.{Parts, durable_in}
use Rattle.ufs_promise_laws.specs.Stored.{AreNamesNoted, AreNamesStored, IsFileStored, IsFileWhole, IsSpelled, IsStored, empty_form, with_born, with_fresh, with_none}
use Rattle.ufs_promise_laws.proofs.Reading.{no_fresh}

-- The ledger has the same catalog, with its dentries in the same blocks, and a crash leaves no more in those of files.
pub record IsAlike (l m : Ledger) (fresh : List ℕ) : Type 0 where
  pub superblock : geometry_of m.superblock ≡ geometry_of l.superblock
  pub catalog : m.now.catalog ≡ l.now.catalog
  pub dirs : m.now.dirs ≡ l.now.dirs
  pub unheld : (block : ℕ) → is_held l.now.log block ≡ false → is_held m.now.log block ≡ false
  pub less : (block : ℕ) (bytes : List ℕ) → has fresh block ≡ false → is_held l.now.log block ≡ false → HaveOnly (possible (l.blocks block)) bytes → HaveOnly (possible (m.blocks block)) bytes

-- The ledger has the same catalog, with its dentries in the same blocks, and each file is stored there.
module _ (l m : Ledger) (u : BlockSet) (start : PosixTree) (history : List Entry) (k : Counts) (p : Parts) (st : IsStored l u start history k p)
    (superblock : geometry_of m.superblock ≡ geometry_of l.superblock) (catalog : m.now.catalog ≡ l.now.catalog) (dirs : m.now.dirs ≡ l.now.dirs) (unheld : (block : ℕ) → is_held l.now.log block ≡ false → is_held m.now.log block ≡ false)
    (stored : (file : ℕ) (s : FileState) → map.get p.files file ≡ Some s → IsFileStored l k.numbers (whole_of (bytes_of (tree_after start history).bytes file) (durable_in p.commits s)) → IsFileStored m k.numbers (whole_of (bytes_of (tree_after start history).bytes file) (durable_in p.commits s))) where
  abbrev bytes : ℕ → List ℕ
  bytes file = bytes_of (tree_after start history).bytes file

  moved : (P : Geometry → Catalog → Type 0) → P (geometry_of l.superblock) l.now.catalog → P (geometry_of m.superblock) m.now.catalog
  moved P x = subst (λ (c : Catalog). P (geometry_of m.superblock) c) (sym catalog) (subst (λ (g : Geometry). P g l.now.catalog) (sym superblock) x)

  back : (P : Geometry → Catalog → Type 0) → P (geometry_of m.superblock) m.now.catalog → P (geometry_of l.superblock) l.now.catalog
  back P x = subst (λ (c : Catalog). P (geometry_of l.superblock) c) catalog (subst (λ (g : Geometry). P g m.now.catalog) superblock x)

  file_block : (block : ℕ) → IsFileBlock l block → IsFileBlock m block
  file_block block was = record {
    data_block = moved (λ g c. IsDataBlock g block) was.data_block;
    no_dir = subst (λ (d : ℕ → Bool). IsTrue (d block) → ⊥) (sym dirs) was.no_dir;
    unheld = unheld block was.unheld;
  }

  whole : (file : ℕ) (s : FileState) → map.get p.files file ≡ Some s → IsFileWhole l k.numbers (whole_of (bytes file) (durable_in p.commits s)) → IsFileWhole m k.numbers (whole_of (bytes file) (durable_in p.commits s))
  whole file s here was = record {
    noted = was.noted;
    once = was.once;
    own = λ place block at. by place block (was.own place block at);
    stored = stored file s here was.stored;
  }
    where
      by : (place block : ℕ) → (slice_get (blocks_of (durable_in p.commits s).log.committed.runs) place ≡ Some block) ⊎ (IsTakenBlock (geometry_of l.superblock) l.now.catalog block → ⊥)
          → (slice_get (blocks_of (durable_in p.commits s).log.committed.runs) place ≡ Some block) ⊎ (IsTakenBlock (geometry_of m.superblock) m.now.catalog block → ⊥)
      by place block (inl there) = inl there
      by place block (inr none) = inr (λ taken. none (back (λ g c. IsTakenBlock g c block) taken))

  noted : AreNamesNoted l k.numbers p.fresh p.names → AreNamesNoted m k.numbers p.fresh p.names
  noted n = record {
    committed = n.committed;
    steps = n.steps;
    has = moved (λ g c. HasState g c (with_none n.committed)) n.has;
    noted = n.noted;
    may = moved (λ g c. MaySteps g (with_fresh p.fresh n.committed) n.steps) n.may;
    dirs = n.dirs;
    kinds = n.kinds;
    sound = moved (λ g c. HasSoundNames g (after_all n.steps (with_fresh p.fresh n.committed))) n.sound;
    live = n.live;
    known = λ inode place block at. n.known inode place block (back (λ g c. HasBlock g c inode place block) at);
  }

  names : AreNamesStored l k.numbers p.fresh p.names → AreNamesStored m k.numbers p.fresh p.names
  names (inl off) = inl off
  names (inr n) = inr (noted n)

  spelled : (block : ℕ) → IsFileBlock l block ⊎ IsSpelled l block → IsFileBlock m block ⊎ IsSpelled m block
  spelled block (inl free) = inl (file_block block free)
  spelled block (inr is) = inr (record {
    data_block = moved (λ g c. IsDataBlock g block) is.data_block;
    spelled = subst (λ (d : ℕ → Bool). IsTrue (d block)) (sym dirs) is.spelled;
    slots = ap (λ (c : Catalog). c.slots block) catalog ∙ is.slots;
    unheld = unheld block is.unheld;
  })

  pub same_stored : IsLedgerKept m start history k k → IsStored m u start history k p
  same_stored kept = record {
    tree = st.tree;
    legal = st.legal;
    kept = kept;
    parts = st.parts;
    names = names st.names;
    counted = st.counted;
    noted = st.noted;
    each = λ file s here. whole file s here (st.each file s here);
    spaced = record {
      apart = st.spaced.apart;
      usable = λ owner block not owns. file_block block (st.spaced.usable owner block not owns);
      fresh = λ block is. spelled block (st.spaced.fresh block is);
      unheld = λ inode place block is at. st.spaced.unheld inode place block is (back (λ g c. HasBlock g c inode place block) at);
      held = λ inode place block at. st.spaced.held inode place block (back (λ g c. HasBlock g c inode place block) at);
    };
  }

module _ (l m : Ledger) (u : BlockSet) (start : PosixTree) (history : List Entry) (k : Counts) (p : Parts) (st : IsStored l u start history k p) (alike : IsAlike l m p.fresh) where
  stands : (a b : Ledger) (h : DurableState) → ((place block : ℕ) → slice_get (blocks_of h.file.extents) place ≡ Some block → has p.fresh block ≡ false)
      → a.superblock ≡ l.superblock → b.superblock ≡ m.superblock → a.blocks ≡ l.blocks → b.blocks ≡ m.blocks → a.now.dirs ≡ l.now.dirs → b.now.dirs ≡ m.now.dirs → a.now.log ≡ l.now.log → b.now.log ≡ m.now.log
      → b.now.catalog.forms h.file.inode ≡ a.now.catalog.forms h.file.inode → StandsFor a h → StandsFor b h
  stands a b h off ha hb ba bb da db la lb form stood = stands_still a b h (ap geometry_of hb ∙ alike.superblock ∙ sym (ap geometry_of ha)) form (db ∙ alike.dirs ∙ sym da)
      (λ block free. ap (λ log. is_held log block) lb ∙ alike.unheld block (sym (ap (λ log. is_held log block) la) ∙ free))
      (λ place block bytes at free only. subst (λ (cells : ℕ → Cell). HaveOnly (possible (cells block)) bytes) (sym bb)
      (alike.less block bytes (off place block at) (sym (ap (λ log. is_held log block) la) ∙ free) (subst (λ (cells : ℕ → Cell). HaveOnly (possible (cells block)) bytes) ba only)))
      stood

  abbrev whole_at : ℕ → FileState → DurableState
  whole_at file s = whole_of (bytes_of (tree_after start history).bytes file) (durable_in p.commits s)

  stored : (file : ℕ) (s : FileState) → map.get p.files file ≡ Some s → IsFileStored l k.numbers (whole_at file s) → IsFileStored m k.numbers (whole_at file s)
  stored file s here (inl both) = inl (both.0, stands l m (whole_at file s) (no_fresh l u start history k p st file s here) refl refl refl refl refl refl refl refl (ap (λ (c : Catalog). c.forms s.inode) alike.catalog) both.1)
  stored file s here (inr both) = inr (
    both.0,
    stands (with_born s.inode l) (with_born s.inode m) (whole_at file s) (no_fresh l u start history k p st file s here) refl refl refl refl refl refl refl refl
        (ap (λ (c : Catalog). (with_form s.inode empty_form c).forms s.inode) alike.catalog) both.1,
  )

  pub alike_stored : IsLedgerKept m start history k k → IsStored m u start history k p
  alike_stored kept = same_stored l m u start history k p st alike.superblock alike.catalog alike.dirs alike.unheld stored kept
