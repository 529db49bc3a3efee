-- Fresh blocks are written, settled and spelled.
use Rattle.std.proofs.Common.{◌≡◌, ◌≢◌, ℕ, ◌⊎◌, inl, inr, Bool, true, false, List, [], Option, Some, None, ap, sym, refl, ◌∙◌, subst, arith}
use Rattle.std.specs.Prelude.{◌==◌, IsTrue, if◌then◌else◌, replicate}
use Rattle.std.specs.List.{slice_get}
use Rattle.std.specs.FinMap as map
use Rattle.std.proofs.lemmas.Bool.Decides.{nat_tests}
use Rattle.ufs_base.specs.declared.sizes.TheConstants.{SLOTS_PER_BLOCK}
use Rattle.ufs_bitmap.specs.Blocks.{BlockSet}
use Rattle.ufs_bitmap.specs.Taking.{has}
use Rattle.ufs_disk.specs.Disk.{Cell, possible}
use Rattle.ufs_extent.specs.Runs.{blocks_of}
use Rattle.ufs_file.specs.Content.{own_bytes}
use Rattle.ufs_file.specs.Hand.{FileState}
use Rattle.ufs_files.proofs.MapLemmas.{one_or_apart}
use Rattle.ufs_image.specs.Catalog.{IsInode}
use Rattle.ufs_image.specs.Changes.{IsTakenBlock}
use Rattle.ufs_image.specs.Sound.{IsSoundCatalog}
use Rattle.ufs_image.proofs.Empty.{apart_false}
use Rattle.ufs_layout.specs.DentryForm.{free_slot}
use Rattle.ufs_layout.specs.InodeForm.{InodeForm}
use Rattle.ufs_layout.specs.Superblock.{geometry_of}
use Rattle.ufs_layout.specs.declared.geometry.Geometry.{Geometry}
use Rattle.ufs_layout.specs.declared.superblock.Super.{Super}
use Rattle.ufs_ledger.specs.Changes.{emptied, settled, settled_cell, with_free_block, written}
use Rattle.ufs_ledger.specs.Kept.{Counts, IsKeptBy, IsLedgerKept, shape_of}
use Rattle.ufs_ledger.specs.Laws.{EmptiedIsKept, FreeBlocksKeep, SettledIsKept, WrittenIsKept}
use Rattle.ufs_ledger.specs.Ledger.{CoversDirs, Ledger}
use Rattle.ufs_model.specs.FileBytes.{bytes_of}
use Rattle.ufs_model.specs.History.{tree_after}
use Rattle.ufs_model.specs.PosixTree.{PosixTree}
use Rattle.ufs_model.specs.declared.data.Entry.{Entry}
use Rattle.ufs_promise_laws.specs.ChangeLaws.{ZerosAreTaken}
use Rattle.ufs_file_commits.specs.Standing.{HaveOnly, IsFileBlock, StandsFor}
use Rattle.ufs_file_commits.specs.State.{DurableState, whole_of}
use Rattle.ufs_file_commits.proofs.Standing.{settled_has}
use Rattle.ufs_promise_laws.specs.Parts.{OneFile, Owner, Owns, Parts, TheNames, durable_in}
use Rattle.ufs_promise_laws.specs.Stored.{AreNamesStored, IsFileStored, IsFileWhole, IsSpelled, IsStored, with_born, with_none}
use Rattle.ufs_promise_laws.proofs.Alike.{IsAlike, alike_stored}
use Rattle.ufs_promise_laws.proofs.Places.{held_at}

clash : (b : Bool) → b ≡ true → b ≡ false → ⊥
clash b is off = let no = sym is ∙ off in cc

-- ---- a write, a barrier, a checkpoint

module _ (g : Geometry) (l : Ledger) (u : BlockSet) (start : PosixTree) (history : List Entry) (k : Counts) (p : Parts) (same : geometry_of l.superblock ≡ g) (st : IsStored l u start history k p) where
  written_alike : (block : ℕ) (bytes : List ℕ) → has p.fresh block ≡ true → IsAlike l (written block bytes l) p.fresh
  written_alike block bytes fresh = record {
    superblock = refl;
    catalog = refl;
    dirs = refl;
    unheld = λ other free. free;
    less = λ other content off free only.
        let apart : (other == block) ≡ false = apart_false other block (λ is. clash (has p.fresh block) fresh (ap (has p.fresh) (sym is) ∙ off)) in
        subst (λ (b : Bool). HaveOnly (possible (if b then record { older = possible (l.blocks other); seen = bytes } else l.blocks other)) content) (sym apart) only;
  }

  -- no file has it on the disk
  pub no_place : (block : ℕ) → has p.fresh block ≡ true → (file place : ℕ) (o : Option ℕ) → k.numbers.inode file ≡ o → slice_get (shape_of l.now.catalog o).holds place ≡ Some block → ⊥
  no_place block fresh file place None is at = (let no = at in cc)
  no_place block fresh file place (Some inode) is at = st.spaced.unheld inode place block fresh (record { in_range = (st.kept.here.stored.inodes file inode is).0; there = at })

  pub written_stored : WrittenIsKept g → (block : ℕ) (bytes : List ℕ) → l.maybe ≡ None → has p.fresh block ≡ true → IsStored (written block bytes l) u start history k p
  written_stored keeps block bytes none fresh = alike_stored l (written block bytes l) u start history k p st (written_alike block bytes fresh)
      (keeps l block bytes start history k k same none (λ file place at i less under. absurd (no_place block fresh file place (k.numbers.inode file) refl at)) st.kept)

  pub settled_stored : SettledIsKept g → l.maybe ≡ None → IsStored (settled l) u start history k p
  settled_stored keeps none = alike_stored l (settled l) u start history k p st
      (record { superblock = refl; catalog = refl; dirs = refl; unheld = λ block free. free; less = λ block bytes off free only. settled_has (l.blocks block) bytes only })
      (keeps l start history k k same none st.kept)

  pub emptied_stored : EmptiedIsKept g → (superblock : Super) (home : ℕ → List ℕ) → geometry_of superblock ≡ g → IsStored (emptied superblock home l) u start history k p
  emptied_stored keeps superblock home next = alike_stored l (emptied superblock home l) u start history k p st
      (record {
        superblock = next ∙ sym same;
        catalog = refl;
        dirs = refl;
        unheld = λ block free. refl;
        less = λ block bytes off free only. subst (λ (b : Bool). HaveOnly (possible (if b then record { older = []; seen = home block } else settled_cell (l.blocks block))) bytes) (sym free) (settled_has (l.blocks block) bytes only);
      })
      (keeps l superblock home start history k k same next st.kept)

-- ---- a block is spelled

module _ (l : Ledger) (u : BlockSet) (start : PosixTree) (history : List Entry) (k : Counts) (p : Parts) (block : ℕ) (none : l.maybe ≡ None) (fresh : has p.fresh block ≡ true) (free : IsFileBlock l block) (st : IsStored l u start history k p) where
  abbrev m : Ledger
  m = record l { now = with_free_block block l.now }

  apart : (other : ℕ) → other ≢ block → (if other == block then true else l.now.dirs other) ≡ l.now.dirs other
  apart other not = ap (λ (b : Bool). if b then true else l.now.dirs other) (apart_false other block not)

  pub file_block : (other : ℕ) → other ≢ block → IsFileBlock l other → IsFileBlock m other
  file_block other not was = record { data_block = was.data_block; no_dir = λ is. was.no_dir (subst IsTrue (apart other not) is); unheld = was.unheld }

  -- another owner's block is another one
  other_block : (owner : Owner) (other : ℕ) → owner ≢ TheNames → Owns p u owner other → other ≢ block
  other_block owner other not owns is = not (st.spaced.apart owner TheNames other owns (inl (ap (has p.fresh) is ∙ fresh)))

  stands : (a b : Ledger) (h : DurableState) → ((place other : ℕ) → slice_get (blocks_of h.file.extents) place ≡ Some other → IsFileBlock a other → IsFileBlock b other) → a.superblock ≡ b.superblock → a.blocks ≡ b.blocks
      → b.now.catalog.forms h.file.inode ≡ a.now.catalog.forms h.file.inode → StandsFor a h → StandsFor b h
  stands a b h goes superblock cells form stood = record {
    in_range = subst (λ (s : Super). IsInode (geometry_of s) h.file.inode) superblock stood.in_range;
    kind = ap (λ (x : InodeForm). x.kind) form ∙ stood.kind;
    size = ap (λ (x : InodeForm). x.size) form ∙ stood.size;
    extents = ap (λ (x : InodeForm). x.extents) form ∙ stood.extents;
    blocks = λ place other at. goes place other at (stood.blocks place other at);
    clean = λ place other at off. subst (λ (c : ℕ → Cell). HaveOnly (possible (c other)) (own_bytes h.file.content.bytes place)) cells (stood.clean place other at off);
  }

  goes : (file : ℕ) (s : FileState) → map.get p.files file ≡ Some s → (place other : ℕ) → slice_get (blocks_of s.extents) place ≡ Some other → other ≢ block
  goes file s here place other at = other_block (OneFile file) other (λ e. cc) (record { hand = s; here = here; held = held_at (durable_in p.commits s) place other at })

  abbrev whole_at : ℕ → FileState → DurableState
  whole_at file s = whole_of (bytes_of (tree_after start history).bytes file) (durable_in p.commits s)

  stored : (file : ℕ) (s : FileState) → map.get p.files file ≡ Some s → IsFileStored l k.numbers (whole_at file s) → IsFileStored m k.numbers (whole_at file s)
  stored file s here (inl both) = inl (both.0, stands l m (whole_at file s) (λ place other at was. file_block other (goes file s here place other at) was) refl refl refl both.1)
  stored file s here (inr both) = inr (
    both.0,
    stands (with_born s.inode l) (with_born s.inode m) (whole_at file s)
        (λ place other at was. let now = file_block other (goes file s here place other at) (record { data_block = was.data_block; no_dir = was.no_dir; unheld = was.unheld }) in
        record { data_block = now.data_block; no_dir = now.no_dir; unheld = now.unheld }) refl refl refl both.1,
  )

  taken : (other : ℕ) → IsTakenBlock (geometry_of l.superblock) m.now.catalog other → IsTakenBlock (geometry_of l.superblock) l.now.catalog other
  taken other (inl below) = inl below
  taken other (inr (i, place, at)) = inr (i, place, record { in_range = at.in_range; there = at.there })

  whole : (file : ℕ) (s : FileState) → map.get p.files file ≡ Some s → IsFileWhole l k.numbers (whole_at file s) → IsFileWhole m k.numbers (whole_at file s)
  whole file s here was = record {
    noted = was.noted;
    once = was.once;
    own = λ place other at. by place other (was.own place other at);
    stored = stored file s here was.stored;
  }
    where
      by : (place other : ℕ) → (slice_get (blocks_of (durable_in p.commits s).log.committed.runs) place ≡ Some other) ⊎ (IsTakenBlock (geometry_of l.superblock) l.now.catalog other → ⊥)
          → (slice_get (blocks_of (durable_in p.commits s).log.committed.runs) place ≡ Some other) ⊎ (IsTakenBlock (geometry_of l.superblock) m.now.catalog other → ⊥)
      by place other (inl there) = inl there
      by place other (inr off) = inr (λ is. off (taken other is))

  pub spelled : IsSpelled m block
  spelled = record {
    data_block = free.data_block;
    spelled = subst IsTrue (sym (ap (λ (b : Bool). if b then true else l.now.dirs block) here)) refl;
    slots = ap (λ (b : Bool). if b then replicate SLOTS_PER_BLOCK free_slot else l.now.catalog.slots block) here;
    unheld = free.unheld;
  }
    where
      here : (block == block) ≡ true
      here = grind (arith, nat_tests)

  still : (other : ℕ) → IsFileBlock l other ⊎ IsSpelled l other → (other ≡ block) ⊎ (other ≢ block) → IsFileBlock m other ⊎ IsSpelled m other
  still other was (inl is) = inr (subst (IsSpelled m) (sym is) spelled)
  still other (inl was) (inr not) = inl (file_block other not was)
  still other (inr was) (inr not) = inr (record {
    data_block = was.data_block;
    spelled = subst IsTrue (sym (apart other not)) was.spelled;
    slots = ap (λ (b : Bool). if b then replicate SLOTS_PER_BLOCK free_slot else l.now.catalog.slots other) (apart_false other block not) ∙ was.slots;
    unheld = was.unheld;
  })

  module _ (zeros : ZerosAreTaken (geometry_of l.superblock)) where
    names : AreNamesStored l k.numbers p.fresh p.names → AreNamesStored m k.numbers p.fresh p.names
    names (inl off) = inl off
    names (inr n) =
        let next = zeros l.now (with_none n.committed) block n.has free.data_block (λ inode place at. st.spaced.unheld inode place block fresh at) in
        inr (record {
          committed = n.committed;
          steps = n.steps;
          has = record { forms = next.forms; table = next.table; kinds = next.kinds; sized = next.sized; zeroed = λ other is. (let no = is in absurd cc) };
          noted = n.noted;
          may = n.may;
          dirs = n.dirs;
          kinds = n.kinds;
          sound = n.sound;
          live = n.live;
          known = λ inode place other at. n.known inode place other (record { in_range = at.in_range; there = at.there });
        })

    pub spelled_stored : IsLedgerKept m start history k k → IsStored m u start history k p
    spelled_stored kept = record {
      tree = st.tree;
      legal = st.legal;
      kept = kept;
      parts = st.parts;
      names = names st.names;
      counted = st.counted;
      noted = st.noted;
      each = λ file s here. whole file s here (st.each file s here);
      spaced = record {
        apart = st.spaced.apart;
        usable = λ owner other not owns. file_block other (other_block owner other not owns) (st.spaced.usable owner other not owns);
        fresh = λ other is. still other (st.spaced.fresh other is) (one_or_apart other block);
        unheld = λ inode place other is at. st.spaced.unheld inode place other is (record { in_range = at.in_range; there = at.there });
        held = λ inode place other at. st.spaced.held inode place other (record { in_range = at.in_range; there = at.there });
      };
    }

-- the promise of the ledger
pub spelled_kept : (g : Geometry) → FreeBlocksKeep g → (l : Ledger) (block : ℕ) (start : PosixTree) (history : List Entry) (k : Counts) → geometry_of l.superblock ≡ g → l.maybe ≡ None → IsSoundCatalog g l.now.catalog → CoversDirs g l.now
    → (IsTrue (l.now.dirs block) → ⊥) → IsLedgerKept l start history k k → IsLedgerKept (record l { now = with_free_block block l.now }) start history k k
spelled_kept g keeps l block start history k same none sound covers off kept = record {
  here = subst (λ (h : Geometry). IsKeptBy h l.blocks (with_free_block block l.now) start history k) (sym same)
      (keeps l.blocks l.now block start history k.names k.files k.numbers sound covers off (subst (λ (h : Geometry). IsKeptBy h l.blocks l.now start history k) same kept.here));
  there = λ other is. (let clash = sym none ∙ is in absurd cc);
}
