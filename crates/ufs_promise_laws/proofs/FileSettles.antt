-- A file of which nothing but bytes changed has them on the disk behind a barrier.
use Rattle.std.proofs.Common.{◌≡◌, ◌≢◌, ℕ, ◌⊎◌, inl, inr, false, List, [], Some, ap, sym, ◌∙◌, subst}
use Rattle.std.specs.Prelude.{flat_map, IsSome, IsTrue, nat_eq, replicate}
use Rattle.std.specs.List.{IsDistinct, range_with_len, slice_get}
use Rattle.std.specs.FinMap as map
use Rattle.std.specs.FinSet as set
use Rattle.std.proofs.lemmas.List.{append-nil}
use Rattle.ufs_bitmap.specs.Blocks.{BlockSet}
use Rattle.ufs_bitmap.specs.Taking.{set_of}
use Rattle.ufs_extent.specs.Runs.{blocks_of}
use Rattle.ufs_file.specs.Hand.{FileState}
use Rattle.ufs_files.proofs.MapLemmas.{one_or_apart}
use Rattle.ufs_ilog.specs.Deltas.{FileState as FileLogState}
use Rattle.ufs_image.specs.Catalog.{HasBlock}
use Rattle.ufs_image.specs.Changes.{IsTakenBlock}
use Rattle.ufs_image.specs.Nodes.{blocks_of as form_blocks}
use Rattle.ufs_base.specs.declared.sizes.TheConstants.{SLOTS_PER_BLOCK}
use Rattle.ufs_layout.specs.DentryForm.{free_slot}
use Rattle.ufs_layout.specs.Superblock.{geometry_of}
use Rattle.ufs_layout.specs.declared.geometry.Geometry.{Geometry}
use Rattle.ufs_layout.specs.declared.inode.Extent.{Extent}
use Rattle.ufs_ledger.specs.Changes.{settled}
use Rattle.ufs_ledger.specs.Kept.{Counts}
use Rattle.ufs_ledger.specs.Ledger.{IsDataBlock, Ledger, Stand, is_held}
use Rattle.ufs_model.specs.FileBytes.{bytes_of}
use Rattle.ufs_model.specs.History.{tree_after}
use Rattle.ufs_model.specs.PosixTree.{PosixTree}
use Rattle.ufs_model.specs.declared.data.Entry.{Entry}
use Rattle.ufs_promise_laws.specs.Held.{HasSoundNames, HasState, MaySteps}
use Rattle.ufs_dir_tree.specs.Steps.{after_all}
use Rattle.ufs_store.specs.Ledgers.{HasLedger}
use Rattle.ufs_store.specs.State.{StoreState}
use Rattle.ufs_file_commits.specs.Committing.{BarriersShowAll, HasTreeBytes, IsFileBy, OwnsCommitted, all_shown}
use Rattle.ufs_file_commits.specs.Others.{IsOther}
use Rattle.ufs_file_commits.specs.Standing.{IsFileBlock, StandsFor, StandsSettled}
use Rattle.ufs_file_commits.specs.State.{DurableState, file_committed, whole_of}
use Rattle.ufs_file_commits.specs.Writes.{BlockWrite, with_writes, writes_of}
use Rattle.ufs_file_commits.proofs.Behind.{same_superblock, same_now}
use Rattle.ufs_file_commits.proofs.Others.{behind_barrier, behind_writes}
use Rattle.ufs_file_commits.proofs.Standing.{blocks_are, noted_committed}
use Rattle.ufs_file_commits.proofs.Wholes.{writes_are_whole}
use Rattle.ufs_promise_laws.specs.Parts.{Parts, durable_in, with_file}
use Rattle.ufs_promise_laws.specs.Stored.{AreNamesNoted, AreNamesStored, IsFileStored, IsFileWhole, IsKnownBlock, IsSpelled, IsStored, with_born, with_fresh, with_none}
use Rattle.ufs_promise_laws.proofs.FileCommits.{inode_on_disk, other_file_is, writes_born}
use Rattle.ufs_promise_laws.proofs.FileDone.{done_stored}
use Rattle.ufs_promise_laws.proofs.Live.{live}
use Rattle.ufs_promise_laws.proofs.Puts.{here}
use Rattle.ufs_promise_laws.proofs.Whole.{tree_has, tree_may}

module _ (s : StoreState) (l : Ledger) (u : BlockSet) (start : PosixTree) (history : List Entry) (k : Counts) (p : Parts) (f : FileState) (led : HasLedger s l) (at : map.get p.files f.file ≡ Some f)
    (bytes_alone : (durable_in p.commits f).log.noted ≡ (durable_in p.commits f).log.committed) (there : IsSome (k.numbers.inode f.file)) (st : IsStored l u start history k p)
    (shows : BarriersShowAll) (tree_bytes : HasTreeBytes) (owns_committed : OwnsCommitted) (settles : StandsSettled) where
  -- with the tree's bytes
  abbrev bytes : List ℕ
  bytes = bytes_of (tree_after start history).bytes f.file

  abbrev x : DurableState
  x = whole_of (bytes_of (tree_after start history).bytes f.file) (durable_in p.commits f)

  abbrev y : DurableState
  y = file_committed x

  abbrev r : Ledger
  r = with_writes (writes_of x.file) l

  abbrev m : Ledger
  m = settled (with_writes (writes_of x.file) l)

  abbrev g : Geometry
  g = geometry_of l.superblock

  whole : IsFileWhole l k.numbers x
  whole = st.each f.file f at

  on_disk : (k.numbers.inode f.file ≡ Some f.inode) × StandsFor l x
  on_disk = inode_on_disk l k.numbers x there whole.stored

  by_history : IsFileBy x.file start history k
  by_history = record {
    there = on_disk.0;
    alone = λ other is. st.counted.alone f.file other f.inode on_disk.0 is;
    counted = st.counted.made f.file;
    bytes = tree_bytes x.file start history st.tree st.legal (tree_has (tree_after start history) f.file f (st.parts.files f.file f at));
  }

  now_is : m.now ≡ l.now
  now_is = same_now (writes_of x.file) l

  superblock_is : geometry_of m.superblock ≡ g
  superblock_is = ap geometry_of (same_superblock (writes_of x.file) l)

  moved : (P : Geometry → Stand → Type 0) → P g l.now → P (geometry_of m.superblock) m.now
  moved P is = subst (λ (a : Stand). P (geometry_of m.superblock) a) (sym now_is) (subst (λ (h : Geometry). P h l.now) (sym superblock_is) is)

  back : (P : Geometry → Stand → Type 0) → P (geometry_of m.superblock) m.now → P g l.now
  back P is = subst (λ (a : Stand). P g a) now_is (subst (λ (h : Geometry). P h m.now) superblock_is is)

  file_block : (b : ℕ) → IsFileBlock l b → IsFileBlock m b
  file_block b was = record {
    data_block = moved (λ h a. IsDataBlock h b) was.data_block;
    no_dir = moved (λ h a. IsTrue (a.dirs b) → ⊥) was.no_dir;
    unheld = moved (λ h a. is_held a.log b ≡ false) was.unheld;
  }

  spelled : (b : ℕ) → IsSpelled l b → IsSpelled m b
  spelled b is = record {
    data_block = moved (λ h a. IsDataBlock h b) is.data_block;
    spelled = moved (λ h a. IsTrue (a.dirs b)) is.spelled;
    slots = moved (λ h a. a.catalog.slots b ≡ replicate SLOTS_PER_BLOCK free_slot) is.slots;
    unheld = moved (λ h a. is_held a.log b ≡ false) is.unheld;
  }

  blocks_now : form_blocks (l.now.catalog.forms f.inode) ≡ blocks_of f.extents
  blocks_now =
      ap (flat_map (λ (e : Extent). range_with_len e.start e.length)) on_disk.1.extents ∙ blocks_are x.log.committed.runs
      ∙ ap (λ (a : FileLogState). blocks_of a.runs) (sym bytes_alone) ∙ ap blocks_of whole.noted.runs

  block_before : (inode place b : ℕ) → HasBlock (geometry_of m.superblock) m.now.catalog inode place b → ((inode ≡ f.inode) × (slice_get (blocks_of f.extents) place ≡ Some b)) ⊎ ((inode ≢ f.inode) × HasBlock g l.now.catalog inode place b)
  block_before inode place b had = by (one_or_apart inode f.inode)
    where
      was : HasBlock g l.now.catalog inode place b
      was = back (λ h a. HasBlock h a.catalog inode place b) had

      by : (inode ≡ f.inode) ⊎ (inode ≢ f.inode) → ((inode ≡ f.inode) × (slice_get (blocks_of f.extents) place ≡ Some b)) ⊎ ((inode ≢ f.inode) × HasBlock g l.now.catalog inode place b)
      by (inl here) = inl (here, sym (ap (λ (bs : List ℕ). slice_get bs place) (ap (λ i. form_blocks (l.now.catalog.forms i)) here ∙ blocks_now)) ∙ was.there)
      by (inr other) = inr (other, was)

  noted : AreNamesNoted l k.numbers p.fresh p.names → AreNamesNoted m k.numbers p.fresh p.names
  noted n = record {
    committed = n.committed;
    steps = n.steps;
    has = moved (λ h a. HasState h a.catalog (with_none n.committed)) n.has;
    noted = n.noted;
    may = moved (λ h a. MaySteps h (with_fresh p.fresh n.committed) n.steps) n.may;
    dirs = n.dirs;
    kinds = n.kinds;
    sound = moved (λ h a. HasSoundNames h (after_all n.steps (with_fresh p.fresh n.committed))) n.sound;
    live = n.live;
    known = λ inode place b had. by inode place b (block_before inode place b had);
  }
    where
      by : (inode place b : ℕ) → ((inode ≡ f.inode) × (slice_get (blocks_of f.extents) place ≡ Some b)) ⊎ ((inode ≢ f.inode) × HasBlock g l.now.catalog inode place b) → IsKnownBlock k.numbers p.names n.steps inode b
      by inode place b (inl mine) = inr (inr (f.file, live p (tree_after start history) st.parts f.file f at, on_disk.0 ∙ ap Some (sym mine.0)))
      by inode place b (inr other) = n.known inode place b other.1

  names : AreNamesStored l k.numbers p.fresh p.names → AreNamesStored m k.numbers p.fresh p.names
  names (inl off) = inl off
  names (inr n) = inr (noted n)

  stands : (a : Ledger) (h : DurableState) → IsOther x h → StandsFor a h → StandsFor (settled (with_writes (writes_of x.file) a)) h
  stands a h apart stood = behind_barrier (with_writes (writes_of x.file) a) h (behind_writes x h whole.noted apart.blocks a (writes_of x.file) [] (sym (append-nil (writes_of x.file))) stood)

  abbrev whole_at : ℕ → FileState → DurableState
  whole_at file h = whole_of (bytes_of (tree_after start history).bytes file) (durable_in p.commits h)

  stored : (file : ℕ) (h : FileState) → map.get p.files file ≡ Some h → file ≢ f.file → IsFileStored l k.numbers (whole_at file h) → IsFileStored m k.numbers (whole_at file h)
  stored file h here apart (inl both) = inl (both.0, stands l (whole_at file h) (other_file_is l u start history k p f at st file h here apart) both.1)
  stored file h here apart (inr both) =
      inr (both.0, subst (λ (a : Ledger). StandsFor (settled a) (whole_at file h)) (writes_born h.inode (writes_of x.file) l) (stands (with_born h.inode l) (whole_at file h) (other_file_is l u start history k p f at st file h here apart) both.1))

  others : (file : ℕ) (h : FileState) → map.get p.files file ≡ Some h → file ≢ f.file → IsFileWhole m k.numbers (whole_at file h)
  others file h here apart = let w = st.each file h here in record {
    noted = w.noted;
    once = w.once;
    own = λ place b had. by place b (w.own place b had);
    stored = stored file h here apart w.stored;
  }
    where
      by : (place b : ℕ) → (slice_get (blocks_of (durable_in p.commits h).log.committed.runs) place ≡ Some b) ⊎ (IsTakenBlock g l.now.catalog b → ⊥)
          → (slice_get (blocks_of (durable_in p.commits h).log.committed.runs) place ≡ Some b) ⊎ (IsTakenBlock (geometry_of m.superblock) m.now.catalog b → ⊥)
      by place b (inl same) = inl same
      by place b (inr free) = inr (λ taken. free (back (λ h a. IsTakenBlock h a.catalog b) taken))

  abbrev q : Parts
  q = with_file (file_committed (durable_in p.commits f)) p.pool p

  whole_stored : IsStored m (set.union u (set_of x.dropped)) start history (all_shown f start history k) q
  whole_stored = done_stored l m u start history k p f at st (record {
    number = on_disk.0;
    kept = shows s l x start history k led whole.noted on_disk.1 whole.own by_history bytes_alone st.tree st.legal st.kept;
    names = names st.names;
    itself = record {
      noted = noted_committed x whole.noted;
      once = subst (IsDistinct nat_eq) (sym (append-nil (blocks_of f.extents))) whole.noted.apart.once;
      own = owns_committed m x whole.noted;
      stored = inl (on_disk.0, settles l x whole.noted on_disk.1 bytes_alone);
    };
    others = others;
    file_block = file_block;
    spelled = spelled;
    block_before = block_before;
  })

  -- what is written is the same, since what is dirty is in memory
  pub file_settled_stored : IsStored (settled (with_writes (writes_of f) l)) (set.union u (set_of (durable_in p.commits f).dropped)) start history (all_shown f start history k) q
  file_settled_stored = subst (λ (ws : List BlockWrite). IsStored (settled (with_writes ws l)) (set.union u (set_of (durable_in p.commits f).dropped)) start history (all_shown f start history k) q) same_writes whole_stored
    where
      same_writes : writes_of x.file ≡ writes_of f
      same_writes = writes_are_whole f bytes (st.noted f.file f at).written (tree_may (tree_after start history) f.file f (st.parts.files f.file f at))
