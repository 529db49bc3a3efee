-- A file is committed.
use Rattle.std.proofs.Common.{◌≡◌, ◌≢◌, ℕ, ◌⊎◌, inl, inr, Bool, true, false, List, [], ◌∷◌, Some, is_some, ap, sym, refl, ◌∙◌, subst}
use Rattle.std.specs.Prelude.{flat_map, if◌then◌else◌, IsSome, IsTrue, nat_eq}
use Rattle.std.specs.List.{IsDistinct, list_any, range_with_len, slice_get}
use Rattle.std.specs.FinMap as map
use Rattle.std.specs.FinSet as set
use Rattle.std.proofs.lemmas.List.{append-nil}
use Rattle.ufs_bitmap.specs.Blocks.{BlockSet}
use Rattle.ufs_bitmap.specs.Taking.{set_of}
use Rattle.ufs_disk.specs.Moments.{Moments, reads}
use Rattle.ufs_extent.specs.Runs.{blocks_of}
use Rattle.ufs_file.specs.Hand.{FileState}
use Rattle.ufs_files.proofs.MapLemmas.{one_or_apart}
use Rattle.ufs_ilog.specs.Deltas.{IsDelta, extents_of}
use Rattle.ufs_image.specs.Catalog.{Catalog, HasBlock}
use Rattle.ufs_image.specs.Folding.{with_committed_in}
use Rattle.ufs_image.specs.Images.{block_at}
use Rattle.ufs_image.specs.Nodes.{blocks_of as form_blocks}
use Rattle.ufs_image.specs.Sound.{IsSoundCatalog}
use Rattle.ufs_layout.specs.InodeForm.{InodeForm}
use Rattle.ufs_layout.specs.Superblock.{geometry_of}
use Rattle.ufs_layout.specs.declared.geometry.Geometry.{Geometry}
use Rattle.ufs_layout.specs.declared.inode.Extent.{Extent}
use Rattle.ufs_layout.specs.declared.records.Committed.{Committed}
use Rattle.ufs_layout.specs.declared.records.LogRecord.{LogRecord}
use Rattle.ufs_layout.specs.declared.records.LogRecord.TheVariants.{Delta}
use Rattle.ufs_ledger.specs.Changes.{home_of, written}
use Rattle.ufs_ledger.specs.Kept.{Counts, IsLedgerKept, Numbers}
use Rattle.ufs_ledger.specs.Ledger.{IsDataBlock, Ledger, Stand, is_held, is_set_in}
use Rattle.ufs_ledger.proofs.Held.{held_after}
use Rattle.ufs_model.specs.FileBytes.{bytes_of}
use Rattle.ufs_model.specs.History.{tree_after}
use Rattle.ufs_model.specs.PosixTree.{PosixTree}
use Rattle.ufs_model.specs.declared.data.Entry.{Entry}
use Rattle.ufs_model.proofs.Facts.Lookups.{same_some}
use Rattle.ufs_promise_laws.specs.Held.{HasSoundNames, HasState, MaySteps}
use Rattle.ufs_dir_tree.specs.Steps.{after_all}
use Rattle.ufs_promise_laws.proofs.Forms.{form_here}
use Rattle.ufs_name_tree.specs.NameTable.{file_at}
use Rattle.ufs_store.specs.Ledgers.{HasLedger, after_commit, checkpointed}
use Rattle.ufs_store.specs.State.{StoreState, has_room, next_commit, next_superblock}
use Rattle.ufs_file_commits.specs.Committing.{DoneIsKept, FilesMayCommitNext, FitsInode, HasToCommit, HasTreeBytes, IsFileBy, OwnsCommitted, all_shown, once_committed}
use Rattle.ufs_file_commits.specs.Others.{IsOther, OwnsBehindCommit, StandsBehindCommit, StandsOnceCommitted}
use Rattle.ufs_file_commits.specs.Standing.{IsFileBlock, StandsFor}
use Rattle.ufs_file_commits.specs.State.{DurableState, file_committed, whole_of}
use Rattle.ufs_file_commits.specs.Writes.{BlockWrite, at_moments, with_writes, writes_of}
use Rattle.ufs_file_commits.proofs.Behind.{same_superblock, same_now}
use Rattle.ufs_file_commits.proofs.Others.{behind_home, behind_writes, stands_still}
use Rattle.ufs_file_commits.proofs.Standing.{blocks_are, noted_committed, settled_has}
use Rattle.ufs_file_commits.proofs.Wholes.{writes_are_whole}
use Rattle.ufs_promise_laws.specs.Parts.{OneFile, Parts, durable_in, with_file}
use Rattle.ufs_promise_laws.specs.Stored.{AreNamesNoted, AreNamesStored, IsFileStored, IsFileWhole, IsKnownBlock, IsSpelled, IsStored, empty_form, with_born, with_fresh, with_none}
use Rattle.ufs_promise_laws.proofs.FileDone.{clash, done_stored}
use Rattle.ufs_promise_laws.proofs.Live.{is_file, live}
use Rattle.ufs_promise_laws.proofs.OneDelta.{form_else, slots_same, state_stays}
use Rattle.ufs_promise_laws.proofs.Places.{held_at}
use Rattle.ufs_promise_laws.proofs.Puts.{here}
use Rattle.ufs_promise_laws.proofs.Whole.{fits_whole, tree_has, tree_may}

-- writes leave the catalog
pub writes_born : (i : ℕ) (ws : List BlockWrite) (l : Ledger) → with_writes ws (with_born i l) ≡ with_born i (with_writes ws l)
writes_born i [] l = refl
writes_born i (w ∷ ws) l = writes_born i ws (written w.block w.bytes l)

-- a file that has an inode on the disk stands there
pub inode_on_disk : (l : Ledger) (numbers : Numbers) (x : DurableState) → IsSome (numbers.inode x.file.file) → IsFileStored l numbers x → (numbers.inode x.file.file ≡ Some x.file.inode) × StandsFor l x
inode_on_disk l numbers x there (inl both) = both
inode_on_disk l numbers x there (inr both) = absurd (clash (is_some (numbers.inode x.file.file)) there (ap is_some both.0))

-- two files have two inodes, and no block together
pub other_file_is : (l : Ledger) (u : BlockSet) (start : PosixTree) (history : List Entry) (k : Counts) (p : Parts) (f : FileState) → map.get p.files f.file ≡ Some f → IsStored l u start history k p
    → (file : ℕ) (h : FileState) → map.get p.files file ≡ Some h → file ≢ f.file
    → IsOther (whole_of (bytes_of (tree_after start history).bytes f.file) (durable_in p.commits f)) (whole_of (bytes_of (tree_after start history).bytes file) (durable_in p.commits h))
other_file_is l u start history k p f at st file h here apart = record {
  inode = λ same. apart (same_some file f.file (sym (is_file p (tree_after start history) st.parts file h here) ∙ ap (file_at p.names.tree) same ∙ is_file p (tree_after start history) st.parts f.file f at));
  blocks = λ a b block mine its.
      let one : OneFile f.file ≡ OneFile file =
      st.spaced.apart (OneFile f.file) (OneFile file) block (record { hand = f; here = at; held = held_at (durable_in p.commits f) a block mine }) (record { hand = h; here = here; held = held_at (durable_in p.commits h) b block its }) in
      let same : file ≡ f.file = cc in
      apart same;
}

module _ (s : StoreState) (between : Moments) (records : List LogRecord) (l : Ledger) (u : BlockSet) (start : PosixTree) (history : List Entry) (k : Counts) (p : Parts) (f : FileState) (led : HasLedger s l) (at : map.get p.files f.file ≡ Some f)
    (delta : IsDelta (durable_in p.commits f).log.inode (durable_in p.commits f).log.committed (durable_in p.commits f).log.noted records) (fits : FitsInode f) (there : IsSome (k.numbers.inode f.file)) (st : IsStored l u start history k p)
    (may : FilesMayCommitNext) (done : DoneIsKept) (tree_bytes : HasTreeBytes) (owns_committed : OwnsCommitted) (stands_behind : StandsBehindCommit) (owns_behind : OwnsBehindCommit) (once : StandsOnceCommitted) where
  -- with the tree's bytes
  abbrev bytes : List ℕ
  bytes = bytes_of (tree_after start history).bytes f.file

  abbrev x : DurableState
  x = whole_of (bytes_of (tree_after start history).bytes f.file) (durable_in p.commits f)

  abbrev y : DurableState
  y = file_committed x

  abbrev m : Ledger
  m = once_committed s between records x l

  abbrev q : Parts
  q = with_file (file_committed (durable_in p.commits f)) p.pool p

  abbrev u2 : BlockSet
  u2 = set.union u (set_of (durable_in p.commits f).dropped)

  abbrev k2 : Counts
  k2 = all_shown f start history k

  abbrev g : Geometry
  g = geometry_of l.superblock

  abbrev t : Committed
  t = next_commit s records

  abbrev s2 : StoreState
  s2 = at_moments between s

  abbrev r : Ledger
  r = with_writes (writes_of x.file) l

  whole : IsFileWhole l k.numbers x
  whole = st.each f.file f at

  on_disk : (k.numbers.inode f.file ≡ Some f.inode) × StandsFor l x
  on_disk = inode_on_disk l k.numbers x there whole.stored

  to_commit : HasToCommit s records l x
  to_commit = record { has = led; noted = whole.noted; stands = on_disk.1; own = whole.own; fits = fits_whole bytes f (tree_may (tree_after start history) f.file f (st.parts.files f.file f at)) fits; delta = delta }

  by_history : IsFileBy x.file start history k
  by_history = record {
    there = on_disk.0;
    alone = λ other is. st.counted.alone f.file other f.inode on_disk.0 is;
    counted = st.counted.made f.file;
    bytes = tree_bytes x.file start history st.tree st.legal (tree_has (tree_after start history) f.file f (st.parts.files f.file f at));
  }

  kept_now : IsLedgerKept m start history k2 k2
  kept_now = done s between records l x start history k to_commit by_history st.tree st.legal st.kept

  -- ---- the ledger

  abbrev room_at : Bool → Ledger
  room_at b = if b then r else checkpointed s2 r

  superblock_at : (b : Bool) → geometry_of (room_at b).superblock ≡ g
  superblock_at true = ap geometry_of (same_superblock (writes_of x.file) l)
  superblock_at false = ap geometry_of (sym led.superblock_is)

  catalog_at : (b : Bool) → (room_at b).now.catalog ≡ l.now.catalog
  catalog_at true = ap (λ (a : Stand). a.catalog) (same_now (writes_of x.file) l)
  catalog_at false = ap (λ (a : Stand). a.catalog) (same_now (writes_of x.file) l)

  dirs_at : (b : Bool) → (room_at b).now.dirs ≡ l.now.dirs
  dirs_at true = ap (λ (a : Stand). a.dirs) (same_now (writes_of x.file) l)
  dirs_at false = ap (λ (a : Stand). a.dirs) (same_now (writes_of x.file) l)

  free_at : (b : Bool) (block : ℕ) → is_held l.now.log block ≡ false → is_held (room_at b).now.log block ≡ false
  free_at true block free = ap (λ (a : Stand). is_held a.log block) (same_now (writes_of x.file) l) ∙ free
  free_at false block free = refl

  abbrev c2 : Catalog
  c2 = with_committed_in g t l.now.catalog

  catalog_is : m.now.catalog ≡ c2
  catalog_is = λ i. with_committed_in (superblock_at (has_room s2 records) i) t (catalog_at (has_room s2 records) i)

  superblock_is : geometry_of m.superblock ≡ g
  superblock_is = superblock_at (has_room s2 records)

  dirs_is : m.now.dirs ≡ l.now.dirs
  dirs_is = dirs_at (has_room s2 records)

  moved : (P : Geometry → Catalog → Type 0) → P g c2 → P (geometry_of m.superblock) m.now.catalog
  moved P is = subst (λ (c : Catalog). P (geometry_of m.superblock) c) (sym catalog_is) (subst (λ (h : Geometry). P h c2) (sym superblock_is) is)

  back : (P : Geometry → Catalog → Type 0) → P (geometry_of m.superblock) m.now.catalog → P g c2
  back P is = subst (λ (c : Catalog). P g c) catalog_is (subst (λ (h : Geometry). P h m.now.catalog) superblock_is is)

  records_are : records ≡ Delta f.inode 1 x.log.noted.size delta.keep (extents_of delta.given) ∷ []
  records_are = delta.is ∙ ap (λ i. Delta i 1 x.log.noted.size delta.keep (extents_of delta.given) ∷ []) whole.noted.inode

  held_behind : (b : ℕ) → is_held (room_at (has_room s2 records)).now.log b ≡ false → is_held m.now.log b ≡ false
  held_behind b free = held_after (room_at (has_room s2 records)).now.log t b free (ap (list_any (is_set_in b)) records_are)

  file_block : (b : ℕ) → IsFileBlock l b → IsFileBlock m b
  file_block b was = record {
    data_block = subst (λ (h : Geometry). IsDataBlock h b) (sym superblock_is) was.data_block;
    no_dir = subst (λ (d : ℕ → Bool). IsTrue (d b) → ⊥) (sym dirs_is) was.no_dir;
    unheld = held_behind b (free_at (has_room s2 records) b was.unheld);
  }

  itself : StandsFor m y
  itself = once s between records l x led whole.noted on_disk.1 delta

  kind_now : (c2.forms f.inode).kind ≡ 1
  kind_now = ap (λ (c : Catalog). (c.forms f.inode).kind) (sym catalog_is) ∙ itself.kind

  blocks_now : form_blocks (c2.forms f.inode) ≡ blocks_of f.extents
  blocks_now =
      ap (λ (c : Catalog). form_blocks (c.forms f.inode)) (sym catalog_is)
      ∙ ap (flat_map (λ (e : Extent). range_with_len e.start e.length)) itself.extents ∙ blocks_are x.log.noted.runs ∙ ap blocks_of whole.noted.runs

  elsewhere : (j : ℕ) → j ≢ f.inode → c2.forms j ≡ l.now.catalog.forms j
  elsewhere j other = form_else g t f.inode x.log.noted.size delta.keep (extents_of delta.given) records_are l.now.catalog j other

  block_before : (inode place b : ℕ) → HasBlock (geometry_of m.superblock) m.now.catalog inode place b → ((inode ≡ f.inode) × (slice_get (blocks_of f.extents) place ≡ Some b)) ⊎ ((inode ≢ f.inode) × HasBlock g l.now.catalog inode place b)
  block_before inode place b had = by (one_or_apart inode f.inode)
    where
      was : HasBlock g c2 inode place b
      was = back (λ h c. HasBlock h c inode place b) had

      by : (inode ≡ f.inode) ⊎ (inode ≢ f.inode) → ((inode ≡ f.inode) × (slice_get (blocks_of f.extents) place ≡ Some b)) ⊎ ((inode ≢ f.inode) × HasBlock g l.now.catalog inode place b)
      by (inl here) = inl (here, sym (ap (λ (bs : List ℕ). slice_get bs place) (ap (λ i. form_blocks (c2.forms i)) here ∙ blocks_now)) ∙ was.there)
      by (inr other) = inr (other, record { in_range = was.in_range; there = ap (λ (a : InodeForm). slice_get (form_blocks a) place) (sym (elsewhere inode other)) ∙ was.there })

  -- ---- names

  sound : IsSoundCatalog g c2
  sound = subst (λ (h : Geometry). IsSoundCatalog h (with_committed_in h t l.now.catalog)) (sym led.by.geometry) (may s records l x [] to_commit).sound

  noted : AreNamesNoted l k.numbers p.fresh p.names → AreNamesNoted m k.numbers p.fresh p.names
  noted n = record {
    committed = n.committed;
    steps = n.steps;
    has = moved (λ h c. HasState h c (with_none n.committed)) (state_stays g t f.inode x.log.noted.size delta.keep (extents_of delta.given) records_are l.now.catalog (with_none n.committed) n.has (λ b. refl) sound on_disk.1.kind kind_now);
    noted = n.noted;
    may = subst (λ (h : Geometry). MaySteps h (with_fresh p.fresh n.committed) n.steps) (sym superblock_is) n.may;
    dirs = n.dirs;
    kinds = n.kinds;
    sound = subst (λ (h : Geometry). HasSoundNames h (after_all n.steps (with_fresh p.fresh n.committed))) (sym superblock_is) n.sound;
    live = n.live;
    known = λ inode place b had. by inode place b (block_before inode place b had);
  }
    where
      by : (inode place b : ℕ) → ((inode ≡ f.inode) × (slice_get (blocks_of f.extents) place ≡ Some b)) ⊎ ((inode ≢ f.inode) × HasBlock g l.now.catalog inode place b) → IsKnownBlock k.numbers p.names n.steps inode b
      by inode place b (inl mine) = inr (inr (f.file, live p (tree_after start history) st.parts f.file f at, on_disk.0 ∙ ap Some (sym mine.0)))
      by inode place b (inr other) = n.known inode place b other.1

  names : AreNamesStored l k.numbers p.fresh p.names → AreNamesStored m k.numbers p.fresh p.names
  names (inl off) = inl off
  names (inr n) = inr (noted n)

  -- ---- other files

  abbrev whole_at : ℕ → FileState → DurableState
  whole_at file h = whole_of (bytes_of (tree_after start history).bytes file) (durable_in p.commits h)

  other : (file : ℕ) (h : FileState) → map.get p.files file ≡ Some h → file ≢ f.file → IsOther x (whole_at file h)
  other file h here apart = other_file_is l u start history k p f at st file h here apart

  born_written : (h : DurableState) → IsOther x h → StandsFor (with_born h.file.inode l) h → StandsFor (with_born h.file.inode r) h
  born_written h apart stood = subst (λ (a : Ledger). StandsFor a h) (writes_born h.file.inode (writes_of x.file) l) (behind_writes x h whole.noted apart.blocks (with_born h.file.inode l) (writes_of x.file) [] (sym (append-nil (writes_of x.file))) stood)

  born_room : (h : DurableState) → IsOther x h → StandsFor (with_born h.file.inode l) h → (b : Bool) → StandsFor (with_born h.file.inode (room_at b)) h
  born_room h apart stood true = born_written h apart stood
  born_room h apart stood false =
      behind_home (with_born h.file.inode r) h (next_superblock s2) (block_at (home_of r (reads between))) (ap geometry_of (sym led.superblock_is ∙ sym (same_superblock (writes_of x.file) l)))
      (born_written h apart stood)

  born_behind : (h : DurableState) → IsOther x h → StandsFor (with_born h.file.inode l) h → StandsFor (with_born h.file.inode m) h
  born_behind h apart stood =
      let a = room_at (has_room s2 records) in
      stands_still (with_born h.file.inode a) (with_born h.file.inode m) h refl
      (form_here m.now.catalog h.file.inode empty_form ∙ sym (form_here a.now.catalog h.file.inode empty_form)) refl
      (λ b free. held_behind b free) (λ place b bytes had free only. settled_has (a.blocks b) bytes only) (born_room h apart stood (has_room s2 records))

  stored : (file : ℕ) (h : FileState) → map.get p.files file ≡ Some h → file ≢ f.file → IsFileStored l k.numbers (whole_at file h) → IsFileStored m k.numbers (whole_at file h)
  stored file h here apart (inl both) = inl (both.0, stands_behind s between records l x (whole_at file h) led whole.noted delta (other file h here apart) both.1)
  stored file h here apart (inr both) = inr (both.0, born_behind (whole_at file h) (other file h here apart) both.1)

  whole_else : (file : ℕ) (h : FileState) → map.get p.files file ≡ Some h → file ≢ f.file → IsFileWhole m k.numbers (whole_at file h)
  whole_else file h here apart = let w = st.each file h here in record {
    noted = w.noted;
    once = w.once;
    own = owns_behind s between records l x (whole_at file h) led whole.noted on_disk.1 delta (other file h here apart) w.own;
    stored = stored file h here apart w.stored;
  }

  whole_now : IsFileWhole m k.numbers y
  whole_now = record {
    noted = noted_committed x whole.noted;
    once = subst (IsDistinct nat_eq) (sym (append-nil (blocks_of f.extents))) whole.noted.apart.once;
    own = owns_committed m x whole.noted;
    stored = inl (on_disk.0, itself);
  }

  spelled : (b : ℕ) → IsSpelled l b → IsSpelled m b
  spelled b is = record {
    data_block = subst (λ (h : Geometry). IsDataBlock h b) (sym superblock_is) is.data_block;
    spelled = subst (λ (d : ℕ → Bool). IsTrue (d b)) (sym dirs_is) is.spelled;
    slots = ap (λ (c : Catalog). c.slots b) catalog_is
        ∙ ap (λ v. v b) (slots_same g t f.inode x.log.noted.size delta.keep (extents_of delta.given) records_are l.now.catalog) ∙ is.slots;
    unheld = held_behind b (free_at (has_room s2 records) b is.unheld);
  }

  whole_stored : IsStored m u2 start history k2 q
  whole_stored = done_stored l m u start history k p f at st (record {
    number = on_disk.0;
    kept = kept_now;
    names = names st.names;
    itself = whole_now;
    others = whole_else;
    file_block = file_block;
    spelled = spelled;
    block_before = block_before;
  })

  -- what is written is the same, since what is dirty is in memory
  pub file_committed_stored : IsStored (once_committed s between records (durable_in p.commits f) l) u2 start history k2 q
  file_committed_stored = subst (λ (ws : List BlockWrite). IsStored (after_commit (at_moments between s) records (with_writes ws l)) u2 start history k2 q) same_writes whole_stored
    where
      same_writes : writes_of x.file ≡ writes_of f
      same_writes = writes_are_whole f bytes (st.noted f.file f at).written (tree_may (tree_after start history) f.file f (st.parts.files f.file f at))
