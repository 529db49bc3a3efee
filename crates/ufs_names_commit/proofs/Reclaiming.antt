-- What is dropped comes back behind a checkpoint.
use Rattle.std.proofs.Common.{◌≡◌, ◌≢◌, ℕ, ◌⊎◌, inl, inr, ◌||◌, Bool, true, false, List, [], ◌∷◌, Option, Some, None, is_some, ap, sym, refl, ◌∙◌, subst}
use Rattle.std.specs.Prelude.{IsSome, IsTrue, flat_map, if◌then◌else◌, unwrap_or}
use Rattle.std.specs.List.{range_with_len, slice_get}
use Rattle.std.specs.FinMap as map
use Rattle.std.specs.FinSet as set
use Rattle.ufs_bitmap.specs.Blocks.{BlockSet}
use Rattle.ufs_bitmap.specs.Taking.{has}
use Rattle.ufs_bitmap.proofs.SetLemmas.{has-empty, has-union}
use Rattle.ufs_dir_tree.specs.DirTable.{blocks_at}
use Rattle.ufs_disk.specs.Moments.{reads}
use Rattle.ufs_extent.specs.Runs.{blocks_of}
use Rattle.ufs_file.specs.Hand.{FileState}
use Rattle.ufs_image.specs.Catalog.{HasBlock}
use Rattle.ufs_image.specs.Images.{block_at}
use Rattle.ufs_image.specs.Nodes.{blocks_of as form_blocks}
use Rattle.ufs_layout.specs.Superblock.{geometry_of}
use Rattle.ufs_layout.specs.declared.geometry.Geometry.{Geometry}
use Rattle.ufs_layout.specs.declared.inode.Extent.{Extent}
use Rattle.ufs_ledger.specs.Changes.{home_of, with_dirs}
use Rattle.ufs_ledger.specs.Kept.{Counts}
use Rattle.ufs_ledger.specs.Laws.{LedgersAreSound}
use Rattle.ufs_ledger.specs.Ledger.{CoversDirs, IsDataBlock, Ledger, is_held}
use Rattle.ufs_model.specs.FileBytes.{bytes_of}
use Rattle.ufs_model.specs.History.{tree_after}
use Rattle.ufs_model.specs.PosixTree.{PosixTree}
use Rattle.ufs_model.specs.declared.data.Entry.{Entry}
use Rattle.ufs_model.proofs.Facts.Lookups.{from_some, same_some}
use Rattle.ufs_file_commits.specs.Standing.{IsFileBlock}
use Rattle.ufs_file_commits.specs.State.{CommitState, DurableState, state_of, whole_of}
use Rattle.ufs_file_commits.proofs.Served.{has_at}
use Rattle.ufs_bitmap.proofs.TakingLemmas.{has-append}
use Rattle.ufs_file_commits.proofs.Standing.{blocks_are}
use Rattle.ufs_store.specs.Ledgers.{HasAny, HasLedger, beginning_next, checkpointed}
use Rattle.ufs_bitmap.specs.Space.{Space}
use Rattle.ufs_store.specs.State.{StoreState, next_superblock}
use Rattle.ufs_promise_laws.specs.AlwaysLaws.{CheckpointImagesAreExplained}
use Rattle.ufs_promise_laws.specs.Laws.{EmptiedIsStored}
use Rattle.ufs_promise_laws.specs.OnDisk.{HasStoppedBy, IsGoing}
use Rattle.ufs_promise_laws.specs.OnDiskLaws.{CheckpointsStop}
use Rattle.ufs_promise_laws.specs.Parts.{FileOwns, NamesOwn, OneFile, Owner, Owns, Parts, TheNames, ThePool, Unassigned, committed_as, durable_in}
use Rattle.ufs_promise_laws.specs.Sound.{IsSoundServer}
use Rattle.ufs_promise_laws.specs.Stored.{AreNamesStored, ArePartsOf, FileHasIt, IsFileStored, IsKnownBlock, IsStored, with_fresh}
use Rattle.ufs_promise_laws.proofs.Unfresh.{never}
use Rattle.ufs_promise_laws.proofs.Known.{stopped_known}
use Rattle.ufs_names_commit.specs.Laws.{CheckpointsFail, CheckpointsFailKept, CheckpointsMayLeave, DroppedIsReclaimed, DroppedIsReclaimedKept, HasNothingNoted, HasNothingTaken, IsBeside, ReclaimedIsPart, ReclaimedIsSound, with_reclaimed}
use Rattle.ufs_names_commit.proofs.Fewer.{fewer, fewer_known, fewer_stored}
use Rattle.ufs_names_commit.proofs.There.{no_steps}

or_case : (a b : Bool) → (a || b) ≡ true → (a ≡ true) ⊎ (b ≡ true)
or_case true b e = inl refl
or_case false b e = inr e

off_or_on : (b : Bool) → (b ≡ true) ⊎ (b ≡ false)
off_or_on true = inl refl
off_or_on false = inr refl

-- ---- whose a block is

module _ (u : BlockSet) (p : Parts) (fresh : p.fresh ≡ []) (apart : (one other : Owner) (b : ℕ) → Owns p u one b → Owns p u other b → one ≡ other)
    (parted : (dir b : ℕ) → set.contains p.dropped b ≡ true → has (blocks_at p.names.tree.dirs dir) b ≡ false) where
  abbrev q : Parts
  q = with_reclaimed p

  none_fresh : (b : ℕ) → has p.fresh b ≡ true → ⊥
  none_fresh b is = never b (ap (λ (bs : List ℕ). has bs b) (sym fresh) ∙ is)

  pooled_case : (b : ℕ) → set.contains q.pool b ≡ true → (set.contains p.pool b ≡ true) ⊎ (set.contains p.dropped b ≡ true)
  pooled_case b is = or_case _ _ (sym (has-union p.pool p.dropped b) ∙ is)

  -- the names have what they had, but for what was dropped
  names_before : (b : ℕ) → NamesOwn q b → NamesOwn p b × (set.contains p.dropped b ≡ false)
  names_before b (inl is) = absurd (none_fresh b is)
  names_before b (inr (inl is)) = (let no = sym is ∙ has-empty b in absurd cc)
  names_before b (inr (inr dir)) = (inr (inr dir), by (off_or_on (set.contains p.dropped b)))
    where
      by : (set.contains p.dropped b ≡ true) ⊎ (set.contains p.dropped b ≡ false) → set.contains p.dropped b ≡ false
      by (inl is) = (let no = sym dir.1 ∙ parted dir.0 b is in absurd cc)
      by (inr off) = off

  -- Who has a block now had it, or it was dropped and is the pool's.
  abbrev Before : Owner → ℕ → Type 0
  Before o b = (Owns p u o b × (set.contains p.dropped b ≡ false)) ⊎ ((o ≡ ThePool) × (set.contains p.dropped b ≡ true))

  kept : (o : Owner) (b : ℕ) → o ≢ TheNames → Owns p u o b → Before o b
  kept o b not owns = by (off_or_on (set.contains p.dropped b))
    where
      by : (set.contains p.dropped b ≡ true) ⊎ (set.contains p.dropped b ≡ false) → Before o b
      by (inl is) = absurd (not (apart o TheNames b owns (inr (inl is))))
      by (inr off) = inl (owns, off)

  before : (o : Owner) (b : ℕ) → Owns q u o b → Before o b
  before (OneFile f) b owns = kept (OneFile f) b (λ e. cc) (record { hand = owns.hand; here = owns.here; held = owns.held })
  before Unassigned b owns = kept Unassigned b (λ e. cc) owns
  before TheNames b owns = inl (names_before b owns)
  before ThePool b owns = by (pooled_case b owns)
    where
      by : (set.contains p.pool b ≡ true) ⊎ (set.contains p.dropped b ≡ true) → Before ThePool b
      by (inl pooled) = kept ThePool b (λ e. cc) pooled
      by (inr is) = inr (refl, is)

  pub apart_now : (one other : Owner) (b : ℕ) → Owns q u one b → Owns q u other b → one ≡ other
  apart_now one other b a c = by (before one b a) (before other b c)
    where
      by : Before one b → Before other b → one ≡ other
      by (inl had) (inl too) = apart one other b had.0 too.0
      by (inr new) (inr too) = new.0 ∙ sym too.0
      by (inl had) (inr new) = (let no = sym new.1 ∙ had.1 in absurd cc)
      by (inr new) (inl had) = (let no = sym new.1 ∙ had.1 in absurd cc)

pub reclaimed_sound : ReclaimedIsSound
reclaimed_sound g u p fresh sound = record {
  apart = apart_now u p fresh sound.apart sound.parted;
  inside = inside;
  each = sound.each;
  inodes = sound.inodes;
  known = sound.known;
  counted = sound.counted;
  parted = λ dir b is. (let no = sym is ∙ has-empty b in absurd cc);
}
  where
    inside : (o : Owner) (b : ℕ) → Owns (with_reclaimed p) u o b → IsDataBlock g b
    inside o b owns = by (before u p fresh sound.apart sound.parted o b owns)
      where
        by : Before u p fresh sound.apart sound.parted o b → IsDataBlock g b
        by (inl had) = sound.inside o b had.0
        by (inr new) = sound.inside TheNames b (inr (inl new.1))

pub reclaimed_part : ReclaimedIsPart
reclaimed_part p t is = record { names = is.names; files = is.files; inodes = is.inodes; here = is.here }

-- ---- files that are committed as they are

-- keep their blocks
nothing_taken : (p : Parts) (t : PosixTree) → ArePartsOf p t → HasNothingNoted p → HasNothingTaken p
nothing_taken p t parts nothing = record {
  names = nothing.names;
  fresh = nothing.fresh;
  files = λ file s here b is.
      let number = (parts.files file s here).0 in
      let live : is_some (map.get p.names.held file) ≡ true = parts.names.told file ∙ ap (λ (f : ℕ). is_some (map.get t.bytes f)) (sym number) ∙ ap is_some (parts.files file s here).1.has in
      let known : map.get p.commits s.file ≡ None = ap (map.get p.commits) number ∙ nothing.files file live in
      let all : durable_in p.commits s ≡ state_of s (committed_as s) = ap (λ (o : Option CommitState). state_of s (unwrap_or o (committed_as s))) known in
      let own : has (blocks_of s.extents) b ≡ true = ap (λ (f : DurableState). has (blocks_of f.log.committed.runs) b) (sym all) ∙ is in
      has-append (blocks_of s.extents) (blocks_of (durable_in p.commits s).dropped) b ∙ ap (λ (v : Bool). v || has (blocks_of (durable_in p.commits s).dropped) b) own;
}

-- ---- the checkpoint

module _ (g : Geometry) (l : Ledger) (u : BlockSet) (start : PosixTree) (history : List Entry) (k : Counts) (p : Parts) (st : IsStored l u start history k p) (nothing : HasNothingTaken p) (same : geometry_of l.superblock ≡ g) (sound : IsSoundServer g u p) where
  -- a live file has here what it has on the disk
  has_here : (file inode place b : ℕ) → IsSome (map.get p.names.held file) → k.numbers.inode file ≡ Some inode → HasBlock (geometry_of l.superblock) l.now.catalog inode place b → FileOwns p file b
  has_here file inode place b live number at = by (from_some (map.get p.files file) (st.parts.here file live))
    where
      by : (s : FileState) × (map.get p.files file ≡ Some s) → FileOwns p file b
      by (s, here) = record { hand = s; here = here; held = nothing.files file s here b (has_at (blocks_of (durable_in p.commits s).log.committed.runs) place b (on (st.each file s here).stored)) }
        where
          is : s.file ≡ file
          is = (st.parts.files file s here).0

          on : IsFileStored l k.numbers (whole_of (bytes_of (tree_after start history).bytes file) (durable_in p.commits s)) → slice_get (blocks_of (durable_in p.commits s).log.committed.runs) place ≡ Some b
          on (inl both) =
              let inode_is : inode ≡ s.inode = same_some inode s.inode (sym number ∙ ap k.numbers.inode (sym is) ∙ both.0) in
              let blocks : form_blocks (l.now.catalog.forms inode) ≡ blocks_of (durable_in p.commits s).log.committed.runs =
              ap (λ i. form_blocks (l.now.catalog.forms i)) inode_is
              ∙ ap (flat_map (λ (e : Extent). range_with_len e.start e.length)) both.1.extents ∙ blocks_are (durable_in p.commits s).log.committed.runs in
              ap (λ (bs : List ℕ). slice_get bs place) (sym blocks) ∙ at.there
          on (inr both) = (let clash = sym both.0 ∙ ap k.numbers.inode is ∙ number in absurd cc)

  -- No inode on the disk has a block that is dropped.
  pub lacks : (inode place b : ℕ) → set.contains p.dropped b ≡ true → HasBlock (geometry_of l.superblock) l.now.catalog inode place b → ⊥
  lacks inode place b dropped at = by st.names
    where
      known : IsKnownBlock k.numbers p.names [] inode b → ⊥
      known (inl on) = (let no = on in cc)
      known (inr (inl dir)) = (let no = sym dir ∙ sound.parted inode b dropped in cc)
      known (inr (inr file)) = (let no = sound.apart (OneFile file.0) TheNames b (has_here file.0 inode place b file.1 file.2 at) (inr (inl dropped)) in cc)

      by : AreNamesStored l k.numbers p.fresh p.names → ⊥
      by (inl off) = (let no = sym off ∙ nothing.names in cc)
      by (inr n) = known (subst (λ xs. IsKnownBlock k.numbers p.names xs inode b)
          (no_steps (with_fresh p.fresh n.committed) n.steps (same_some _ [] (sym n.noted ∙ nothing.names))) (n.known inode place b at))

  abbrev pub dirs : (ℕ → Bool)
  dirs b = if set.contains p.dropped b then false else l.now.dirs b

  pub less : (b : ℕ) → IsTrue (dirs b) → IsTrue (l.now.dirs b)
  less b is = by (set.contains p.dropped b) is
    where
      by : (v : Bool) → IsTrue (if v then false else l.now.dirs b) → IsTrue (l.now.dirs b)
      by true is = (let no = is in absurd cc)
      by false is = is

  pub covers : CoversDirs (geometry_of l.superblock) l.now → CoversDirs (geometry_of l.superblock) (with_dirs dirs l.now)
  covers all b is = by (set.contains p.dropped b) refl
    where
      by : (v : Bool) → set.contains p.dropped b ≡ v → IsTrue (dirs b)
      by true dropped = absurd (lacks is.inode is.place b dropped is.has)
      by false off = ap (λ (v : Bool). if v then false else l.now.dirs b) off ∙ all b is

  abbrev pub m : Ledger
  m = fewer l dirs less

  fewer_st : IsStored m u start history k p
  fewer_st = fewer_stored l dirs less u start history k p st (λ b is. absurd (none_fresh u p nothing.fresh sound.apart sound.parted b is))

  module _ (emptied : l.now.log ≡ []) where
    dropped_usable : (b : ℕ) → set.contains p.dropped b ≡ true → IsFileBlock m b
    dropped_usable b dropped = record {
      data_block = subst (λ (h : Geometry). IsDataBlock h b) (sym same) (sound.inside TheNames b (inr (inl dropped)));
      no_dir = λ its. (let no = sym its ∙ ap (λ (v : Bool). if v then false else l.now.dirs b) dropped in cc);
      unheld = ap (λ log. is_held log b) emptied;
    }

    usable : (o : Owner) (b : ℕ) → o ≢ TheNames → Owns (with_reclaimed p) u o b → IsFileBlock m b
    usable o b not owns = by (before u p nothing.fresh sound.apart sound.parted o b owns)
      where
        by : Before u p nothing.fresh sound.apart sound.parted o b → IsFileBlock m b
        by (inl had) = fewer_st.spaced.usable o b not had.0
        by (inr new) = dropped_usable b new.1

    held : (inode place b : ℕ) → HasBlock (geometry_of l.superblock) l.now.catalog inode place b → NamesOwn (with_reclaimed p) b ⊎ FileHasIt (with_reclaimed p) k.numbers inode b
    held inode place b at = by (st.spaced.held inode place b at)
      where
        by : NamesOwn p b ⊎ FileHasIt p k.numbers inode b → NamesOwn (with_reclaimed p) b ⊎ FileHasIt (with_reclaimed p) k.numbers inode b
        by (inl (inl fresh)) = inl (inl fresh)
        by (inl (inr (inl dropped))) = absurd (lacks inode place b dropped at)
        by (inl (inr (inr dir))) = inl (inr (inr dir))
        by (inr file) = inr (file.0, record { hand = file.1.hand; here = file.1.here; held = file.1.held }, file.2)

    pub reclaimed_stored : IsStored m u start history k (with_reclaimed p)
    reclaimed_stored = record {
      tree = fewer_st.tree;
      legal = fewer_st.legal;
      kept = fewer_st.kept;
      parts = reclaimed_part p _ fewer_st.parts;
      names = fewer_st.names;
      counted = fewer_st.counted;
      noted = fewer_st.noted;
      each = fewer_st.each;
      spaced = record {
        apart = apart_now u p nothing.fresh sound.apart sound.parted;
        usable = usable;
        fresh = λ b is. absurd (none_fresh u p nothing.fresh sound.apart sound.parted b is);
        unheld = λ inode place b is at. none_fresh u p nothing.fresh sound.apart sound.parted b is;
        held = held;
      };
    }

module _ (g : Geometry) (empties : EmptiedIsStored g) (sounds : LedgersAreSound) (old new : StoreState) (start : PosixTree) (history : List Entry) (p : Parts) (beside : IsBeside g old new) (nothing : HasNothingTaken p) (sound : IsSoundServer g old.unassigned.free p)
    (checkpoint : (l : Ledger) → HasLedger old l → HasLedger new (checkpointed old l)) (go : IsGoing old start history p) where
  abbrev u : BlockSet
  u = old.unassigned.free

  abbrev next : Ledger
  next = checkpointed old go.ledger

  form_next : geometry_of next.superblock ≡ g
  form_next = ap geometry_of (sym go.has.superblock_is) ∙ go.formed ∙ beside.old_form

  led : HasLedger new next
  led = checkpoint go.ledger go.has

  st_next : IsStored next u start history go.counts p
  st_next = empties go.ledger u start history go.counts p (next_superblock old) (block_at (home_of go.ledger (reads old.moments))) (go.formed ∙ beside.old_form) form_next go.stored

  abbrev going_on : IsGoing new start history (with_reclaimed p)
  going_on = record {
    ledger = m g next u start history go.counts p st_next nothing form_next sound;
    counts = go.counts;
    has = fewer_known new next (dirs g next u start history go.counts p st_next nothing form_next sound) (less g next u start history go.counts p st_next nothing form_next sound) led
        (covers g next u start history go.counts p st_next nothing form_next sound (sounds new.sectors new.moments.state next led.by.none led.by.is).1);
    formed = form_next ∙ sym beside.new_form;
    stored = subst (λ (a : Space). IsStored (m g next u start history go.counts p st_next nothing form_next sound) a.free start history go.counts (with_reclaimed p)) (sym beside.unassigned)
        (reclaimed_stored g next u start history go.counts p st_next nothing form_next sound refl);
  }

pub reclaimed : (g : Geometry) → EmptiedIsStored g → LedgersAreSound → DroppedIsReclaimed g
reclaimed g empties sounds old new start history p beside nothing sound checkpoint go = going_on g empties sounds old new start history p beside (nothing_taken p (tree_after start history) go.stored.parts nothing) sound checkpoint go

pub reclaimed_kept : (g : Geometry) → EmptiedIsStored g → LedgersAreSound → DroppedIsReclaimedKept g
reclaimed_kept g empties sounds old new start history p known beside nothing sound checkpoint was =
    record { going = going_on g empties sounds old new start history p beside nothing sound checkpoint was.going; covers = was.covers; numbered = was.numbered }

stops_by : (g : Geometry) → CheckpointsStop g → (old new : StoreState) (start : PosixTree) (history : List Entry) (p : Parts) → IsBeside g old new → IsSome new.stop → ((l : Ledger) → HasLedger old l → HasAny new (l ∷ beginning_next old l ∷ []))
    → (go : IsGoing old start history p) → HasStoppedBy new start history p go.counts go.counts
stops_by g stops old new start history p beside stopped leaves go =
    stops old new go.ledger start history go.counts p beside.new_form (go.formed ∙ beside.old_form) stopped go.has (leaves go.ledger go.has)
    (subst (λ (a : Space). IsStored go.ledger a.free start history go.counts p) (sym beside.unassigned) go.stored)

pub checkpoint_fails : (g : Geometry) → CheckpointsStop g → CheckpointsFail g
checkpoint_fails g stops old new start history p beside stopped leaves go = (stops_by g stops old new start history p beside stopped leaves go).stopped

pub checkpoint_fails_kept : (g : Geometry) → CheckpointsStop g → CheckpointsFailKept g
checkpoint_fails_kept g stops old new start history p known beside stopped leaves was =
    stopped_known new start history p was.going.counts was.going.counts known was.covers was.covers (stops_by g stops old new start history p beside stopped leaves was.going)

pub checkpoint_may_leave : (g : Geometry) → CheckpointImagesAreExplained g → CheckpointsMayLeave g
checkpoint_may_leave g each s start history p same go = record {
  ledger = go.ledger;
  knows = go.has;
  allowed = λ image. each s image go.ledger start history go.counts (go.formed ∙ same) go.has.superblock_is go.stored.kept;
}
