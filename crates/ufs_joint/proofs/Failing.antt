-- A file's commit fails, and the store stops with all that was known.
use Rattle.std.proofs.Common.{◌≡◌, ◌≢◌, ℕ, ◌⊎◌, inl, inr, Bool, true, false, List, [], ◌∷◌, ◌++◌, Some, ap, sym, refl, ◌∙◌, subst, append_assoc}
use Rattle.std.specs.Prelude.{IsSome, if◌then◌else◌}
use Rattle.std.specs.List.{AllByRecursion, slice_get}
use Rattle.std.specs.FinMap as map
use Rattle.std.proofs.lemmas.List.{append-nil}
use Rattle.ufs_disk.specs.Disk.{Cell, possible}
use Rattle.ufs_disk.specs.Moments.{Moments, reads}
use Rattle.ufs_extent.specs.Runs.{blocks_of}
use Rattle.ufs_file.specs.Hand.{FileState, whole_as}
use Rattle.ufs_files.proofs.MapLemmas.{one_or_apart}
use Rattle.ufs_ilog.specs.Deltas.{IsDelta}
use Rattle.ufs_image.specs.Images.{block_at}
use Rattle.ufs_layout.specs.Superblock.{geometry_of}
use Rattle.ufs_layout.specs.declared.records.Committed.{Committed}
use Rattle.ufs_layout.specs.declared.records.LogRecord.{LogRecord}
use Rattle.ufs_ledger.specs.Changes.{committing, home_of, settled, tried}
use Rattle.ufs_ledger.specs.Kept.{Counts, IsLedgerKept}
use Rattle.ufs_ledger.specs.Ledger.{IsLedgerOf, Ledger}
use Rattle.ufs_model.specs.FileBytes.{bytes_of}
use Rattle.ufs_model.specs.History.{tree_after}
use Rattle.ufs_model.specs.PosixTree.{PosixTree}
use Rattle.ufs_model.specs.declared.data.Entry.{Entry}
use Rattle.ufs_model.proofs.Facts.Lookups.{same_some}
use Rattle.ufs_file_commits.specs.Committing.{FilesMayCommitNext, FitsInode, HasToCommit, HasTreeBytes, IsFileBy, CommitsShowAll, WritesAreKept, all_shown}
use Rattle.ufs_file_commits.specs.Standing.{DirtyMayBeWritten, HaveOnly, StandsFor}
use Rattle.ufs_file_commits.specs.State.{DurableState, whole_of}
use Rattle.ufs_file_commits.specs.Writes.{BlockWrite, HasTriedOne, MayWriteAll, at_moments, with_writes, writes_of}
use Rattle.ufs_file_commits.proofs.Behind.{same_now, same_superblock, writes_append}
use Rattle.ufs_file_commits.proofs.Cells.{IsElsewhere, clean_elsewhere, untouched}
use Rattle.ufs_file_commits.proofs.Committing.{front_all}
use Rattle.ufs_file_commits.proofs.Fewer.{readable_on, readable_tried}
use Rattle.ufs_file_commits.proofs.Others.{off_all}
use Rattle.ufs_file_commits.proofs.Standing.{IsReady, same_block, writes_ready}
use Rattle.ufs_store.specs.Ledgers.{HasAny, beginning_next, checkpointed, commit_stages, stages}
use Rattle.ufs_store.specs.State.{StoreState, geometry_of_store, has_room, next_commit, next_superblock}
use Rattle.ufs_store.proofs.Deltas.{delta_of}
use Rattle.ufs_promise_laws.specs.OnDisk.{AreReadable, IsGoing}
use Rattle.ufs_promise_laws.specs.Parts.{Parts, durable_in}
use Rattle.ufs_promise_laws.specs.Stored.{IsFileWhole}
use Rattle.ufs_promise_laws.proofs.FileCommits.{other_file_is}
use Rattle.ufs_promise_laws.proofs.Reading.{begun_readable, home_readable, settled_readable, stored_readable}
use Rattle.ufs_promise_laws.specs.Syncs.{HasFailed}
use Rattle.ufs_store.proofs.SameStates.{same_or_other}
use Rattle.ufs_joint.proofs.Born.{file_by_history, file_on_disk, file_to_commit, same_writes, whole_file, has_birth}
use Rattle.ufs_model.specs.Laws.{KeepsTrees}
use Rattle.ufs_promise_laws.proofs.Failing.{one_of, tried_kept}
use Rattle.ufs_joint.specs.Files.{FailedFilesStayKept}
use Rattle.ufs_promise_laws.specs.Known.{Covers, IsKeptGoing, IsKeptStopped, Known}
use Rattle.ufs_joint.proofs.Covering.{shown_covers}
use Rattle.ufs_joint.proofs.Stages.{IsKeptOr, stages_tell}

-- ---- a store that has stopped

module _ (old new : StoreState) (start : PosixTree) (history : List Entry) (p : Parts) (f : FileState) (at : map.get p.files f.file ≡ Some f) (known : Known) (fits : FitsInode f)
    (told : HasFailed old new (durable_in p.commits f)) (kept_going : IsKeptGoing old start history p known) (there : IsSome (kept_going.going.counts.numbers.inode f.file)) (keeps : KeepsTrees) (writes : WritesAreKept) (shows : CommitsShowAll) (may : FilesMayCommitNext) (dirty : DirtyMayBeWritten) (tree_bytes : HasTreeBytes) where
  abbrev x : DurableState
  x = durable_in p.commits f

  -- with the tree's bytes
  abbrev w : DurableState
  w = whole_of (bytes_of (tree_after start history).bytes f.file) (durable_in p.commits f)

  same_write : writes_of w.file ≡ writes_of f
  same_write = same_writes old start history p f at kept_going.going there

  abbrev go : IsGoing old start history p
  go = kept_going.going

  abbrev l : Ledger
  l = kept_going.going.ledger

  abbrev k : Counts
  k = kept_going.going.counts

  whole : IsFileWhole l k.numbers w
  whole = whole_file old start history p f at kept_going.going there

  on_disk : (k.numbers.inode f.file ≡ Some f.inode) × StandsFor l w
  on_disk = file_on_disk old start history p f at kept_going.going there

  by_history : IsFileBy w.file start history k
  by_history = file_by_history old start history p f at kept_going.going there tree_bytes

  form : geometry_of l.superblock ≡ geometry_of_store new
  form = go.formed ∙ sym told.geometry

  abbrev tree : PosixTree
  tree = tree_after start history

  -- the counts once all changes of the file are shown
  abbrev shown : Counts
  shown = all_shown f start history kept_going.going.counts

  stops : (m : Ledger) (maybe : Counts) → geometry_of m.superblock ≡ geometry_of l.superblock → IsLedgerOf new.sectors new.moments.state m → IsLedgerKept m start history k maybe → ((maybe ≡ k) ⊎ (maybe ≡ shown)) → AreReadable m tree p
      → IsKeptStopped new start history p known
  stops m maybe same has kept which clean = record {
    stopped = record {
      stopped = told.stopped;
      ledger = m;
      now = k;
      maybe = maybe;
      has = has;
      formed = same ∙ form;
      tree = go.stored.tree;
      legal = go.stored.legal;
      kept = kept;
      parts = go.stored.parts;
      clean = clean;
    };
    now = kept_going.covers;
    maybe = by which;
  }
    where
      by : (maybe ≡ k) ⊎ (maybe ≡ shown) → Covers start history maybe known
      by (inl is) = subst (λ (c : Counts). Covers start history c known) (sym is) kept_going.covers
      by (inr is) = subst (λ (c : Counts). Covers start history c known) (sym is) (shown_covers start history f k known kept_going.covers (go.stored.counted.made f.file))

  -- no block that isn't dirty is written, of this file or another
  elsewhere : (file : ℕ) (h : FileState) → map.get p.files file ≡ Some h → (place block : ℕ) → slice_get (blocks_of h.extents) place ≡ Some block → slice_get h.content.dirty place ≡ Some false → AllByRecursion (IsElsewhere block) (writes_of f)
  elsewhere file h here place block has clean = by (one_or_apart file f.file)
    where
      by : (file ≡ f.file) ⊎ (file ≢ f.file) → AllByRecursion (IsElsewhere block) (writes_of f)
      by (inl is) =
          let same : h ≡ f = same_some h f (sym here ∙ ap (map.get p.files) is ∙ at) in
          clean_elsewhere f whole.noted.apart.once whole.noted.marks place block (subst (λ (s : FileState). slice_get (blocks_of s.extents) place ≡ Some block) same has) l
          (subst (λ (s : FileState). slice_get s.content.dirty place ≡ Some false) same clean)
      by (inr not) = off_all x (durable_in p.commits h) (go.stored.noted f.file f at) (other_file_is l old.unassigned.free start history k p f at go.stored file h here not).blocks place block has

  written_readable : (before behind : List BlockWrite) → writes_of f ≡ before ++ behind → AreReadable (with_writes before l) tree p
  written_readable before behind split file h here =
      readable_on l (with_writes before l) (whole_as (bytes_of tree.bytes file) h) (λ block was. same_block l (with_writes before l) block (ap geometry_of (same_superblock before l)) (same_now before l) was)
      (λ place block has clean free bytes only. subst (λ (c : Cell). HaveOnly (possible c) bytes)
      (sym (untouched before l block (front_all (IsElsewhere block) before behind (subst (AllByRecursion (IsElsewhere block)) split (elsewhere file h here place block has clean))))) only)
      (stored_readable l old.unassigned.free start history k p go.stored file h here)

  all_readable : AreReadable (with_writes (writes_of f) l) tree p
  all_readable = written_readable (writes_of f) [] (sym (append-nil (writes_of f)))

  one_readable : (one : HasTriedOne new (writes_of f) l) → AreReadable (tried one.one.block one.one.bytes one.reads (with_writes one.before l)) tree p
  one_readable one file h here =
      readable_tried (with_writes one.before l) one.one.block one.one.bytes one.reads (whole_as (bytes_of tree.bytes file) h)
      (λ place block has clean. one_of (IsElsewhere block) one.before one.behind one.one (subst (AllByRecursion (IsElsewhere block)) one.whole (elsewhere file h here place block has clean)))
      (written_readable one.before (one.one ∷ one.behind) one.whole file h here)

  behind_writes : (before behind : List BlockWrite) → writes_of f ≡ before ++ behind → IsLedgerKept (with_writes before l) start history k k
  behind_writes before behind split = writes old l w before behind start history k k go.has whole.noted on_disk.1 whole.own by_history (same_write ∙ split) go.stored.kept

  at_write : HasTriedOne new (writes_of f) l → IsKeptStopped new start history p known
  at_write one =
      let ready : IsReady l one.one = one_of (IsReady l) one.before one.behind one.one (subst (AllByRecursion (IsReady l)) (same_write ∙ one.whole) (writes_ready l w whole.noted on_disk.1)) in
      let split : writes_of f ≡ (one.before ++ one.one ∷ []) ++ one.behind = one.whole ∙ sym (append_assoc one.before (one.one ∷ []) one.behind) in
      let kept = subst (λ (m : Ledger). IsLedgerKept m start history k k) (writes_append one.before (one.one ∷ []) l) (behind_writes (one.before ++ one.one ∷ []) one.behind split) in
      stops (tried one.one.block one.one.bytes one.reads (with_writes one.before l)) k (ap geometry_of (same_superblock one.before l)) one.has
      (tried_kept (with_writes one.before l) one.one one.reads start history k ready.1 (one.mixed ready.0.unheld) kept) (inl refl) (one_readable one)

  begun_read : (between : Moments) (w : Ledger) → AreReadable w tree p → AreReadable (beginning_next (at_moments between old) w) tree p
  begun_read between w clean = begun_readable w (beginning_next (at_moments between old) w).maybe (block_at (home_of w (reads between))) tree p clean

  home_read : (between : Moments) (w : Ledger) → geometry_of (next_superblock (at_moments between old)) ≡ geometry_of w.superblock → AreReadable w tree p → AreReadable (checkpointed (at_moments between old) w) tree p
  home_read between w same clean = home_readable w (next_superblock (at_moments between old)) (block_at (home_of w (reads between))) tree p same clean

  settled_read : (t : Committed) (w : Ledger) → AreReadable w tree p → AreReadable (committing t (settled w)) tree p
  settled_read t w clean = settled_readable w (committing t (settled w)).maybe tree p clean

  at_stage : (between : Moments) (records : List LogRecord) (b : Bool) → (w : Ledger) → geometry_of w.superblock ≡ geometry_of l.superblock → AreReadable w tree p → (t : Committed) → geometry_of (next_superblock (at_moments between old)) ≡ geometry_of l.superblock
      → AllByRecursion (IsKeptOr start history k shown) (if b then commit_stages t w else w ∷ beginning_next (at_moments between old) w ∷ commit_stages t (checkpointed (at_moments between old) w))
      → HasAny new (if b then commit_stages t w else w ∷ beginning_next (at_moments between old) w ∷ commit_stages t (checkpointed (at_moments between old) w)) → IsKeptStopped new start history p known
  at_stage between records true w same clean t next kept (inl is) = stops w kept.0.0 same is kept.0.1 kept.0.2 clean
  at_stage between records true w same clean t next kept (inr (inl is)) = stops (committing t (settled w)) kept.1.0.0 same is kept.1.0.1 kept.1.0.2 (settled_read t w clean)
  at_stage between records true w same clean t next kept (inr (inr none)) = absurd none
  at_stage between records false w same clean t next kept (inl is) = stops w kept.0.0 same is kept.0.1 kept.0.2 clean
  at_stage between records false w same clean t next kept (inr (inl is)) = stops (beginning_next (at_moments between old) w) kept.1.0.0 same is kept.1.0.1 kept.1.0.2 (begun_read between w clean)
  at_stage between records false w same clean t next kept (inr (inr (inl is))) = stops (checkpointed (at_moments between old) w) kept.1.1.0.0 next is kept.1.1.0.1 kept.1.1.0.2 (home_read between w (next ∙ sym same) clean)
  at_stage between records false w same clean t next kept (inr (inr (inr (inl is)))) = stops (committing t (settled (checkpointed (at_moments between old) w))) kept.1.1.1.0.0 next is kept.1.1.1.0.1 kept.1.1.1.0.2 (settled_read t (checkpointed (at_moments between old) w) (home_read between w (next ∙ sym same) clean))
  at_stage between records false w same clean t next kept (inr (inr (inr (inr none)))) = absurd none

  pub failed : IsKeptStopped new start history p known
  failed = by (same_or_other x.log.noted x.log.committed)
    where
      can : MayWriteAll l (writes_of f)
      can = subst (MayWriteAll l) same_write (dirty l w whole.noted on_disk.1)

      by : (x.log.noted ≡ x.log.committed) ⊎ (x.log.noted ≢ x.log.committed) → IsKeptStopped new start history p known
      by (inl same) = empty (told.same same l go.has can)
        where
          empty : HasTriedOne new (writes_of f) l ⊎ IsLedgerOf new.sectors new.moments.state (with_writes (writes_of f) l) → IsKeptStopped new start history p known
          empty (inl one) = at_write one
          empty (inr is) = stops (with_writes (writes_of f) l) k (ap geometry_of (same_superblock (writes_of f) l)) is (behind_writes (writes_of f) [] (sym (append-nil (writes_of f)))) (inl refl) all_readable
      by (inr not) = full (told.changed (delta_of x.log.inode x.log.committed x.log.noted).0 (delta_of x.log.inode x.log.committed x.log.noted).1 not l go.has can
          (may old (delta_of x.log.inode x.log.committed x.log.noted).0 l w [] (to_commit (delta_of x.log.inode x.log.committed x.log.noted).0 (delta_of x.log.inode x.log.committed x.log.noted).1)))
        where
          to_commit : (records : List LogRecord) → IsDelta x.log.inode x.log.committed x.log.noted records → HasToCommit old records l w
          to_commit = file_to_commit old start history p f at kept_going.going there fits

          full : HasTriedOne new (writes_of f) l ⊎ ((between : Moments) × HasAny new (stages (at_moments between old) (delta_of x.log.inode x.log.committed x.log.noted).0 (with_writes (writes_of f) l))) → IsKeptStopped new start history p known
          full (inl one) = at_write one
          full (inr any) =
              let change = delta_of x.log.inode x.log.committed x.log.noted in
              at_stage any.0 change.0 (has_room (at_moments any.0 old) change.0) (with_writes (writes_of f) l) (ap geometry_of (same_superblock (writes_of f) l)) all_readable (next_commit (at_moments any.0 old) change.0) (ap geometry_of (sym go.has.superblock_is))
              (subst (λ (ws : List BlockWrite). AllByRecursion (IsKeptOr start history k shown) (stages (at_moments any.0 old) change.0 (with_writes ws l))) same_write
              (stages_tell keeps writes shows old any.0 change.0 l w start history k (to_commit change.0 change.1) by_history go.stored.tree go.stored.legal go.stored.kept)) any.1

pub failed_files : KeepsTrees → WritesAreKept → CommitsShowAll → FilesMayCommitNext → DirtyMayBeWritten → HasTreeBytes → FailedFilesStayKept
failed_files keeps writes shows may dirty tree_bytes old new start history p known f born fits told k =
    failed old new start history p f born.here known fits told k (has_birth old start history p known f born k) keeps writes shows may dirty tree_bytes
