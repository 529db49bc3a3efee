-- A file's commit fails, and the store stops.
use Rattle.std.proofs.Common.{◌≡◌, ◌≢◌, ℕ, ◌<◌, ◌≤◌, ◌⊎◌, inl, inr, Bool, true, false, List, [], ◌∷◌, ◌++◌, Some, length, ap, sym, refl, ◌∙◌, subst, append_assoc, arith}
use Rattle.std.specs.Prelude.{◌==◌, IsSome, if◌then◌else◌}
use Rattle.std.specs.List.{AllByRecursion, slice_get}
use Rattle.std.specs.FinMap as map
use Rattle.std.proofs.lemmas.Bool.{cases_lt}
use Rattle.std.proofs.lemmas.Bool.Decides.{nat_tests}
use Rattle.std.proofs.lemmas.List.{append-nil, get_or_past}
use Rattle.ufs_disk.specs.Disk.{Cell, possible}
use Rattle.ufs_disk.specs.Moments.{Moments, reads}
use Rattle.ufs_extent.specs.Runs.{blocks_of}
use Rattle.ufs_file.specs.Hand.{FileState, whole_as}
use Rattle.ufs_files.proofs.MapLemmas.{one_or_apart}
use Rattle.ufs_ilog.specs.Deltas.{IsDelta}
use Rattle.ufs_image.specs.Images.{block_at}
use Rattle.ufs_layout.specs.Superblock.{geometry_of}
use Rattle.ufs_layout.specs.declared.records.Committed.{Committed}
use Rattle.ufs_layout.specs.declared.records.LogRecord.{LogRecord}
use Rattle.ufs_ledger.specs.Changes.{committing, home_of, rewritten, settled, tried, written}
use Rattle.ufs_ledger.specs.Kept.{Counts, IsLedgerKept}
use Rattle.ufs_ledger.specs.Ledger.{HasByte, IsLedgerOf, IsMixOf, Ledger}
use Rattle.ufs_ledger.proofs.Mixing.{has_byte_last}
use Rattle.ufs_ledger.proofs.Promise.{fewer_kept}
use Rattle.ufs_model.specs.FileBytes.{bytes_of}
use Rattle.ufs_model.specs.History.{tree_after}
use Rattle.ufs_model.specs.PosixTree.{PosixTree}
use Rattle.ufs_model.specs.declared.data.Entry.{Entry}
use Rattle.ufs_model.proofs.Facts.Lookups.{same_some}
use Rattle.ufs_crash_laws.specs.FileChanges.{byte_at}
use Rattle.ufs_file_commits.specs.Committing.{FilesMayCommitNext, FitsInode, HasToCommit, HasTreeBytes, IsFileBy, StagesAreKept, WritesAreKept}
use Rattle.ufs_file_commits.specs.Standing.{DirtyMayBeWritten, HaveOnly, StandsFor}
use Rattle.ufs_file_commits.specs.State.{DurableState, whole_of}
use Rattle.ufs_file_commits.specs.Writes.{BlockWrite, HasTriedOne, MayWriteAll, at_moments, with_writes, writes_of}
use Rattle.ufs_file_commits.proofs.Behind.{same_now, same_superblock, writes_append}
use Rattle.ufs_file_commits.proofs.Cells.{IsElsewhere, clean_elsewhere, untouched}
use Rattle.ufs_file_commits.proofs.Committing.{front_all}
use Rattle.ufs_file_commits.proofs.Fewer.{readable_on, readable_tried}
use Rattle.ufs_file_commits.proofs.Others.{off_all}
use Rattle.ufs_file_commits.proofs.Standing.{IsReady, same_block, writes_ready}
use Rattle.ufs_store.specs.Ledgers.{HasAny, beginning_next, checkpointed, commit_stages, stages}
use Rattle.ufs_store.specs.State.{StoreState, geometry_of_store, has_room, next_commit, next_superblock}
use Rattle.ufs_store.proofs.Deltas.{delta_of}
use Rattle.ufs_promise_laws.specs.OnDisk.{AreReadable, HasNames, HasStopped, IsGoing}
use Rattle.ufs_promise_laws.specs.Parts.{Parts, durable_in}
use Rattle.ufs_promise_laws.specs.Stored.{IsFileWhole}
use Rattle.ufs_promise_laws.proofs.FileCommits.{other_file_is}
use Rattle.ufs_promise_laws.proofs.Reading.{begun_readable, home_readable, settled_readable, stored_readable}
use Rattle.ufs_promise_laws.specs.Syncs.{FailedSyncsGoOn, HasFailed}
use Rattle.ufs_store.proofs.SameStates.{same_or_other}
use Rattle.ufs_promise_laws.proofs.LiveFiles.{file_by_history, file_on_disk, file_to_commit, same_writes, whole_file}

-- what holds of one of them
pub one_of : {X : Type 0} (P : X → Type 0) (xs ys : List X) (y : X) → AllByRecursion P (xs ++ y ∷ ys) → P y
one_of P [] ys y all = all.0
one_of P (x ∷ xs) ys y all = one_of P xs ys y all.1

-- ---- a cell that is tried

has_byte_cases : (xs : List (List ℕ)) (y : List ℕ) (place byte : ℕ) → HasByte (xs ++ y ∷ []) place byte → HasByte xs place byte ⊎ (byte ≡ byte_at y place)
has_byte_cases [] y place byte (inl e) = inr e
has_byte_cases [] y place byte (inr none) = absurd none
has_byte_cases (x ∷ xs) y place byte (inl e) = inl (inl e)
has_byte_cases (x ∷ xs) y place byte (inr rest) = by (has_byte_cases xs y place byte rest)
  where
    by : HasByte xs place byte ⊎ (byte ≡ byte_at y place) → HasByte (x ∷ xs) place byte ⊎ (byte ≡ byte_at y place)
    by (inl is) = inl (inr is)
    by (inr e) = inr e

-- a mix has no more bytes than what it is of
mix_has : (older : List (List ℕ)) (seen reads : List ℕ) (place byte : ℕ) → length seen ≡ 4096 → IsMixOf (older ++ seen ∷ []) reads → HasByte ((older ++ seen ∷ []) ++ reads ∷ []) place byte → HasByte (older ++ seen ∷ []) place byte
mix_has older seen reads place byte size mix is = by (has_byte_cases (older ++ seen ∷ []) reads place byte is)
  where
    at : (place < 4096) ⊎ (4096 ≤ place) → byte ≡ byte_at reads place → HasByte (older ++ seen ∷ []) place byte
    at (inl less) e = subst (HasByte (older ++ seen ∷ []) place) (sym e) (mix.each place less)
    at (inr past) e =
        let one : byte_at reads place ≡ 0 = get_or_past reads place 0 (let s = mix.size in omega (arith, s, past)) in
        let other : byte_at seen place ≡ 0 = get_or_past seen place 0 (omega (arith, size, past)) in
        has_byte_last older seen place byte (e ∙ one ∙ sym other)

    by : HasByte (older ++ seen ∷ []) place byte ⊎ (byte ≡ byte_at reads place) → HasByte (older ++ seen ∷ []) place byte
    by (inl had) = had
    by (inr e) = at (cases_lt place 4096) e

-- what is read after a write that failed keeps the promise
pub tried_kept : (l : Ledger) (w : BlockWrite) (reads : List ℕ) (start : PosixTree) (history : List Entry) (k : Counts) → length w.bytes ≡ 4096 → IsMixOf (possible ((written w.block w.bytes l).blocks w.block)) reads
    → IsLedgerKept (written w.block w.bytes l) start history k k → IsLedgerKept (tried w.block w.bytes reads l) start history k k
tried_kept l w reads start history k size mix kept = record {
  here = fewer_kept (geometry_of l.superblock) cells l.now start history k.names k.files k.numbers kept.here (rewritten w.block reads cells) less;
  there = λ other is. let t = kept.there other is in (t.0, fewer_kept (geometry_of l.superblock) cells other.stand start history k.names k.files k.numbers t.1 (rewritten w.block reads cells) less);
}
  where
    cells : ℕ → Cell
    cells = rewritten w.block w.bytes l.blocks

    self : (w.block == w.block) ≡ true
    self = grind (arith, nat_tests)

    less : (block place byte : ℕ) → HasByte (possible (rewritten w.block reads (rewritten w.block w.bytes l.blocks) block)) place byte → HasByte (possible (rewritten w.block w.bytes l.blocks block)) place byte
    less block place byte = by (block == w.block) refl
      where
        by : (b : Bool) → (block == w.block) ≡ b → HasByte (possible (rewritten w.block reads (rewritten w.block w.bytes l.blocks) block)) place byte → HasByte (possible (rewritten w.block w.bytes l.blocks block)) place byte
        by false e is = subst (λ (b : Bool). HasByte (possible (if b then record { older = possible (rewritten w.block w.bytes l.blocks block); seen = reads } else rewritten w.block w.bytes l.blocks block)) place byte) e is
        by true e is =
            let there : block ≡ w.block = grind (arith, nat_tests, e) in
            let cell : rewritten w.block w.bytes l.blocks block ≡ record { older = possible (l.blocks block); seen = w.bytes } = ap (λ (b : Bool). if b then record { older = possible (l.blocks block); seen = w.bytes } else l.blocks block) e in
            let mixed : IsMixOf (possible (l.blocks block) ++ w.bytes ∷ []) reads =
            subst (λ (c : Cell). IsMixOf (possible c) reads) cell (subst (λ (b : ℕ). IsMixOf (possible (rewritten w.block w.bytes l.blocks b)) reads) (sym there) mix) in
            let had : HasByte (possible (rewritten w.block w.bytes l.blocks block) ++ reads ∷ []) place byte =
            subst (λ (b : Bool). HasByte (possible (if b then record { older = possible (rewritten w.block w.bytes l.blocks block); seen = reads } else rewritten w.block w.bytes l.blocks block)) place byte) e is in
            subst (λ (c : Cell). HasByte (possible c) place byte) (sym cell)
            (mix_has (possible (l.blocks block)) w.bytes reads place byte size mixed (subst (λ (c : Cell). HasByte (possible c ++ reads ∷ []) place byte) cell had))

-- ---- a store that has stopped

module _ (old new : StoreState) (start : PosixTree) (history : List Entry) (p : Parts) (f : FileState) (at : map.get p.files f.file ≡ Some f) (live : IsSome (map.get p.names.held f.file)) (fits : FitsInode f)
    (told : HasFailed old new (durable_in p.commits f)) (names : HasNames old start history p) (writes : WritesAreKept) (staged : StagesAreKept) (may : FilesMayCommitNext) (dirty : DirtyMayBeWritten) (tree_bytes : HasTreeBytes) where
  abbrev x : DurableState
  x = durable_in p.commits f

  -- with the tree's bytes
  abbrev w : DurableState
  w = whole_of (bytes_of (tree_after start history).bytes f.file) (durable_in p.commits f)

  same_write : writes_of w.file ≡ writes_of f
  same_write = same_writes old start history p f at live names

  abbrev go : IsGoing old start history p
  go = names.going

  abbrev l : Ledger
  l = names.going.ledger

  abbrev k : Counts
  k = names.going.counts

  whole : IsFileWhole l k.numbers w
  whole = whole_file old start history p f at live names

  on_disk : (k.numbers.inode f.file ≡ Some f.inode) × StandsFor l w
  on_disk = file_on_disk old start history p f at live names

  by_history : IsFileBy w.file start history k
  by_history = file_by_history old start history p f at live names tree_bytes

  form : geometry_of l.superblock ≡ geometry_of_store new
  form = go.formed ∙ sym told.geometry

  abbrev tree : PosixTree
  tree = tree_after start history

  stops : (m : Ledger) (maybe : Counts) → geometry_of m.superblock ≡ geometry_of l.superblock → IsLedgerOf new.sectors new.moments.state m → IsLedgerKept m start history k maybe → AreReadable m tree p → HasStopped new start history p
  stops m maybe same has kept clean = record {
    stopped = told.stopped;
    ledger = m;
    now = k;
    maybe = maybe;
    has = has;
    formed = same ∙ form;
    tree = go.stored.tree;
    legal = go.stored.legal;
    kept = kept;
    parts = go.stored.parts;
    clean = clean;
  }

  -- no block that isn't dirty is written, of this file or another
  elsewhere : (file : ℕ) (h : FileState) → map.get p.files file ≡ Some h → (place block : ℕ) → slice_get (blocks_of h.extents) place ≡ Some block → slice_get h.content.dirty place ≡ Some false → AllByRecursion (IsElsewhere block) (writes_of f)
  elsewhere file h here place block has clean = by (one_or_apart file f.file)
    where
      by : (file ≡ f.file) ⊎ (file ≢ f.file) → AllByRecursion (IsElsewhere block) (writes_of f)
      by (inl is) =
          let same : h ≡ f = same_some h f (sym here ∙ ap (map.get p.files) is ∙ at) in
          clean_elsewhere f whole.noted.apart.once whole.noted.marks place block (subst (λ (s : FileState). slice_get (blocks_of s.extents) place ≡ Some block) same has) l
          (subst (λ (s : FileState). slice_get s.content.dirty place ≡ Some false) same clean)
      by (inr not) = off_all x (durable_in p.commits h) (go.stored.noted f.file f at) (other_file_is l old.unassigned.free start history k p f at go.stored file h here not).blocks place block has

  written_readable : (before behind : List BlockWrite) → writes_of f ≡ before ++ behind → AreReadable (with_writes before l) tree p
  written_readable before behind split file h here =
      readable_on l (with_writes before l) (whole_as (bytes_of tree.bytes file) h) (λ block was. same_block l (with_writes before l) block (ap geometry_of (same_superblock before l)) (same_now before l) was)
      (λ place block has clean free bytes only. subst (λ (c : Cell). HaveOnly (possible c) bytes)
      (sym (untouched before l block (front_all (IsElsewhere block) before behind (subst (AllByRecursion (IsElsewhere block)) split (elsewhere file h here place block has clean))))) only)
      (stored_readable l old.unassigned.free start history k p go.stored file h here)

  all_readable : AreReadable (with_writes (writes_of f) l) tree p
  all_readable = written_readable (writes_of f) [] (sym (append-nil (writes_of f)))

  one_readable : (one : HasTriedOne new (writes_of f) l) → AreReadable (tried one.one.block one.one.bytes one.reads (with_writes one.before l)) tree p
  one_readable one file h here =
      readable_tried (with_writes one.before l) one.one.block one.one.bytes one.reads (whole_as (bytes_of tree.bytes file) h)
      (λ place block has clean. one_of (IsElsewhere block) one.before one.behind one.one (subst (AllByRecursion (IsElsewhere block)) one.whole (elsewhere file h here place block has clean)))
      (written_readable one.before (one.one ∷ one.behind) one.whole file h here)

  behind_writes : (before behind : List BlockWrite) → writes_of f ≡ before ++ behind → IsLedgerKept (with_writes before l) start history k k
  behind_writes before behind split = writes old l w before behind start history k k go.has whole.noted on_disk.1 whole.own by_history (same_write ∙ split) go.stored.kept

  at_write : HasTriedOne new (writes_of f) l → HasStopped new start history p
  at_write one =
      let ready : IsReady l one.one = one_of (IsReady l) one.before one.behind one.one (subst (AllByRecursion (IsReady l)) (same_write ∙ one.whole) (writes_ready l w whole.noted on_disk.1)) in
      let split : writes_of f ≡ (one.before ++ one.one ∷ []) ++ one.behind = one.whole ∙ sym (append_assoc one.before (one.one ∷ []) one.behind) in
      let kept = subst (λ (m : Ledger). IsLedgerKept m start history k k) (writes_append one.before (one.one ∷ []) l) (behind_writes (one.before ++ one.one ∷ []) one.behind split) in
      stops (tried one.one.block one.one.bytes one.reads (with_writes one.before l)) k (ap geometry_of (same_superblock one.before l)) one.has
      (tried_kept (with_writes one.before l) one.one one.reads start history k ready.1 (one.mixed ready.0.unheld) kept) (one_readable one)

  begun_read : (between : Moments) (w : Ledger) → AreReadable w tree p → AreReadable (beginning_next (at_moments between old) w) tree p
  begun_read between w clean = begun_readable w (beginning_next (at_moments between old) w).maybe (block_at (home_of w (reads between))) tree p clean

  home_read : (between : Moments) (w : Ledger) → geometry_of (next_superblock (at_moments between old)) ≡ geometry_of w.superblock → AreReadable w tree p → AreReadable (checkpointed (at_moments between old) w) tree p
  home_read between w same clean = home_readable w (next_superblock (at_moments between old)) (block_at (home_of w (reads between))) tree p same clean

  settled_read : (t : Committed) (w : Ledger) → AreReadable w tree p → AreReadable (committing t (settled w)) tree p
  settled_read t w clean = settled_readable w (committing t (settled w)).maybe tree p clean

  at_stage : (between : Moments) (records : List LogRecord) (b : Bool) → (w : Ledger) → geometry_of w.superblock ≡ geometry_of l.superblock → AreReadable w tree p → (t : Committed) → geometry_of (next_superblock (at_moments between old)) ≡ geometry_of l.superblock
      → AllByRecursion (λ (m : Ledger). (maybe : Counts) × IsLedgerKept m start history k maybe) (if b then commit_stages t w else w ∷ beginning_next (at_moments between old) w ∷ commit_stages t (checkpointed (at_moments between old) w))
      → HasAny new (if b then commit_stages t w else w ∷ beginning_next (at_moments between old) w ∷ commit_stages t (checkpointed (at_moments between old) w)) → HasStopped new start history p
  at_stage between records true w same clean t next kept (inl is) = stops w kept.0.0 same is kept.0.1 clean
  at_stage between records true w same clean t next kept (inr (inl is)) = stops (committing t (settled w)) kept.1.0.0 same is kept.1.0.1 (settled_read t w clean)
  at_stage between records true w same clean t next kept (inr (inr none)) = absurd none
  at_stage between records false w same clean t next kept (inl is) = stops w kept.0.0 same is kept.0.1 clean
  at_stage between records false w same clean t next kept (inr (inl is)) = stops (beginning_next (at_moments between old) w) kept.1.0.0 same is kept.1.0.1 (begun_read between w clean)
  at_stage between records false w same clean t next kept (inr (inr (inl is))) = stops (checkpointed (at_moments between old) w) kept.1.1.0.0 next is kept.1.1.0.1 (home_read between w (next ∙ sym same) clean)
  at_stage between records false w same clean t next kept (inr (inr (inr (inl is)))) = stops (committing t (settled (checkpointed (at_moments between old) w))) kept.1.1.1.0.0 next is kept.1.1.1.0.1 (settled_read t (checkpointed (at_moments between old) w) (home_read between w (next ∙ sym same) clean))
  at_stage between records false w same clean t next kept (inr (inr (inr (inr none)))) = absurd none

  pub failed : HasStopped new start history p
  failed = by (same_or_other x.log.noted x.log.committed)
    where
      can : MayWriteAll l (writes_of f)
      can = subst (MayWriteAll l) same_write (dirty l w whole.noted on_disk.1)

      by : (x.log.noted ≡ x.log.committed) ⊎ (x.log.noted ≢ x.log.committed) → HasStopped new start history p
      by (inl same) = empty (told.same same l go.has can)
        where
          empty : HasTriedOne new (writes_of f) l ⊎ IsLedgerOf new.sectors new.moments.state (with_writes (writes_of f) l) → HasStopped new start history p
          empty (inl one) = at_write one
          empty (inr is) = stops (with_writes (writes_of f) l) k (ap geometry_of (same_superblock (writes_of f) l)) is (behind_writes (writes_of f) [] (sym (append-nil (writes_of f)))) all_readable
      by (inr not) = full (told.changed (delta_of x.log.inode x.log.committed x.log.noted).0 (delta_of x.log.inode x.log.committed x.log.noted).1 not l go.has can
          (may old (delta_of x.log.inode x.log.committed x.log.noted).0 l w [] (to_commit (delta_of x.log.inode x.log.committed x.log.noted).0 (delta_of x.log.inode x.log.committed x.log.noted).1)))
        where
          to_commit : (records : List LogRecord) → IsDelta x.log.inode x.log.committed x.log.noted records → HasToCommit old records l w
          to_commit = file_to_commit old start history p f at live names fits

          full : HasTriedOne new (writes_of f) l ⊎ ((between : Moments) × HasAny new (stages (at_moments between old) (delta_of x.log.inode x.log.committed x.log.noted).0 (with_writes (writes_of f) l))) → HasStopped new start history p
          full (inl one) = at_write one
          full (inr any) =
              let change = delta_of x.log.inode x.log.committed x.log.noted in
              at_stage any.0 change.0 (has_room (at_moments any.0 old) change.0) (with_writes (writes_of f) l) (ap geometry_of (same_superblock (writes_of f) l)) all_readable (next_commit (at_moments any.0 old) change.0) (ap geometry_of (sym go.has.superblock_is))
              (subst (λ (ws : List BlockWrite). AllByRecursion (λ (m : Ledger). (maybe : Counts) × IsLedgerKept m start history k maybe) (stages (at_moments any.0 old) change.0 (with_writes ws l))) same_write
              (staged old any.0 change.0 l w start history k (to_commit change.0 change.1) by_history go.stored.tree go.stored.legal go.stored.kept)) any.1

pub failed_syncs_go_on : WritesAreKept → StagesAreKept → FilesMayCommitNext → DirtyMayBeWritten → HasTreeBytes → FailedSyncsGoOn
failed_syncs_go_on writes staged may dirty tree_bytes old new start history p f at live fits told names = failed old new start history p f at live fits told names writes staged may dirty tree_bytes
