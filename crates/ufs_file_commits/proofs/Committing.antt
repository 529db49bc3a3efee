-- How a ledger is kept while a file is written and committed.
use Rattle.std.proofs.Common.{◌≡◌, ℕ, zero, suc, ◌+◌, ◌*◌, ◌<◌, ◌≤◌, ◌⊎◌, inl, inr, List, [], ◌∷◌, ◌++◌, Bool, true, false, Option, Some, None, length, get_or, unwrap_or, ap, sym, refl, ◌∙◌, subst, arith}
use Rattle.std.specs.Prelude.{◌/◌, ◌%◌, flat_map, if◌then◌else◌}
use Rattle.std.specs.List.{AllByRecursion, range_with_len, slice_get}
use Rattle.std.proofs.lemmas.Bool.{cases_lt}
use Rattle.std.proofs.lemmas.List.{append-nil}
use Rattle.ufs_disk.specs.Disk.{Cell, possible}
use Rattle.ufs_disk.specs.Moments.{Moments, reads}
use Rattle.ufs_disk.proofs.Runs.{all_append}
use Rattle.ufs_extent.specs.Runs.{blocks_of}
use Rattle.ufs_file.specs.Content.{block_bytes, own_bytes}
use Rattle.ufs_ilog.specs.Deltas.{IsDelta, extents_of}
use Rattle.ufs_image.specs.Images.{block_at}
use Rattle.ufs_image.specs.Nodes.{blocks_of as form_blocks}
use Rattle.ufs_layout.specs.Superblock.{geometry_of}
use Rattle.ufs_layout.specs.declared.geometry.Geometry.{Geometry}
use Rattle.ufs_layout.specs.declared.superblock.Super.{Super}
use Rattle.ufs_layout.specs.declared.records.Committed.{Committed}
use Rattle.ufs_layout.specs.declared.records.LogRecord.{LogRecord}
use Rattle.ufs_ledger.specs.Changes.{committed_one, committing, emptied, home_of, settled, without_log, written}
use Rattle.ufs_ledger.specs.Kept.{Counts, IsLedgerKept, IsStandKept, shape_of}
use Rattle.ufs_ledger.specs.Laws.{GoesOnBy, HasBytesNow, MayCommitFile, StandsOn, raised}
use Rattle.ufs_ledger.specs.Ledger.{Ledger, Stand, is_held, with_one}
use Rattle.ufs_ledger.proofs.FileCommits.{stands_on}
use Rattle.ufs_ledger.proofs.Whole.{beginning_kept, emptied_is_kept, ledger_goes_on, ledger_kept}
use Rattle.ufs_model.specs.FileBytes.{bytes_of}
use Rattle.ufs_model.specs.History.{IsLegal, tree_after}
use Rattle.ufs_model.specs.Laws.{KeepsTrees}
use Rattle.ufs_model.specs.PosixTree.{IsTree, PosixTree}
use Rattle.ufs_model.specs.declared.data.Entry.{Entry}
use Rattle.ufs_crash_laws.specs.Changes.{changes_of}
use Rattle.ufs_crash_laws.specs.FileChanges.{all_changed, byte_at}
use Rattle.ufs_store.specs.Ledgers.{HasLedger, beginning_next, checkpointed, commit_stages}
use Rattle.ufs_store.specs.State.{StoreState, has_room, next_commit, next_superblock}
use Rattle.ufs_file_commits.specs.Committing.{CommitsShowAll, DoneIsKept, FitsInode, HasOwnBlocks, HasToCommit, IsFileBy, StagesAreKept, WritesAreKept, all_shown}
use Rattle.ufs_file_commits.specs.Standing.{HaveOnly, StandsFor}
use Rattle.ufs_file_commits.specs.State.{DurableState, IsNoted}
use Rattle.ufs_file_commits.specs.Writes.{BlockWrite, at_moments, with_writes, write_at, write_of, writes_of}
use Rattle.ufs_file_commits.proofs.Behind.{same_superblock, same_maybe, same_now}
use Rattle.ufs_file_commits.proofs.Cells.{got_back}
use Rattle.ufs_file_commits.proofs.Fitting.{blocks_here, covers, form, may_form, next_is, own_at, sound}
use Rattle.ufs_file_commits.proofs.Still.{byte_of_block}
use Rattle.ufs_file_commits.proofs.Standing.{all_home, all_settled, byte_in_own}

-- ---- its writes

pub front_all : (P : BlockWrite → Type 0) (xs ys : List BlockWrite) → AllByRecursion P (xs ++ ys) → AllByRecursion P xs
front_all P [] ys every = tt
front_all P (x ∷ xs) ys every = (every.0, front_all P xs ys every.1)

behind_each : (ws : List BlockWrite) (l : Ledger) (start : PosixTree) (history : List Entry) (now maybe : Counts) → l.maybe ≡ None
    → AllByRecursion (λ (w : BlockWrite). HasBytesNow l.now now.numbers start history w.block w.bytes) ws → IsLedgerKept l start history now maybe → IsLedgerKept (with_writes ws l) start history now maybe
behind_each [] l start history now maybe none every kept = kept
behind_each (w ∷ ws) l start history now maybe none every kept =
    behind_each ws (written w.block w.bytes l) start history now maybe none every.1 ((ledger_kept l start history now maybe none kept).0 w.block w.bytes every.0)

module _ (s : StoreState) (l : Ledger) (f : DurableState) (has : HasLedger s l) (noted : IsNoted f) (stands : StandsFor l f) (own : HasOwnBlocks l f)
    (start : PosixTree) (history : List Entry) (now maybe : Counts) (by_history : IsFileBy f.file start history now) (kept : IsLedgerKept l start history now maybe) where
  -- whichever file has the block on the disk has there what is written
  has_now : (p k : ℕ) → slice_get (blocks_of f.file.extents) p ≡ Some k → HasBytesNow l.now now.numbers start history k (block_bytes f.file.content.bytes p)
  has_now p k here file place there at under less = of (now.numbers.inode file) refl there
    where
      of : (o : Option ℕ) → now.numbers.inode file ≡ o → slice_get (shape_of l.now.catalog o).holds place ≡ Some k
          → byte_at (block_bytes f.file.content.bytes p) at ≡ byte_at (all_changed (bytes_of start.bytes file) (changes_of file start history)) (4096 * place + at)
      of None e none = let off = none in absurd cc
      of (Some inode) e block =
          let it = own_at s l f has noted stands own p k here inode place (record { in_range = (kept.here.stored.inodes file inode e).0; there = block }) in
          let same : file ≡ f.file.file = by_history.alone file (e ∙ ap Some it.0) in
          byte_of_block f.file.content.bytes p at under
          ∙ (λ i. byte_at (by_history.bytes i) (4096 * sym it.1 i + at))
          ∙ ap (λ x. byte_at (all_changed (bytes_of start.bytes x) (changes_of x start history)) (4096 * place + at)) (sym same)

  now_at : (p : ℕ) → p < length f.file.content.dirty → AllByRecursion (λ (w : BlockWrite). HasBytesNow l.now now.numbers start history w.block w.bytes) (write_at f.file p)
  now_at p under = by (unwrap_or (slice_get f.file.content.dirty p) false)
    where
      there : slice_get (blocks_of f.file.extents) p ≡ Some (get_or (blocks_of f.file.extents) p 0)
      there = got_back (blocks_of f.file.extents) 0 p (let same = noted.marks in omega (arith, under, same))

      here : HasBytesNow l.now now.numbers start history (write_of f.file p).block (block_bytes f.file.content.bytes p)
      here = has_now p (write_of f.file p).block (there ∙ ap Some (sym (ap (λ (o : Option ℕ). unwrap_or o 0) there)))

      by : (b : Bool) → AllByRecursion (λ (w : BlockWrite). HasBytesNow l.now now.numbers start history w.block w.bytes) (if b then write_of f.file p ∷ [] else [])
      by true = (here, tt)
      by false = tt

  now_places : (from n : ℕ) → from + n ≤ length f.file.content.dirty → AllByRecursion (λ (w : BlockWrite). HasBytesNow l.now now.numbers start history w.block w.bytes) (flat_map (write_at f.file) (range_with_len from n))
  now_places from zero inside = tt
  now_places from (suc n) inside =
      all_append (λ (w : BlockWrite). HasBytesNow l.now now.numbers start history w.block w.bytes) (write_at f.file from) (flat_map (write_at f.file) (range_with_len (from + 1) n))
      (now_at from (omega (arith, inside))) (now_places (from + 1) n (omega (arith, inside)))

  pub kept_behind : (before behind : List BlockWrite) → writes_of f.file ≡ before ++ behind → IsLedgerKept (with_writes before l) start history now maybe
  kept_behind before behind whole =
      behind_each before l start history now maybe has.by.none
      (front_all (λ (w : BlockWrite). HasBytesNow l.now now.numbers start history w.block w.bytes) before behind
      (subst (AllByRecursion (λ (w : BlockWrite). HasBytesNow l.now now.numbers start history w.block w.bytes)) whole (now_places 0 (length f.file.content.dirty) (omega arith)))) kept

pub writes_are_kept : WritesAreKept
writes_are_kept s l f before behind start history now maybe has noted stands own by_history whole kept = kept_behind s l f has noted stands own start history now maybe by_history kept before behind whole

-- ---- its commit

module _ (s : StoreState) (l : Ledger) (f : DurableState) (has : HasLedger s l) (noted : IsNoted f) (stands : StandsFor l f) (own : HasOwnBlocks l f) (fits : FitsInode f.file)
    (records : List LogRecord) (delta : IsDelta f.log.inode f.log.committed f.log.noted records) (start : PosixTree) (history : List Entry) (now : Counts) (by_history : IsFileBy f.file start history now) where
  abbrev g : Geometry
  g = geometry_of l.superblock

  abbrev IsOn : (ℕ → Cell) → Stand → Type 0
  IsOn blocks t =
      StandsOn (geometry_of l.superblock) blocks t (with_one (geometry_of l.superblock) (next_commit s records) t) start history now.names now.names now.files (raised now.files f.file.file (length (changes_of f.file.file start history))) now.numbers now.numbers

  -- over other cells and another log
  module _ (blocks : ℕ → Cell) (log : List Committed) (less : (block : ℕ) → is_held l.now.log block ≡ false → is_held log block ≡ false)
      (have : (place block : ℕ) → slice_get (blocks_of f.file.extents) place ≡ Some block → HaveOnly (possible (blocks block)) (own_bytes f.file.content.bytes place))
      (kept : IsStandKept (geometry_of l.superblock) blocks (record (l.now) { log = log }) start history now.names now.files now.numbers) where
    same_blocks : form_blocks (form s l f has noted stands own fits delta.keep delta.given delta.front.in_one delta.whole) ≡ blocks_of f.file.extents
    same_blocks = blocks_here s l f has noted stands own fits delta.keep delta.given delta.front.in_one delta.whole

    at_file : (place block : ℕ) → slice_get (form_blocks (form s l f has noted stands own fits delta.keep delta.given delta.front.in_one delta.whole)) place ≡ Some block → slice_get (blocks_of f.file.extents) place ≡ Some block
    at_file place block at = sym (ap (λ bs. slice_get bs place) same_blocks) ∙ at

    born : f.file.file < (tree_after start history).next
    born = by (cases_lt f.file.file (tree_after start history).next)
      where
        by : (f.file.file < (tree_after start history).next) ⊎ ((tree_after start history).next ≤ f.file.file) → f.file.file < (tree_after start history).next
        by (inl under) = under
        by (inr above) = let off = sym by_history.there ∙ (kept.stored.fresh f.file.file above).1 in absurd cc

    go : MayCommitFile (geometry_of l.superblock) blocks (record (l.now) { log = log }) start history now.files now.numbers f.file.file f.file.inode s.journal.number f.log.noted.size delta.keep (extents_of delta.given)
    go =
        let may = may_form s l f has noted stands own fits delta.keep delta.given delta.front.in_one delta.whole in
        record {
          there = by_history.there;
          alone = by_history.alone;
          born = born;
          counted = by_history.counted;
          newer = may.newer;
          keeps = may.keeps;
          fits = may.fits;
          may = may.may;
          unheld = λ place block at. less block (stands.blocks place block (at_file place block at)).unheld;
          sized = noted.size ∙ ap length by_history.bytes;
          now = λ place byte under may_have.
              let own = byte_in_own f.file.content.bytes place (let same = noted.size in omega (arith, under, same)) in
              have (place / 4096) may_have.block (at_file (place / 4096) may_have.block may_have.there) (place % 4096) byte own.0 may_have.has
              ∙ own.1 ∙ ap (λ bs. byte_at bs place) by_history.bytes;
        }

    pub on_log : IsOn blocks (record (l.now) { log = log })
    on_log =
        subst (λ (t : Committed). StandsOn (geometry_of l.superblock) blocks (record (l.now) { log = log }) (with_one (geometry_of l.superblock) t (record (l.now) { log = log })) start history now.names now.names now.files (raised now.files f.file.file (length (changes_of f.file.file start history))) now.numbers now.numbers)
        (next_is s l f has noted stands own records delta)
        (stands_on (geometry_of l.superblock) blocks (record (l.now) { log = log }) start history now.names now.files now.numbers f.file.file f.file.inode s.journal.number f.log.noted.size delta.keep (extents_of delta.given)
        (sound s l has) (covers s l has) kept go)

  module _ (maybe : Counts) (kept : IsLedgerKept l start history now maybe) where
    abbrev r : Ledger
    r = with_writes (writes_of f.file) l

    r_kept : IsLedgerKept r start history now maybe
    r_kept = kept_behind s l f has noted stands own start history now maybe by_history kept (writes_of f.file) [] (sym (append-nil (writes_of f.file)))

    r_none : r.maybe ≡ None
    r_none = same_maybe (writes_of f.file) l ∙ has.by.none

    pub on_writes : IsOn (settled r).blocks r.now
    on_writes =
        let here = (ledger_kept r start history now maybe r_none r_kept).1.here in
        subst (IsOn (settled r).blocks) (sym (same_now (writes_of f.file) l))
        (on_log (settled r).blocks l.now.log (λ block free. free) (all_settled l f noted stands)
        (subst (λ (x : Super × Stand). IsStandKept (geometry_of x.0) (settled r).blocks x.1 start history now.names now.files now.numbers) (λ i. (same_superblock (writes_of f.file) l i, same_now (writes_of f.file) l i)) here))

    module _ (superblock : Super) (home : ℕ → List ℕ) (same : geometry_of superblock ≡ geometry_of l.superblock) where
      pub on_home : IsOn (settled (emptied superblock home r)).blocks (emptied superblock home r).now
      on_home =
          let e_kept = emptied_is_kept r superblock home start history now maybe (same ∙ ap geometry_of (sym (same_superblock (writes_of f.file) l))) r_kept in
          let here = (ledger_kept (emptied superblock home r) start history now now refl e_kept).1.here in
          subst (IsOn (settled (emptied superblock home r)).blocks) (ap without_log (sym (same_now (writes_of f.file) l)))
          (on_log (settled (emptied superblock home r)).blocks [] (λ block free. refl) (all_home l f noted stands superblock home)
          (subst (λ (x : Geometry × Stand). IsStandKept x.0 (settled (emptied superblock home r)).blocks x.1 start history now.names now.files now.numbers) (λ i. (same i, without_log (same_now (writes_of f.file) l i))) here))

    pub on_room : (between : Moments) (b : Bool)
        → IsOn (settled (if b then r else checkpointed (at_moments between s) r)).blocks (if b then r else checkpointed (at_moments between s) r).now
    on_room between true = on_writes
    on_room between false = on_home (next_superblock s) (block_at (home_of r (reads between))) (ap geometry_of (sym has.superblock_is))

pub commits_show_all : CommitsShowAll
commits_show_all s between records l f start history now maybe it by_history kept =
    on_room s l f it.has it.noted it.stands it.own it.fits records it.delta start history now by_history maybe kept between (has_room s records)

-- ---- the whole ledger

module _ (keeps : KeepsTrees) (s : StoreState) (between : Moments) (records : List LogRecord) (l : Ledger) (f : DurableState) (start : PosixTree) (history : List Entry) (now : Counts) (it : HasToCommit s records l f)
    (by_history : IsFileBy f.file start history now) (is : IsTree start) (legal : IsLegal start history) (kept : IsLedgerKept l start history now now) where
  abbrev written_all : Ledger
  written_all = with_writes (writes_of f.file) l

  abbrev next : Counts
  next = all_shown f.file start history now

  abbrev home : ℕ → List ℕ
  home = block_at (home_of (with_writes (writes_of f.file) l) (reads between))

  abbrev in_room : Bool → Ledger
  in_room b = if b then with_writes (writes_of f.file) l else checkpointed (at_moments between s) (with_writes (writes_of f.file) l)

  written_kept : IsLedgerKept written_all start history now now
  written_kept = kept_behind s l f it.has it.noted it.stands it.own start history now now by_history kept (writes_of f.file) [] (sym (append-nil (writes_of f.file)))

  same_geometry : geometry_of (next_superblock s) ≡ geometry_of written_all.superblock
  same_geometry = ap geometry_of (sym it.has.superblock_is ∙ sym (same_superblock (writes_of f.file) l))

  room_kept : (b : Bool) → IsLedgerKept (in_room b) start history now now
  room_kept true = written_kept
  room_kept false = emptied_is_kept written_all (next_superblock s) home start history now now same_geometry written_kept

  room_superblock : (b : Bool) → geometry_of l.superblock ≡ geometry_of (in_room b).superblock
  room_superblock true = ap geometry_of (sym (same_superblock (writes_of f.file) l))
  room_superblock false = ap geometry_of it.has.superblock_is

  room_none : (b : Bool) → (in_room b).maybe ≡ None
  room_none true = same_maybe (writes_of f.file) l ∙ it.has.by.none
  room_none false = refl

  goes_on : (b : Bool) → IsLedgerKept (committing (next_commit s records) (settled (in_room b))) start history now next × IsLedgerKept (committed_one (next_commit s records) (in_room b)) start history next next
  goes_on b =
      ledger_goes_on (in_room b) (next_commit s records) start history now next keeps (room_none b) is legal.entries (room_kept b)
      (subst (λ g. GoesOnBy g (in_room b) (next_commit s records) start history now next) (room_superblock b)
      (on_room s l f it.has it.noted it.stands it.own it.fits records it.delta start history now by_history now kept between b))

  pub each_stage : (b : Bool) → AllByRecursion (λ (m : Ledger). (maybe : Counts) × IsLedgerKept m start history now maybe)
      (if b then commit_stages (next_commit s records) written_all else written_all ∷ beginning_next (at_moments between s) written_all ∷ commit_stages (next_commit s records) (checkpointed (at_moments between s) written_all))
  each_stage true = ((now, written_kept), ((next, (goes_on true).0), tt))
  each_stage false = ((now, written_kept), ((now, beginning_kept written_all (next_superblock s) home start history now now same_geometry written_kept), ((now, room_kept false), ((next, (goes_on false).0), tt))))

  pub done : (b : Bool) → IsLedgerKept (committed_one (next_commit s records) (in_room b)) start history next next
  done b = (goes_on b).1

pub stages_are_kept : KeepsTrees → StagesAreKept
stages_are_kept keeps s between records l f start history now it by_history is legal kept = each_stage keeps s between records l f start history now it by_history is legal kept (has_room s records)

pub done_is_kept : KeepsTrees → DoneIsKept
done_is_kept keeps s between records l f start history now it by_history is legal kept = done keeps s between records l f start history now it by_history is legal kept (has_room s records)
