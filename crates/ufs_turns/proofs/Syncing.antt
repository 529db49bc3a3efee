-- A file that a hand with the store may sync.
use Rattle.std.proofs.Common.{◌≡◌, zero, suc, ◌+◌, ◌-◌, ◌^◌, ◌<◌, ◌++◌, cond, eqb, eqb-true, le-leb, leb, map, min, Option, ⊎_elim, ℕ, ◌≤◌, ◌⊎◌, inl, inr, Bool, true, false, List, [], ◌∷◌, length, Some, None, sym, refl, ap, ◌∙◌, subst, arith}
use Rattle.std.specs.Prelude.{All, IsTrue, drop}
use Rattle.std.specs.FinMap as fin
use Rattle.std.specs.FinSet as set
use Rattle.ufs_bitmap.specs.Blocks.{BlockSet}
use Rattle.ufs_extent.specs.Runs.{IsRun}
use Rattle.ufs_layout.specs.declared.geometry.Geometry.{Geometry}
use Rattle.ufs_file_commits.specs.State.{DurableState, file_committed}
use Rattle.ufs_promise_laws.specs.Syncs.{IsSpaceOf, MaySync, SyncsMayBegin}
use Rattle.ufs_hand_laws.specs.DiskBytes as disk_bytes
use Rattle.ufs_hand_laws.specs.Owned.{Has}
use Rattle.ufs_store.specs.State.{StoreState, geometry_of_store}
use Rattle.ufs_promise_laws.specs.Parts.{OneFile, Owner, Owns, Parts, ThePool, TheNames, Unassigned, durable_in}
use Rattle.ufs_promise_laws.specs.Sound.{IsFileSound, IsSoundServer}
use Rattle.ufs_joint.specs.Cells.{FileCell, Start, StoreCell, View}
use Rattle.ufs_joint.specs.Disks.{cell_of, states_behind}
use Rattle.ufs_joint.specs.FileHands.{CommitsFile, FailsFile, FileCommitsGoOn, FileCommitsMayEnd, FileFailuresGoOn, FileFailuresMayEnd, FileFetchesGoOn, FileFetchesMayEnd, FetchesFile, IsAsBegun, IsFetchHand, IsFurther, IsSyncHand, LeavesStore, WentOn, committed_turn, failed_turn, fetched_turn}
use Rattle.ufs_joint.specs.Known.{Knows}
use Rattle.ufs_joint.specs.Turns.{AreFaultsTold, MayEndTurn, begun_at, rested, turn_begun}
use Rattle.ufs_joint.specs.Whole.{HasFileCell}
use Rattle.ufs_joint.proofs.Disks.{drop_behind, store_as_cell}
use Rattle.ufs_joint.proofs.OneFile.{durable_is}
use Rattle.ufs_disk.specs.Disk.{IsWhole}
use Rattle.ufs_disk.specs.Moments.{Moments, all}
use Rattle.ufs_promise_laws.specs.Fetches.{IsFetched, IsNotedOn}
use Rattle.ufs_promise_laws.specs.Syncs.{HasFailed, HasSynced, HasWritten, LeavesStages}
use Rattle.ufs_hand_laws.specs.Owned.{each}
use Rattle.ufs_hand_laws.proofs.Owning.{has_append}
use Rattle.ufs_store_steps.specs.Cells.{cells_of}
use Rattle.ufs_promise_laws.specs.Known.{Known}
use Rattle.ufs_model.specs.declared.data.Entry.{Entry}
use Rattle.std.proofs.lemmas.List.{length-append, map-append}
use Rattle.ufs_hand_laws.specs.Parts.{Cells, Stretch}
use Rattle.ufs_joint.specs.Cells.{store_since}
use Rattle.std.specs.List.{slice_get}
use Rattle.ufs_file.specs.Content.{IsContentOf}
use Rattle.ufs_file.specs.Hand.{FileState}
use Rattle.ufs_joint.specs.Picks.{picks_from}
use Rattle.ufs_turns.proofs.Turning as turning
use Rattle.ufs_turns.specs.HeldStore.{IsStoreIn, came_in, counted_in, begun_in, begun_view, ended_view, sync_turn, synced_cell}
use Rattle.ufs_turns.specs.Lent.{HasCommitted, IsBeside, IsFileIn}
use Rattle.ufs_turns.specs.Syncs.{HasNotPassed, HasPassed}
use Rattle.ufs_turns.specs.Told.{fault_told, told_list}
use Rattle.ufs_base.specs.Faults.{RoseTo, raised}
use Rattle.ufs_store.specs.Refusals.{IsTold, stop_after}
use Rattle.ufs_hand_laws.specs.Owned.{one, times}
use Rattle.std.proofs.lemmas.Bool.{leb-false, lt-leb}

-- with fewer unassigned blocks
module _ (g : Geometry) (some all : BlockSet) (p : Parts) (fewer : (b : ℕ) → set.contains some b ≡ true → set.contains all b ≡ true) where
  owned : (owner : Owner) (block : ℕ) → Owns p some owner block → Owns p all owner block
  owned (OneFile file) block is = is
  owned ThePool block is = is
  owned Unassigned block is = fewer block is
  owned TheNames block is = is

  pub fewer_sound : IsSoundServer g all p → IsSoundServer g some p
  fewer_sound sound = record {
    apart = λ one other block a b. sound.apart one other block (owned one block a) (owned other block b);
    inside = λ owner block a. sound.inside owner block (owned owner block a);
    each = sound.each;
    inodes = sound.inodes;
    known = sound.known;
    counted = sound.counted;
    parted = sound.parted;
  }

-- What the hand knows of the file that it has beside the store.
module _ (k : Start) (n : ℕ) (v : View) (knows : Knows k n v) (name : ℕ) (cell : FileCell) (has : Has (name, cell) v.files) (number : cell.value.file.file ≡ name) where
  abbrev x : DurableState
  x = cell.value

  abbrev p : Parts
  p = knows.parts

  its : HasFileCell knows.parts name cell
  its = knows.around.cells.files name cell has

  here : fin.get knows.parts.files cell.value.file.file ≡ Some cell.value.file
  here = ap (fin.get knows.parts.files) number ∙ its.file_is

  durable : durable_in knows.parts.commits cell.value.file ≡ cell.value
  durable = durable_is knows.parts name cell number its

  pub file_sound : IsFileSound k.geometry cell.value
  file_sound = subst (IsFileSound k.geometry) durable (knows.around.server.each cell.value.file.file cell.value.file here)

  pub may_sync : SyncsMayBegin → (s : StoreState) (c : StoreCell) → v.store ≡ (tt, c) ∷ [] → c.unassigned ≡ s.unassigned → geometry_of_store s ≡ k.geometry → IsSpaceOf (geometry_of_store s) s.unassigned → All IsRun cell.value.dropped → MaySync s cell.value
  may_sync law s c store same formed space runs =
      let unassigned = λ (b : ℕ) (is : set.contains s.unassigned.free b ≡ true). knows.unassigned tt c (subst (Has (tt, c)) (sym store) (inl refl)) b (ap (λ (q : Rattle.ufs_bitmap.specs.Space.Space). set.contains q.free b) same ∙ is) in
      let sound = subst (λ (g : Geometry). IsSoundServer g s.unassigned.free knows.parts) (sym formed) (fewer_sound k.geometry s.unassigned.free knows.rest knows.parts unassigned knows.around.server) in
      subst (MaySync s) durable (law s knows.parts cell.value.file space here (subst (λ (y : DurableState). All IsRun y.dropped) (sym durable) runs) sound)

  -- A file that was read further has as many marks.
  pub further : (f : FileState) → f ≡ record (cell.value.file) { content = record (cell.value.file.content) { bytes = f.content.bytes; there = f.content.there } } → IsNotedOn cell.value.file f → length f.content.bytes ≡ length cell.value.file.content.bytes
      → ((place : ℕ) → slice_get cell.value.file.content.there place ≡ Some true → slice_get f.content.there place ≡ Some true) → ((bytes : List ℕ) → IsContentOf f.content bytes → IsContentOf cell.value.file.content bytes) → IsFurther cell.value.file f
  further f rest noted still kept fewer = record {
    still = still;
    marks = (noted (record { log = cell.value.log; dropped = cell.value.dropped }) file_sound.noted).held ∙ ap (λ (h : FileState). length h.content.dirty) rest ∙ sym file_sound.noted.held;
    kept = kept;
    fewer = fewer;
  }

-- nothing came into memory where it is as it was
none_came : (file : ℕ) (bytes : List ℕ) (there : List Bool) (place : ℕ) → picks_from file bytes there there place ≡ []
none_came file bytes [] place = refl
none_came file bytes (true ∷ there) place = none_came file bytes there (place + 1)
none_came file bytes (false ∷ there) place = none_came file bytes there (place + 1)

none_read : (name : ℕ) (cell : FileCell) (y : DurableState) → y.file.content.there ≡ cell.value.file.content.there → came_in ((name, cell) ∷ []) y ≡ []
none_read name cell y same = ap (λ (now : List Bool). picks_from name y.file.content.bytes cell.value.file.content.there now 0) same ∙ none_came name y.file.content.bytes cell.value.file.content.there 0

-- The last number of the count is no fault's.
pub told_some : (o : Option ℕ) (n : ℕ) → o ≡ Some n → n < 2 ^ 64 - 1 → fault_told o ≡ Some n
told_some o n is low = ap fault_told is ∙ ap (λ b. cond b None (Some n)) (lt-leb (2 ^ 64 - 1) n low)

pub told_is_same : (r o : Option ℕ) → ((n : ℕ) → r ≡ Some n → (o ≡ Some n) × (n < 2 ^ 64 - 1)) → (r ≡ None → (o ≡ None) ⊎ (o ≡ Some (2 ^ 64 - 1))) → r ≡ fault_told o
told_is_same (Some n) o some none = let x = some n refl in sym (told_some o n x.0 x.1)
told_is_same None o some none = ⊎_elim (λ is. sym (ap fault_told is)) (λ is. sym (ap fault_told is ∙ ap (λ b. cond b None (Some (2 ^ 64 - 1))) (le-leb (2 ^ 64 - 1) (2 ^ 64 - 1) (omega arith)))) (none refl)

-- ---- the turn's end

module _ (k : Start) (origin : Moments) (visible keeps : Bool) (n : ℕ) (v w : View) (s t : StoreState) (knows : Knows k n v) (name : ℕ) (cell : FileCell) (file : IsFileIn name cell v) (home : IsStoreIn k origin visible keeps v s) (begun : w ≡ begun_view v n) where
  -- the store's cell before the turn
  abbrev c : StoreCell
  c = cell_of home.stamp home.past s

  -- as it begins
  abbrev was : StoreCell
  was = begun_at n (cell_of home.stamp home.past s)

  abbrev past : List Stretch
  past = rested n (cell_of home.stamp home.past s) ∷ home.past

  abbrev left : StoreCell
  left = cell_of n (rested n (cell_of home.stamp home.past s) ∷ home.past) t

  abbrev u : View
  u = turn_begun n (cell_of home.stamp home.past s) v

  abbrev passed : List Cells
  passed = cond keeps (states_behind (begun_at n (cell_of home.stamp home.past s)).counted t) []

  begun_is : w ≡ u
  begun_is = turning.begun_is k origin visible keeps n v w s t knows home begun

  has_file : Has (name, cell) v.files
  has_file = subst (Has (name, cell)) (sym file.files) (inl refl)

  hand : cell.born ≡ true → IsSyncHand k.is_visible u name cell was
  hand born = record {
    files = file.files;
    names = file.names;
    store = refl;
    number = file.number;
    changed = λ seen. (knows.changed seen name cell has_file).0;
    known = λ seen. (knows.changed seen name cell has_file).1;
    born = born;
  }

  module _ (whole_before : IsTrue visible → IsWhole s.sectors s.moments.state) (whole_behind : IsTrue visible → IsWhole t.sectors t.moments.state) (geometry : geometry_of_store t ≡ geometry_of_store s) (sectors : t.sectors ≡ s.sectors) where
    before_is : k.is_visible ≡ true → s ≡ store_since s.moments.earlier was
    before_is = turning.before_is k origin visible keeps n v w s t knows home begun whole_before whole_behind geometry sectors

    behind_is : k.is_visible ≡ true → t ≡ store_since t.moments.earlier left
    behind_is = turning.behind_is k origin visible keeps n v w s t knows home begun whole_before whole_behind geometry sectors

    left_so : (told : Option ℕ) → IsTold s.faults t.faults told → ((n : ℕ) → s.stop ≡ Some n → t.stop ≡ Some n) → ((n : ℕ) → t.stop ≡ Some n → (s.stop ≡ Some n) ⊎ (told ≡ Some n)) → LeavesStore keeps k.is_visible was left s.moments.earlier t.moments.earlier passed (told_list (fault_told told))
    left_so = turning.left_so k origin visible keeps n v w s t knows home begun whole_before whole_behind geometry sectors

    -- as the turn begins, of a visible disk
    as_begun : (seen : k.is_visible ≡ true) → (history : List Entry) × (p : Parts) × (known : Known) × IsAsBegun u was k.tree history p known
    as_begun = turning.as_begun k origin visible keeps n v w s t knows home begun whole_before whole_behind geometry sectors

    went : k.is_visible ≡ true → WentOn (store_since s.moments.earlier was) (store_since t.moments.earlier left) → WentOn s t
    went = turning.went k origin visible keeps n v w s t knows home begun whole_before whole_behind geometry sectors

    -- where blocks of the file were read
    module _ (y : DurableState) (told : Option ℕ) (cause : IsTold s.faults t.faults told) (has : IsFetched visible keeps s t cell.value.file y.file) (further : IsFurther cell.value.file y.file) (rest : y ≡ record (cell.value) { file = y.file }) where
      -- where the disk isn't visible nothing is said of it
      fetched : IsFetched visible keeps (store_since s.moments.earlier was) (store_since t.moments.earlier left) cell.value.file y.file
      fetched = record {
        rest = has.rest;
        noted = has.noted;
        read = λ sees. (seen_of sees).read sees;
        crash = λ sees. (seen_of sees).crash sees;
        on_disk = λ sees. (seen_of sees).on_disk sees;
        ledger = λ sees. (seen_of sees).ledger sees;
        store = ap (λ (q : StoreState). store_since t.moments.earlier (cell_of n past q)) has.store
            ∙ (λ i. record (store_since s.moments.earlier was) { moments = record { earlier = t.moments.earlier; state = disk_bytes.state_of (cells_of (sym sectors i) t.moments.state) }; faults = t.faults });
      }
        where
          seen_of : IsTrue visible → IsFetched visible keeps (store_since s.moments.earlier was) (store_since t.moments.earlier left) cell.value.file y.file
          seen_of sees = subst (λ (q : StoreState × StoreState). IsFetched visible keeps q.0 q.1 cell.value.file y.file)
              (λ i. (sym (store_as_cell n past s (whole_before sees)) i, sym (store_as_cell n past t (whole_behind sees)) i)) has

      fetches : FetchesFile visible keeps k.is_visible was left cell.value.file y.file passed (told_list (fault_told told))
      fetches = record {
        earlier = s.moments.earlier;
        later = t.moments.earlier;
        seen = λ seen. (home.sees seen);
        fetched = fetched;
        further = further;
        left_so = left_so told cause (λ n is. ap (λ (q : StoreState). q.stop) has.store ∙ is) (λ n is. inl (sym (ap (λ (q : StoreState). q.stop) has.store) ∙ is));
      }

      fetch_hand : IsFetchHand k.is_visible u name cell was
      fetch_hand = record {
        files = file.files;
        names = file.names;
        store = refl;
        number = file.number;
        changed = λ seen. (knows.changed seen name cell has_file).0;
        known = λ seen. (knows.changed seen name cell has_file).1;
      }

      fetch_is : fetched_turn name cell y.file left passed (told_list (fault_told told)) ≡ sync_turn keeps false (fault_told told) y t u
      fetch_is =
          (λ i. record { files = (name, record cell { value = sym rest i }) ∷ []; names = []; store = left; passed = passed; picks = came_in ((name, cell) ∷ []) y; told = told_list (fault_told told) })
          ∙ (λ i. record { files = each (λ _ x. synced_cell false y n x) (sym file.files i); names = sym file.names i; store = left; passed = passed; picks = came_in (sym file.files i) y; told = told_list (fault_told told) })

      pub fetch_ends : FileFetchesMayEnd k.geometry → MayEndTurn k.geometry k.is_visible w (sync_turn keeps false (fault_told told) y t w)
      fetch_ends law =
          subst (λ (q : View). MayEndTurn k.geometry k.is_visible q (sync_turn keeps false (fault_told told) y t q)) (sym begun_is)
          (subst (MayEndTurn k.geometry k.is_visible u) fetch_is (law visible keeps k.is_visible u name cell y.file was left passed (told_list (fault_told told)) home.formed fetch_hand fetches))

      pub fetch_went : FileFetchesGoOn k.geometry → k.is_visible ≡ true → IsTrue keeps → WentOn s t
      unfolding fetches
      fetch_went law seen kept = (let b = as_begun seen in went seen (law visible keeps k.is_visible u name cell y.file was left passed (told_list (fault_told told)) home.formed fetch_hand fetches seen kept k.tree b.0 b.1 b.2 b.3))

    -- where it passed
    module _ (y : DurableState) (has : HasPassed visible keeps s t cell.value y) where
      commits : CommitsFile keeps k.is_visible was left cell.value passed
      commits = record {
        earlier = s.moments.earlier;
        later = t.moments.earlier;
        going = has.going;
        fits = has.fits;
        synced = λ seen. (let is = has.synced (home.sees seen) in subst (λ (q : StoreState × StoreState). HasSynced q.0 q.1 cell.value) (λ i. (before_is seen i, behind_is seen i)) is);
        stages = λ seen. (let is = has.stages (home.sees seen) in subst (λ (q : StoreState × StoreState). LeavesStages keeps q.0 q.1 cell.value) (λ i. (before_is seen i, behind_is seen i)) is);
        freed = has.freed;
        left_so = left_so None has.faults (λ n is. has.stop ∙ is) (λ n is. inl (sym has.stop ∙ is));
      }

      pub commit_went : FileCommitsGoOn k.geometry → cell.born ≡ true → k.is_visible ≡ true → IsTrue keeps → WentOn s t
      unfolding commits
      commit_went law born seen kept = (let b = as_begun seen in went seen (law keeps k.is_visible u name cell was left passed home.formed (hand born) commits seen kept k.tree b.0 b.1 b.2 b.3))

      turn_is : committed_turn name cell was left passed ≡ sync_turn keeps true None y t u
      turn_is =
          (λ i. record { files = (name, synced_cell true (file_committed cell.value) n cell) ∷ []; names = []; store = left; passed = passed; picks = sym (none_read name cell (file_committed cell.value) refl) i; told = [] })
          ∙ (λ i. record { files = each (λ _ x. synced_cell true (sym has.committed i) n x) (sym file.files i); names = sym file.names i; store = left; passed = passed; picks = came_in (sym file.files i) (sym has.committed i); told = [] })

      pub commit_ends : FileCommitsMayEnd k.geometry → cell.born ≡ true → MayEndTurn k.geometry k.is_visible w (sync_turn keeps true None y t w)
      commit_ends law born =
          subst (λ (q : View). MayEndTurn k.geometry k.is_visible q (sync_turn keeps true None y t q)) (sym begun_is)
          (subst (MayEndTurn k.geometry k.is_visible u) turn_is (law keeps k.is_visible u name cell was left passed home.formed (hand born) commits))

    -- where it didn't
    module _ (y : DurableState) (told : Option ℕ) (has : HasNotPassed visible keeps s t cell.value y told) where
      fails : FailsFile keeps k.is_visible was left cell.value passed (told_list (fault_told told))
      fails = record {
        earlier = s.moments.earlier;
        later = t.moments.earlier;
        fits = has.fits;
        failed = λ seen. (let is = has.failed (home.sees seen) in
            subst (λ (q : StoreState × StoreState). (q.1 ≡ q.0) ⊎ ((q.0.stop ≡ None) × (HasWritten q.0 q.1 cell.value ⊎ HasFailed q.0 q.1 cell.value))) (λ i. (before_is seen i, behind_is seen i)) is);
        stages = λ seen. (let is = has.stages (home.sees seen) in subst (λ (q : StoreState × StoreState). LeavesStages keeps q.0 q.1 cell.value) (λ i. (before_is seen i, behind_is seen i)) is);
        unfreed = ap (λ (q : Rattle.ufs_bitmap.specs.Space.Space). q.free) has.unfreed;
        left_so = left_so told has.cause (λ n is. has.stop ∙ ap (λ (q : Option ℕ). stop_after q told) is) (λ n is. turning.stop_from s.stop told n (sym has.stop ∙ is));
      }

      pub failure_went : FileFailuresGoOn k.geometry → cell.born ≡ true → k.is_visible ≡ true → IsTrue keeps → WentOn s t
      unfolding fails
      failure_went law born seen kept = (let b = as_begun seen in went seen (law keeps k.is_visible u name cell was left passed (told_list (fault_told told)) home.formed (hand born) fails seen kept k.tree b.0 b.1 b.2 b.3))

      stays : synced_cell false y n cell ≡ cell
      stays = ap (λ (q : DurableState). record cell { value = q }) has.kept

      turn_stays : failed_turn name cell left passed (told_list (fault_told told)) ≡ sync_turn keeps false (fault_told told) y t u
      turn_stays =
          (λ i. record { files = (name, sym stays i) ∷ []; names = []; store = left; passed = passed; picks = sym (none_read name cell y (ap (λ (q : DurableState). q.file.content.there) has.kept)) i; told = told_list (fault_told told) })
          ∙ (λ i. record { files = each (λ _ x. synced_cell false y n x) (sym file.files i); names = sym file.names i; store = left; passed = passed; picks = came_in (sym file.files i) y; told = told_list (fault_told told) })

      pub failure_ends : FileFailuresMayEnd k.geometry → cell.born ≡ true → MayEndTurn k.geometry k.is_visible w (sync_turn keeps false (fault_told told) y t w)
      failure_ends law born =
          subst (λ (q : View). MayEndTurn k.geometry k.is_visible q (sync_turn keeps false (fault_told told) y t q)) (sym begun_is)
          (subst (MayEndTurn k.geometry k.is_visible u) turn_stays (law keeps k.is_visible u name cell was left passed (told_list (fault_told told)) home.formed (hand born) fails))

  -- ---- what the hand has then

  module _ (done : Bool) (told : Option ℕ) (y : DurableState) (m : ℕ) (z : View) (ended : z ≡ ended_view (sync_turn keeps done told y t w) w m) where
    ended_is : z ≡ ended_view (sync_turn keeps done told y t u) u m
    ended_is = ended ∙ ap (λ (q : View). ended_view (sync_turn keeps done told y t q) q m) begun_is

    pub faults_then : z.faults ≡ told_list told ++ v.faults
    faults_then = ap (λ (q : View). q.faults) ended_is

    pub stop_then : z.stop ≡ t.stop
    stop_then = ap (λ (q : View). q.stop) ended_is

    pub files_are : z.files ≡ (name, synced_cell done y n cell) ∷ []
    files_are = ap (λ (q : View). q.files) ended_is ∙ ap (each (λ _ x. synced_cell done y n x)) file.files

    pub names_are : z.names ≡ []
    names_are = ap (λ (q : View). q.names) ended_is ∙ file.names

    pub store_then : geometry_of_store t ≡ geometry_of_store s → t.sectors ≡ s.sectors → (k.is_visible ≡ true → IsTrue keeps → WentOn s t) → IsStoreIn k origin visible keeps z t
    store_then geometry sectors on = turning.store_then k origin visible keeps n v w s t knows home begun m z (ap (λ (q : View). q.store) ended_is) geometry sectors on

    pub beside_then : v.seen ≤ n → w.seen ≤ m → IsBeside v z
    beside_then a b = record {
      clients = ap (λ (q : View). q.clients) ended_is;
      asked = ap (λ (q : View). q.asked) ended_is;
      pools = ap (λ (q : View). q.pools) ended_is;
      seen = (let e = ap (λ (q : View). q.seen) ended_is in let f = ap (λ (q : View). q.seen) begun_is in omega (arith, a, b, e, f));
    }

  pub committed_then : (y : DurableState) (z : View) (m : ℕ) → z ≡ ended_view (sync_turn keeps true None y t w) w m → y.file.file ≡ name → HasCommitted k.is_visible name cell y z
  committed_then y z m ended number = record { known = n; file = record { files = files_are true None y m z ended; names = names_are true None y m z ended; number = number }; all = λ seen. (knows.changed seen name cell has_file).0 }

  pub fetched_then : (told : Option ℕ) (y : DurableState) (z : View) (m : ℕ) → z ≡ ended_view (sync_turn keeps false told y t w) w m → y.file.file ≡ name → IsFileIn name (record cell { value = y }) z
  fetched_then told y z m ended number = record { files = files_are false told y m z ended; names = names_are false told y m z ended; number = number }

  pub failed_then : (told : Option ℕ) (y : DurableState) (z : View) (m : ℕ) → z ≡ ended_view (sync_turn keeps false told y t w) w m → y ≡ cell.value → IsFileIn name cell z
  failed_then told y z m ended kept = record { files = files_are false told y m z ended ∙ ap (λ (q : DurableState). (name, record cell { value = q }) ∷ []) kept; names = names_are false told y m z ended; number = file.number }

pub file_here : (name : ℕ) (cell : FileCell) (v : View) → IsFileIn name cell v → Has (name, cell) v.files
file_here name cell v file = subst (Has (name, cell)) (sym file.files) (inl refl)

abbrev first_name : ℕ → List (ℕ × FileCell) → ℕ
first_name d [] = d
first_name d (q ∷ qs) = q.0

pub one_name : (one : ℕ) (a : FileCell) (two : ℕ) (b : FileCell) (v : View) → IsFileIn one a v → IsFileIn two b v → one ≡ two
one_name one a two b v x y = ap (first_name 0) (sym x.files ∙ y.files)
