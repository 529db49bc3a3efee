-- What is known of a session that has ended.
use Rattle.std.proofs.Common.{◌≡◌, ◌⊎◌, inl, inr, ℕ, ◌+◌, ◌≤◌, Bool, true, eqb, length, List, [], ◌∷◌, ◌++◌, map, take, Option, None, is_some, ap, sym, refl, ◌∙◌, subst, arith}
use Rattle.std.specs.Prelude.{IsSome, IsTrue, unwrap_or}
use native.Mathlib.Decide.{dec_le}
use Rattle.std.specs.Cmp.{nat_cmp_total}
use Rattle.std.specs.FinMap as fin
use Rattle.std.specs.FinMap.{contains_key-keys}
use Rattle.std.specs.FinSet as set
use Rattle.std.specs.FinSet.{contains-from_list}
use Rattle.ufs_bitmap.specs.Blocks.{BlockSet}
use Rattle.ufs_bitmap.specs.Taking.{has}
use Rattle.ufs_client.specs.Played.{transcript}
use Rattle.ufs_client.proofs.Lists.{get_past, rising_from}
use Rattle.ufs_disk.specs.Disk.{IsWhole as IsDiskWhole, Leaves, State}
use Rattle.ufs_promise_laws.specs.Last.{StandsForTree}
use Rattle.ufs_promise_laws.specs.LastLaws.{AllIsLast}
use Rattle.ufs_journal.specs.Kept.{IsUnused}
use Rattle.ufs_ledger.specs.Committing.{IsLedgerBy}
use Rattle.ufs_ledger.specs.Kept.{Counts}
use Rattle.ufs_ledger.specs.Ledger.{Ledger}
use Rattle.ufs_model.specs.History.{IsComplete, IsInOrder, entries_of, requests_of, tree_after}
use Rattle.ufs_model.specs.PosixTree.{PosixTree}
use Rattle.ufs_model.specs.declared.data.Entry.{Entry}
use Rattle.ufs_model.specs.declared.data.Op.{Op}
use Rattle.ufs_names.specs.NamesPart.{NamesPart}
use Rattle.ufs_promise_laws.specs.FileRequests.{with_free}
use Rattle.ufs_crash_laws.specs.Changes.{changes_of, name_changes}
use Rattle.ufs_disk.specs.Moments.{Moments}
use Rattle.ufs_hand_laws.specs.DiskBytes.{state_of}
use Rattle.ufs_hand_laws.specs.Owned.{Has, count}
use Rattle.ufs_hand_laws.specs.Parts.{Cells}
use Rattle.ufs_hand_laws.proofs.Ending.{mine_has}
use Rattle.ufs_store.specs.Ledgers.{HasLedger}
use Rattle.ufs_store.specs.State.{StoreState}
use Rattle.ufs_store_steps.specs.Cells.{cells_of}
use Rattle.ufs_store_steps.proofs.Cells.{whole_cells}
use Rattle.ufs_promise_laws.specs.AlwaysLaws.{RestIsExplained}
use Rattle.ufs_promise_laws.specs.Known.{IsKeptGoing}
use Rattle.ufs_promise_laws.specs.OnDisk.{HasAll, HasFiles, IsExplainedImage}
use Rattle.ufs_names_commit.specs.Laws.{AllAreThere}
use Rattle.ufs_held.specs.Together.{under_numbers}
use Rattle.ufs_joint.specs.Cells.{FileCell, NamesCell, Start, StoreCell, View, store_of}
use Rattle.ufs_joint.specs.Disks.{cell_of, states_behind}
use Rattle.ufs_joint.specs.Ends.{IsAlwaysExplained, IsWhole}
use Rattle.ufs_joint.specs.Known.{Knows, KnowsDisk}
use Rattle.ufs_joint.specs.NamesTurns.{live_files}
use Rattle.ufs_joint.specs.Rule.{KnowsAll, at_tickets}
use Rattle.ufs_joint.specs.Sound.{IsExplainedState}
use Rattle.ufs_joint.specs.Turns.{begun_at, turn_begun}
use Rattle.ufs_joint.specs.Whole.{HasFileCell}
use Rattle.ufs_joint.proofs.Kept.{kept_going}
use Rattle.ufs_joint.proofs.Takes.{fewer_before, fewer_names_before}
use Rattle.ufs_turns.specs.HeldStore.{IsPassed, IsStoreIn, begun_in, begun_view, counted_in, state_in, states_in}
use Rattle.ufs_gathered.specs.Ended.{AnswerAll, AnswerFirst, AreAllKnown, AreExplainedAlong, HasEnded, IsExplainedAtStamps}
use Rattle.ufs_gathered.specs.Gathered.{AreHome, HasAllOf}
use Rattle.ufs_gathered.proofs.Histories.{each_rises, each_within, its_own, none_there, same_history, some_there}
use Rattle.ufs_gathered.proofs.Homes.{here_at, one_of}
use Rattle.ufs_gathered.proofs.Joined.{in_numbered, numbered_in}
use Rattle.ufs_gathered.proofs.Lengths.{all_bytes, few_cells}
use Rattle.ufs_gathered.proofs.Throughout.{more_along, once_along, past_along}

live_is : (n : NamesPart) (file : ℕ) → set.contains (live_files n) file ≡ is_some (fin.get n.held file)
live_is n file = contains-from_list nat_cmp_total (fin.keys n.held) file ∙ sym (contains_key-keys n.held file)

module _ (k : Start) (origin : Moments) (visible keeps : Bool) (names : NamesCell) (files : List FileCell) (pools : View) (clients : List View) (v : View) (s : StoreState) (all : HasAllOf names files pools clients v) (home : IsStoreIn k origin visible keeps v s)
    (n : ℕ) (knows : Knows k n v) (m : ℕ) (w : View) (begun : w ≡ begun_view v n) (known_all : KnowsAll k m w) (lists : List (List Entry)) (at_home : AreHome lists clients) where
  -- the store's cell before the last turn, and in it
  abbrev c : StoreCell
  c = cell_of home.stamp home.past s

  abbrev was : StoreCell
  was = begun_at n (cell_of home.stamp home.past s)

  abbrev u : View
  u = turn_begun n (cell_of home.stamp home.past s) v

  begun_is : w ≡ u
  begun_is = begun ∙ ap (λ (cs : List (Unit {0} × StoreCell)). begun_in cs v n) home.has

  whole : IsWhole k (at_tickets m) u was
  whole = subst (KnowsAll k m) begun_is known_all was refl

  has_store : Has (tt, c) v.store
  has_store = subst (Has (tt, c)) (sym home.has) (inl refl)

  has_names : Has (tt, names) v.names
  has_names = subst (Has (tt, names)) (sym all.names_are) (inl refl)

  has_file : (x : FileCell) → Has x files → Has (x.value.file.file, x) v.files
  has_file x has = subst (Has (x.value.file.file, x)) (sym all.files_are) (in_numbered files x has)

  -- ---- transcripts

  entries_are : (client : ℕ) → entries_of client whole.history ≡ transcript lists client
  entries_are client = by (dec_le (client + 1) (length lists))
    where
      by : Dec (client + 1 ≤ length lists) → entries_of client whole.history ≡ transcript lists client
      by (yes low) =
          let p = here_at 0 lists clients at_home client client (omega arith) (omega (arith, low)) in
          sym (whole.transcripts client p.0 (subst (Has (client, p.0)) (sym all.clients_are) p.1)) ∙ p.2
      by (no high) =
          none_there (entries_of client whole.history) nobody
          ∙ ap (λ (o : Option (List Entry)). unwrap_or o []) (sym (get_past lists client (omega (arith, high))))
        where
          nobody : (e : Entry) → Has e (entries_of client whole.history) → ⊥
          nobody e has =
              let from = whole.merged.from e (mine_has client e whole.history has) in
              let its = one_of 0 lists clients at_home e.client from.0 (subst (Has (e.client, from.0)) all.clients_are from.1) in
              let same = its_own client e whole.history has in
              let low = its.1 in
              high (omega (arith, low, same))

  ordered : (scripts : List (List Op)) → AnswerFirst scripts lists → IsInOrder scripts whole.history
  ordered scripts first = record {
    numbers = whole.order;
    requests = λ client. subst (λ (es : List Entry). map (λ e. e.op) es ≡ take (length es) (requests_of scripts client)) (sym (entries_are client)) (first client);
  }

  complete : (scripts : List (List Op)) → AnswerAll scripts lists → IsComplete scripts whole.history
  complete scripts each client = ap (λ (es : List Entry). length es) (entries_are client) ∙ each client

  -- ---- files

  all_files : (file : ℕ) → IsSome (fin.get whole.parts.files file) → (x : FileCell) × Has x files × (x.value.file.file ≡ file)
  all_files file here =
      let x = whole.files file here in
      let y = numbered_in files file x.0 (subst (Has (file, x.0)) all.files_are x.1) in
      (x.0, y.1, sym y.0)

  file_cells : (x : FileCell) → Has x files → HasFileCell whole.parts x.value.file.file x
  file_cells x of = whole.cells.files x.value.file.file x (has_file x of)

  once : (file : ℕ) → count eqb file (under_numbers files) ≤ 1
  once file = subst (λ (cs : List (ℕ × FileCell)). count eqb file cs ≤ 1) all.files_are (whole.once file)

  -- ---- the disk

  module _ (rest : RestIsExplained k.geometry) (disk_whole : IsTrue visible → IsDiskWhole s.sectors s.moments.state) (seen : k.is_visible ≡ true) where
    abbrev e : IsAlwaysExplained whole.start (at_tickets m) whole.history was
    e = whole.explained seen

    state_is : state_of (cells_of s.sectors s.moments.state) ≡ s.moments.state
    state_is = whole_cells s.sectors s.moments.state (disk_whole (home.sees seen))

    crash : Leaves (IsExplainedImage s.sectors whole.start whole.history) s.moments.state
    crash = subst (λ (x : State). Leaves (IsExplainedImage s.sectors whole.start whole.history) x) state_is
        (rest true (with_free whole.free (store_of was)) whole.start whole.history whole.parts home.formed (whole.on_disk seen)).after

    drawn_since : n ≤ m
    drawn_since =
        let a : n ≤ e.upto = e.stamped in
        let b : e.upto ≤ m = e.within in
        omega (arith, a, b)

    stamped : IsTrue keeps → (state : Cells) → Has state (states_behind (counted_in k.view.store) s) → IsExplainedAtStamps s.sectors whole.start whole.history state
    stamped kept state there = by (home.covers seen kept state there)
      where
        by : (state ≡ cells_of s.sectors s.moments.state) ⊎ IsPassed state home.past → IsExplainedAtStamps s.sectors whole.start whole.history state
        by (inl is) = record {
          from = n;
          to = m;
          rises = drawn_since;
          within = let a : length whole.history ≡ m = whole.all_drawn in omega (arith, a);
          each = λ i low high. subst (λ (x : Cells). IsExplainedState s.sectors whole.start (take i whole.history) x) (sym is) (e.now i low high);
        }
        by (inr p) = record {
          from = p.0.from;
          to = p.0.to;
          rises = each_rises was.past e.upto e.joined p.0 (inr p.1);
          within = let a : length whole.history ≡ m = whole.all_drawn in let b : e.upto ≤ m = e.within in let c = each_within was.past e.upto e.joined p.0 (inr p.1) (some_there state p.0.states p.2) in omega (arith, a, b, c);
          each = λ i low high. e.past p.0 (inr p.1) i low high state p.2;
        }

    along : AreExplainedAlong s.sectors whole.start whole.history 0 (states_in home.past ++ cells_of s.sectors s.moments.state ∷ []) (length whole.history)
    along =
        let last = cells_of s.sectors s.moments.state in
        let before : AreExplainedAlong s.sectors whole.start whole.history 0 (states_in home.past ++ last ∷ []) e.upto =
        past_along s.sectors whole.start whole.history was.past e.upto e.joined (λ x has c of i low high. e.past x has i low high c of) in
        subst (λ q. AreExplainedAlong s.sectors whole.start whole.history 0 (states_in home.past ++ last ∷ []) q) (sym whole.all_drawn)
        (more_along s.sectors whole.start whole.history 0 e.upto m (states_in home.past) last before e.within (λ i low high. e.now i (let a = e.stamped in omega (arith, a, low)) high))

    throughout : IsTrue keeps → AreExplainedAlong s.sectors whole.start whole.history 0 (state_in k.view.store ++ states_behind (counted_in k.view.store) s) (length whole.history)
    throughout kept =
        once_along s.sectors whole.start whole.history 0 (length whole.history) (state_in k.view.store ++ states_behind (counted_in k.view.store) s)
        (states_in home.past ++ cells_of s.sectors s.moments.state ∷ []) (home.passes seen kept) along

    -- the history of which it is known what is committed is the whole one
    same : knows.history ≡ whole.history
    same = same_history whole.start knows.start whole.history knows.history whole.legal.entries knows.around.legal.entries few each
      where
        few : length knows.history ≤ length whole.history
        few = let a = knows.around.so_many in let b : length whole.history ≡ m = whole.all_drawn in let d = drawn_since in omega (arith, a, b, d)

        each : (x : Entry) → Has x whole.history → Has x knows.history
        each x there =
            let from = whole.merged.from x there in
            mine_has x.client x knows.history (subst (Has x) (knows.around.entries x.client from.0 from.1) from.2)

    abbrev d : KnowsDisk k v knows.history c
    d = knows.disk seen tt c has_store

    kept : s.stop ≡ None → IsKeptGoing (store_of c) k.tree knows.history d.parts d.known
    kept going = kept_going (store_of c) k.tree knows.history d.parts d.known going d.kept

    ledger : s.stop ≡ None → (l : Ledger) × HasLedger s l
    ledger going =
        let here = kept going in
        let l = here.going.ledger in
        let has = here.going.has in (
          l,
          record {
            going = has.going;
            by = subst (λ (x : State). IsLedgerBy s.journal s.sectors x l) state_is has.by;
            superblock_is = has.superblock_is;
            added = has.added;
            numbered = has.numbered;
            unused = λ txn late. subst (λ (x : State). IsUnused s.journal.geometry s.journal.epoch txn x) state_is (has.unused txn late);
            settled = has.settled;
            older = has.older;
            fits = has.fits;
          },
        )

    module _ (going : s.stop ≡ None) (committed : AreAllKnown names files) (there : AllAreThere k.geometry) (is_last : AllIsLast k.geometry) where
      abbrev counts : Counts
      counts = (kept going).going.counts

      held_is : d.parts.names ≡ names.value
      held_is = (d.cells.names tt names has_names).names

      live_known : (file : ℕ) → IsSome (fin.get d.parts.names.held file) → d.known.born file ≡ true
      live_known file live =
          d.knows.named file tt names has_names
          (ap (λ (x : BlockSet). set.contains x file) committed.named ∙ live_is names.value file ∙ subst (λ (x : NamesPart). is_some (fin.get x.held file) ≡ true) held_is live)

      names_done : length (name_changes k.tree knows.history) ≤ counts.names
      names_done =
          let told = d.knows.names_told tt names has_names in
          let later = fewer_names_before k.tree knows.history names.changed names.known committed.names_known in
          let known = d.knows.names tt names has_names in
          let covered = (kept going).covers.names in
          omega (arith, told, later, known, covered)

      file_done : (file : ℕ) (x : FileCell) → Has (file, x) v.files → length (changes_of file k.tree knows.history) ≤ counts.files file
      file_done file x has =
          let one = numbered_in files file x (subst (Has (file, x)) all.files_are has) in
          let told = d.knows.files_told file x has in
          let later = fewer_before file k.tree knows.history x.changed x.known (committed.files_known x one.1) in
          let known = d.knows.files file x has in
          let covered = (kept going).covers.files file in
          omega (arith, told, later, known, covered)

      has_done : (file : ℕ) → has (fin.keys d.parts.names.held) file ≡ is_some (fin.get d.parts.names.held file)
      has_done file = live_is d.parts.names file

      has_files : (held : (file : ℕ) → IsSome (fin.get names.value.held file) → (x : FileCell) × Has (file, x) v.files) → HasFiles (store_of c) k.tree knows.history d.parts (fin.keys d.parts.names.held)
      has_files held = record {
        names = record { going = (kept going).going; names = names_done; numbered = λ file live. (kept going).numbered file (live_known file live) live };
        files = λ file done.
            let live : IsSome (fin.get d.parts.names.held file) = sym (has_done file) ∙ done in
            let x = held file (subst (λ (y : NamesPart). is_some (fin.get y.held file) ≡ true) held_is live) in
            file_done file x.0 x.1;
      }

      last : ((file : ℕ) → IsSome (fin.get names.value.held file) → (x : FileCell) × Has (file, x) v.files) → Leaves (StandsForTree s.sectors (tree_after whole.start whole.history)) s.moments.state
      last held =
          let everything : HasAll (store_of c) k.tree knows.history d.parts =
          there (store_of c) k.tree knows.history d.parts (fin.keys d.parts.names.held) home.formed (λ file live. has_done file ∙ live) (has_files held) in
          let stands = is_last (store_of c) k.tree knows.history d.parts home.formed everything in
          let from : k.tree ≡ whole.start = sym (whole.begun.seen seen) in
          subst (λ (x : State × (PosixTree × List Entry)). Leaves (StandsForTree s.sectors (tree_after x.1.0 x.1.1)) x.0) (λ i. (state_is i, (from i, same i))) stands

  -- ---- the whole

  pub has_ended : ((file : ℕ) → IsSome (fin.get names.value.held file) → (x : FileCell) × Has (file, x) v.files) → RestIsExplained k.geometry → AllAreThere k.geometry → AllIsLast k.geometry
      → (IsTrue visible → IsDiskWhole s.sectors s.moments.state) → HasEnded k origin keeps m lists names files s
  has_ended held rest there is_last disk_whole = record {
    start = whole.start;
    picks = whole.picks;
    begun = whole.begun;
    history = whole.history;
    drawn = whole.all_drawn;
    legal = whole.legal;
    merged = record { rising = rising_from 0 whole.start whole.history whole.legal.entries; each = entries_are };
    served = whole.served;
    ordered = ordered;
    complete = complete;
    faults = λ fault told. let f = whole.faults fault told in record { later = f.later; counted = f.answered; below = f.below };
    stopped = whole.stopped;
    halts = whole.halts;
    committed = whole.committed;
    asked = whole.asked;
    size = home.size;
    grown = home.grown;
    parts = whole.parts;
    are = whole.are;
    has_names = whole.cells.names tt names has_names;
    has_files = file_cells;
    all_files = all_files;
    once = once;
    few = few_cells whole.parts (tree_after whole.start whole.history) whole.are files file_cells all_files once k.geometry whole.free whole.server;
    bytes = all_bytes whole.parts (tree_after whole.start whole.history) whole.are files file_cells all_files once;
    ledger = λ seen. ledger rest disk_whole seen;
    crash = λ seen. crash rest disk_whole seen;
    stamped = λ seen. stamped rest disk_whole seen;
    throughout = λ seen. throughout rest disk_whole seen;
    noted = λ seen. (states_in home.past ++ cells_of s.sectors s.moments.state ∷ [], along rest disk_whole seen);
    last = λ seen going committed. last rest disk_whole seen going committed there is_last held;
  }
