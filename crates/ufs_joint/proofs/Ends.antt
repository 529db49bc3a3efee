-- The first hand is sound, and the hand with every cell knows all.
use Rattle.std.proofs.Common.{◌≡◌, ℕ, zero, suc, ◌≤◌, ◌⊎◌, inl, inr, ⊎_elim, true, eqb, List, [], ◌∷◌, length, take, Option, Some, None, is_some, sym, refl, ap, ◌∙◌, subst, arith}
use mathlib.Core.Option.{some, some-injective, some-ne-none}
use lib.ListN.{get_elem?}
use Rattle.std.specs.Prelude.{IsSome}
use Rattle.std.specs.Ordering.{nat_cmp}
use Rattle.std.specs.FinMap as fin
use Rattle.std.specs.FinSet as set
use Rattle.ufs_bytes_laws.proofs.TreeLemmas as alikes
use Rattle.ufs_bitmap.specs.Blocks.{BlockSet}
use Rattle.ufs_bitmap.specs.Taking.{has}
use Rattle.ufs_dir_tree.specs.DirTable.{blocks_at}
use Rattle.ufs_file_commits.specs.State.{DurableState, blocks_held}
use Rattle.ufs_file.specs.Hand.{FileState}
use Rattle.ufs_names.specs.NamesPart.{NamesPart}
use Rattle.ufs_model.specs.History.{entries_of, tree_after}
use Rattle.ufs_model.specs.PosixTree.{PosixTree}
use Rattle.ufs_model.specs.declared.data.Entry.{Entry}
use Rattle.ufs_promise_laws.specs.FileRequests.{with_free}
use Rattle.ufs_crash_laws.specs.Changes.{changes_of, name_changes}
use Rattle.ufs_hand_laws.specs.Owned.{Has, Held, count, find, present, times}
use Rattle.ufs_hand_laws.specs.Parts.{AskedPart, ClientPart, only_one}
use Rattle.ufs_hand_laws.specs.Whole.{idle_asked, idle_client}
use Rattle.ufs_hand_laws.proofs.Ending.{has_mine, mine_has}
use Rattle.ufs_hand_laws.proofs.Keys.{alike, itself}
use Rattle.ufs_hand_laws.proofs.Owning.{find_has, has_count, has_find, none_some, once_in, present_find, same_some}
use Rattle.ufs_promise_laws.specs.AlwaysLaws.{RestIsExplained}
use Rattle.ufs_promise_laws.specs.OnDisk.{IsOnDisk}
use Rattle.ufs_promise_laws.specs.Parts.{durable_in}
use Rattle.ufs_promise_laws.specs.Stored.{ArePartsOf}
use Rattle.ufs_joint.specs.Cells.{FileCell, NamesCell, Start, StoreCell, View, Word, World, store_of}
use Rattle.ufs_joint.specs.Ends.{CanBegin, HoldsAll, IsAlwaysExplained, IsWhole, known_first}
use Rattle.ufs_joint.specs.Faults.{IsOfSession, IsStopOf, faults_in, stop_first}
use Rattle.ufs_promise_laws.specs.Known.{IsDiskKept}
use Rattle.ufs_joint.specs.Laws.{BeginIsSound, CloseIsWhole}
use Rattle.ufs_joint.proofs.Disks.{explained_here}
use Rattle.ufs_joint.specs.Sound.{AreJoined, IsDiskSound, IsExplainedState, IsKeptSince, IsSound}
use Rattle.ufs_joint.specs.Whole.{HasFileCell, IsFreeIn, changes_known, commits_of, hand_of, known_in, no_blocks, pooled}
use Rattle.ufs_joint.proofs.Blocks.{none_in, pooled_back, pooled_here}
use Rattle.ufs_joint.proofs.OneFile.{durable_is}
use Rattle.ufs_joint.specs.NoneLost.{HandHas, InDir, InDropped, InFile, InPool, InStore, IsDropped, IsFree, IsHad, OfDir, OfFile, OfPool}
use Rattle.ufs_joint.proofs.Exchange.{names_are, store_is}
use Rattle.ufs_joint.proofs.Forgetting.{less_is_kept}
use Rattle.ufs_promise_laws.proofs.Known.{on_disk_of}
use Rattle.ufs_joint.proofs.Parting.{cells_there}

-- ---- the end

module _ (k : Start) (word : Word) (views : List View) (i : ℕ) (v : View) (rest : RestIsExplained k.geometry) (o : IsSound k word views) (at : get_elem? views i ≡ some v) (all : HoldsAll k v) where
  names_same : o.world.names ≡ all.names
  names_same = names_are views i v v at o.world o.one_hand tt all.names (subst (Has (tt, all.names)) (sym all.has_names) (inl refl))

  store_same : o.world.store ≡ all.store
  store_same = store_is views i v v at o.world o.one_hand tt all.store (subst (Has (tt, all.store)) (sym all.has_store) (inl refl))

  has_names : Has (tt, all.names) v.names
  has_names = subst (Has (tt, all.names)) (sym all.has_names) (inl refl)

  transcripts : (c : ℕ) (p : ClientPart) → Has (c, p) v.clients → p.entries ≡ entries_of c o.history
  transcripts c p has = o.tickets_once.entries c p (o.one_hand.clients.agree i v at c p has)

  file_there : (file : ℕ) (s : FileState) → fin.get o.parts.files file ≡ Some s → IsSome (fin.get all.names.value.held file)
  file_there file s is =
      let parts = (o.leads o.begun o.may_begin).parts in
      let it = parts.files file s is in
      let bytes = ap (λ q. is_some (fin.get (tree_after o.begun o.history).bytes q)) (sym it.0) ∙ ap is_some it.1.has in
      let told = parts.names.told file in
      let held = told ∙ bytes in
      subst (λ (c : NamesCell). IsSome (fin.get c.value.held file)) names_same (subst (λ n. is_some (fin.get n.held file) ≡ true) o.parts_in.names.names held)

  files : (file : ℕ) → IsSome (fin.get o.parts.files file) → (c : FileCell) × Has (file, c) v.files
  files file here = by (fin.get o.parts.files file) refl here
    where
      by : (s : Option FileState) → fin.get o.parts.files file ≡ s → IsSome s → (c : FileCell) × Has (file, c) v.files
      by None is there = absurd cc
      by (Some s) is there = has_count eqb itself alike file v.files (all.files file (file_there file s is))

  freed : (b : ℕ) → set.contains o.free b ≡ true → (set.contains all.store.unassigned.free b ≡ true) ⊎ (set.contains (pooled v.pools) b ≡ true)
  freed b is = by (o.free_in.back b is)
    where
      by : IsFreeIn o.world b → (set.contains all.store.unassigned.free b ≡ true) ⊎ (set.contains (pooled v.pools) b ≡ true)
      by (inl store) = inl (ap (λ (s : StoreCell). set.contains s.unassigned.free b) (sym store_same) ∙ store)
      by (inr p) =
          let one = ap present p.2 in let stays = o.stay.pools p.0 in let mine = all.pools p.0 in
          let has = has_count eqb itself alike p.0 v.pools (omega (arith, one, stays, mine)) in
          let same : has.0 ≡ p.1 = same_some has.0 p.1 (sym (o.one_hand.pools.agree i v at p.0 has.0 has.1) ∙ p.2) in
          inr (pooled_here v.pools p.0 has.0 b has.1 (subst (λ (s : BlockSet). set.contains s b ≡ true) (sym same) p.3))

  -- what somebody has the hand has
  held_still : (b : ℕ) → IsHad o.parts o.free b → HandHas v b
  held_still b (OfFile file owns) =
      let c = files file (ap is_some owns.here) in
      let its = (cells_there views i v at o.world o.one_hand o.parts o.parts_in).files file c.0 c.1 in
      let number = ((o.leads o.begun o.may_begin).parts.files file c.0.value.file its.file_is).0 in
      let hand : owns.hand ≡ c.0.value.file = same_some owns.hand c.0.value.file (sym owns.here ∙ its.file_is) in
      let durable = ap (durable_in o.parts.commits) hand ∙ durable_is o.parts file c.0 number its in
      InFile file c.0 c.1 (ap (λ (x : DurableState). has (blocks_held x) b) (sym durable) ∙ owns.held)
  held_still b (OfPool is) = absurd (none_in b (subst (λ (q : BlockSet). set.contains q b ≡ true) o.parts_in.pool is))
  held_still b (IsFree is) = ⊎_elim (λ x. InStore tt all.store (subst (Has (tt, all.store)) (sym all.has_store) (inl refl)) x) (λ x. InPool x) (freed b is)
  held_still b (IsDropped is) = InDropped tt all.names has_names (ap (λ (q : BlockSet). set.contains q b) (sym (o.parts_in.names.dropped ∙ ap (λ (c : NamesCell). c.dropped) names_same)) ∙ is)
  held_still b (OfDir dir is) = InDir tt all.names has_names dir (ap (λ (n : NamesPart). has (blocks_at n.tree.dirs dir) b) (sym (o.parts_in.names.names ∙ ap (λ (c : NamesCell). c.value) names_same)) ∙ is)

  module _ (visible : k.is_visible ≡ true) where
    abbrev d : IsDiskSound k word o.history o.world o.parts o.free
    d = o.disk visible

    same_start : o.begun ≡ k.tree
    same_start = o.may_begin.seen visible

    on_disk : IsOnDisk (with_free o.free (store_of all.store)) o.begun o.history o.parts
    on_disk = subst (λ (q : StoreCell × PosixTree). IsOnDisk (with_free o.free (store_of q.0)) q.1 o.history o.parts) (λ j. (store_same j, sym same_start j)) (on_disk_of (with_free o.free (store_of o.world.store)) k.tree o.history o.parts (known_in k.tree o.history o.world) d.kept)

    now : (j : ℕ) → o.world.store.stamp ≤ j → j ≤ word.tickets → IsExplainedState o.world.store.sectors k.tree (take j o.history) o.world.store.state
    now j from low =
        let since = d.since j from low in
        explained_here o.world.store.sectors k.tree (take j o.history) o.world.store.state (rest true (with_free since.freed (store_of o.world.store)) k.tree (take j o.history) since.parts o.formed (on_disk_of (with_free since.freed (store_of o.world.store)) k.tree (take j o.history) since.parts (known_in k.tree (take j o.history) o.world) since.kept)).after

    explained : IsAlwaysExplained o.begun word o.history all.store
    explained = subst (λ (q : StoreCell × PosixTree). IsAlwaysExplained q.1 word o.history q.0) (λ j. (store_same j, sym same_start j)) (record { upto = d.past.upto; joined = d.past.joined; stamped = d.past.stamped; within = d.past.within; past = d.past.each; now = now })

  whole : IsWhole k word v all.store
  whole = record {
    faults = λ n l. subst (λ (s : StoreCell). IsOfSession k s n) store_same (o.faults_once.answered n (omega (arith, l)));
    stopped = λ e n has is. ap (λ (s : StoreCell). s.stop) (sym store_same) ∙ o.faults_once.stopped e n has is;
    committed = λ e n has by is. ap (λ (s : StoreCell). s.stop) (sym store_same) ∙ o.faults_once.committed e n has by is;
    asked = o.faults_once.asked;
    halts = λ n is. subst (λ (s : StoreCell). IsStopOf k s n) store_same (o.faults_once.halts n (ap (λ (s : StoreCell). s.stop) store_same ∙ is));
    start = o.begun;
    picks = o.picks;
    begun = o.may_begin;
    history = o.history;
    all_drawn = o.tickets_once.tickets;
    legal = (o.leads o.begun o.may_begin).legal;
    served = o.served o.begun o.may_begin;
    order = o.tickets_once.numbers;
    transcripts = transcripts;
    merged = record {
      from = λ e has.
          let t = (o.tickets_once.there e has).1 in let n = o.stay.clients e.client in let a = all.clients e.client in
          let p = has_count eqb itself alike e.client v.clients (omega (arith, t, n, a)) in
          (p.0, p.1, subst (Has e) (sym (transcripts e.client p.0 p.1)) (has_mine e o.history has));
      to = λ c p e has there. mine_has c e o.history (subst (Has e) (transcripts c p has) there);
    };
    parts = o.parts;
    cells = cells_there views i v at o.world o.one_hand o.parts o.parts_in;
    files = files;
    once = once_in eqb itself alike (λ (u : View). u.files) o.world.file views i v at o.one_hand.files;
    are = (o.leads o.begun o.may_begin).parts;
    free = o.free;
    freed = freed;
    server = o.server;
    none_lost = λ b is. held_still b (o.none_lost b is);
    on_disk = on_disk;
    explained = explained;
  }

pub close_is_whole : CloseIsWhole
close_is_whole k word views i v rest o at all = whole k word views i v rest o at all

-- ---- the beginning

held_one : {D : Type 0} (parts : View → List (ℕ × D)) (v : View) → ((n : ℕ) → count eqb n (parts v) ≤ 1) → Held eqb parts (v ∷ []) (λ n. find eqb n (parts v))
held_one {D} parts v single = record {
  once = λ n. let p = present_find eqb itself alike n (parts v) (single n) in omega arith;
  agree = λ i u at n x h. by i u at n x h;
}
  where
    by : (i : ℕ) (u : View) → get_elem? (v ∷ []) i ≡ some u → (n : ℕ) (x : D) → Has (n, x) (parts u) → find eqb n (parts v) ≡ Some x
    by zero u at n x h = has_find eqb itself alike n x (parts v) (single n) (subst (λ q. Has (n, x) (parts q)) (sym (some-injective v u at)) h)
    by (suc i) u at n x h = absurd (some-ne-none u (sym at))

held_only : {D : Type 0} (parts : View → List (Unit {0} × D)) (v : View) (d : D) → parts v ≡ (tt, d) ∷ [] → Held only_one parts (v ∷ []) (λ _. Some d)
held_only {D} parts v d is = record {
  once = λ n. let c : count only_one n (parts v) ≡ count only_one n ((tt, d) ∷ []) = ap (count only_one n) is in omega arith;
  agree = λ i u at n x h. by i u at n x h;
}
  where
    last : (n : Unit {0}) (x : D) → Has {A = Unit {0} × D} (n, x) ((tt, d) ∷ []) → Some d ≡ Some x
    last n x (inl e) = ap (λ (q : Unit {0} × D). Some q.1) (sym e)
    last n x (inr e) = absurd e

    by : (i : ℕ) (u : View) → get_elem? (v ∷ []) i ≡ some u → (n : Unit {0}) (x : D) → Has (n, x) (parts u) → Some d ≡ Some x
    by zero u at n x h = last n x (subst (Has (n, x)) (ap parts (sym (some-injective v u at)) ∙ is) h)
    by (suc i) u at n x h = absurd (some-ne-none u (sym at))

alone : (P : View → Type 0) (v : View) → P v → (i : ℕ) (u : View) → get_elem? (v ∷ []) i ≡ some u → P u
alone P v p zero u at = subst P (some-injective v u at) p
alone P v p (suc i) u at = absurd (some-ne-none u (sym at))

take_none : (n : ℕ) → ◌≡◌ {A = List Entry} (take n []) []
take_none zero = refl
take_none (suc n) = refl

-- who stands in a list of one
only_one_is : {D : Type 0} (u : Unit {0}) (x d : D) → Has {A = Unit {0} × D} (u, x) ((tt, d) ∷ []) → x ≡ d
only_one_is {D} u x d (inl is) = ap (λ (q : Unit {0} × D). q.1) is
only_one_is u x d (inr is) = absurd is

module _ (k : Start) (c : CanBegin k) where
  abbrev first : World
  first = record { client = λ n. find eqb n k.view.clients; asked = λ n. find eqb n k.view.asked; file = λ n. find eqb n k.view.files; pool = λ n. find eqb n k.view.pools; names = c.names; store = c.store }

  client_is : (n : ℕ) (p : ClientPart) → first.client n ≡ Some p → p ≡ idle_client
  client_is n p is = c.clients n p (find_has eqb itself alike n p k.view.clients is)

  asked_is : (n : ℕ) (a : AskedPart) → first.asked n ≡ Some a → a ≡ idle_asked
  asked_is n a is = c.asked n a (find_has eqb itself alike n a k.view.asked is)

  file_is : (file : ℕ) (x : FileCell) → first.file file ≡ Some x → (x.changed ≡ 0) × (x.known ≡ 0)
  file_is file x is = c.unchanged file x (find_has eqb itself alike file x k.view.files is)

  pool_is : (n : ℕ) (s : BlockSet) → first.pool n ≡ Some s → s ≡ no_blocks
  pool_is n s is = c.pools n s (find_has eqb itself alike n s k.view.pools is)

  no_pool : (n : ℕ) (s : BlockSet) (b : ℕ) → first.pool n ≡ Some s → set.contains s b ≡ true → ⊥
  no_pool n s b is has = none_in b (subst (λ (q : BlockSet). set.contains q b ≡ true) (pool_is n s is) has)

  nothing_taken : (q : ℕ) → q ≡ 0 → ◌≡◌ {A = List Entry} (take q []) []
  nothing_taken q is = take_none q

  kept_first : k.is_visible ≡ true → IsDiskKept (with_free c.store.unassigned.free (store_of c.store)) k.tree [] c.parts (known_in k.tree [] first)
  kept_first visible = less_is_kept (store_of c.store) k.tree [] c.parts (known_in k.tree [] first) (known_first k c.names)
      (record { names = let e = ap (λ h. length (name_changes k.tree h)) (take_none c.names.known) in omega (arith, e); files = λ file. none file (first.file file); born = λ file is. is }) (c.on_disk visible)
    where
      none : (file : ℕ) (x : Option FileCell) → changes_known k.tree [] file x ≤ 0
      none file None = omega arith
      none file (Some x) = let e = ap (λ h. length (changes_of file k.tree h)) (take_none x.known) in omega (arith, e)

  since_first : k.is_visible ≡ true → IsKeptSince k.geometry k.tree [] first c.store.unassigned.free
  since_first visible = record {
    parts = c.parts;
    freed = c.store.unassigned.free;
    kept = kept_first visible;
    sound = c.server;
    pool = c.pool;
    fewer = λ b is. is;
    files = λ file x is small. record { file_is = c.files_in file ∙ ap hand_of is; commits_are = c.commits_in file ∙ ap commits_of is };
    names = λ small. c.names_in;
  }

  parts_first : ArePartsOf c.parts k.tree
  parts_first = c.are k.tree (record { tree = c.tree; alike = alikes.itself k.tree; picked = λ pick has. absurd has; seen = λ _. refl })

  had_first : (b : ℕ) → HandHas k.view b → IsHad c.parts c.store.unassigned.free b
  had_first b (InFile file x is there) =
      let found = has_find eqb itself alike file x k.view.files (c.one_file file) is in
      let its : HasFileCell c.parts file x = record { file_is = c.files_in file ∙ ap hand_of found; commits_are = c.commits_in file ∙ ap commits_of found } in
      let number = (parts_first.files file x.value.file its.file_is).0 in
      OfFile file (record { hand = x.value.file; here = its.file_is; held = ap (λ (y : DurableState). has (blocks_held y) b) (durable_is c.parts file x number its) ∙ there })
  had_first b (InPool is) = (let r = pooled_back k.view.pools b is in absurd (none_in b (subst (λ (q : BlockSet). set.contains q b ≡ true) (c.pools r.0 r.1 r.2) r.3)))
  had_first b (InStore u s is free) = IsFree (ap (λ (q : StoreCell). set.contains q.unassigned.free b) (sym (only_one_is u s c.store (subst (Has (u, s)) c.has_store is))) ∙ free)
  had_first b (InDropped u n is gone) = IsDropped (ap (λ (q : BlockSet). set.contains q b) (c.names_in.dropped ∙ ap (λ (q : NamesCell). q.dropped) (sym (only_one_is u n c.names (subst (Has (u, n)) c.has_names is)))) ∙ gone)
  had_first b (InDir u n is dir there) = OfDir dir (ap (λ (q : NamesPart). has (blocks_at q.tree.dirs dir) b) (c.names_in.names ∙ ap (λ (q : NamesCell). q.value) (sym (only_one_is u n c.names (subst (Has (u, n)) c.has_names is)))) ∙ there)

  begin_sound : IsSound k (record { tickets = 0 }) (k.view ∷ [])
  begin_sound = record {
    history = [];
    world = first;
    parts = c.parts;
    free = c.store.unassigned.free;
    picks = [];
    one_hand = record {
      clients = held_one (λ (v : View). v.clients) k.view c.one_client;
      asked = held_one (λ (v : View). v.asked) k.view c.one_asked;
      files = held_one (λ (v : View). v.files) k.view c.one_file;
      pools = held_one (λ (v : View). v.pools) k.view c.one_pool;
      names = held_only (λ (v : View). v.names) k.view c.names c.has_names;
      store = held_only (λ (v : View). v.store) k.view c.store c.has_store;
    };
    stay = record {
      clients = λ n. present_find eqb itself alike n k.view.clients (c.one_client n);
      asked = λ n. present_find eqb itself alike n k.view.asked (c.one_asked n);
      pools = λ n. present_find eqb itself alike n k.view.pools (c.one_pool n);
    };
    tickets_once = record { tickets = refl; entries = λ n p e. ap (λ (q : ClientPart). q.entries) (client_is n p e); numbers = λ n. refl; there = λ e h. absurd h; room = λ n. omega arith; asked = λ n p r e a. absurd (none_some r (sym (ap (λ (q : ClientPart). q.asked) (client_is n p e)) ∙ a)) };
    asked = record {
      seen = λ n a e. let z = ap (λ (q : AskedPart). q.tickets) (asked_is n a e) in omega (arith, z);
      kept = λ n a p ea ep. inl (record {
        entries = ap (λ (q : ClientPart). q.entries) (client_is n p ep) ∙ ap (λ (q : AskedPart). q.entries) (sym (asked_is n a ea));
        fds = ap (λ (q : ClientPart). q.fds) (client_is n p ep) ∙ ap (λ (q : AskedPart). q.fds) (sym (asked_is n a ea));
        asked = ap (λ (q : ClientPart). q.asked) (client_is n p ep) ∙ ap (λ (q : AskedPart). q.asked) (sym (asked_is n a ea));
      });
    };
    seen = alone (λ u. u.seen ≤ 0) k.view (let s = c.seen in omega (arith, s));
    faults_once = record {
      rose = let a = ap faults_in c.has_store in omega (arith, a);
      once = λ n. let a = ap (times n) c.no_faults in omega (arith, a);
      answered = λ n l. let a = ap (times n) c.no_faults in absurd (omega (arith, a, l));
      stops = alone (λ (u : View). (n : ℕ) → u.stop ≡ Some n → c.store.stop ≡ Some n) k.view (λ n is. let none : None ≡ Some n = sym c.no_stop ∙ is in absurd (none_some n none));
      stopped = λ e n has is. absurd has;
      committed = λ e n has by is. absurd has;
      asked = λ e n has is. absurd has;
      halts = λ n is. inl (ap stop_first c.has_store ∙ is);
    };
    parts_in = record { files = c.files_in; commits = c.commits_in; names = c.names_in; pool = c.pool };
    free_in = record { back = λ b is. inl is; here = λ b is. ⊎_elim (λ s. s) (λ p. absurd (no_pool p.0 p.1 b p.2 p.3)) is };
    pools_apart = record { pools = λ n m one other b is that has also. absurd (no_pool n one b is has); store = λ n s b is has. absurd (no_pool n s b is has) };
    server = c.server;
    none_lost = had_first;
    formed = c.formed;
    begun = k.tree;
    may_begin = record { tree = c.tree; alike = alikes.itself k.tree; picked = λ pick h. absurd h; seen = λ _. refl };
    served = λ start b. tt;
    leads = λ start b. record {
      legal = record { entries = tt; faults = tt };
      clients = λ n p e fd. ap (λ (q : ClientPart). fin.get q.fds fd) (client_is n p e) ∙ fin.get-empty nat_cmp fd ∙ sym (ap (λ fds. fin.get fds (n, fd)) b.alike.fds ∙ c.closed n fd);
      parts = c.are start b;
      away = λ file place x is absent. refl;
    };
    unread = λ file place x is absent pick none. absurd none;
    disk = λ visible. record {
      kept = kept_first visible;
      told = record {
        files = λ file x is. ap (changes_of file k.tree) (sym (take_none x.changed));
        within = λ file x is. let z = file_is file x is in let a = z.0 in let b = z.1 in (omega (arith, a), omega (arith, b));
        names = ap (name_changes k.tree) (sym (take_none c.names.changed));
        names_within = let a = c.names_unchanged.0 in let b = c.names_unchanged.1 in (omega (arith, a), omega (arith, b));
      };
      since = λ j from low. subst (λ h. IsKeptSince k.geometry k.tree h first c.store.unassigned.free) (sym (take_none j)) (since_first visible);
      past = record {
        upto = 0;
        joined = subst (λ p. AreJoined p 0) (sym c.at_rest.1) refl;
        stamped = let a = c.at_rest.0 in omega (arith, a);
        within = omega arith;
        each = λ x h. absurd (subst (Has x) c.at_rest.1 h);
        ended = λ x h. absurd (subst (Has x) c.at_rest.1 h);
      };
    };
  }

pub begin_is_sound : BeginIsSound
begin_is_sound k c = begin_sound k c
