-- An entry that is drawn keeps the sound state.
use Rattle.std.proofs.Common.{◌≡◌, ◌≢◌, ℕ, suc, ◌≤◌, ◌<◌, ◌⊎◌, inl, inr, ⊎_elim, true, false, cond, ◌||◌, eqb, eq-eqb, ne_eqb, List, [], ◌∷◌, ◌++◌, length, map, set, take, Option, Some, None, sym, refl, ap, ◌∙◌, subst, arith, length-append}
use mathlib.Core.Option.{some}
use native.Mathlib.Decide.{ℕ_discrete, dec_le}
use lib.ListN.{get_elem?}
use Rattle.std.specs.FinMap as fin
use Rattle.std.specs.FinSet as setof
use Rattle.std.specs.List.{range_with_len}
use Rattle.std.specs.Prelude.{unwrap_or}
use Rattle.ufs_bitmap.specs.Blocks.{BlockSet}
use Rattle.ufs_file.specs.Content.{own_bytes}
use Rattle.ufs_model.specs.History.{entries_of, tree_after}
use Rattle.ufs_model.specs.PosixTree.{PosixTree, desc_at}
use Rattle.ufs_model.specs.declared.data.Entry.{Entry}
use Rattle.ufs_model.proofs.Facts.Histories.{own-push, others-push, numbers-push}
use Rattle.ufs_promise_laws.specs.FileRequests.{with_free}
use Rattle.ufs_promise_laws.proofs.Sound.{sound_by_free_blocks}
use Rattle.ufs_crash_laws.specs.Changes.{changes_of, name_changes}
use Rattle.ufs_hand_laws.specs.declared.fresh.Fresh.{Fresh}
use Rattle.ufs_hand_laws.specs.Asked.{IsAnswered, IsStill}
use Rattle.ufs_hand_laws.specs.Draws.{client_after, entry_of}
use Rattle.ufs_hand_laws.specs.Marks.{value_after}
use Rattle.ufs_hand_laws.specs.Owned.{Has, count, one, present, replaced}
use Rattle.ufs_hand_laws.specs.Parts.{AskedPart, ClientPart, only_one}
use Rattle.ufs_hand_laws.proofs.Exchange.{value_case}
use Rattle.ufs_hand_laws.proofs.Keys.{alike, itself}
use Rattle.ufs_hand_laws.proofs.Owning.{all_set, count_has, has_append, has_each, none_some, replaced_back, replaced_present, replace_holds, same_holds, same_some, weigh_each}
use Rattle.ufs_store.specs.State.{StoreState}
use Rattle.ufs_promise_laws.specs.Laws.{MovesBlocks}
use Rattle.ufs_promise_laws.specs.Parts.{Parts}
use Rattle.ufs_promise_laws.specs.Sound.{IsSoundServer}
use Rattle.ufs_joint.specs.Cells.{FileCell, NamesCell, Start, View, Word, World, store_of}
use Rattle.ufs_joint.specs.Draws.{DrawsOnDisk, DrawsTo, IsAround, IsUnknown, Leaves, MayDraw, drawn}
use Rattle.ufs_promise_laws.specs.Known.{IsDiskKept, IsMore, Known}
use Rattle.ufs_joint.specs.Laws.{DrawKeeps, one_more}
use Rattle.ufs_joint.specs.Picks.{IsAbsent, bytes_at}
use Rattle.ufs_joint.specs.Sound.{AreChangesTold, ArePastExplained, AreTicketsOnce, DoPartsStay, IsAskedTrue, IsDiskSound, IsExplainedState, IsHeld, IsKeptSince, IsSound, LeadsTo, MayHaveBegun}
use Rattle.ufs_joint.specs.Whole.{birth_known, birth_known_by, AreFreeIn, ArePartsIn, ArePoolsApart, HasCells, HasNamesCell, KnowsCells, changes_known, commits_of, hand_of, known_in, name_changes_at, no_blocks, pooled}
use Rattle.ufs_joint.proofs.Blocks.{difference_in, has_or, none_in, or_cases, or_left, or_right, put_back, taken_out, union_left, union_right}
use Rattle.ufs_joint.proofs.Exchange.{kind_exchanged, names_are, nothing_counted, one_exchanged, one_single, single_of}
use Rattle.ufs_joint.proofs.FaultsTold.{faults_drawn, untold}
use Rattle.ufs_joint.proofs.NoneLost.{joined, parted}
use Rattle.ufs_joint.specs.NoneLost.{HandHas, IsHad}
use Rattle.ufs_joint.proofs.Forgetting.{less_is_kept}
use Rattle.ufs_joint.proofs.Pools.{pools_stay}
use Rattle.ufs_joint.proofs.Served.{served_push}
use Rattle.ufs_joint.proofs.Parting.{cells_there, commits_after, file_after, freed_fewer, freed_in, names_after, other_pool, own_free, same_cells, same_names_cell, still_apart}
use Rattle.ufs_joint.proofs.Takes.{take_front, take_whole}

module _ (k : Start) (word : Word) (views : List View) (i : ℕ) (v : View) (f : Fresh) (l : Leaves) (o : IsSound k word views) (at : get_elem? views i ≡ some v) (m : MayDraw k.geometry k.is_visible v f l word.tickets) where
  abbrev n : ℕ
  n = word.tickets

  abbrev G : World
  G = o.world

  abbrev h : List Entry
  h = o.history

  abbrev e : Entry
  e = entry_of n f

  abbrev longer : List Entry
  longer = h ++ e ∷ []

  abbrev w : View
  w = drawn n f l v

  abbrev next_world : World
  next_world = record {
    client = replaced eqb v.clients w.clients G.client;
    asked = G.asked;
    file = replaced eqb v.files l.files G.file;
    pool = replaced eqb v.pools l.pools G.pool;
    names = value_after l.names G.names;
    store = G.store;
  }

  -- ---- who has which cell

  client_counts : (c : ℕ) → count eqb c w.clients ≡ count eqb c v.clients
  client_counts c = weigh_each (client_after e l.fds) (λ x. one (eqb c x)) v.clients

  single_clients : (c : ℕ) → count eqb c w.clients ≤ 1
  single_clients c = single_of views i v w at (λ (u : View). u.clients) G.client o.one_hand.clients client_counts c

  single_pools : (c : ℕ) → count eqb c l.pools ≤ 1
  single_pools c = single_of views i v w at (λ (u : View). u.pools) G.pool o.one_hand.pools m.same_pools c

  names_single : count only_one tt l.names ≤ 1
  names_single = one_single views i v w at (λ (u : View). u.names) G.names o.one_hand.names m.same_names

  self_there : G.client f.client ≡ Some m.self
  self_there = o.one_hand.clients.agree i v at f.client m.self m.client

  other_client : (c : ℕ) → count eqb c v.clients ≡ 0 → f.client ≢ c
  other_client c z is =
      let a = count_has eqb itself alike f.client m.self v.clients m.client in
      let b : count eqb f.client v.clients ≡ count eqb c v.clients = ap (λ x. count eqb x v.clients) is in absurd (omega (arith, a, b, z))

  client_case : (c : ℕ) (p : ClientPart) → next_world.client c ≡ Some p
      → ((y : ClientPart) × (G.client c ≡ Some y) × (f.client ≡ c) × (p ≡ record y { entries = y.entries ++ e ∷ []; fds = l.fds; asked = None })) ⊎ ((f.client ≢ c) × (G.client c ≡ Some p))
  client_case c p is = ⊎_elim
      (λ x. let y = has_each (client_after e l.fds) c p v.clients x in mine y.0 y.1 y.2 (ℕ_discrete f.client c))
      (λ (x : (count eqb c v.clients ≡ 0) × (count eqb c w.clients ≡ 0) × (G.client c ≡ Some p)). inr (other_client c x.0, x.2))
      (replaced_back eqb itself alike v.clients w.clients G.client single_clients c p is)
    where
      mine : (y : ClientPart) → Has (c, y) v.clients → client_after e l.fds c y ≡ p → Dec (f.client ≡ c)
          → ((y : ClientPart) × (G.client c ≡ Some y) × (f.client ≡ c) × (p ≡ record y { entries = y.entries ++ e ∷ []; fds = l.fds; asked = None })) ⊎ ((f.client ≢ c) × (G.client c ≡ Some p))
      mine y x go (yes s) = inl (y, o.one_hand.clients.agree i v at c y x, s, sym go ∙ ap (λ b. cond b (record y { entries = y.entries ++ e ∷ []; fds = l.fds; asked = None }) y) (eq-eqb f.client c s))
      mine y x go (no s) = inr (s, o.one_hand.clients.agree i v at c y x ∙ ap Some (sym (ap (λ b. cond b (record y { entries = y.entries ++ e ∷ []; fds = l.fds; asked = None }) y) (ne_eqb f.client c s)) ∙ go))

  -- ---- the parts, with the hand's blocks in their pool

  abbrev rest : BlockSet
  rest = setof.difference o.free (pooled v.pools)

  abbrev p1 : Parts
  p1 = record o.parts { pool = pooled v.pools }

  moves_out : MovesBlocks o.parts.pool o.free (pooled v.pools) rest
  moves_out = subst (λ (q : BlockSet). MovesBlocks q o.free (pooled v.pools) rest) (sym o.parts_in.pool) (taken_out o.free (pooled v.pools) (own_free views i v at G o.one_hand o.free o.free_in o.pools_apart))

  server1 : IsSoundServer k.geometry rest p1
  server1 = sound_by_free_blocks k.geometry o.free o.parts (pooled v.pools) rest moves_out o.server

  cells1 : HasCells v p1
  cells1 = same_cells v o.parts (pooled v.pools) (cells_there views i v at G o.one_hand o.parts o.parts_in)

  around : (start : PosixTree) → MayHaveBegun k o.picks start → IsAround k.geometry v n start h p1 rest
  around start begun = record {
    tree = begun.tree;
    legal = (o.leads start begun).legal;
    so_many = o.tickets_once.tickets;
    entries = λ c part has. o.tickets_once.entries c part (o.one_hand.clients.agree i v at c part has);
    fds = λ c part has. (o.leads start begun).clients c part (o.one_hand.clients.agree i v at c part has);
    untold = untold k views h G.store o.faults_once i v at;
    cells = cells1;
    pool = refl;
    parts = other_pool o.parts (tree_after start h) (pooled v.pools) (o.leads start begun).parts;
    server = server1;
  }

  to : (start : PosixTree) (begun : MayHaveBegun k o.picks start) → DrawsTo k.geometry v f l n m.next start h p1 rest
  to start begun = m.to start h p1 rest (around start begun)

  -- ---- the next parts, with the blocks put back

  abbrev next1 : Parts
  next1 = m.next p1

  abbrev next0 : Parts
  next0 = record next1 { pool = no_blocks }

  abbrev freed : BlockSet
  freed = setof.union rest (pooled l.pools)

  moves_back : MovesBlocks next1.pool rest no_blocks freed
  moves_back = subst (λ (q : BlockSet). MovesBlocks q rest no_blocks freed) (sym (m.pool p1 cells1 refl)) (put_back (pooled l.pools) rest)

  server_after : IsSoundServer k.geometry freed next0
  server_after = sound_by_free_blocks k.geometry rest next1 no_blocks freed moves_back (to o.begun o.may_begin).server

  none_lost_after : (b : ℕ) → HandHas k.view b → IsHad next0 freed b
  none_lost_after b is =
      joined next1 (pooled l.pools) rest no_blocks freed b (m.pool p1 cells1 refl) (union_right rest (pooled l.pools) b) (union_left rest (pooled l.pools) b)
      ((to o.begun o.may_begin).none_lost b (parted o.parts o.free (pooled v.pools) rest b no_pool split (o.none_lost b is)))
    where
      no_pool : setof.contains o.parts.pool b ≡ true → ⊥
      no_pool has = none_in b (subst (λ (q : BlockSet). setof.contains q b ≡ true) o.parts_in.pool has)

      split : setof.contains o.free b ≡ true → (setof.contains (pooled v.pools) b ≡ true) ⊎ (setof.contains rest b ≡ true)
      split free = ⊎_elim (λ x. inl x) (λ x. inr (difference_in o.free (pooled v.pools) b free x)) (has_or (pooled v.pools) b)

  parts_after : ArePartsIn next_world next0
  parts_after =
      let goes = m.goes p1 cells1 refl in
      record {
        files = file_after v.files l.files l.names p1 next1 goes G.file o.parts_in.files;
        commits = commits_after v.files l.files l.names p1 next1 goes G.file o.parts_in.commits;
        names = same_names_cell next1 no_blocks next_world.names (names_after v.files l.files l.names p1 next1 goes G.names names_single (same_names_cell o.parts (pooled v.pools) G.names o.parts_in.names));
        pool = refl;
      }

  free_after : AreFreeIn next_world freed
  free_after = freed_in views i v at G o.one_hand o.free o.free_in o.pools_apart l.pools m.same_pools single_pools m.pools_apart m.fewer next_world refl refl

  apart_after : ArePoolsApart next_world
  apart_after = still_apart views i v at G o.one_hand o.free o.free_in o.pools_apart l.pools m.same_pools single_pools m.pools_apart m.fewer next_world refl refl

  fewer_after : (b : ℕ) → setof.contains freed b ≡ true → setof.contains o.free b ≡ true
  fewer_after = freed_fewer views i v at G o.one_hand o.free o.free_in o.pools_apart l.pools m.same_pools single_pools m.pools_apart m.fewer next_world refl refl

  file_case : (file : ℕ) (c : FileCell) → next_world.file file ≡ Some c → Has (file, c) l.files ⊎ ((count eqb file v.files ≡ 0) × (count eqb file l.files ≡ 0) × (G.file file ≡ Some c))
  file_case file c is = replaced_back eqb itself alike v.files l.files G.file m.single file c is

  -- what isn't in memory then wasn't before, and stays
  stays_away : (start : PosixTree) → MayHaveBegun k o.picks start → (file place : ℕ) (c : FileCell) → next_world.file file ≡ Some c → IsAbsent c place
      → ((was : FileCell) × (G.file file ≡ Some was) × IsAbsent was place) × (bytes_at (tree_after start longer) file place ≡ bytes_at (tree_after start h) file place)
  stays_away start begun file place c is absent = ⊎_elim
      (λ has. let x = (to start begun).away file place c has absent in ((x.0.0, o.one_hand.files.agree i v at file x.0.0 x.0.1, x.0.2), x.1))
      (λ (x : (count eqb file v.files ≡ 0) × (count eqb file l.files ≡ 0) × (G.file file ≡ Some c)). ((c, x.2, absent), ap (λ (b : Option (List ℕ)). own_bytes (unwrap_or b []) place) ((to start begun).elsewhere file x.0 x.1)))
      (file_case file c is)

  leads_after : (start : PosixTree) → MayHaveBegun k o.picks start → LeadsTo start longer next_world next0
  leads_after start begun = record {
    legal = (to start begun).legal;
    clients = λ c part is fd. ⊎_elim
        (λ (x : (y : ClientPart) × (G.client c ≡ Some y) × (f.client ≡ c) × (part ≡ record y { entries = y.entries ++ e ∷ []; fds = l.fds; asked = None })).
        ap (λ (z : ClientPart). fin.get z.fds fd) x.3 ∙ (to start begun).fds fd ∙ ap (λ z. desc_at (tree_after start longer) z fd) x.2)
        (λ (x : (f.client ≢ c) × (G.client c ≡ Some part)). (o.leads start begun).clients c part x.1 fd ∙ (to start begun).others c (λ s. x.0 (sym s)) fd)
        (client_case c part is);
    parts = other_pool next1 (tree_after start longer) no_blocks (to start begun).parts;
    away = λ file place c is absent. (let x = stays_away start begun file place c is absent in x.1 ∙ (o.leads start begun).away file place x.0.0 x.0.1 x.0.2);
  }

  -- ---- who has them

  fresh_files : (file : ℕ) → count eqb file v.files ≡ 0 → 1 ≤ count eqb file l.files → G.file file ≡ None
  fresh_files file none there = by (G.file file) (sym (o.parts_in.files file) ∙ (to o.begun o.may_begin).new file none there)
    where
      by : (c : Option FileCell) → hand_of c ≡ None → c ≡ None
      by None e = refl
      by (Some c) e = absurd cc

  held_after : IsHeld (set views i w) next_world
  held_after = record {
    clients = kind_exchanged views i v w at (λ (u : View). u.clients) G.client o.one_hand.clients client_counts;
    asked = same_holds eqb (λ (u : View). u.asked) G.asked views i v w at refl o.one_hand.asked;
    files = replace_holds eqb itself alike (λ (u : View). u.files) G.file views i v w at o.one_hand.files m.single fresh_files;
    pools = kind_exchanged views i v w at (λ (u : View). u.pools) G.pool o.one_hand.pools m.same_pools;
    names = one_exchanged views i v w at (λ (u : View). u.names) G.names o.one_hand.names m.same_names;
    store = same_holds only_one (λ (u : View). u.store) (λ _. Some G.store) views i v w at refl o.one_hand.store;
  }

  client_present : (c : ℕ) → present (next_world.client c) ≡ present (G.client c)
  client_present c = replaced_present eqb itself alike (λ (u : View). u.clients) G.client views i v w at o.one_hand.clients c (client_counts c)

  stay_after : DoPartsStay k next_world
  stay_after = record {
    clients = λ c. client_present c ∙ o.stay.clients c;
    asked = o.stay.asked;
    pools = λ c. replaced_present eqb itself alike (λ (u : View). u.pools) G.pool views i v w at o.one_hand.pools c (m.same_pools c) ∙ o.stay.pools c;
  }

  -- ---- tickets

  self_entries : m.self.entries ≡ entries_of f.client h
  self_entries = o.tickets_once.entries f.client m.self self_there

  entries_own : (c : ℕ) → f.client ≡ c → entries_of c longer ≡ entries_of c h ++ e ∷ []
  entries_own c s = subst (λ (x : ℕ). entries_of x longer ≡ entries_of x h ++ e ∷ []) s (own-push h e)

  last_in : (x : Entry) → Has x longer → Has x h ⊎ (x ≡ e)
  last_in x there = ⊎_elim (λ a. inl a) (⊎_elim (λ b. inr b) (λ z. absurd z)) (has_append x h (e ∷ []) there)

  long : length longer ≡ suc n
  long = length-append h (e ∷ []) ∙ (let a = o.tickets_once.tickets in omega arith)

  tickets_after : AreTicketsOnce (one_more word) longer next_world.client
  tickets_after = record {
    tickets = long;
    entries = λ c p is. ⊎_elim
        (λ (x : (y : ClientPart) × (G.client c ≡ Some y) × (f.client ≡ c) × (p ≡ record y { entries = y.entries ++ e ∷ []; fds = l.fds; asked = None })).
        ap (λ (z : ClientPart). z.entries) x.3 ∙ ap (λ es. es ++ e ∷ []) (o.tickets_once.entries c x.0 x.1) ∙ sym (entries_own c x.2))
        (λ (x : (f.client ≢ c) × (G.client c ≡ Some p)). o.tickets_once.entries c p x.1 ∙ sym (others-push c h e x.0))
        (client_case c p is);
    numbers = λ c. numbers_at c (ℕ_discrete f.client c);
    there = λ x there. ⊎_elim
        (λ a. let t = o.tickets_once.there x a in (t.0, client_present x.client ∙ t.1))
        (λ (s : x ≡ e). subst (λ (y : Entry). (y.client < 16) × (present (next_world.client y.client) ≡ 1)) (sym s) (m.low, client_present f.client ∙ ap present self_there))
        (last_in x there);
    room = λ c. room_at c (ℕ_discrete f.client c);
    asked = λ c p r is a. ⊎_elim
        (λ (x : (y : ClientPart) × (G.client c ≡ Some y) × (f.client ≡ c) × (p ≡ record y { entries = y.entries ++ e ∷ []; fds = l.fds; asked = None })).
        let n : None ≡ Some r = sym (ap (λ (z : ClientPart). z.asked) x.3) ∙ a in absurd (none_some r n))
        (λ (x : (f.client ≢ c) × (G.client c ≡ Some p)). o.tickets_once.asked c p r x.1 a)
        (client_case c p is);
  }
    where
      self_room : length (entries_of f.client h) < 65536
      self_room = let a = o.tickets_once.asked f.client m.self f.op self_there m.asked in let b = ap length self_entries in omega (arith, a, b)

      room_at : (c : ℕ) → Dec (f.client ≡ c) → length (entries_of c longer) ≤ 65536
      room_at c (yes s) = let a = ap length (entries_own c s) in let b = length-append (entries_of c h) (e ∷ []) in let q = self_room in let z : length (entries_of f.client h) ≡ length (entries_of c h) = ap (λ x. length (entries_of x h)) s in omega (arith, a, b, q, z)
      room_at c (no s) = let a = ap length (others-push c h e s) in let b = o.tickets_once.room c in omega (arith, a, b)

      numbers_at : (c : ℕ) → Dec (f.client ≡ c) → map (λ (x : Entry). x.seq) (entries_of c longer) ≡ range_with_len 0 (length (entries_of c longer))
      numbers_at c (yes s) = subst (λ (x : ℕ). map (λ (x : Entry). x.seq) (entries_of x longer) ≡ range_with_len 0 (length (entries_of x longer))) s
          (numbers-push [] (entries_of f.client h) e (entries_of f.client longer) (own-push h e) (o.tickets_once.numbers f.client) (m.seq ∙ ap length self_entries))
      numbers_at c (no s) = subst (λ (es : List Entry). map (λ (x : Entry). x.seq) es ≡ range_with_len 0 (length es)) (sym (others-push c h e s)) (o.tickets_once.numbers c)

  asked_after : IsAskedTrue (one_more word) next_world
  asked_after = record {
    seen = λ c a is. let b = o.asked.seen c a is in omega (arith, b);
    kept = λ c a p ia ip. ⊎_elim
        (λ (x : (y : ClientPart) × (G.client c ≡ Some y) × (f.client ≡ c) × (p ≡ record y { entries = y.entries ++ e ∷ []; fds = l.fds; asked = None })).
        let same : x.0 ≡ m.self = same_some x.0 m.self (sym x.1 ∙ ap G.client (sym x.2) ∙ self_there) in
        inr (answered a x.0 p same x.3 (o.asked.seen c a ia) (o.asked.kept c a x.0 ia x.1)))
        (λ (x : (f.client ≢ c) × (G.client c ≡ Some p)). o.asked.kept c a p ia x.1)
        (client_case c p ip);
  }
    where
      answered : (a : AskedPart) (y p : ClientPart) → y ≡ m.self → p ≡ record y { entries = y.entries ++ e ∷ []; fds = l.fds; asked = None } → a.tickets ≤ word.tickets → IsStill a y ⊎ IsAnswered a y → IsAnswered a p
      answered a y p same is seen (inl still) = record {
        entry = e;
        entries = ap (λ (z : ClientPart). z.entries) is ∙ ap (λ es. es ++ e ∷ []) still.entries;
        asked = sym still.asked ∙ ap (λ (z : ClientPart). z.asked) same ∙ m.asked;
        later = seen;
        others = λ fd not. ap (λ (z : ClientPart). fin.get z.fds fd) is ∙ m.others fd not ∙ ap (λ (z : ClientPart). fin.get z.fds fd) (sym same) ∙ ap (λ z. fin.get z fd) still.fds;
        done = ap (λ (z : ClientPart). z.asked) is;
      }
      answered a y p same is seen (inr done) = let clash : None ≡ Some f.op = sym done.done ∙ ap (λ (z : ClientPart). z.asked) same ∙ m.asked in absurd (none_some f.op clash)

  -- ---- the disk

  module _ (visible : k.is_visible ≡ true) where
    abbrev d : IsDiskSound k word h G o.parts o.free
    d = o.disk visible

    abbrev S : StoreState
    S = store_of G.store

    abbrev known : Known
    known = known_in k.tree h G

    may : MayHaveBegun k o.picks k.tree
    may = subst (MayHaveBegun k o.picks) (o.may_begin.seen visible) o.may_begin

    knows : KnowsCells k.tree h v known
    knows = record {
      files = λ file c has. let is = ap (changes_known k.tree h file) (o.one_hand.files.agree i v at file c has) in omega (arith, is);
      born = λ file c has born. ap (birth_known_by k.tree h G.names.named file) (o.one_hand.files.agree i v at file c has) ∙ or_left c.born (setof.contains G.names.named file) born;
      named = λ file u x also is. or_right (birth_known k.tree h (G.file file)) (setof.contains G.names.named file) (ap (λ (y : NamesCell). setof.contains y.named file) (names_are views i v w at G o.one_hand u x also) ∙ is);
      names = λ u c has. let is = ap (λ (x : NamesCell). name_changes_at k.tree h x.known) (names_are views i v w at G o.one_hand u c has) in omega (arith, is);
      files_told = λ file c has. let is = ap length (d.told.files file c (o.one_hand.files.agree i v at file c has)) in omega (arith, is);
      names_told = λ u c has. let is = ap length d.told.names in let e = ap (λ (x : NamesCell). name_changes_at k.tree h x.changed) (names_are views i v w at G o.one_hand u c has) in omega (arith, is, e);
    }

    on : DrawsOnDisk k.geometry v f l n m.next k.tree h p1 rest
    on = m.disk visible k.tree h p1 rest (around k.tree may)

    drawn_kept : IsDiskKept (with_free freed S) k.tree longer next0 known
    drawn_kept = pools_stay (with_free rest S) k.tree longer next1 known no_blocks freed moves_back
        (on.kept (with_free rest S) known o.formed refl knows (pools_stay (with_free o.free S) k.tree h o.parts known (pooled v.pools) rest moves_out d.kept))

    -- ---- what each cell knows

    stamped : G.store.stamp ≤ n
    stamped = let a = d.past.stamped in let b = d.past.within in omega (arith, a, b)

    tickets : length h ≡ n
    tickets = o.tickets_once.tickets

    front : (j : ℕ) → j ≤ n → take j longer ≡ take j h
    front j low = take_front h (e ∷ []) j (let t = tickets in omega (arith, t, low))

    -- no cell knows more than it did
    knows_no_more : (file : ℕ) (c : FileCell) → next_world.file file ≡ Some c → ((c.known ≡ 0) × (c.born ≡ false)) ⊎ ((was : FileCell) × (G.file file ≡ Some was) × (c.known ≡ was.known) × (c.born ≡ was.born))
    knows_no_more file c is = ⊎_elim
        (λ has. ⊎_elim (λ (a : IsUnknown c). inl (a.known, a.born)) (λ (a : (was : FileCell) × Has (file, was) v.files × (c.known ≡ was.known) × (c.born ≡ was.born)). inr (a.0, o.one_hand.files.agree i v at file a.0 a.1, a.2, a.3)) (m.known file c has))
        (λ (a : (count eqb file v.files ≡ 0) × (count eqb file l.files ≡ 0) × (G.file file ≡ Some c)). inr (c, a.2, refl, refl))
        (file_case file c is)

    names_case : ((l.names ≡ []) × (next_world.names ≡ G.names)) ⊎ ((c : NamesCell) × Has (tt, c) l.names × (next_world.names ≡ c))
    names_case = ⊎_elim
        (λ (x : (count only_one tt l.names ≡ 0) × (next_world.names ≡ G.names)). inl (nothing_counted l.names x.0, x.1))
        (λ x. inr x)
        (value_case l.names G.names names_single)

    names_know : next_world.names.known ≡ G.names.known
    names_know = ⊎_elim
        (λ (x : (l.names ≡ []) × (next_world.names ≡ G.names)). ap (λ (c : NamesCell). c.known) x.1)
        (λ (x : (c : NamesCell) × Has (tt, c) l.names × (next_world.names ≡ c)).
        let y = m.names_known tt x.0 x.1 in
        ap (λ (c : NamesCell). c.known) x.2 ∙ y.2 ∙ ap (λ (c : NamesCell). c.known) (sym (names_are views i v w at G o.one_hand tt y.0 y.1)))
        names_case

    names_named : next_world.names.named ≡ G.names.named
    names_named = ⊎_elim
        (λ (x : (l.names ≡ []) × (next_world.names ≡ G.names)). ap (λ (c : NamesCell). c.named) x.1)
        (λ (x : (c : NamesCell) × Has (tt, c) l.names × (next_world.names ≡ c)).
        let y = m.names_known tt x.0 x.1 in
        ap (λ (c : NamesCell). c.named) x.2 ∙ y.3 ∙ ap (λ (c : NamesCell). c.named) (sym (names_are views i v w at G o.one_hand tt y.0 y.1)))
        names_case

    -- of any histories that begin alike
    less_known : (g g2 : List Entry) → ((q : ℕ) → q ≤ G.store.stamp → take q g ≡ take q g2) → IsMore (known_in k.tree g next_world) (known_in k.tree g2 G)
    less_known g g2 same = record {
      names = let a = same G.names.known d.told.names_within.1 in let b = ap (λ q. length (name_changes k.tree (take q g))) names_know in let c = ap (λ q. length (name_changes k.tree q)) a in omega (arith, b, c);
      files = λ file. files_at file (next_world.file file) refl;
      born = λ file. born_at file (next_world.file file) refl;
    }
      where
        files_at : (file : ℕ) (c : Option FileCell) → next_world.file file ≡ c → changes_known k.tree g file c ≤ changes_known k.tree g2 file (G.file file)
        files_at file None is = omega arith
        files_at file (Some c) is = ⊎_elim
            (λ (a : (c.known ≡ 0) × (c.born ≡ false)). let z : length (changes_of file k.tree (take c.known g)) ≡ 0 = ap (λ q. length (changes_of file k.tree (take q g))) a.0 in omega (arith, z))
            (λ (a : (was : FileCell) × (G.file file ≡ Some was) × (c.known ≡ was.known) × (c.born ≡ was.born)).
            let here = ap (changes_known k.tree g2 file) a.1 in
            let x = ap (λ q. length (changes_of file k.tree (take q g))) a.2 in
            let y = ap (λ q. length (changes_of file k.tree q)) (same a.0.known (d.told.within file a.0 a.1).1) in
            omega (arith, here, x, y))
            (knows_no_more file c is)

        born_at : (file : ℕ) (c : Option FileCell) → next_world.file file ≡ c → birth_known_by k.tree g next_world.names.named file c ≡ true → birth_known_by k.tree g2 G.names.named file (G.file file) ≡ true
        born_at file None is born = or_right (birth_known k.tree g2 (G.file file)) (setof.contains G.names.named file) (sym (ap (λ (y : BlockSet). setof.contains y file) names_named) ∙ born)
        born_at file (Some c) is born =
            let same : setof.contains next_world.names.named file ≡ setof.contains G.names.named file = ap (λ (y : BlockSet). setof.contains y file) names_named in
            let there : (c.born || setof.contains G.names.named file) ≡ true = ap (λ b. c.born || b) (sym same) ∙ born in ⊎_elim
            (λ (a : (c.known ≡ 0) × (c.born ≡ false)). ⊎_elim
            (λ x. let clash : true ≡ false = sym x ∙ a.1 in absurd cc)
            (λ x. or_right (birth_known k.tree g2 (G.file file)) (setof.contains G.names.named file) x)
            (or_cases c.born (setof.contains G.names.named file) there))
            (λ (a : (was : FileCell) × (G.file file ≡ Some was) × (c.known ≡ was.known) × (c.born ≡ was.born)). ap (birth_known_by k.tree g2 G.names.named file) a.1 ∙ ap (λ b. b || setof.contains G.names.named file) (sym a.3) ∙ there)
            (knows_no_more file c is)

    kept_after : IsDiskKept (with_free freed S) k.tree longer next0 (known_in k.tree longer next_world)
    kept_after = less_is_kept (with_free freed S) k.tree longer next0 (known_in k.tree longer next_world) known (less_known longer h (λ q low. front q (let s = stamped in omega (arith, low, s)))) drawn_kept

    -- ---- the beginnings since the stamp

    -- a cell that didn't change since then is as it was
    file_was : (file : ℕ) (c : FileCell) → next_world.file file ≡ Some c → c.changed ≤ G.store.stamp → G.file file ≡ Some c
    file_was file c is low = ⊎_elim
        (λ has. ⊎_elim
        (λ (a : c.changed ≡ suc n). let s = stamped in absurd (omega (arith, a, s, low)))
        (λ (a : Has (file, c) v.files × (changes_of file k.tree longer ≡ changes_of file k.tree h)). o.one_hand.files.agree i v at file c a.0)
        (on.files file c has))
        (λ (a : (count eqb file v.files ≡ 0) × (count eqb file l.files ≡ 0) × (G.file file ≡ Some c)). a.2)
        (file_case file c is)

    names_were : next_world.names.changed ≤ G.store.stamp → next_world.names ≡ G.names
    names_were low = ⊎_elim
        (λ (x : (l.names ≡ []) × (next_world.names ≡ G.names)). x.1)
        (λ (x : (c : NamesCell) × Has (tt, c) l.names × (next_world.names ≡ c)). ⊎_elim
        (λ (a : x.0.changed ≡ suc n). let b = ap (λ (c : NamesCell). c.changed) x.2 in let s = stamped in absurd (omega (arith, a, b, s, low)))
        (λ (a : Has (tt, x.0) v.names × (name_changes k.tree longer ≡ name_changes k.tree h)). x.2 ∙ sym (names_are views i v w at G o.one_hand tt x.0 a.0))
        (on.names tt x.0 x.1))
        names_case

    -- for one that was there before
    earlier : (j : ℕ) → G.store.stamp ≤ j → j ≤ n → IsKeptSince k.geometry k.tree (take j h) next_world freed
    earlier j from low =
        let was = d.since j from low in
        record {
          parts = was.parts;
          freed = was.freed;
          kept = less_is_kept (with_free was.freed S) k.tree (take j h) was.parts (known_in k.tree (take j h) next_world) (known_in k.tree (take j h) G) (less_known (take j h) (take j h) (λ q small. refl)) was.kept;
          sound = was.sound;
          pool = was.pool;
          fewer = λ b is. was.fewer b (fewer_after b is);
          files = λ file c is small. was.files file c (file_was file c is small) small;
          names = λ small. let same = names_were small in subst (HasNamesCell was.parts) (sym same) (was.names (subst (λ (x : NamesCell). x.changed ≤ G.store.stamp) same small));
        }

    -- and for the whole one
    latest : IsKeptSince k.geometry k.tree longer next_world freed
    latest = record {
      parts = next0;
      freed = freed;
      kept = kept_after;
      sound = server_after;
      pool = refl;
      fewer = λ b is. is;
      files = λ file c is small. record { file_is = parts_after.files file ∙ ap hand_of is; commits_are = parts_after.commits file ∙ ap commits_of is };
      names = λ small. parts_after.names;
    }

    since_after : (j : ℕ) → G.store.stamp ≤ j → j ≤ suc n → IsKeptSince k.geometry k.tree (take j longer) next_world freed
    since_after j from low = by (dec_le j n)
      where
        by : Dec (j ≤ n) → IsKeptSince k.geometry k.tree (take j longer) next_world freed
        by (yes small) = subst (λ (q : List Entry). IsKeptSince k.geometry k.tree q next_world freed) (sym (front j small)) (earlier j from small)
        by (no big) = subst (λ (q : List Entry). IsKeptSince k.geometry k.tree q next_world freed) (sym (take_whole longer j (let t = long in omega (arith, t, big)))) latest

    -- ---- what is told of changes

    file_still : (file : ℕ) (c : FileCell) → G.file file ≡ Some c → changes_of file k.tree longer ≡ changes_of file k.tree h → changes_of file k.tree longer ≡ changes_of file k.tree (take c.changed longer)
    file_still file c is same = same ∙ d.told.files file c is ∙ ap (changes_of file k.tree) (sym (front c.changed (let x = (d.told.within file c is).0 in let t = tickets in omega (arith, x, t))))

    names_still : name_changes k.tree longer ≡ name_changes k.tree h → name_changes k.tree longer ≡ name_changes k.tree (take G.names.changed longer)
    names_still same = same ∙ d.told.names ∙ ap (name_changes k.tree) (sym (front G.names.changed (let x = d.told.names_within.0 in let t = tickets in omega (arith, x, t))))

    whole_taken : (j : ℕ) → j ≡ suc n → longer ≡ take j longer
    whole_taken j is = sym (take_whole longer j (let t = long in omega (arith, t, is)))

    told_after : AreChangesTold k.tree longer next_world
    told_after = record {
      files = λ file c is. ⊎_elim
          (λ has. ⊎_elim
          (λ (a : c.changed ≡ suc n). ap (changes_of file k.tree) (whole_taken c.changed a))
          (λ (a : Has (file, c) v.files × (changes_of file k.tree longer ≡ changes_of file k.tree h)). file_still file c (o.one_hand.files.agree i v at file c a.0) a.1)
          (on.files file c has))
          (λ (a : (count eqb file v.files ≡ 0) × (count eqb file l.files ≡ 0) × (G.file file ≡ Some c)). file_still file c a.2 (on.others file a.0 a.1))
          (file_case file c is);
      within = λ file c is. (
        ⊎_elim
            (λ has. ⊎_elim
            (λ (a : c.changed ≡ suc n). let t = long in omega (arith, t, a))
            (λ (a : Has (file, c) v.files × (changes_of file k.tree longer ≡ changes_of file k.tree h)). let x = (d.told.within file c (o.one_hand.files.agree i v at file c a.0)).0 in let t = long in let s = tickets in omega (arith, x, t, s))
            (on.files file c has))
            (λ (a : (count eqb file v.files ≡ 0) × (count eqb file l.files ≡ 0) × (G.file file ≡ Some c)). let x = (d.told.within file c a.2).0 in let t = long in let s = tickets in omega (arith, x, t, s))
            (file_case file c is),
        ⊎_elim
            (λ (a : (c.known ≡ 0) × (c.born ≡ false)). let z = a.0 in omega (arith, z))
            (λ (a : (was : FileCell) × (G.file file ≡ Some was) × (c.known ≡ was.known) × (c.born ≡ was.born)). let x = (d.told.within file a.0 a.1).1 in let z = a.2 in omega (arith, x, z))
            (knows_no_more file c is),
      );
      names = ⊎_elim
          (λ (x : (l.names ≡ []) × (next_world.names ≡ G.names)). names_still (on.no_names x.0) ∙ ap (λ (c : NamesCell). name_changes k.tree (take c.changed longer)) (sym x.1))
          (λ (x : (c : NamesCell) × Has (tt, c) l.names × (next_world.names ≡ c)). ⊎_elim
          (λ (a : x.0.changed ≡ suc n). ap (name_changes k.tree) (whole_taken x.0.changed a) ∙ ap (λ (c : NamesCell). name_changes k.tree (take c.changed longer)) (sym x.2))
          (λ (a : Has (tt, x.0) v.names × (name_changes k.tree longer ≡ name_changes k.tree h)). names_still a.1 ∙ ap (λ (c : NamesCell). name_changes k.tree (take c.changed longer)) (names_are views i v w at G o.one_hand tt x.0 a.0 ∙ sym x.2))
          (on.names tt x.0 x.1))
          names_case;
      names_within = (
        ⊎_elim
            (λ (x : (l.names ≡ []) × (next_world.names ≡ G.names)). let y = ap (λ (c : NamesCell). c.changed) x.1 in let z = d.told.names_within.0 in let t = long in let s = tickets in omega (arith, y, z, t, s))
            (λ (x : (c : NamesCell) × Has (tt, c) l.names × (next_world.names ≡ c)). let y = ap (λ (c : NamesCell). c.changed) x.2 in ⊎_elim
            (λ (a : x.0.changed ≡ suc n). let t = long in omega (arith, t, a, y))
            (λ (a : Has (tt, x.0) v.names × (name_changes k.tree longer ≡ name_changes k.tree h)). let b = ap (λ (c : NamesCell). c.changed) (names_are views i v w at G o.one_hand tt x.0 a.0) in let z = d.told.names_within.0 in let t = long in let s = tickets in omega (arith, y, b, z, t, s))
            (on.names tt x.0 x.1))
            names_case,
        (let x = names_know in let y = d.told.names_within.1 in omega (arith, x, y)),
      );
    }

    -- ---- earlier states

    past_after : ArePastExplained k.tree (one_more word) longer G.store
    past_after = record {
      upto = d.past.upto;
      joined = d.past.joined;
      stamped = d.past.stamped;
      within = let x = d.past.within in omega (arith, x);
      each = λ x has j from low cells there. subst (λ (q : List Entry). IsExplainedState G.store.sectors k.tree q cells) (sym (front j (let y = d.past.ended x has in omega (arith, y, low)))) (d.past.each x has j from low cells there);
      ended = λ x has. let y = d.past.ended x has in omega (arith, y);
    }

    disk_after : IsDiskSound k (one_more word) longer next_world next0 freed
    disk_after = record { kept = kept_after; told = told_after; since = since_after; past = past_after }

  pub draw_sound : IsSound k (one_more word) (set views i w)
  draw_sound = record {
    faults_once = faults_drawn k views h G.store o.faults_once i v at w e refl refl m.device m.stopped m.committed m.asks;
    history = longer;
    world = next_world;
    parts = next0;
    free = freed;
    picks = o.picks;
    one_hand = held_after;
    stay = stay_after;
    tickets_once = tickets_after;
    asked = asked_after;
    seen = all_set (λ (u : View). u.seen ≤ suc n) views i w (λ j u there. let x = o.seen j u there in omega (arith, x)) (omega arith);
    parts_in = parts_after;
    free_in = free_after;
    pools_apart = apart_after;
    server = server_after;
    none_lost = none_lost_after;
    formed = o.formed;
    begun = o.begun;
    may_begin = o.may_begin;
    leads = leads_after;
    served = λ start begun. served_push start h e (o.served start begun) (to start begun).served;
    unread = λ file place c is absent. (let x = (stays_away o.begun o.may_begin file place c is absent).0 in o.unread file place x.0 x.1 x.2);
    disk = disk_after;
  }

pub draw_keeps : DrawKeeps
draw_keeps k word views i v f l o at m = draw_sound k word views i v f l o at m
