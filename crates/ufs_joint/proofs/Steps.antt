-- A hand is split, two are joined, a client asks, and a turn of the store begins.
use Rattle.std.proofs.Common.{◌≡◌, ◌≢◌, ℕ, ◌≤◌, ◌⊎◌, inl, inr, ⊎_elim, Bool, true, false, cond, eqb, eq-eqb, ne_eqb, leb, List, [], ◌∷◌, ◌++◌, length, set, take, Some, sym, refl, ap, ◌∙◌, subst, arith}
use mathlib.Core.Option.{some}
use Rattle.std.specs.FinMap as fin
use native.Mathlib.Decide.{ℕ_discrete}
use lib.ListN.{get_elem?}
use Rattle.atomic_table.proofs.Lists.{set_else}
use Rattle.ufs_model.specs.declared.data.Entry.{Entry}
use Rattle.ufs_model.specs.declared.data.Op.{Op}
use Rattle.ufs_promise_laws.specs.FileRequests.{with_free}
use Rattle.ufs_hand_laws.specs.Asked.{IsAnswered, IsStill}
use Rattle.ufs_hand_laws.specs.Marks.{asked_by, asking_asked, asking_client}
use Rattle.ufs_hand_laws.specs.Owned.{Has, Held, count, one, present, replaced}
use Rattle.ufs_hand_laws.specs.Parts.{AskedPart, Cells, ClientPart, Stretch, is_asked, is_client, is_file, is_names, is_store, later, only_one}
use Rattle.ufs_hand_laws.proofs.Keys.{alike, itself, one_alike, one_itself}
use Rattle.ufs_hand_laws.proofs.Owning.{all_set, all_split, count_has, cut_holds, has_each, join_holds, once_in, replaced_back, replaced_present, same_holds, same_some, weigh_each}
use Rattle.ufs_store.specs.State.{geometry_of_store}
use Rattle.ufs_promise_laws.specs.AlwaysLaws.{RestIsExplained}
use Rattle.ufs_joint.specs.Cells.{Start, StoreCell, View, Word, World, both_of, given_of, kept_of, spent, store_of}
use Rattle.ufs_joint.specs.Faults.{AreFaultsOnce}
use Rattle.ufs_promise_laws.specs.Known.{IsDiskKept}
use Rattle.ufs_joint.specs.Laws.{LookKeeps, AskKeeps, JoinKeeps, SplitKeeps, TurnBeginKeeps}
use Rattle.ufs_joint.specs.Marks.{MayAsk, asking}
use Rattle.ufs_joint.proofs.Disks.{explained_here}
use Rattle.ufs_joint.specs.Sound.{AreJoined, IsAskedTrue, IsDiskSound, IsExplainedState, IsHeld, IsKeptSince, IsSound}
use Rattle.ufs_joint.specs.Turns.{begun_at, rested, turn_begun}
use Rattle.ufs_joint.specs.Whole.{AreFreeIn, ArePoolsApart, commits_of, hand_of, known_in}
use Rattle.ufs_joint.proofs.Exchange.{kind_exchanged, one_exchanged, store_is}
use Rattle.ufs_joint.proofs.FaultsTold.{faults_join, faults_same, faults_split, faults_stay}
use Rattle.ufs_promise_laws.proofs.Known.{on_disk_of}
use Rattle.ufs_joint.proofs.Takes.{take_whole}

-- ---- the same world, by other views

other_views : (k : Start) (word : Word) (views more : List View) (o : IsSound k word views) → IsHeld more o.world → ((i : ℕ) (v : View) → get_elem? more i ≡ some v → v.seen ≤ word.tickets) → AreFaultsOnce k more o.history o.world.store → IsSound k word more
other_views k word views more o held seen faults = record {
  history = o.history;
  world = o.world;
  parts = o.parts;
  free = o.free;
  picks = o.picks;
  one_hand = held;
  stay = o.stay;
  tickets_once = o.tickets_once;
  asked = o.asked;
  seen = seen;
  faults_once = faults;
  parts_in = o.parts_in;
  free_in = o.free_in;
  pools_apart = o.pools_apart;
  server = o.server;
  none_lost = o.none_lost;
  formed = o.formed;
  begun = o.begun;
  may_begin = o.may_begin;
  leads = o.leads;
  served = o.served;
  unread = o.unread;
  disk = o.disk;
}

pub look_keeps : LookKeeps
look_keeps k word views i v o at = other_views k word views (set views i (record v { seen = word.tickets })) o
    (record {
      clients = same_holds eqb (λ (u : View). u.clients) o.world.client views i v (record v { seen = word.tickets }) at refl o.one_hand.clients;
      asked = same_holds eqb (λ (u : View). u.asked) o.world.asked views i v (record v { seen = word.tickets }) at refl o.one_hand.asked;
      files = same_holds eqb (λ (u : View). u.files) o.world.file views i v (record v { seen = word.tickets }) at refl o.one_hand.files;
      pools = same_holds eqb (λ (u : View). u.pools) o.world.pool views i v (record v { seen = word.tickets }) at refl o.one_hand.pools;
      names = same_holds only_one (λ (u : View). u.names) (λ _. Some o.world.names) views i v (record v { seen = word.tickets }) at refl o.one_hand.names;
      store = same_holds only_one (λ (u : View). u.store) (λ _. Some o.world.store) views i v (record v { seen = word.tickets }) at refl o.one_hand.store;
    })
    (all_set (λ (u : View). u.seen ≤ word.tickets) views i (record v { seen = word.tickets }) o.seen (omega arith))
    (faults_same k views o.history o.world.store o.faults_once i v at (record v { seen = word.tickets }) refl refl)

pub split_keeps : SplitKeeps
split_keeps k word views i v p o at = other_views k word views (set views i l ++ r ∷ []) o
    (record {
      clients = cut_holds eqb itself alike (λ (u : View). u.clients) o.world.client (is_client p) views i v l r at h.clients refl refl;
      asked = cut_holds eqb itself alike (λ (u : View). u.asked) o.world.asked (is_asked p) views i v l r at h.asked refl refl;
      files = cut_holds eqb itself alike (λ (u : View). u.files) o.world.file (is_file p) views i v l r at h.files refl refl;
      pools = cut_holds eqb itself alike (λ (u : View). u.pools) o.world.pool (is_file p) views i v l r at h.pools refl refl;
      names = cut_holds only_one one_itself one_alike (λ (u : View). u.names) (λ _. Some o.world.names) (is_names p) views i v l r at h.names refl refl;
      store = cut_holds only_one one_itself one_alike (λ (u : View). u.store) (λ _. Some o.world.store) (is_store p) views i v l r at h.store refl refl;
    })
    (all_split (λ (u : View). u.seen ≤ word.tickets) views i l r o.seen (o.seen i v at) (o.seen i v at))
    (faults_split k views o.history o.world.store o.faults_once i v at p)
  where
    l : View
    l = kept_of p v

    r : View
    r = given_of p v

    h : IsHeld views o.world
    h = o.one_hand

later_low : (a b n : ℕ) → a ≤ n → b ≤ n → later a b ≤ n
later_low a b n l m = by (leb a b)
  where
    by : (c : Bool) → cond c b a ≤ n
    by true = m
    by false = l

pub join_keeps : JoinKeeps
join_keeps k word views i j v u o at ne there = other_views k word views (set (set views i w) j spent) o
    (record {
      clients = join_holds eqb itself alike (λ (x : View). x.clients) o.world.client views i j v u w spent at ne there h.clients refl refl;
      asked = join_holds eqb itself alike (λ (x : View). x.asked) o.world.asked views i j v u w spent at ne there h.asked refl refl;
      files = join_holds eqb itself alike (λ (x : View). x.files) o.world.file views i j v u w spent at ne there h.files refl refl;
      pools = join_holds eqb itself alike (λ (x : View). x.pools) o.world.pool views i j v u w spent at ne there h.pools refl refl;
      names = join_holds only_one one_itself one_alike (λ (x : View). x.names) (λ _. Some o.world.names) views i j v u w spent at ne there h.names refl refl;
      store = join_holds only_one one_itself one_alike (λ (x : View). x.store) (λ _. Some o.world.store) views i j v u w spent at ne there h.store refl refl;
    })
    (all_set (λ (x : View). x.seen ≤ word.tickets) (set views i w) j spent (all_set (λ (x : View). x.seen ≤ word.tickets) views i w o.seen (later_low v.seen u.seen word.tickets (o.seen i v at) (o.seen j u was))) (omega arith))
    (faults_join k views o.history o.world.store o.faults_once i v at j u ne there)
  where
    w : View
    w = both_of v u

    h : IsHeld views o.world
    h = o.one_hand

    was : get_elem? views j ≡ some u
    was = sym (set_else views i j w ne) ∙ there

-- ---- a client asks

module _ (k : Start) (word : Word) (views : List View) (i : ℕ) (v : View) (c : ℕ) (r : Op) (o : IsSound k word views) (at : get_elem? views i ≡ some v) (m : MayAsk c v) where
  abbrev w : View
  w = asking word.tickets c r m.self v

  abbrev next : World
  next = record { client = replaced eqb v.clients w.clients o.world.client; asked = replaced eqb v.asked w.asked o.world.asked; file = o.world.file; pool = o.world.pool; names = o.world.names; store = o.world.store }

  self_there : o.world.client c ≡ Some m.self
  self_there = o.one_hand.clients.agree i v at c m.self m.has_self

  client_counts : (n : ℕ) → count eqb n w.clients ≡ count eqb n v.clients
  client_counts n = weigh_each (asking_client c r m.self.copies) (λ x. one (eqb n x)) v.clients

  asked_counts : (n : ℕ) → count eqb n w.asked ≡ count eqb n v.asked
  asked_counts n = weigh_each (asking_asked c (asked_by word.tickets r m.self.copies m.self)) (λ x. one (eqb n x)) v.asked

  single_clients : (n : ℕ) → count eqb n w.clients ≤ 1
  single_clients n = let a = once_in eqb itself alike (λ (u : View). u.clients) o.world.client views i v at o.one_hand.clients n in let b = client_counts n in omega arith

  single_asked : (n : ℕ) → count eqb n w.asked ≤ 1
  single_asked n = let a = once_in eqb itself alike (λ (u : View). u.asked) o.world.asked views i v at o.one_hand.asked n in let b = asked_counts n in omega arith

  abbrev Asks : ClientPart → Type 0
  Asks p = p ≡ record m.self { copies = m.self.copies; asked = Some r }

  client_case : (n : ℕ) (p : ClientPart) → next.client n ≡ Some p → ((n ≡ c) × Asks p) ⊎ ((n ≢ c) × (o.world.client n ≡ Some p))
  client_case n p is = ⊎_elim
      (λ x. let y = has_each (asking_client c r m.self.copies) n p v.clients x in mine y.0 y.1 y.2 (ℕ_discrete n c))
      (λ (x : (count eqb n v.clients ≡ 0) × (count eqb n w.clients ≡ 0) × (o.world.client n ≡ Some p)). inr (elsewhere x.0, x.2))
      (replaced_back eqb itself alike v.clients w.clients o.world.client single_clients n p is)
    where
      elsewhere : count eqb n v.clients ≡ 0 → n ≢ c
      elsewhere z s = let a = count_has eqb itself alike c m.self v.clients m.has_self in let b : count eqb n v.clients ≡ count eqb c v.clients = ap (λ q. count eqb q v.clients) s in absurd (omega arith)

      mine : (y : ClientPart) → Has (n, y) v.clients → asking_client c r m.self.copies n y ≡ p → Dec (n ≡ c) → ((n ≡ c) × Asks p) ⊎ ((n ≢ c) × (o.world.client n ≡ Some p))
      mine y x go (yes s) =
          let same : y ≡ m.self = same_some y m.self (sym (o.one_hand.clients.agree i v at n y x) ∙ ap o.world.client s ∙ self_there) in
          inl (s, sym go ∙ ap (λ b. cond b (record y { copies = m.self.copies; asked = Some r }) y) (eq-eqb n c s) ∙ ap (λ (q : ClientPart). record q { copies = m.self.copies; asked = Some r }) same)
      mine y x go (no s) = inr (s, o.one_hand.clients.agree i v at n y x ∙ ap Some (sym (ap (λ b. cond b (record y { copies = m.self.copies; asked = Some r }) y) (ne_eqb n c s)) ∙ go))

  asked_case : (n : ℕ) (a : AskedPart) → next.asked n ≡ Some a → ((n ≡ c) × (a ≡ asked_by word.tickets r m.self.copies m.self)) ⊎ ((n ≢ c) × (o.world.asked n ≡ Some a))
  asked_case n a is = ⊎_elim
      (λ x. let y = has_each (asking_asked c (asked_by word.tickets r m.self.copies m.self)) n a v.asked x in mine y.0 y.1 y.2 (ℕ_discrete n c))
      (λ (x : (count eqb n v.asked ≡ 0) × (count eqb n w.asked ≡ 0) × (o.world.asked n ≡ Some a)). inr (elsewhere x.0, x.2))
      (replaced_back eqb itself alike v.asked w.asked o.world.asked single_asked n a is)
    where
      elsewhere : count eqb n v.asked ≡ 0 → n ≢ c
      elsewhere z s = let a = count_has eqb itself alike c m.before v.asked m.has_before in let b : count eqb n v.asked ≡ count eqb c v.asked = ap (λ q. count eqb q v.asked) s in absurd (omega arith)

      mine : (y : AskedPart) → Has (n, y) v.asked → asking_asked c (asked_by word.tickets r m.self.copies m.self) n y ≡ a → Dec (n ≡ c) → ((n ≡ c) × (a ≡ asked_by word.tickets r m.self.copies m.self)) ⊎ ((n ≢ c) × (o.world.asked n ≡ Some a))
      mine y x go (yes s) = inl (s, sym go ∙ ap (λ b. cond b (asked_by word.tickets r m.self.copies m.self) y) (eq-eqb n c s))
      mine y x go (no s) = inr (s, o.one_hand.asked.agree i v at n y x ∙ ap Some (sym (ap (λ b. cond b (asked_by word.tickets r m.self.copies m.self) y) (ne_eqb n c s)) ∙ go))

  held : IsHeld (set views i w) next
  held = record {
    clients = kind_exchanged views i v w at (λ (u : View). u.clients) o.world.client o.one_hand.clients client_counts;
    asked = kind_exchanged views i v w at (λ (u : View). u.asked) o.world.asked o.one_hand.asked asked_counts;
    files = same_holds eqb (λ (u : View). u.files) o.world.file views i v w at refl o.one_hand.files;
    pools = same_holds eqb (λ (u : View). u.pools) o.world.pool views i v w at refl o.one_hand.pools;
    names = same_holds only_one (λ (u : View). u.names) (λ _. Some o.world.names) views i v w at refl o.one_hand.names;
    store = same_holds only_one (λ (u : View). u.store) (λ _. Some o.world.store) views i v w at refl o.one_hand.store;
  }

  present_same : (n : ℕ) → present (next.client n) ≡ present (o.world.client n)
  present_same n = replaced_present eqb itself alike (λ (u : View). u.clients) o.world.client views i v w at o.one_hand.clients n (client_counts n)

  -- a client has its entries and descriptors as before
  client_was : (n : ℕ) (p : ClientPart) → next.client n ≡ Some p → (y : ClientPart) × (o.world.client n ≡ Some y) × (p.entries ≡ y.entries) × (p.fds ≡ y.fds)
  client_was n p is = ⊎_elim
      (λ (x : (n ≡ c) × Asks p). (m.self, ap o.world.client x.0 ∙ self_there, ap (λ (q : ClientPart). q.entries) x.1, ap (λ (q : ClientPart). q.fds) x.1))
      (λ (x : (n ≢ c) × (o.world.client n ≡ Some p)). (p, x.1, refl, refl)) (client_case n p is)

  asked_true : IsAskedTrue word next
  asked_true = record {
    seen = λ n a is. ⊎_elim (λ (x : (n ≡ c) × (a ≡ asked_by word.tickets r m.self.copies m.self)). let t = ap (λ (q : AskedPart). q.tickets) x.1 in omega arith)
        (λ (x : (n ≢ c) × (o.world.asked n ≡ Some a)). o.asked.seen n a x.1) (asked_case n a is);
    kept = λ n a p ia ip. kept_at n a p (asked_case n a ia) (client_case n p ip);
  }
    where
      kept_at : (n : ℕ) (a : AskedPart) (p : ClientPart) → ((n ≡ c) × (a ≡ asked_by word.tickets r m.self.copies m.self)) ⊎ ((n ≢ c) × (o.world.asked n ≡ Some a)) → ((n ≡ c) × Asks p) ⊎ ((n ≢ c) × (o.world.client n ≡ Some p)) → IsStill a p ⊎ IsAnswered a p
      kept_at n a p (inl x) (inl y) = inl (record {
        entries = ap (λ (q : ClientPart). q.entries) y.1 ∙ ap (λ (q : AskedPart). q.entries) (sym x.1);
        fds = ap (λ (q : ClientPart). q.fds) y.1 ∙ ap (λ (q : AskedPart). q.fds) (sym x.1);
        asked = ap (λ (q : ClientPart). q.asked) y.1 ∙ ap (λ (q : AskedPart). q.asked) (sym x.1);
      })
      kept_at n a p (inl x) (inr y) = absurd (y.0 x.0)
      kept_at n a p (inr x) (inl y) = absurd (x.0 y.0)
      kept_at n a p (inr x) (inr y) = o.asked.kept n a p x.1 y.1

  ask_sound : IsSound k word (set views i w)
  ask_sound = record {
    history = o.history;
    world = next;
    parts = o.parts;
    free = o.free;
    picks = o.picks;
    one_hand = held;
    stay = record {
      clients = λ n. present_same n ∙ o.stay.clients n;
      asked = λ n. replaced_present eqb itself alike (λ (u : View). u.asked) o.world.asked views i v w at o.one_hand.asked n (asked_counts n) ∙ o.stay.asked n;
      pools = o.stay.pools;
    };
    tickets_once = record {
      tickets = o.tickets_once.tickets;
      entries = λ n p is. let y = client_was n p is in y.2 ∙ o.tickets_once.entries n y.0 y.1;
      numbers = o.tickets_once.numbers;
      there = λ e h. let t = o.tickets_once.there e h in (t.0, present_same e.client ∙ t.1);
      room = o.tickets_once.room;
      asked = λ n p q is a. ⊎_elim
          (λ (x : (n ≡ c) × Asks p). let l = ap (λ (z : ClientPart). length z.entries) x.1 in let b = m.room in omega (arith, l, b))
          (λ (x : (n ≢ c) × (o.world.client n ≡ Some p)). o.tickets_once.asked n p q x.1 a) (client_case n p is);
    };
    asked = asked_true;
    seen = all_set (λ (u : View). u.seen ≤ word.tickets) views i w o.seen (omega arith);
    faults_once = faults_same k views o.history o.world.store o.faults_once i v at w refl refl;
    parts_in = record { files = o.parts_in.files; commits = o.parts_in.commits; names = o.parts_in.names; pool = o.parts_in.pool };
    free_in = record { back = o.free_in.back; here = o.free_in.here };
    pools_apart = record { pools = o.pools_apart.pools; store = o.pools_apart.store };
    server = o.server;
    none_lost = o.none_lost;
    formed = o.formed;
    begun = o.begun;
    may_begin = o.may_begin;
    served = o.served;
    leads = λ start begun. record {
      legal = (o.leads start begun).legal;
      clients = λ n p is fd. let y = client_was n p is in ap (λ z. fin.get z fd) y.3 ∙ (o.leads start begun).clients n y.0 y.1 fd;
      parts = (o.leads start begun).parts;
      away = (o.leads start begun).away;
    };
    unread = o.unread;
    disk = λ visible. let d = o.disk visible in record {
      kept = d.kept;
      told = record { files = d.told.files; within = d.told.within; names = d.told.names; names_within = d.told.names_within };
      since = λ j from low. let s = d.since j from low in record { parts = s.parts; freed = s.freed; kept = s.kept; sound = s.sound; pool = s.pool; fewer = s.fewer; files = s.files; names = s.names };
      past = d.past;
    };
  }

pub ask_keeps : AskKeeps
ask_keeps k word views i v c r o at m = ask_sound k word views i v c r o at m

-- ---- a turn begins

module _ (k : Start) (word : Word) (views : List View) (i : ℕ) (v : View) (s : StoreCell) (rest : RestIsExplained k.geometry) (o : IsSound k word views) (at : get_elem? views i ≡ some v) (has : v.store ≡ (tt, s) ∷ []) where
  abbrev n : ℕ
  n = word.tickets

  abbrev begun : View
  begun = turn_begun n s v

  abbrev then : World
  then = record { client = o.world.client; asked = o.world.asked; file = o.world.file; pool = o.world.pool; names = o.world.names; store = begun_at n s }

  it_is : o.world.store ≡ s
  it_is = store_is views i v v at o.world o.one_hand tt s (subst (Has (tt, s)) (sym has) (inl refl))

  store_held : Held only_one (λ (u : View). u.store) (set views i begun) (λ _. Some (begun_at n s))
  store_held = one_exchanged views i v begun at (λ (u : View). u.store) o.world.store o.one_hand.store (λ u. ap (count only_one u) (sym has))

  held_then : IsHeld (set views i begun) then
  held_then = record {
    clients = same_holds eqb (λ (u : View). u.clients) o.world.client views i v begun at refl o.one_hand.clients;
    asked = same_holds eqb (λ (u : View). u.asked) o.world.asked views i v begun at refl o.one_hand.asked;
    files = same_holds eqb (λ (u : View). u.files) o.world.file views i v begun at refl o.one_hand.files;
    pools = same_holds eqb (λ (u : View). u.pools) o.world.pool views i v begun at refl o.one_hand.pools;
    names = same_holds only_one (λ (u : View). u.names) (λ _. Some o.world.names) views i v begun at refl o.one_hand.names;
    store = store_held;
  }

  module _ (visible : k.is_visible ≡ true) where
    abbrev d : IsDiskSound k word o.history o.world o.parts o.free
    d = o.disk visible

    -- the disk as it was at rest
    explained : (j : ℕ) → o.world.store.stamp ≤ j → j ≤ n → IsExplainedState s.sectors k.tree (take j o.history) s.state
    explained j from low =
        let since = d.since j from low in
        let at_rest = rest true (with_free since.freed (store_of o.world.store)) k.tree (take j o.history) since.parts o.formed (on_disk_of (with_free since.freed (store_of o.world.store)) k.tree (take j o.history) since.parts (known_in k.tree (take j o.history) o.world) since.kept) in
        subst (λ (q : StoreCell). IsExplainedState q.sectors k.tree (take j o.history) q.state) it_is (explained_here o.world.store.sectors k.tree (take j o.history) o.world.store.state at_rest.after)

    kept_now : IsDiskKept (with_free o.free (store_of (begun_at n s))) k.tree o.history o.parts (known_in k.tree o.history then)
    kept_now = subst (λ (q : StoreCell). IsDiskKept (with_free o.free (store_of q)) k.tree o.history o.parts (known_in k.tree o.history o.world)) it_is d.kept

    same_whole : (j : ℕ) → n ≤ j → take j o.history ≡ o.history
    same_whole j low = take_whole o.history j (let t = o.tickets_once.tickets in omega (arith, t, low))

    latest : IsKeptSince k.geometry k.tree o.history then o.free
    latest = record {
      parts = o.parts;
      freed = o.free;
      kept = kept_now;
      sound = o.server;
      pool = o.parts_in.pool;
      fewer = λ b is. is;
      files = λ file c is small. record { file_is = o.parts_in.files file ∙ ap hand_of is; commits_are = o.parts_in.commits file ∙ ap commits_of is };
      names = λ small. o.parts_in.names;
    }

    low_stamp : o.world.store.stamp ≤ n
    low_stamp = let a = d.past.stamped in let b = d.past.within in omega (arith, a, b)

    disk_then : IsDiskSound k word o.history then o.parts o.free
    disk_then = record {
      kept = kept_now;
      told = record {
        files = d.told.files;
        within = λ file c is. let x = d.told.within file c is in let y = x.1 in let z = low_stamp in (x.0, omega (arith, y, z));
        names = d.told.names;
        names_within = let x = d.told.names_within in let y = x.1 in let z = low_stamp in (x.0, omega (arith, y, z));
      };
      since = λ j from low. subst (λ (q : List Entry). IsKeptSince k.geometry k.tree q then o.free) (sym (same_whole j from)) latest;
      past = record {
        upto = n;
        joined = ((let a = low_stamp in let b = ap (λ (q : StoreCell). q.stamp) it_is in omega (arith, a, b)), inr (omega arith, refl, (d.past.upto, (let a = d.past.stamped in let b = ap (λ (q : StoreCell). q.stamp) it_is in omega (arith, a, b)), (let b = d.past.within in omega (arith, b)), subst (λ (q : StoreCell). AreJoined q.past d.past.upto) it_is d.past.joined)));
        stamped = omega arith;
        within = omega arith;
        each = each_of;
        ended = λ x h. ⊎_elim (λ (e : x ≡ rested n s). let a = ap (λ (y : Stretch). y.to) e in omega (arith, a)) (λ y. d.past.ended x (subst (λ (q : StoreCell). Has x q.past) (sym it_is) y)) h;
      };
    }
      where
        each_of : (x : Stretch) → (x ≡ rested n s) ⊎ Has x s.past → (j : ℕ) → x.from ≤ j → j ≤ x.to → (cells : Cells) → Has cells x.states → IsExplainedState s.sectors k.tree (take j o.history) cells
        each_of x (inl e) j from low cells there = one_of (subst (λ (y : Stretch). Has cells y.states) e there)
          where
            one_of : (cells ≡ s.state) ⊎ Has {A = Cells} cells [] → IsExplainedState s.sectors k.tree (take j o.history) cells
            one_of (inl same) = subst (IsExplainedState s.sectors k.tree (take j o.history)) (sym same) (explained j (let a = ap (λ (y : Stretch). y.from) e in let b = ap (λ (q : StoreCell). q.stamp) it_is in omega (arith, a, b, from)) (let a = ap (λ (y : Stretch). y.to) e in omega (arith, a, low)))
            one_of (inr none) = absurd none
        each_of x (inr h) j from low cells there =
            subst (λ (q : ℕ). IsExplainedState q k.tree (take j o.history) cells) (ap (λ (q : StoreCell). q.sectors) it_is) (d.past.each x (subst (λ (q : StoreCell). Has x q.past) (sym it_is) h) j from low cells there)

  begin_sound : IsSound k word (set views i begun)
  begin_sound = record {
    history = o.history;
    world = then;
    parts = o.parts;
    free = o.free;
    picks = o.picks;
    one_hand = held_then;
    stay = record { clients = o.stay.clients; asked = o.stay.asked; pools = o.stay.pools };
    tickets_once = o.tickets_once;
    asked = record { seen = o.asked.seen; kept = o.asked.kept };
    seen = all_set (λ (u : View). u.seen ≤ n) views i begun o.seen (omega arith);
    faults_once = faults_same k views o.history (begun_at n s) (faults_stay k views o.history o.world.store o.faults_once (begun_at n s) (ap (λ (q : StoreCell). q.faults) (sym it_is)) (ap (λ (q : StoreCell). q.stop) (sym it_is))) i v at begun refl refl;
    parts_in = record { files = o.parts_in.files; commits = o.parts_in.commits; names = o.parts_in.names; pool = o.parts_in.pool };
    free_in = subst (λ (q : StoreCell). AreFreeIn (record o.world { store = record q { stamp = n; past = rested n s ∷ s.past } }) o.free) it_is (record { back = o.free_in.back; here = o.free_in.here });
    pools_apart = subst (λ (q : StoreCell). ArePoolsApart (record o.world { store = record q { stamp = n; past = rested n s ∷ s.past } })) it_is (record { pools = o.pools_apart.pools; store = o.pools_apart.store });
    server = o.server;
    none_lost = o.none_lost;
    formed = ap (λ (q : StoreCell). geometry_of_store (store_of q)) (sym it_is) ∙ o.formed;
    begun = o.begun;
    may_begin = o.may_begin;
    served = o.served;
    leads = λ start b. record { legal = (o.leads start b).legal; clients = (o.leads start b).clients; parts = (o.leads start b).parts; away = (o.leads start b).away };
    unread = o.unread;
    disk = disk_then;
  }

pub turn_begin_keeps : TurnBeginKeeps
turn_begin_keeps k word views i v s rest o at has = begin_sound k word views i v s rest o at has
