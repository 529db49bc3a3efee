-- A client that asks a request keeps the sound state.
use Rattle.std.proofs.Common.{◌≡◌, ℕ, ◌≤◌, ◌≢◌, ◌⊎◌, cond, eqb, eq-eqb, ne_eqb, List, [], ◌++◌, length, set, Some, sym, refl, ap, ◌∙◌, subst, inl, inr, ⊎_elim, arith, append-nil}
use mathlib.Core.Option.{some}
use native.Mathlib.Decide.{ℕ_discrete}
use lib.ListN.{get_elem?}
use Rattle.ufs_model.specs.declared.data.Lease.{Lease}
use Rattle.ufs_model.specs.declared.data.Op.{Op}
use Rattle.ufs_hand_laws.specs.Owned.{one, present, Has, count, times, replaced}
use Rattle.ufs_hand_laws.specs.Parts.{ClientPart, AskedPart, Shortage, View, World, Word, Start, only_one, uses}
use Rattle.ufs_hand_laws.specs.Sound.{IsSound}
use Rattle.ufs_hand_laws.specs.OneHand.{IsHeld, DoPartsStay}
use Rattle.ufs_hand_laws.specs.TicketsOnce.{AreTicketsOnce}
use Rattle.ufs_hand_laws.specs.Legal.{IsOneHistory}
use Rattle.ufs_hand_laws.specs.Asked.{IsAskedTrue, IsStill, IsAnswered}
use Rattle.ufs_hand_laws.specs.Explained.{Showing}
use Rattle.ufs_hand_laws.specs.Marks.{MayAsk, asking, asking_client, asking_asked, asked_by}
use Rattle.ufs_hand_laws.proofs.Owning.{all_set, change_total, count_has, has_each, weigh_each, same_some, replaced_back, replaced_present, same_holds, once_in}
use Rattle.ufs_hand_laws.proofs.Keys.{itself, alike}
use Rattle.ufs_hand_laws.proofs.Exchange.{kind_exchanged}

module _ (S : Showing) (k : Start) (word : Word) (views : List View) (i : ℕ) (v : View) (c : ℕ) (r : Op) (o : IsSound S k word views) (at : get_elem? views i ≡ some v) (m : MayAsk c v) where
  abbrev w : View
  w = asking word.tickets c r m.copies m.self v

  abbrev next : World
  next = record o.world { client = replaced eqb v.clients w.clients o.world.client; asked = replaced eqb v.asked w.asked o.world.asked }

  self_there : o.world.client c ≡ Some m.self
  self_there = o.one_hand.clients.agree i v at c m.self m.client

  client_counts : (n : ℕ) → count eqb n w.clients ≡ count eqb n v.clients
  client_counts n = weigh_each (asking_client c r m.copies) (λ x. one (eqb n x)) v.clients

  asked_counts : (n : ℕ) → count eqb n w.asked ≡ count eqb n v.asked
  asked_counts n = weigh_each (asking_asked c (asked_by word.tickets r m.copies m.self)) (λ x. one (eqb n x)) v.asked

  single_clients : (n : ℕ) → count eqb n w.clients ≤ 1
  single_clients n = let a = once_in eqb itself alike (λ (u : View). u.clients) o.world.client views i v at o.one_hand.clients n in let b = client_counts n in omega arith

  single_asked : (n : ℕ) → count eqb n w.asked ≤ 1
  single_asked n = let a = once_in eqb itself alike (λ (u : View). u.asked) o.world.asked views i v at o.one_hand.asked n in let b = asked_counts n in omega arith

  abbrev Asks : ClientPart → Type 0
  Asks p = p ≡ record m.self { copies = m.copies; asked = Some r }

  client_case : (n : ℕ) (p : ClientPart) → next.client n ≡ Some p → ((n ≡ c) × Asks p) ⊎ ((n ≢ c) × (o.world.client n ≡ Some p))
  client_case n p is = ⊎_elim
      (λ x. let y = has_each (asking_client c r m.copies) n p v.clients x in mine y.0 y.1 y.2 (ℕ_discrete n c))
      (λ (x : (count eqb n v.clients ≡ 0) × (count eqb n w.clients ≡ 0) × (o.world.client n ≡ Some p)). inr (elsewhere x.0, x.2))
      (replaced_back eqb itself alike v.clients w.clients o.world.client single_clients n p is)
    where
      elsewhere : count eqb n v.clients ≡ 0 → n ≢ c
      elsewhere z s = let a = count_has eqb itself alike c m.self v.clients m.client in let b : count eqb n v.clients ≡ count eqb c v.clients = ap (λ q. count eqb q v.clients) s in absurd (omega arith)

      mine : (y : ClientPart) → Has (n, y) v.clients → asking_client c r m.copies n y ≡ p → Dec (n ≡ c) → ((n ≡ c) × Asks p) ⊎ ((n ≢ c) × (o.world.client n ≡ Some p))
      mine y x go (yes s) =
          let same : y ≡ m.self = same_some y m.self (sym (o.one_hand.clients.agree i v at n y x) ∙ ap o.world.client s ∙ self_there) in
          inl (s, sym go ∙ ap (λ b. cond b (record y { copies = m.copies; asked = Some r }) y) (eq-eqb n c s) ∙ ap (λ (q : ClientPart). record q { copies = m.copies; asked = Some r }) same)
      mine y x go (no s) = inr (s, o.one_hand.clients.agree i v at n y x ∙ ap Some (sym (ap (λ b. cond b (record y { copies = m.copies; asked = Some r }) y) (ne_eqb n c s)) ∙ go))

  asked_case : (n : ℕ) (a : AskedPart) → next.asked n ≡ Some a → ((n ≡ c) × (a ≡ asked_by word.tickets r m.copies m.self)) ⊎ ((n ≢ c) × (o.world.asked n ≡ Some a))
  asked_case n a is = ⊎_elim
      (λ x. let y = has_each (asking_asked c (asked_by word.tickets r m.copies m.self)) n a v.asked x in mine y.0 y.1 y.2 (ℕ_discrete n c))
      (λ (x : (count eqb n v.asked ≡ 0) × (count eqb n w.asked ≡ 0) × (o.world.asked n ≡ Some a)). inr (elsewhere x.0, x.2))
      (replaced_back eqb itself alike v.asked w.asked o.world.asked single_asked n a is)
    where
      elsewhere : count eqb n v.asked ≡ 0 → n ≢ c
      elsewhere z s = let a = count_has eqb itself alike c m.before v.asked m.asked in let b : count eqb n v.asked ≡ count eqb c v.asked = ap (λ q. count eqb q v.asked) s in absurd (omega arith)

      mine : (y : AskedPart) → Has (n, y) v.asked → asking_asked c (asked_by word.tickets r m.copies m.self) n y ≡ a → Dec (n ≡ c) → ((n ≡ c) × (a ≡ asked_by word.tickets r m.copies m.self)) ⊎ ((n ≢ c) × (o.world.asked n ≡ Some a))
      mine y x go (yes s) = inl (s, sym go ∙ ap (λ b. cond b (asked_by word.tickets r m.copies m.self) y) (eq-eqb n c s))
      mine y x go (no s) = inr (s, o.one_hand.asked.agree i v at n y x ∙ ap Some (sym (ap (λ b. cond b (asked_by word.tickets r m.copies m.self) y) (ne_eqb n c s)) ∙ go))

  held : IsHeld (set views i w) next
  held = record {
    clients = kind_exchanged views i v w at o.world o.one_hand (λ (u : View). u.clients) o.world.client o.one_hand.clients client_counts;
    asked = kind_exchanged views i v w at o.world o.one_hand (λ (u : View). u.asked) o.world.asked o.one_hand.asked asked_counts;
    files = same_holds eqb (λ (u : View). u.files) o.world.file views i v w at refl o.one_hand.files;
    pools = same_holds eqb (λ (u : View). u.pools) o.world.pool views i v w at refl o.one_hand.pools;
    names = same_holds only_one (λ (u : View). u.names) (λ _. Some o.world.names) views i v w at refl o.one_hand.names;
    store = same_holds only_one (λ (u : View). u.store) (λ _. Some o.world.store) views i v w at refl o.one_hand.store;
  }

  present_same : (n : ℕ) → present (next.client n) ≡ present (o.world.client n)
  present_same n = replaced_present eqb itself alike (λ (u : View). u.clients) o.world.client views i v w at o.one_hand.clients n (client_counts n)

  parts : DoPartsStay k next
  parts = record {
    clients = λ n. present_same n ∙ o.parts.clients n;
    asked = λ n. replaced_present eqb itself alike (λ (u : View). u.asked) o.world.asked views i v w at o.one_hand.asked n (asked_counts n) ∙ o.parts.asked n;
    pools = o.parts.pools;
  }

  -- a client has its entries and descriptors as before, and no other copies of leases
  client_was : (n : ℕ) (p : ClientPart) → next.client n ≡ Some p → (y : ClientPart) × (o.world.client n ≡ Some y) × (p.entries ≡ y.entries) × (p.fds ≡ y.fds) × ((l : Lease) → Has l p.copies → Has l y.copies)
  client_was n p is = ⊎_elim
      (λ (x : (n ≡ c) × Asks p). (m.self, ap o.world.client x.0 ∙ self_there, ap (λ (q : ClientPart). q.entries) x.1, ap (λ (q : ClientPart). q.fds) x.1, λ l h. m.kept l (subst (Has l) (ap (λ (q : ClientPart). q.copies) x.1) h)))
      (λ (x : (n ≢ c) × (o.world.client n ≡ Some p)). (p, x.1, refl, refl, λ l h. h)) (client_case n p is)

  tickets : AreTicketsOnce k word o.history next
  tickets = record {
    tickets = o.tickets_once.tickets;
    entries = λ n p is. let y = client_was n p is in y.2 ∙ o.tickets_once.entries n y.0 y.1;
    numbers = o.tickets_once.numbers;
    room = o.tickets_once.room;
    there = λ e h. let t = o.tickets_once.there e h in (t.0, present_same e.client ∙ t.1);
    asked = λ n p q is a. ⊎_elim
        (λ (x : (n ≡ c) × Asks p). let l = ap (λ (z : ClientPart). length z.entries) x.1 in let b = m.room in omega arith)
        (λ (x : (n ≢ c) × (o.world.client n ≡ Some p)). o.tickets_once.asked n p q x.1 a) (client_case n p is);
    next = o.tickets_once.next;
  }

  legal : IsOneHistory k o.history next
  legal = record {
    start = o.legal.start;
    legal = o.legal.legal;
    tree = o.legal.tree;
    clients = λ n p is fd. let y = client_was n p is in ap (λ z. Rattle.std.specs.FinMap.get z fd) y.3 ∙ o.legal.clients n y.0 y.1 fd;
    files = o.legal.files;
    there = o.legal.there;
    names = o.legal.names;
    next = o.legal.next;
    unborn = o.legal.unborn;
  }

  asked : IsAskedTrue word next
  asked = record {
    seen = λ n a is. ⊎_elim (λ (x : (n ≡ c) × (a ≡ asked_by word.tickets r m.copies m.self)). let t = ap (λ (q : AskedPart). q.tickets) x.1 in omega arith)
        (λ (x : (n ≢ c) × (o.world.asked n ≡ Some a)). o.asked.seen n a x.1) (asked_case n a is);
    kept = λ n a p ia ip. kept_at n a p (asked_case n a ia) (client_case n p ip);
    copies = λ n a p ia ip. copies_at n a p (asked_case n a ia) (client_case n p ip);
  }
    where
      kept_at : (n : ℕ) (a : AskedPart) (p : ClientPart) → ((n ≡ c) × (a ≡ asked_by word.tickets r m.copies m.self)) ⊎ ((n ≢ c) × (o.world.asked n ≡ Some a)) → ((n ≡ c) × Asks p) ⊎ ((n ≢ c) × (o.world.client n ≡ Some p)) → IsStill a p ⊎ IsAnswered a p
      kept_at n a p (inl x) (inl y) = inl (record {
        entries = ap (λ (q : ClientPart). q.entries) y.1 ∙ ap (λ (q : AskedPart). q.entries) (sym x.1);
        fds = ap (λ (q : ClientPart). q.fds) y.1 ∙ ap (λ (q : AskedPart). q.fds) (sym x.1);
        asked = ap (λ (q : ClientPart). q.asked) y.1 ∙ ap (λ (q : AskedPart). q.asked) (sym x.1);
      })
      kept_at n a p (inl x) (inr y) = absurd (y.0 x.0)
      kept_at n a p (inr x) (inl y) = absurd (x.0 y.0)
      kept_at n a p (inr x) (inr y) = o.asked.kept n a p x.1 y.1

      copies_at : (n : ℕ) (a : AskedPart) (p : ClientPart) → ((n ≡ c) × (a ≡ asked_by word.tickets r m.copies m.self)) ⊎ ((n ≢ c) × (o.world.asked n ≡ Some a)) → ((n ≡ c) × Asks p) ⊎ ((n ≢ c) × (o.world.client n ≡ Some p))
          → (more : List Lease) × (p.copies ≡ a.copies ++ more)
      copies_at n a p (inl x) (inl y) = ([], ap (λ (q : ClientPart). q.copies) y.1 ∙ ap (λ (q : AskedPart). q.copies) (sym x.1) ∙ sym (append-nil a.copies))
      copies_at n a p (inl x) (inr y) = absurd (y.0 x.0)
      copies_at n a p (inr x) (inl y) = absurd (x.0 y.0)
      copies_at n a p (inr x) (inr y) = o.asked.copies n a p x.1 y.1

  pub ask_sound : IsSound S k word (set views i w)
  ask_sound = record {
    history = o.history;
    world = next;
    one_hand = held;
    parts = parts;
    tickets_once = tickets;
    legal = legal;
    leases_true = record {
      listed = λ n p x is h live. let y = client_was n p is in o.leases_true.listed n y.0 x y.1 (y.4 x h) live;
      true' = λ n p x is h live. let y = client_was n p is in o.leases_true.true' n y.0 x y.1 (y.4 x h) live;
      held = λ n p x is h live. let y = client_was n p is in o.leases_true.held n y.0 x y.1 (y.4 x h) live;
      own = λ n p x is h. let y = client_was n p is in o.leases_true.own n y.0 x y.1 (y.4 x h);
      ends = λ n p x is h. let y = client_was n p is in o.leases_true.ends n y.0 x y.1 (y.4 x h);
    };
    blocks_apart = record { same = λ b. change_total (uses b) views i v w at refl ∙ o.blocks_apart.same b; once = o.blocks_apart.once };
    committed_held = o.committed_held;
    committed_numbers = o.committed_numbers;
    disk_bytes = o.disk_bytes;
    holds = o.holds;
    explained = o.explained;
    faults_once = record {
      single = o.faults_once.single;
      device = λ n. let a = change_total (λ (u : View). times n u.faults) views i v w at refl in let b = o.faults_once.device n in omega arith;
      stops = all_set (λ (u : View). (n : ℕ) → u.stop ≡ Some n → o.world.store.stop ≡ Some n) views i w o.faults_once.stops (o.faults_once.stops i v at);
      stopped = o.faults_once.stopped;
      shortages = all_set (λ (u : View). (x : Shortage) → Has x u.shortages → Has x o.world.store.shortages) views i w o.faults_once.shortages (o.faults_once.shortages i v at);
      short = o.faults_once.short;
    };
    clock = record {
      word_is = o.clock.word_is;
      seen = all_set (λ (u : View). (u.seen ≤ word.tickets) × (u.clock ≤ word.clock)) views i w o.clock.seen (let a = (o.clock.seen i v at).1 in (omega arith, a));
    };
    asked = asked;
  }
