-- The first state is sound, and the hand with every part knows the whole history.
use Rattle.std.proofs.Common.{◌≡◌, ℕ, zero, suc, ◌≤◌, ◌⊎◌, Bool, true, false, cond, eqb, eq-eqb, List, [], ◌∷◌, ◌++◌, Some, None, is_some, sym, refl, ap, ◌∙◌, subst, inl, inr, ⊎_elim, arith}
use Rattle.std.specs.Prelude.{take}
use Rattle.std.specs.FinMap as fin
use Rattle.std.specs.Ordering.{nat_cmp}
use mathlib.Core.Option.{some, some-injective, some-ne-none}
use lib.ListN.{get_elem?}
use Rattle.ufs_model.specs.History.{tree_after, entries_of}
use Rattle.ufs_model.specs.Laws.{KeepsTrees}
use Rattle.ufs_model.specs.Touched.{holds}
use Rattle.ufs_model.specs.declared.data.Entry.{Entry}
use Rattle.ufs_hand_laws.specs.Owned.{one, present, Has, count, Held, times, find}
use Rattle.ufs_hand_laws.specs.Parts.{ClientPart, AskedPart, FilePart, NamesPart, StorePart, Shortage, View, World, Word, Start, only_one, is_holder, committed}
use Rattle.ufs_hand_laws.specs.Covers.{IsBornBy}
use Rattle.ufs_hand_laws.specs.Explained.{AreJoined, IsDiskExplained, Showing}
use Rattle.ufs_hand_laws.specs.Sound.{IsSound}
use Rattle.ufs_hand_laws.specs.Draws.{IsIn}
use Rattle.ufs_hand_laws.specs.Whole.{CanOpen, idle_client, idle_asked, HoldsAll, IsWhole}
use Rattle.ufs_hand_laws.proofs.Owning.{find_has, has_find, present_find, has_count, none_some}
use Rattle.ufs_hand_laws.proofs.Keys.{itself, alike}
use Rattle.ufs_hand_laws.proofs.Exchange.{names_are, store_is}
use Rattle.ufs_hand_laws.proofs.Explaining.{disk_explained}

-- ---- a client's entries are those of the history

pub has_mine : (e : Entry) (h : List Entry) → Has e h → Has e (entries_of e.client h)
has_mine e [] m = m
has_mine e (x ∷ h) m = ⊎_elim
    (λ (s : e ≡ x). subst (λ b. Has e (cond b (x ∷ entries_of e.client h) (entries_of e.client h))) (sym (eq-eqb x.client e.client (ap (λ (y : Entry). y.client) (sym s)))) (inl s))
    (λ t. at (eqb x.client e.client) (has_mine e h t)) m
  where
    at : (b : Bool) → Has e (entries_of e.client h) → Has e (cond b (x ∷ entries_of e.client h) (entries_of e.client h))
    at true r = inr r
    at false r = r

pub mine_has : (c : ℕ) (e : Entry) (h : List Entry) → Has e (entries_of c h) → Has e h
mine_has c e [] m = m
mine_has c e (x ∷ h) m = at (eqb x.client c) m (mine_has c e h)
  where
    at : (b : Bool) → Has e (cond b (x ∷ entries_of c h) (entries_of c h)) → (Has e (entries_of c h) → Has e h) → (e ≡ x) ⊎ Has e h
    at true k r = ⊎_elim (λ s. inl s) (λ t. inr (r t)) k
    at false k r = inr (r k)

pub ends_whole : KeepsTrees → (S : Showing) (k : Start) (word : Word) (views : List View) (i : ℕ) (v : View) → IsSound S k word views → get_elem? views i ≡ some v → (all : HoldsAll k v) → IsWhole S k word v all.store
ends_whole keeps S k word views i v o at all = record {
  history = o.history;
  all_drawn = o.tickets_once.tickets;
  legal = o.legal.legal;
  order = o.tickets_once.numbers;
  transcripts = λ c p x. o.tickets_once.entries c p (o.one_hand.clients.agree i v at c p x);
  merged = record {
    from = λ e h.
        let t = (o.tickets_once.there e h).1 in let n = o.parts.clients e.client in let a = all.clients e.client in
        let p = has_count eqb itself alike e.client v.clients (omega arith) in
        (p.0, p.1, subst (Has e) (sym (o.tickets_once.entries e.client p.0 (o.one_hand.clients.agree i v at e.client p.0 p.1))) (has_mine e o.history h));
    to = λ c p e x h. mine_has c e o.history (subst (Has e) (o.tickets_once.entries c p (o.one_hand.clients.agree i v at c p x)) h);
  };
  tree = is_in;
  files = λ f t. has_count eqb itself alike f v.files (all.files (tree_after k.tree o.history) o.legal.tree is_in f t);
  disk = λ visible. subst (IsDiskExplained S k word o.history) store_same (disk_explained keeps S k word views o visible);
}
  where
    names_same : o.world.names ≡ all.names
    names_same = names_are views i v v at o.world o.one_hand tt all.names (subst (Has (tt, all.names)) (sym all.has_names) (inl refl))

    store_same : o.world.store ≡ all.store
    store_same = store_is views i v v at o.world o.one_hand tt all.store (subst (Has (tt, all.store)) (sym all.has_store) (inl refl))

    is_in : IsIn v (tree_after k.tree o.history)
    is_in = record {
      clients = λ c p x. o.legal.clients c p (o.one_hand.clients.agree i v at c p x);
      files = λ g p x. (o.legal.files g p (o.one_hand.files.agree i v at g p x)).bytes;
      paths = λ u n x. subst (λ (q : NamesPart). q.paths ≡ (tree_after k.tree o.history).paths) (names_are views i v v at o.world o.one_hand u n x) o.legal.names.paths;
      next = λ u n x. subst (λ (q : NamesPart). q.next ≡ (tree_after k.tree o.history).next) (names_are views i v v at o.world o.one_hand u n x) o.legal.names.next;
      holds = λ u n x c g. subst (λ (q : NamesPart). is_holder q.holds c g ≡ holds (tree_after k.tree o.history).fds c g) (names_are views i v v at o.world o.one_hand u n x) (o.holds c g);
    }

-- ---- the opening

held_one : {D : Type 0} (parts : View → List (ℕ × D)) (v : View) → ((n : ℕ) → count eqb n (parts v) ≤ 1) → Held eqb parts (v ∷ []) (λ n. find eqb n (parts v))
held_one {D} parts v single = record {
  once = λ n. let p = present_find eqb itself alike n (parts v) (single n) in omega arith;
  agree = λ i u at n x h. by i u at n x h;
}
  where
    by : (i : ℕ) (u : View) → get_elem? (v ∷ []) i ≡ some u → (n : ℕ) (x : D) → Has (n, x) (parts u) → find eqb n (parts v) ≡ Some x
    by zero u at n x h = has_find eqb itself alike n x (parts v) (single n) (subst (λ q. Has (n, x) (parts q)) (sym (some-injective v u at)) h)
    by (suc i) u at n x h = absurd (some-ne-none u (sym at))

held_only : {D : Type 0} (parts : View → List (Unit {0} × D)) (v : View) (d : D) → parts v ≡ (tt, d) ∷ [] → Held only_one parts (v ∷ []) (λ _. Some d)
held_only {D} parts v d is = record {
  once = λ n. let c : count only_one n (parts v) ≡ count only_one n ((tt, d) ∷ []) = ap (count only_one n) is in omega arith;
  agree = λ i u at n x h. by i u at n x h;
}
  where
    last : (n : Unit {0}) (x : D) → Has {A = Unit {0} × D} (n, x) ((tt, d) ∷ []) → Some d ≡ Some x
    last n x (inl e) = ap (λ (q : Unit {0} × D). Some q.1) (sym e)
    last n x (inr e) = absurd e

    by : (i : ℕ) (u : View) → get_elem? (v ∷ []) i ≡ some u → (n : Unit {0}) (x : D) → Has (n, x) (parts u) → Some d ≡ Some x
    by zero u at n x h = last n x (subst (Has (n, x)) (ap parts (sym (some-injective v u at)) ∙ is) h)
    by (suc i) u at n x h = absurd (some-ne-none u (sym at))

no_entry : {A : Type 0} (a : List A) (x : A) (b : List A) → [] ≡ a ++ x ∷ b → ⊥
no_entry [] x b e = cc
no_entry (y ∷ a) x b e = cc

alone : (P : View → Type 0) (v : View) → P v → (i : ℕ) (u : View) → get_elem? (v ∷ []) i ≡ some u → P u
alone P v p zero u at = subst P (some-injective v u at) p
alone P v p (suc i) u at = absurd (some-ne-none u (sym at))

take_none : (n : ℕ) → ◌≡◌ {A = List Entry} (take n []) []
take_none zero = refl
take_none (suc n) = refl

module _ (S : Showing) (k : Start) (names : NamesPart) (store : StorePart) (c : CanOpen S k names store) where
  abbrev first : World
  first = record {
    client = λ n. find eqb n k.view.clients;
    asked = λ n. find eqb n k.view.asked;
    file = λ n. find eqb n k.view.files;
    pool = λ n. find eqb n k.view.pools;
    names = names;
    store = store;
  }

  abbrev no_word : Word
  no_word = record { tickets = 0; clock = 0 }

  client_is : (n : ℕ) (p : ClientPart) → first.client n ≡ Some p → p ≡ idle_client
  client_is n p e = c.clients n p (find_has eqb itself alike n p k.view.clients e)

  asked_is : (n : ℕ) (a : AskedPart) → first.asked n ≡ Some a → a ≡ idle_asked
  asked_is n a e = c.asked n a (find_has eqb itself alike n a k.view.asked e)

  single_file : (f : ℕ) → count eqb f k.view.files ≤ 1
  single_file f = let a = c.one_file f in let b : one (is_some (fin.get k.tree.bytes f)) ≤ 1 = by (is_some (fin.get k.tree.bytes f)) in omega arith
    where
      by : (b : Bool) → one b ≤ 1
      by true = omega arith
      by false = omega arith

  file_has : (f : ℕ) (p : FilePart) → first.file f ≡ Some p → Has (f, p) k.view.files
  file_has f p e = find_has eqb itself alike f p k.view.files e

  no_file : (f : ℕ) → first.file f ≡ None → is_some (fin.get k.tree.bytes f) ≡ true → ⊥
  no_file f none there = let a = c.one_file f in let b = ap one there in let p = present_find eqb itself alike f k.view.files (single_file f) in let z : present (first.file f) ≡ 0 = ap present none in omega arith

  born_there : (f : ℕ) → is_some (fin.get k.tree.bytes f) ≡ true → IsBornBy k.tree [] f store.names
  born_there f there = subst (λ n. IsBornBy k.tree [] f n) (sym c.no_names) (c.tree.numbered f there)

  pub opens : IsSound S k no_word (k.view ∷ [])
  opens = record {
    history = [];
    world = first;
    one_hand = record {
      clients = held_one (λ (v : View). v.clients) k.view c.one_client;
      asked = held_one (λ (v : View). v.asked) k.view c.one_asked;
      files = held_one (λ (v : View). v.files) k.view single_file;
      pools = held_one (λ (v : View). v.pools) k.view c.one_pool;
      names = held_only (λ (v : View). v.names) k.view names c.names_is;
      store = held_only (λ (v : View). v.store) k.view store c.store_is;
    };
    parts = record {
      clients = λ n. present_find eqb itself alike n k.view.clients (c.one_client n);
      asked = λ n. present_find eqb itself alike n k.view.asked (c.one_asked n);
      pools = λ n. present_find eqb itself alike n k.view.pools (c.one_pool n);
    };
    tickets_once = record {
      tickets = refl;
      entries = λ n p e. ap (λ (q : ClientPart). q.entries) (client_is n p e);
      numbers = λ n. refl;
      room = λ n. omega arith;
      there = λ e h. absurd h;
      asked = λ n p r e a. absurd (none_some r (sym (ap (λ (q : ClientPart). q.asked) (client_is n p e)) ∙ a));
      next = c.small;
    };
    legal = record {
      start = c.tree;
      legal = record { entries = tt; faults = tt };
      tree = c.tree;
      clients = λ n p e fd. ap (λ (q : ClientPart). fin.get q.fds fd) (client_is n p e) ∙ fin.get-empty nat_cmp fd ∙ sym (c.closed n fd);
      files = λ f p e. let z = c.files f p (file_has f p e) in record { opening = z.0; changes = z.1; bytes = z.2 };
      there = λ f. present_find eqb itself alike f k.view.files (single_file f) ∙ c.one_file f;
      names = record { opening = c.opening; changes = c.changes; paths = c.paths; next = c.next };
      next = omega arith;
      unborn = λ f le. refl;
    };
    leases_true = record {
      listed = λ n p x e h. absurd (subst (Has x) (ap (λ (q : ClientPart). q.copies) (client_is n p e)) h);
      true' = λ n p x e h. absurd (subst (Has x) (ap (λ (q : ClientPart). q.copies) (client_is n p e)) h);
      held = λ n p x e h. absurd (subst (Has x) (ap (λ (q : ClientPart). q.copies) (client_is n p e)) h);
      own = λ n p x e h. absurd (subst (Has x) (ap (λ (q : ClientPart). q.copies) (client_is n p e)) h);
      ends = λ n p x e h. absurd (subst (Has x) (ap (λ (q : ClientPart). q.copies) (client_is n p e)) h);
    };
    blocks_apart = record { same = λ b. omega arith; once = c.once };
    committed_held = record {
      live = λ f bs b p ext h e. (c.files f p (file_has f p e)).5 bs b ext h;
      dropped = λ f bs b ext h none. absurd (no_file f none (c.extents f bs ext));
      numbered = λ f bs ext. c.tree.numbered f (c.extents f bs ext);
      dirs = c.dirs;
    };
    committed_numbers = record {
      files = λ f. record { made = omega (arith, c.nothing_committed f); covers = λ a b x is done syncs. absurd (no_entry a x b is) };
      names = record { made = omega (arith, c.no_names); covers = omega arith };
      births = λ f is. cc;
      after_birth = λ f some. absurd (omega (arith, c.nothing_committed f));
      known = λ f p e. let z = (c.files f p (file_has f p e)).3 in omega arith;
      covers = λ f p e a b x is done syncs. absurd (no_entry a x b is);
      born = λ f p e b. born_there f (ap is_some (c.files f p (file_has f p e)).2);
      names_known = omega (arith, c.names_known);
      names_cover = omega arith;
      names_born = λ f h. born_there f (c.born f h);
    };
    disk_bytes = λ visible f p e. (c.files f p (file_has f p e)).4 visible;
    holds = λ n f. c.no_holds n f ∙ sym (c.free n f);
    explained = λ visible. record {
      marked = omega (arith, c.mark);
      lent = λ f n h. absurd (subst (Has (f, n)) c.lent h);
      lent_names = omega (arith, c.lent_names);
      now = λ n low high. subst (λ h. S.Shows k.tree h (committed store) store.names store.paths store.state) (sym (take_none n)) (subst (λ z. S.Shows k.tree [] (committed store) z store.paths store.state) (sym c.no_names) (c.shows visible));
      ended = λ x h. absurd (subst (Has x) c.past h);
      joined = subst (λ z. AreJoined z store.mark) (sym c.past) c.mark;
      past = λ x h. absurd (subst (Has x) c.past h);
    };
    faults_once = record {
      single = c.single;
      device = λ n. let z = ap (times n) c.faults in omega arith;
      stops = alone (λ u. (n : ℕ) → u.stop ≡ Some n → store.stop ≡ Some n) k.view (λ n e. absurd (none_some n (sym c.stop ∙ e)));
      stopped = λ e n h. absurd h;
      shortages = alone (λ u. (x : Shortage) → Has x u.shortages → Has x store.shortages) k.view (λ x h. absurd (subst (Has x) c.shortages h));
      short = λ e need had h. absurd h;
    };
    clock = record {
      word_is = c.clock;
      seen = alone (λ u. (u.seen ≤ 0) × (u.clock ≤ 0)) k.view (omega (arith, c.seen), omega (arith, c.view_clock));
    };
    asked = record {
      seen = λ n a e. let z = ap (λ (q : AskedPart). q.tickets) (asked_is n a e) in omega arith;
      kept = λ n a p ea ep. inl (record {
        entries = ap (λ (q : ClientPart). q.entries) (client_is n p ep) ∙ ap (λ (q : AskedPart). q.entries) (sym (asked_is n a ea));
        fds = ap (λ (q : ClientPart). q.fds) (client_is n p ep) ∙ ap (λ (q : AskedPart). q.fds) (sym (asked_is n a ea));
        asked = ap (λ (q : ClientPart). q.asked) (client_is n p ep) ∙ ap (λ (q : AskedPart). q.asked) (sym (asked_is n a ea));
      });
      copies = λ n a p ea ep. ([], ap (λ (q : ClientPart). q.copies) (client_is n p ep) ∙ sym (ap (λ l. l ++ []) (ap (λ (q : AskedPart). q.copies) (asked_is n a ea))));
    };
  }
