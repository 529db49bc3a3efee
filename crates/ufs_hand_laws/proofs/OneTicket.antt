-- A draw takes the word's ticket, or leaves no sound state: each lower one has its entry.
use Rattle.std.proofs.Common.{◌≡◌, ℕ, zero, suc, ◌+◌, ◌<◌, ◌≤◌, Bool, true, false, cond, eqb, List, [], ◌∷◌, ◌++◌, length, map, set, Option, Some, None, sym, refl, ap, ◌∙◌, subst, inl, inr, arith}
use mathlib.Core.Option.{some, some-injective, some-ne-none}
use native.Mathlib.Decide.{ℕ_discrete, dec_le}
use lib.ListN.{get_elem?}
use Rattle.atomic_table.proofs.Lists.{set_else}
use Rattle.ufs_model.specs.PosixTree.{PosixTree}
use Rattle.ufs_model.specs.History.{IsLegalFrom, goes_on, entries_of}
use Rattle.ufs_model.specs.declared.data.Entry.{Entry}
use Rattle.ufs_model.specs.declared.data.Lease.{Lease}
use Rattle.ufs_hand_laws.specs.declared.fresh.Fresh.{Fresh}
use Rattle.ufs_hand_laws.specs.Owned.{Has, present}
use Rattle.ufs_hand_laws.specs.Parts.{ClientPart, OwnFds, View, Word, Start}
use Rattle.ufs_hand_laws.specs.Explained.{Showing}
use Rattle.ufs_hand_laws.specs.Sound.{IsSound}
use Rattle.ufs_hand_laws.specs.Draws.{Leaves, entry_of, client_after, drawn, MayDraw}
use Rattle.ufs_hand_laws.specs.Refused.{IsDrawnIn, DrawsTakeTheWordsTicket}
use Rattle.ufs_hand_laws.proofs.Owning.{each_has, some_view, append_has}
use Rattle.ufs_hand_laws.proofs.Keys.{itself, alike}
use Rattle.ufs_hand_laws.proofs.Ending.{has_mine}
use Rattle.ufs_hand_laws.proofs.First.{in_range}
use Rattle.ufs_hand_laws.proofs.Refused.{tickets_once}

pub set_at : (l : List View) (i : ℕ) (a b : View) → get_elem? l i ≡ some a → get_elem? (set l i b) i ≡ some b
set_at [] i a b e = absurd (some-ne-none a (sym e))
set_at (x ∷ l) zero a b e = refl
set_at (x ∷ l) (suc i) a b e = set_at l i a b e

-- each ticket of a legal history has an entry
at_place : (h : List Entry) (n : ℕ) (t : PosixTree) (m : ℕ) → IsLegalFrom n t h → m < length h → (d : Entry) × Has d h × (d.ticket ≡ n + m)
at_place [] n t m legal l = absurd (omega arith)
at_place (x ∷ h) n t zero legal l = (x, inl refl, (let b = legal.0.numbered in omega arith))
at_place (x ∷ h) n t (suc m) legal l = let r = at_place h (n + 1) (goes_on t x) m legal.1 (omega arith) in (r.0, inr r.1, (let b = r.2 in omega arith))

is_there : (o : Option ClientPart) → present o ≡ 1 → (p : ClientPart) × (o ≡ Some p)
is_there None e = absurd (omega (arith, e))
is_there (Some p) e = (p, refl)

has_seq : (e : Entry) (h : List Entry) → Has e h → Has e.seq (map (λ (x : Entry). x.seq) h)
has_seq e [] a = a
has_seq e (x ∷ h) (inl s) = inl (ap (λ (y : Entry). y.seq) s)
has_seq e (x ∷ h) (inr a) = inr (has_seq e h a)

-- a client keeps its entries, and has the new one
keeps_entries : (d e : Entry) (fds : OwnFds) (c : ℕ) (p : ClientPart) → Has d p.entries → Has d (client_after e fds c p).entries
keeps_entries d e fds c p a = by (eqb e.client c)
  where
    by : (b : Bool) → Has d (cond {A = ClientPart} b (record p { entries = p.entries ++ e ∷ []; fds = fds; asked = None }) p).entries
    by true = append_has d p.entries (e ∷ []) (inl a)
    by false = a

has_new : (e : Entry) (fds : OwnFds) (p : ClientPart) → Has e (client_after e fds e.client p).entries
has_new e fds p = subst (λ b. Has e (cond {A = ClientPart} b (record p { entries = p.entries ++ e ∷ []; fds = fds; asked = None }) p).entries) (sym (itself e.client)) (append_has e p.entries (e ∷ []) (inr (inl refl)))

module _ (S : Showing) (k : Start) (word : Word) (views : List View) (i : ℕ) (v : View) (f : Fresh) (l : Leaves) (known : List Lease) (n : ℕ) (o : IsSound S k word views) (at : get_elem? views i ≡ some v) (m : MayDraw f v l known) where
  abbrev w : View
  w = drawn n f l v

  abbrev e : Entry
  e = entry_of n f

  abbrev later : Word
  later = record { tickets = suc word.tickets; clock = word.clock }

  here : get_elem? (set views i w) i ≡ some w
  here = set_at views i v w at

  new_is_drawn : IsDrawnIn (set views i w) e
  new_is_drawn = record { seat = i; view = w; at = here; client = f.client; part = client_after e l.fds f.client m.self; there = each_has (client_after e l.fds) f.client m.self v.clients m.client; entry = has_new e l.fds m.self }

  old_is_drawn : (d : Entry) (c : ℕ) (p : ClientPart) (j : ℕ) (u : View) → get_elem? views j ≡ some u → Has (c, p) u.clients → Has d p.entries → IsDrawnIn (set views i w) d
  old_is_drawn d c p j u there has a = by (ℕ_discrete j i)
    where
      by : Dec (j ≡ i) → IsDrawnIn (set views i w) d
      by (yes s) =
          let same : u ≡ v = some-injective u v (sym there ∙ ap (get_elem? views) s ∙ at) in
          record { seat = i; view = w; at = here; client = c; part = client_after e l.fds c p; there = each_has (client_after e l.fds) c p v.clients (subst (λ (x : View). Has (c, p) x.clients) same has); entry = keeps_entries d e l.fds c p a }
      by (no ne) = record { seat = j; view = u; at = set_else views i j w ne ∙ there; client = c; part = p; there = has; entry = a }

  -- no entry with a lower ticket is the new one
  no_lower : IsSound S k later (set views i w) → n < word.tickets → ⊥
  no_lower after low =
      let place = at_place o.history 0 k.tree n o.legal.legal.entries (let t = o.tickets_once.tickets in omega arith) in
      let d = place.0 in
      let own = is_there (o.world.client d.client) (o.tickets_once.there d place.1).1 in
      let seat = some_view eqb itself alike (λ (u : View). u.clients) o.world.client views o.one_hand.clients d.client own.0 own.1 in
      let old = old_is_drawn d d.client own.0 seat.0 seat.1 seat.2 seat.3 (subst (Has d) (sym (o.tickets_once.entries d.client own.0 own.1)) (has_mine d o.history place.1)) in
      let same : d ≡ e = (tickets_once S k later (set views i w) after).one d e old new_is_drawn (let t = place.2 in omega arith) in
      let mine : Has e (entries_of f.client o.history) = has_mine e o.history (subst (λ (x : Entry). Has x o.history) same place.1) in
      let entries = o.tickets_once.entries f.client m.self (o.one_hand.clients.agree i v at f.client m.self m.client) in
      let below = in_range (length (entries_of f.client o.history)) 0 f.seq (subst (Has f.seq) (o.tickets_once.numbers f.client) (has_seq e (entries_of f.client o.history) mine)) in
      let count : length m.self.entries ≡ length (entries_of f.client o.history) = ap length entries in
      let next = m.seq in
      omega arith

  takes : IsSound S k later (set views i w) → n ≡ word.tickets
  takes after = by (dec_le word.tickets n)
    where
      below : n < suc word.tickets
      below = (tickets_once S k later (set views i w) after).below e new_is_drawn

      by : Dec (word.tickets ≤ n) → n ≡ word.tickets
      by (yes low) = let u = below in omega arith
      by (no high) = absurd (no_lower after (omega arith))

pub draws_take_the_words_ticket : (S : Showing) → DrawsTakeTheWordsTicket S
draws_take_the_words_ticket S k word views i v f l known n o at m after = takes S k word views i v f l known n o at m after
