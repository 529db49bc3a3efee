-- After a draw each ticket has one entry, and each client's entries are numbered in their order.
use Rattle.std.proofs.Common.{◌≡◌, ℕ, ◌<◌, ◌≤◌, ◌≢◌, eqb, List, [], ◌∷◌, ◌++◌, length, map, Some, None, sym, ap, ◌∙◌, subst, ⊎_elim, arith, length-append}
use native.Mathlib.Decide.{ℕ_discrete}
use Rattle.ufs_model.specs.PosixTree.{PosixTree}
use Rattle.ufs_model.specs.History.{entries_of}
use Rattle.ufs_model.specs.declared.data.Entry.{Entry}
use Rattle.ufs_hand_laws.specs.Owned.{present}
use Rattle.std.specs.List.{range_with_len}
use Rattle.ufs_model.proofs.Facts.Histories.{own-push, others-push, numbers-push}
use Rattle.ufs_hand_laws.specs.Parts.{ClientPart, View}
use Rattle.ufs_hand_laws.specs.TicketsOnce.{AreTicketsOnce}
use Rattle.ufs_hand_laws.proofs.Owning.{replaced_present, none_some}
use Rattle.ufs_hand_laws.proofs.Keys.{itself, alike}
use Rattle.ufs_hand_laws.proofs.Covering.{excused_or, tree_served, tree_stays}
use Rattle.ufs_hand_laws.proofs.Draw.Setting.{Draw, outcome, self_there, push, client_counts}
use Rattle.ufs_hand_laws.proofs.Draw.Cases.{client_case, last_in}

module _ (draw : Draw) where
  open draw use {makes, k, views, i, v, f, l, o, at, m}
  open outcome draw use {e, before, w, next_world, longer, next_word}

  -- ---- tickets

  self_entries : m.self.entries ≡ entries_of f.client o.history
  self_entries = o.tickets_once.entries f.client m.self (self_there draw)

  entries_own : (c : ℕ) → f.client ≡ c → entries_of c longer ≡ entries_of c o.history ++ e ∷ []
  entries_own c s = subst (λ (n : ℕ). entries_of n longer ≡ entries_of n o.history ++ e ∷ []) s (own-push o.history e)

  self_room : length (entries_of f.client o.history) < 65536
  self_room = let a = o.tickets_once.asked f.client m.self f.op (self_there draw) m.asked in let b = ap length self_entries in omega arith

  pub tickets_after : AreTicketsOnce k next_word longer next_world
  tickets_after = record {
    tickets = length-append o.history (e ∷ []) ∙ (let a = o.tickets_once.tickets in omega arith);
    entries = λ c p is. ⊎_elim
        (λ (x : (y : ClientPart) × (o.world.client c ≡ Some y) × (f.client ≡ c) × (p ≡ record y { entries = y.entries ++ e ∷ []; fds = l.fds; asked = None })).
        ap (λ (z : ClientPart). z.entries) x.3 ∙ ap (λ es. es ++ e ∷ []) (o.tickets_once.entries c x.0 x.1) ∙ sym (entries_own c x.2))
        (λ (x : (f.client ≢ c) × (o.world.client c ≡ Some p)). o.tickets_once.entries c p x.1 ∙ sym (others-push c o.history e x.0))
        ((client_case draw) c p is);
    numbers = λ c. numbers_at c (ℕ_discrete f.client c);
    room = λ c. room_at c (ℕ_discrete f.client c);
    there = λ x h. ⊎_elim
        (λ a. let t = o.tickets_once.there x a in (t.0, present_at x.client ∙ t.1))
        (λ (s : x ≡ e). subst (λ (y : Entry). (y.client < 16) × (present (next_world.client y.client) ≡ 1)) (sym s) (m.low, present_at f.client ∙ ap present (self_there draw)))
        ((last_in draw) x h);
    asked = λ c p r is a. ⊎_elim
        (λ (x : (y : ClientPart) × (o.world.client c ≡ Some y) × (f.client ≡ c) × (p ≡ record y { entries = y.entries ++ e ∷ []; fds = l.fds; asked = None })).
        let n : None ≡ Some r = sym (ap (λ (z : ClientPart). z.asked) x.3) ∙ a in absurd (none_some r n))
        (λ (x : (f.client ≢ c) × (o.world.client c ≡ Some p)). o.tickets_once.asked c p r x.1 a)
        ((client_case draw) c p is);
    next = ⊎_elim
        (λ x. let a = ap (λ (t : PosixTree). t.next) (tree_stays before f.client f.op f.reply x) in let b = o.tickets_once.next in let c = ap (λ (t : PosixTree). t.next) (push draw) in omega arith)
        (λ x. let a = ap (λ (t : PosixTree). t.next) (tree_served before f.client f.op f.reply x) in let b = o.tickets_once.next in let c = ap (λ (t : PosixTree). t.next) (push draw) in let q = makes before f.client f.op in omega arith)
        (excused_or f.reply);
  }
    where
      present_at : (c : ℕ) → present (next_world.client c) ≡ present (o.world.client c)
      present_at c = replaced_present eqb itself alike (λ (u : View). u.clients) o.world.client views i v w at o.one_hand.clients c ((client_counts draw) c)

      numbers_at : (c : ℕ) → Dec (f.client ≡ c) → map (λ (x : Entry). x.seq) (entries_of c longer) ≡ range_with_len 0 (length (entries_of c longer))
      numbers_at c (yes s) = subst (λ (n : ℕ). map (λ (x : Entry). x.seq) (entries_of n longer) ≡ range_with_len 0 (length (entries_of n longer))) s
          (numbers-push [] (entries_of f.client o.history) e (entries_of f.client longer) (own-push o.history e) (o.tickets_once.numbers f.client) (m.seq ∙ ap length self_entries))
      numbers_at c (no s) = subst (λ (es : List Entry). map (λ (x : Entry). x.seq) es ≡ range_with_len 0 (length es)) (sym (others-push c o.history e s)) (o.tickets_once.numbers c)

      room_at : (c : ℕ) → Dec (f.client ≡ c) → length (entries_of c longer) ≤ 65536
      room_at c (yes s) = let a = ap length (entries_own c s) in let b = length-append (entries_of c o.history) (e ∷ []) in let q = self_room in let z : length (entries_of f.client o.history) ≡ length (entries_of c o.history) = ap (λ n. length (entries_of n o.history)) s in omega arith
      room_at c (no s) = let a = ap length (others-push c o.history e s) in let b = o.tickets_once.room c in omega arith
