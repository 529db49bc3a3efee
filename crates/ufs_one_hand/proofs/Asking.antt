-- A client of the hand asks.
use Rattle.std.proofs.Common.{◌≡◌, ℕ, ◌<◌, ◌≤◌, eqb, eq-eqb, ne_eqb, List, [], length, Option, Some, None, cond, unwrap_or, sym, refl, ap, ◌∙◌, subst, inl, arith}
use native.Mathlib.Decide.{ℕ_discrete}
use Rattle.ufs_base.specs.declared.limits.TheConstants.{MAX_CLIENTS, MAX_REQUESTS}
use Rattle.ufs_model.specs.History.{tree_after, entries_of}
use Rattle.ufs_model.specs.declared.data.Entry.{Entry}
use Rattle.ufs_model.specs.declared.data.Op.{Op}
use Rattle.ufs_hand_laws.specs.Marks.{MayAsk, asking_client, asking_asked, asked_by}
use Rattle.ufs_hand_laws.specs.Owned.{one, Has}
use Rattle.ufs_hand_laws.specs.Parts.{ClientPart, AskedPart, Start, View}
use Rattle.ufs_hand_laws.specs.Whole.{idle_client}
use Rattle.ufs_hand_laws.proofs.Keys.{itself, alike}
use Rattle.ufs_hand_laws.proofs.Owning.{has_count, has_find, has_each, weigh_each}
use Rattle.ufs_hand.specs.Session.{IsEvent}
use Rattle.ufs_one_hand.specs.Drawn.{asked_view}
use Rattle.ufs_one_hand.specs.OneHand.{HasSession, IsClientAt, client_in}
use Rattle.ufs_one_hand.proofs.Started.{one_client, one_asked}

module _ (k : Start) (history : List Entry) (client : ℕ) (low : client < MAX_CLIENTS) (request : Op) (v : View) (h : HasSession k history None v) where
  there : (p : ClientPart) × Has (client, p) v.clients
  there = let one = one_client k history None v h client low in has_count eqb itself alike client v.clients (omega arith)

  pub is_there : Has (client, client_in client v) v.clients
  is_there = let one = one_client k history None v h client low in
      subst (λ (p : ClientPart). Has (client, p) v.clients) (sym (ap (λ (o : Option ClientPart). unwrap_or o idle_client) (has_find eqb itself alike client there.0 v.clients (omega (arith, one)) there.1))) there.1

  before : (a : AskedPart) × Has (client, a) v.asked
  before = let one = one_asked k history None v h client low in has_count eqb itself alike client v.asked (omega arith)

  pub may_ask : length (entries_of client history) < MAX_REQUESTS → MayAsk client v
  may_ask room =
      let at = h.clients client (client_in client v) is_there in
      let same = ap (λ (es : List Entry). length es) at.entries in
      record { self = client_in client v; client = is_there; before = before.0; asked = before.1; idle = at.asked; room = omega (arith, same, room); copies = []; kept = λ l a. absurd a }

  pub asks : length (entries_of client history) < MAX_REQUESTS → IsEvent k v (asked_view client request v)
  unfolding may_ask
  asks room = inl (record { client = client; request = request; may = may_ask room; is = refl })

  client_asked : (c : ℕ) (p : ClientPart) → IsClientAt (tree_after k.tree history) history None c p → IsClientAt (tree_after k.tree history) history (Some (client, request)) c (asking_client client request [] c p)
  client_asked c p at = by (ℕ_discrete c client)
    where
      by : Dec (c ≡ client) → IsClientAt (tree_after k.tree history) history (Some (client, request)) c (asking_client client request [] c p)
      by (yes e) = subst (IsClientAt (tree_after k.tree history) history (Some (client, request)) c) (ap (λ b. cond b (record p { copies = []; asked = Some request }) p) (sym (eq-eqb c client e)))
          (record { entries = at.entries; fds = at.fds; copies = refl; asked = ap (λ b. cond b (Some request) None) (sym (eq-eqb client c (sym e))) })
      by (no n) = subst (IsClientAt (tree_after k.tree history) history (Some (client, request)) c) (ap (λ b. cond b (record p { copies = []; asked = Some request }) p) (sym (ne_eqb c client n)))
          (record { entries = at.entries; fds = at.fds; copies = at.copies; asked = at.asked ∙ ap (λ b. cond b (Some request) None) (sym (ne_eqb client c (λ e. n (sym e)))) })

  pub asked_session : (tickets : ℕ) → HasSession k history (Some (client, request)) (asked_view client request v tickets)
  asked_session tickets =
      let self = client_in client v in
      let same = λ (c : ℕ). weigh_each (asking_client client request []) (λ n. one (eqb c n)) v.clients in
      let same_asked = λ (c : ℕ). weigh_each (asking_asked client (asked_by tickets request [] self)) (λ n. one (eqb c n)) v.asked in
      record {
        tree = h.tree;
        legal = h.legal;
        start = h.start;
        all_clients = λ c. same c ∙ h.all_clients c;
        all_asked = λ c. same_asked c ∙ h.all_asked c;
        clients = λ c p a.
            let x = has_each (asking_client client request []) c p v.clients a in
            subst (IsClientAt (tree_after k.tree history) history (Some (client, request)) c) x.2 (client_asked c x.0 (h.clients c x.0 x.1));
        theirs = λ e a. subst (λ n. 1 ≤ n) (sym (same e.client)) (h.theirs e a);
        one_file = h.one_file;
        files = h.files;
        changes = h.changes;
        pools = h.pools;
        names = h.names;
        has_names = h.has_names;
        names_at = h.names_at;
        store = h.store;
        has_store = h.has_store;
        store_at = h.store_at;
      }
