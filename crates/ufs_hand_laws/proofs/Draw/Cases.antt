-- Which part is whose after a draw, and what each part is then.
use Rattle.std.proofs.Common.{◌≡◌, ℕ, ◌≢◌, ◌⊎◌, cond, eqb, eq-eqb, ne_eqb, List, [], ◌∷◌, ◌++◌, set, Some, None, sym, refl, ap, ◌∙◌, subst, inl, inr, ⊎_elim}
use native.Mathlib.Decide.{ℕ_discrete}
use Rattle.ufs_model.specs.declared.data.Entry.{Entry}
use Rattle.ufs_hand_laws.specs.Owned.{Has, count}
use Rattle.ufs_crash_laws.specs.Changes.{change_of, names_by}
use Rattle.ufs_hand_laws.specs.Covers.{step_in}
use Rattle.ufs_hand_laws.specs.Parts.{AskedPart, ClientPart, FilePart, NamesPart, StorePart, View, only_one}
use Rattle.ufs_hand_laws.specs.OneHand.{IsHeld, DoPartsStay}
use Rattle.ufs_hand_laws.specs.Draws.{entry_of, client_after, new_file}
use Rattle.ufs_hand_laws.proofs.Owning.{has_append, replaced_present, has_each, replaced_back}
use Rattle.ufs_hand_laws.proofs.Keys.{itself, alike}
use Rattle.ufs_hand_laws.proofs.Exchange.{KeepsNames, world_after, value_after, value_case, value_is, store_is, names_single, names_are, clients_single, held_exchange}
use Rattle.ufs_hand_laws.proofs.Draw.Setting.{Draw, outcome, client_counts, names_kept, fresh_files, single_clients, other_client}

module _ (draw : Draw) where
  open draw use {k, views, i, v, f, l, o, at, m}
  open outcome draw use {e, before, w, next_world, longer, d}

  pub held_after : IsHeld (set views i w) next_world
  held_after = held_exchange views i v w at o.world o.one_hand (names_kept draw) d.single (fresh_files draw)

  pub client_case : (c : ℕ) (p : ClientPart) → next_world.client c ≡ Some p
      → ((y : ClientPart) × (o.world.client c ≡ Some y) × (f.client ≡ c) × (p ≡ record y { entries = y.entries ++ e ∷ []; fds = l.fds; asked = None }))
      ⊎ ((f.client ≢ c) × (o.world.client c ≡ Some p))
  client_case c p is = ⊎_elim
      (λ x. let y = has_each (client_after e l.fds) c p v.clients x in mine y.0 y.1 y.2 (ℕ_discrete f.client c))
      (λ (x : (count eqb c v.clients ≡ 0) × (count eqb c w.clients ≡ 0) × (o.world.client c ≡ Some p)). inr ((λ s. (other_client draw) c x.0 (sym s)), x.2))
      (replaced_back eqb itself alike v.clients w.clients o.world.client (single_clients draw) c p is)
    where
      mine : (y : ClientPart) → Has (c, y) v.clients → client_after e l.fds c y ≡ p → Dec (f.client ≡ c)
          → ((y : ClientPart) × (o.world.client c ≡ Some y) × (f.client ≡ c) × (p ≡ record y { entries = y.entries ++ e ∷ []; fds = l.fds; asked = None })) ⊎ ((f.client ≢ c) × (o.world.client c ≡ Some p))
      mine y x go (yes s) = inl (y, o.one_hand.clients.agree i v at c y x, s, sym go ∙ ap (λ b. cond b (record y { entries = y.entries ++ e ∷ []; fds = l.fds; asked = None }) y) (eq-eqb f.client c s))
      mine y x go (no s) = inr (s, o.one_hand.clients.agree i v at c y x ∙ ap Some (sym (ap (λ b. cond b (record y { entries = y.entries ++ e ∷ []; fds = l.fds; asked = None }) y) (ne_eqb f.client c s)) ∙ go))

  pub file_case : (g : ℕ) (p : FilePart) → next_world.file g ≡ Some p
      → (Has (g, p) l.files × ((q : FilePart) × Has (g, q) v.files × (o.world.file g ≡ Some q) × (p ≡ record q { bytes = p.bytes; changes = q.changes ++ change_of g (step_in before e); blocks = p.blocks; quarantine = p.quarantine; spare = p.spare; loaded = p.loaded })))
      ⊎ (((g ≡ before.next) × (p ≡ new_file)) ⊎ ((count eqb g v.files ≡ 0) × (count eqb g l.files ≡ 0) × (o.world.file g ≡ Some p)))
  file_case g p is = ⊎_elim
      (λ x. ⊎_elim
      (λ (y : (q : FilePart) × Has (g, q) v.files × (p ≡ record q { bytes = p.bytes; changes = q.changes ++ change_of g (step_in before (entry_of 0 f)); blocks = p.blocks; quarantine = p.quarantine; spare = p.spare; loaded = p.loaded })). inl (x, (y.0, y.1, o.one_hand.files.agree i v at g y.0 y.1, y.2)))
      (λ y. inr (inl y))
      (d.files g p x))
      (λ x. inr (inr x))
      (replaced_back eqb itself alike v.files l.files o.world.file d.single g p is)

  pub names_case : ((count only_one tt v.names ≡ 0) × (next_world.names ≡ o.world.names))
      ⊎ ((q : NamesPart) × Has (tt, q) l.names × (next_world.names ≡ q) × (q ≡ record o.world.names { paths = q.paths; next = q.next; holds = q.holds; blocks = q.blocks; dropped = q.dropped; spare = q.spare; changes = o.world.names.changes ++ names_by (step_in before e) })
      × ((g : ℕ) (bs : List ℕ) → Has (g, bs) o.world.names.dropped → Has (g, bs) q.dropped) × ((b : ℕ) → Has b o.world.names.blocks → Has b q.blocks))
  names_case = ⊎_elim
      (λ (x : (count only_one tt w.names ≡ 0) × (next_world.names ≡ o.world.names)). inl (sym (m.names tt) ∙ x.0, x.1))
      (λ (x : (q : NamesPart) × Has (tt, q) w.names × (next_world.names ≡ q)).
      let y = d.names tt x.0 x.1 in
      let was : o.world.names ≡ y.0 = names_are views i v w at o.world o.one_hand tt y.0 y.1 in
      inr (
        x.0,
        x.1,
        x.2,
        subst (λ (z : NamesPart). x.0 ≡ record z { paths = x.0.paths; next = x.0.next; holds = x.0.holds; blocks = x.0.blocks; dropped = x.0.dropped; spare = x.0.spare; changes = z.changes ++ names_by (step_in before e) }) (sym was) y.2,
        subst (λ (z : NamesPart). (g : ℕ) (bs : List ℕ) → Has (g, bs) z.dropped → Has (g, bs) x.0.dropped) (sym was) y.3,
        subst (λ (z : NamesPart). (b : ℕ) → Has b z.blocks → Has b x.0.blocks) (sym was) y.4,
      ))
      (value_case w.names o.world.names (names_single views i v w at o.world o.one_hand (names_kept draw)))

  pub asked_same : (c : ℕ) (a : AskedPart) → next_world.asked c ≡ Some a → o.world.asked c ≡ Some a
  asked_same c a is = ⊎_elim
      (λ x. o.one_hand.asked.agree i v at c a x)
      (λ (x : (count eqb c v.asked ≡ 0) × (count eqb c v.asked ≡ 0) × (o.world.asked c ≡ Some a)). x.2)
      (replaced_back eqb itself alike v.asked v.asked o.world.asked (Rattle.ufs_hand_laws.proofs.Exchange.asked_single views i v w at o.world o.one_hand (names_kept draw)) c a is)

  pub store_same : next_world.store ≡ o.world.store
  store_same = ⊎_elim
      (λ (x : (count only_one tt v.store ≡ 0) × (next_world.store ≡ o.world.store)). x.1)
      (λ (x : (s : StorePart) × Has (tt, s) v.store × (next_world.store ≡ s)). x.2 ∙ sym (store_is views i v w at o.world o.one_hand tt x.0 x.1))
      (value_case v.store o.world.store (Rattle.ufs_hand_laws.proofs.Exchange.store_single views i v w at o.world o.one_hand (names_kept draw)))

  pub parts_after : DoPartsStay k next_world
  parts_after = record {
    clients = λ c. replaced_present eqb itself alike (λ (u : View). u.clients) o.world.client views i v w at o.one_hand.clients c ((client_counts draw) c) ∙ o.parts.clients c;
    asked = λ c. replaced_present eqb itself alike (λ (u : View). u.asked) o.world.asked views i v w at o.one_hand.asked c refl ∙ o.parts.asked c;
    pools = λ c. replaced_present eqb itself alike (λ (u : View). u.pools) o.world.pool views i v w at o.one_hand.pools c refl ∙ o.parts.pools c;
  }

  pub last_in : (x : Entry) → Has x longer → Has x o.history ⊎ (x ≡ e)
  last_in x h = ⊎_elim (λ a. inl a) (⊎_elim (λ b. inr b) (λ z. absurd z)) (has_append x o.history (e ∷ []) h)
