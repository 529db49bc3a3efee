-- A lease that is granted, and leases that are given back, keep the sound state.
use Rattle.std.proofs.Common.{◌≡◌, ℕ, ◌<◌, ◌≢◌, ◌⊎◌, Bool, true, false, cond, eqb, eqb-true, ne_eqb, not, List, [], ◌∷◌, ◌++◌, length, set, Option, Some, None, unwrap_or, sym, refl, ap, ◌∙◌, subst, inl, inr, ⊎_elim, append-nil}
use Rattle.std.specs.Prelude.{◌*◌}
use mathlib.Core.Option.{some}
use native.Mathlib.Decide.{ℕ_discrete}
use lib.ListN.{get_elem?}
use Rattle.ufs_model.specs.History.{tree_after}
use Rattle.ufs_model.specs.PosixTree.{PosixTree, is_number}
use Rattle.ufs_model.specs.Walk.{node_at}
use Rattle.ufs_model.specs.FileBytes.{block_size}
use Rattle.ufs_model.specs.FileBytes as bytes
use Rattle.ufs_model.specs.declared.data.Node.TheVariants.{File}
use Rattle.ufs_model.specs.declared.data.Fact.{Fact}
use Rattle.ufs_model.specs.declared.data.Fact.TheVariants as fact
use Rattle.ufs_model.specs.declared.data.Lease.{Lease}
use Rattle.ufs_model.specs.declared.data.PartName.{PartName}
use Rattle.ufs_model.specs.declared.data.PartName.TheVariants as name
use Rattle.ufs_model.proofs.Facts.Held.{held}
use Rattle.ufs_hand_laws.specs.LeasesTrue.{AreLeasesTrue, IsListed, IsTrueOf, IsLeaseHeld, leased_file}
use Rattle.ufs_hand_laws.specs.Owned.{Has}
use Rattle.ufs_hand_laws.specs.Parts.{ClientPart, FilePart, NamesPart, View, World, Word, Start, is_file, is_names}
use Rattle.ufs_hand_laws.specs.Sound.{IsSound}
use Rattle.ufs_hand_laws.specs.Explained.{Showing}
use Rattle.ufs_hand_laws.specs.Leasing.{file_leased, names_leased, IsTrueIn, HasOpen, MayGrant, copying, granting, MayGiveBack, of_others, giving_back}
use Rattle.ufs_hand_laws.proofs.Owning.{each_has, same_some, has_append, append_has, replaced_here}
use Rattle.ufs_hand_laws.proofs.Keys.{itself, alike}
use Rattle.ufs_hand_laws.proofs.Exchange.{value_after, value_case, kind_exchanged, one_exchanged, names_are}
use Rattle.ufs_hand_laws.proofs.Lease.Setting.{each_same, has_kept, file_is, names_is, copied, grown, file_goes, names_go, LeasesGo, LeaseStep, w, next, client_case, single_files, single_names}
use Rattle.ufs_hand_laws.proofs.Lease.Hands.{held_next, parts_next}
use Rattle.ufs_hand_laws.proofs.Lease.History.{tickets_next, legal_next}
use Rattle.ufs_hand_laws.proofs.Lease.Leases.{listed_next}
use Rattle.ufs_hand_laws.proofs.Lease.Blocks.{apart_next, committed_next}
use Rattle.ufs_hand_laws.proofs.Lease.Numbers.{numbers_next}
use Rattle.ufs_hand_laws.proofs.Lease.Disk.{disk_next}
use Rattle.ufs_hand_laws.proofs.Lease.Holds.{holds_next}
use Rattle.ufs_hand_laws.proofs.Lease.Faults.{faults_next}
use Rattle.ufs_hand_laws.proofs.Lease.Clock.{clock_next}
use Rattle.ufs_hand_laws.proofs.Lease.Asked.{asked_next}

leases_sound : (step : LeaseStep) → AreLeasesTrue step.word.clock (tree_after step.k.tree step.o.history) (next step).client (next step).file (next step).names → IsSound step.S step.k step.word (set step.views step.i (w step))
leases_sound step leases = record {
  history = step.o.history;
  world = next step;
  one_hand = held_next step;
  parts = parts_next step;
  tickets_once = tickets_next step;
  legal = legal_next step;
  leases_true = leases;
  blocks_apart = apart_next step;
  committed_held = committed_next step;
  committed_numbers = numbers_next step;
  disk_bytes = disk_next step;
  holds = holds_next step;
  explained = step.o.explained;
  faults_once = faults_next step;
  clock = clock_next step;
  asked = asked_next step;
}

module _ (S : Showing) (k : Start) (word : Word) (views : List View) (i : ℕ) (v : View) (o : IsSound S k word views) (at : get_elem? views i ≡ some v) where
  -- ---- a lease is granted

  module _ (l : Lease) (m : MayGrant l v) where
    abbrev adds : List Lease → List Lease
    adds ls = ls ++ l ∷ []

    abbrev grants : LeasesGo
    grants = record {
      client = copying l;
      file = file_leased l.part adds;
      names = names_leased l.part adds;
      copies = λ n p. copied l (eqb l.client n) p;
      more = λ n p. grown l (eqb l.client n) p;
      leases = λ g x. file_goes adds (is_file l.part g) x;
      of_names = λ u x. names_go adds (is_names l.part u) x;
    }

    abbrev step : LeaseStep
    step = record { S = S; k = k; word = word; views = views; i = i; v = v; o = o; at = at; go = grants }

    abbrev granted : World
    granted = next step

    copy_case : (n : ℕ) (p : ClientPart) (x : Lease) → granted.client n ≡ Some p → Has x p.copies → ((y : ClientPart) × (o.world.client n ≡ Some y) × Has x y.copies) ⊎ ((x ≡ l) × (l.client ≡ n))
    copy_case n p x is h = let c = client_case step n p is in from c.0 c.1 c.2
      where
        by : (b : Bool) (y : ClientPart) → eqb l.client n ≡ b → o.world.client n ≡ Some y → Has x (cond b (record y { copies = adds y.copies }) y).copies → ((y : ClientPart) × (o.world.client n ≡ Some y) × Has x y.copies) ⊎ ((x ≡ l) × (l.client ≡ n))
        by true y e there has = ⊎_elim (λ a. inl (y, there, a)) (λ a. ⊎_elim (λ s. inr (s, eqb-true l.client n e)) (λ z. absurd z) a) (has_append x y.copies (l ∷ []) has)
        by false y e there has = inl (y, there, has)

        from : (y : ClientPart) → o.world.client n ≡ Some y → (p ≡ y) ⊎ (p ≡ copying l n y) → ((y : ClientPart) × (o.world.client n ≡ Some y) × Has x y.copies) ⊎ ((x ≡ l) × (l.client ≡ n))
        from y there (inl e) = inl (y, there, subst (λ (q : ClientPart). Has x q.copies) e h)
        from y there (inr e) = by (eqb l.client n) y refl there (subst (λ (q : ClientPart). Has x q.copies) e h)

    still_listed : (x : Lease) → IsListed o.world.file o.world.names x x.part → IsListed granted.file granted.names x x.part
    still_listed x = listed_next step x x.part (λ g q e h. in_file (is_file l.part g) q h) (λ q e h. in_names (is_names l.part tt) q h)
      where
        in_file : (b : Bool) (q : FilePart) → Has x q.leases → Has x (cond b (record q { leases = adds q.leases }) q).leases
        in_file true q h = append_has x q.leases (l ∷ []) (inl h)
        in_file false q h = h

        in_names : (b : Bool) (q : NamesPart) → Has x q.leases → Has x (cond b (record q { leases = adds q.leases }) q).leases
        in_names true q h = append_has x q.leases (l ∷ []) (inl h)
        in_names false q h = h

    new_listed : (p : PartName) (y : Fact) → p ≡ l.part → IsTrueIn v p y → IsListed granted.file granted.names l p
    new_listed (name.File g) (fact.Holds a b c) e t = (
      file_leased l.part adds g t.0,
      replaced_here eqb itself alike v.files (w step).files o.world.file (single_files step) g (file_leased l.part adds g t.0) (each_has (file_leased l.part adds) g t.0 v.files t.1),
      subst (λ z. Has l (cond z (record t.0 { leases = adds t.0.leases }) t.0).leases) (sym (ap (λ q. is_file q g) (sym e) ∙ itself g)) (append_has l t.0.leases (l ∷ []) (inr (inl refl))),
    )
    new_listed name.Names (fact.Resolves a b) e t =
        let there = Rattle.ufs_hand_laws.proofs.Exchange.value_is (w step).names o.world.names (names_leased l.part adds tt t.0) (single_names step) (each_has (names_leased l.part adds) tt t.0 v.names t.1) in
        subst (Has l) (ap (λ (q : NamesPart). q.leases) (sym there))
        (subst (λ z. Has l (cond z (record t.0 { leases = adds t.0.leases }) t.0).leases) (ap (λ q. is_names q tt) e) (append_has l t.0.leases (l ∷ []) (inr (inl refl))))
    new_listed (name.File g) (fact.Resolves a b) e t = absurd t
    new_listed name.Names (fact.Holds a b c) e t = absurd t
    new_listed (name.Client c) y e t = tt
    new_listed (name.Asked c) y e t = tt
    new_listed name.Store y e t = tt

    abbrev tree : PosixTree
    tree = tree_after k.tree o.history

    new_true : (p : PartName) (y : Fact) → IsTrueIn v p y → IsTrueOf tree p y
    new_true (name.File g) (fact.Holds a b c) t =
        let is = (o.legal.files g t.0 (o.one_hand.files.agree i v at g t.0 t.1)).bytes in
        subst (λ z. (length (unwrap_or z []) ≡ b) × (bytes.part (unwrap_or z []) (a * block_size) (length c) ≡ c)) (sym is) (t.2, t.3)
    new_true name.Names (fact.Resolves a b) t =
        let is = names_are views i v v at o.world o.one_hand tt t.0 t.1 in
        subst (λ z. node_at z a ≡ Some (File b)) (ap (λ (q : NamesPart). q.paths) (sym is) ∙ o.legal.names.paths) t.2
    new_true (name.File g) (fact.Resolves a b) t = absurd t
    new_true name.Names (fact.Holds a b c) t = absurd t
    new_true (name.Client c) y t = tt
    new_true (name.Asked c) y t = tt
    new_true name.Store y t = tt

    new_held : (z : Option ℕ) → ((g : ℕ) → z ≡ Some g → HasOpen m.self.fds g) → IsLeaseHeld tree.fds l.client z
    new_held None has = tt
    new_held (Some g) has =
        let d = has g refl in
        held tree.fds l.client g d.0 d.1 (sym (o.legal.clients l.client m.self (o.one_hand.clients.agree i v at l.client m.self m.client) d.0) ∙ d.2) (ap (is_number g) d.3 ∙ itself g)

    pub grant_sound : IsSound S k word (set views i (granting word.tickets l v))
    grant_sound = leases_sound step (record {
      listed = λ n p x is h live. ⊎_elim (λ (y : (y : ClientPart) × (o.world.client n ≡ Some y) × Has x y.copies). still_listed x (o.leases_true.listed n y.0 x y.1 y.2 live))
          (λ (e : (x ≡ l) × (l.client ≡ n)). subst (λ (q : Lease). IsListed granted.file granted.names q q.part) (sym e.0) (new_listed l.part l.fact refl m.fact)) (copy_case n p x is h);
      true' = λ n p x is h live. ⊎_elim (λ (y : (y : ClientPart) × (o.world.client n ≡ Some y) × Has x y.copies). o.leases_true.true' n y.0 x y.1 y.2 live)
          (λ (e : (x ≡ l) × (l.client ≡ n)). subst (λ (q : Lease). IsTrueOf tree q.part q.fact) (sym e.0) (new_true l.part l.fact m.fact)) (copy_case n p x is h);
      held = λ n p x is h live. ⊎_elim (λ (y : (y : ClientPart) × (o.world.client n ≡ Some y) × Has x y.copies). o.leases_true.held n y.0 x y.1 y.2 live)
          (λ (e : (x ≡ l) × (l.client ≡ n)). subst (λ (q : Lease × ℕ). IsLeaseHeld tree.fds q.1 (leased_file q.0.part q.0.fact)) (λ j. (sym e.0 j, e.1 j)) (new_held (leased_file l.part l.fact) m.open')) (copy_case n p x is h);
      own = λ n p x is h. ⊎_elim (λ (y : (y : ClientPart) × (o.world.client n ≡ Some y) × Has x y.copies). o.leases_true.own n y.0 x y.1 y.2)
          (λ (e : (x ≡ l) × (l.client ≡ n)). ap (λ (q : Lease). q.client) e.0 ∙ e.1) (copy_case n p x is h);
      ends = λ n p x is h. ⊎_elim (λ (y : (y : ClientPart) × (o.world.client n ≡ Some y) × Has x y.copies). o.leases_true.ends n y.0 x y.1 y.2)
          (λ (e : (x ≡ l) × (l.client ≡ n)). subst (λ (q : Lease). q.until < 16777216) (sym e.0) m.ends) (copy_case n p x is h);
    })

  -- ---- leases are given back

  module _ (part : PartName) (c : ℕ) (m : MayGiveBack part c v) where
    abbrev gives : LeasesGo
    gives = record {
      client = λ n p. p;
      file = file_leased part (of_others c);
      names = names_leased part (of_others c);
      copies = λ n p. refl;
      more = λ n p. ([], sym (append-nil p.copies));
      leases = λ g x. file_goes (of_others c) (is_file part g) x;
      of_names = λ u x. names_go (of_others c) (is_names part u) x;
    }

    abbrev returning : LeaseStep
    returning = record { S = S; k = k; word = word; views = views; i = i; v = v; o = o; at = at; go = gives }

    abbrev given : World
    given = next returning

    client_stays : (n : ℕ) (p : ClientPart) → given.client n ≡ Some p → o.world.client n ≡ Some p
    client_stays n p is = let y = client_case returning n p is in y.1 ∙ ap Some (sym (⊎_elim (λ e. e) (λ e. e) y.2))

    -- a copy that is left is of another part or another client
    else_where : (n : ℕ) (p : ClientPart) (x : Lease) → o.world.client n ≡ Some p → Has x p.copies → (x.part ≢ part) ⊎ (x.client ≢ c)
    else_where n p x is h = by (ℕ_discrete n c)
      where
        by : Dec (n ≡ c) → (x.part ≢ part) ⊎ (x.client ≢ c)
        by (yes s) =
            let same : p ≡ m.self = same_some p m.self (sym is ∙ ap o.world.client s ∙ o.one_hand.clients.agree i v at c m.self m.client) in
            inl (m.dropped x (subst (λ (q : ClientPart). Has x q.copies) same h))
        by (no s) = inr (λ e. s (sym (o.leases_true.own n p x is h) ∙ e))

    stays : (x : Lease) → (x.part ≢ part) ⊎ (x.client ≢ c) → IsListed o.world.file o.world.names x x.part → IsListed given.file given.names x x.part
    stays x apart = listed_next returning x x.part (λ g q e h. in_file g (is_file part g) q refl e h) (λ q e h. in_names (is_names part tt) q refl e h)
      where
        kept : x.client ≢ c → (ls : List Lease) → Has x ls → Has x (of_others c ls)
        kept ne ls h = has_kept (λ (z : Lease). not (eqb z.client c)) x ls (ap not (ne_eqb x.client c ne)) h

        in_file : (g : ℕ) (b : Bool) (q : FilePart) → is_file part g ≡ b → x.part ≡ name.File g → Has x q.leases → Has x (cond b (record q { leases = of_others c q.leases }) q).leases
        in_file g true q s e h = ⊎_elim (λ ne. absurd (ne (e ∙ sym (file_is part g s)))) (λ ne. kept ne q.leases h) apart
        in_file g false q s e h = h

        in_names : (b : Bool) (q : NamesPart) → is_names part tt ≡ b → x.part ≡ name.Names → Has x q.leases → Has x (cond b (record q { leases = of_others c q.leases }) q).leases
        in_names true q s e h = ⊎_elim (λ ne. absurd (ne (e ∙ sym (names_is part tt s)))) (λ ne. kept ne q.leases h) apart
        in_names false q s e h = h

    pub give_back_sound : IsSound S k word (set views i (giving_back word.tickets part c v))
    give_back_sound = subst (λ cs. IsSound S k word (set views i (record (giving_back word.tickets part c v) { clients = cs }))) (each_same v.clients) (leases_sound returning (record {
      listed = λ n p x is h live. let y = client_stays n p is in stays x (else_where n p x y h) (o.leases_true.listed n p x y h live);
      true' = λ n p x is h live. o.leases_true.true' n p x (client_stays n p is) h live;
      held = λ n p x is h live. o.leases_true.held n p x (client_stays n p is) h live;
      own = λ n p x is h. o.leases_true.own n p x (client_stays n p is) h;
      ends = λ n p x is h. o.leases_true.ends n p x (client_stays n p is) h;
    }))
