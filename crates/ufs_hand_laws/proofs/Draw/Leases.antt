-- After a draw the leases are true.
use Rattle.std.proofs.Common.{◌≡◌, ℕ, ◌*◌, ◌<◌, ◌≤◌, ◌≢◌, true, eqb, [], ◌∷◌, ◌++◌, length, Option, Some, None, is_some, unwrap_or, sym, refl, ap, ◌∙◌, subst, inl, inr, ⊎_elim, arith}
use Rattle.std.specs.FinMap as fin
use native.Mathlib.Decide.{dec_le, ℕ_discrete}
use Rattle.ufs_model.specs.History.{tree_after}
use Rattle.ufs_model.specs.Touched.{holds}
use Rattle.ufs_model.specs.declared.data.PartName.{PartName}
use Rattle.ufs_model.specs.declared.data.PartName.TheVariants as part
use Rattle.std.specs.Option.{option_map}
use Rattle.ufs_model.specs.declared.data.Lease.{Lease}
use Rattle.ufs_model.specs.declared.data.Desc.{Desc}
use Rattle.ufs_model.specs.declared.data.Fact.{Fact}
use Rattle.ufs_model.specs.declared.data.Fact.TheVariants as fact
use Rattle.ufs_model.proofs.Facts.Held.{holds_by, holder}
use Rattle.ufs_model.proofs.Facts.Live.{held_has, number_is}
use Rattle.ufs_hand_laws.specs.LeasesTrue.{AreLeasesTrue, IsTrueOf, IsLeaseHeld, IsListed, IsListedIn, leased_file}
use Rattle.ufs_hand_laws.proofs.Keys.{one_itself, one_alike}
use Rattle.ufs_hand_laws.specs.Owned.{one, Has, count}
use Rattle.ufs_hand_laws.specs.Parts.{ClientPart, FilePart, NamesPart, only_one}
use Rattle.ufs_hand_laws.specs.FaultsOnce.{told}
use Rattle.ufs_hand_laws.specs.Draws.{entry_of, IsFileAfter}
use Rattle.ufs_hand_laws.proofs.Owning.{has_count, count_has, same_some, replaced_here, replaced_else}
use Rattle.ufs_hand_laws.proofs.Keys.{itself, alike}
use Rattle.ufs_hand_laws.proofs.Exchange.{names_are}
use Rattle.ufs_hand_laws.proofs.Draw.Setting.{Draw, outcome, self_there, push, descs_stay, file_stays, names_same, tree_kept}
use Rattle.ufs_hand_laws.proofs.Draw.Cases.{client_case, names_case}

module _ (draw : Draw) where
  open draw use {k, word, views, i, v, f, l, o, at, m}
  open outcome draw use {e, before, after, w, next_world, longer, d}

  -- ---- leases

  holds_else : (c : ℕ) → c ≢ f.client → (g : ℕ) → holds before.fds c g ≡ holds after.fds c g
  holds_else c ne g = holds_by before.fds after.fds c g (λ fd. ap (option_map (λ (y : Desc). y.file)) ((descs_stay draw) c ne fd))

  -- a client with a lease
  lease_case : (c : ℕ) (p : ClientPart) (x : Lease) → next_world.client c ≡ Some p → Has x p.copies → (y : ClientPart) × (o.world.client c ≡ Some y) × Has x y.copies
  lease_case c p x is h = ⊎_elim
      (λ (z : (y : ClientPart) × (o.world.client c ≡ Some y) × (f.client ≡ c) × (p ≡ record y { entries = y.entries ++ e ∷ []; fds = l.fds; asked = None })). (z.0, z.1, subst (Has x) (ap (λ (q : ClientPart). q.copies) z.3) h))
      (λ (z : (f.client ≢ c) × (o.world.client c ≡ Some p)). (p, z.1, h)) ((client_case draw) c p is)

  seen_live : (x : Lease) → word.clock < x.until → v.clock < x.until
  seen_live x q = let a = (o.clock.seen i v at).1 in omega arith

  true_after : (x : Lease) → word.clock < x.until → (p : PartName) → p ≡ x.part → IsListed o.world.file o.world.names x p → IsTrueOf before x.part x.fact → IsTrueOf after x.part x.fact
  true_after x q (part.File g) s listed told = by (dec_le 1 (count eqb g v.files))
    where
      by : Dec (1 ≤ count eqb g v.files) → IsTrueOf after x.part x.fact
      by (yes c) =
          let y = has_count eqb itself alike g v.files c in
          let same : y.0 ≡ listed.0 = same_some y.0 listed.0 (sym (o.one_hand.files.agree i v at g y.0 y.1) ∙ listed.1) in
          let here : IsListedIn v x (part.File g) = (y.0, y.1, subst (λ (z : FilePart). Has x z.leases) (sym same) listed.2) in
          d.leases x (subst (IsListedIn v x) s here) (seen_live x q) told
      by (no c) =
          let there : is_some (fin.get before.bytes g) ≡ true = ap is_some (o.legal.files g listed.0 listed.1).bytes in
          subst (λ z. IsTrueOf after z x.fact) s (of_file x.fact ((file_stays draw) g (omega arith) there) (subst (λ z. IsTrueOf before z x.fact) (sym s) told))
        where
          of_file : (y : Fact) → fin.get before.bytes g ≡ fin.get after.bytes g → IsTrueOf before (part.File g) y → IsTrueOf after (part.File g) y
          of_file (fact.Holds a b c) e t = subst (λ z. (length (unwrap_or z []) ≡ b) × (Rattle.ufs_model.specs.FileBytes.part (unwrap_or z []) (a * 4096) (length c) ≡ c)) e t
          of_file (fact.Resolves a b) e t = tt
  true_after x q part.Names s listed told = ⊎_elim
      (λ (y : (count only_one tt v.names ≡ 0) × (next_world.names ≡ o.world.names)). subst (λ z. IsTrueOf after z x.fact) s (of_names x.fact ((names_same draw) y.0).0 (subst (λ z. IsTrueOf before z x.fact) (sym s) told)))
      (λ y.
      let h = has_count only_one one_itself one_alike tt v.names (some_names y.0 y.1) in
      let same = names_are views i v w at o.world o.one_hand tt h.0 h.1 in
      let here : IsListedIn v x part.Names = (h.0, h.1, subst (λ (z : NamesPart). Has x z.leases) same listed) in
      d.leases x (subst (IsListedIn v x) s here) (seen_live x q) told)
      (names_case draw)
    where
      some_names : (u : NamesPart) → Has (tt, u) l.names → 1 ≤ count only_one tt v.names
      some_names u h = let a = count_has only_one one_itself one_alike tt u l.names h in let b = m.names tt in omega arith

      of_names : (y : Fact) → before.paths ≡ after.paths → IsTrueOf before part.Names y → IsTrueOf after part.Names y
      of_names (fact.Holds a b c) e t = tt
      of_names (fact.Resolves a b) e t = subst (λ z. Rattle.ufs_model.specs.Walk.node_at z a ≡ Some (Rattle.ufs_model.specs.declared.data.Node.TheVariants.File b)) e t
  true_after x q (part.Client c) s listed told = subst (λ z. IsTrueOf after z x.fact) s tt
  true_after x q (part.Asked c) s listed told = subst (λ z. IsTrueOf after z x.fact) s tt
  true_after x q part.Store s listed told = subst (λ z. IsTrueOf after z x.fact) s tt

  held_after' : (c : ℕ) (y : ClientPart) (x : Lease) → o.world.client c ≡ Some y → Has x y.copies → word.clock < x.until → Dec (c ≡ f.client) → IsLeaseHeld before.fds c (leased_file x.part x.fact) → IsLeaseHeld after.fds c (leased_file x.part x.fact)
  held_after' c y x is h q (yes s) held =
      let same : y ≡ m.self = same_some y m.self (sym is ∙ ap o.world.client s ∙ (self_there draw)) in
      subst (λ n. IsLeaseHeld after.fds n (leased_file x.part x.fact)) (sym s) (d.own_leases x (subst (λ (z : ClientPart). Has x z.copies) same h) (seen_live x q) (subst (λ n. IsLeaseHeld before.fds n (leased_file x.part x.fact)) s held))
  held_after' c y x is h q (no s) held = of_option (leased_file x.part x.fact) held
    where
      of_option : (z : Option ℕ) → IsLeaseHeld before.fds c z → IsLeaseHeld after.fds c z
      of_option None t = tt
      of_option (Some g) t = sym (holds_else c s g) ∙ t

  -- a part that has a lease of a file that is still held goes on with it
  listed_after : (x : Lease) (c : ℕ) (p : PartName) (y : Fact) → IsLeaseHeld after.fds c (leased_file p y) → IsListed o.world.file o.world.names x p → IsListed next_world.file next_world.names x p
  listed_after x c (part.File g) y held listed = by (dec_le 1 (count eqb g v.files))
    where
      there : is_some (fin.get after.bytes g) ≡ true
      there = let z = holder after.fds c g held in held_has after (tree_kept draw) g (inr ((c, z.0), z.1, z.2, number_is g z.1.file z.3))

      by : Dec (1 ≤ count eqb g v.files) → (q : FilePart) × (next_world.file g ≡ Some q) × Has x q.leases
      by (yes n) =
          let own = d.own g (inl n) in let z : one (is_some (fin.get after.bytes g)) ≡ 1 = ap one there in
          let q = has_count eqb itself alike g l.files (omega arith) in
          (q.0, replaced_here eqb itself alike v.files l.files o.world.file d.single g q.0 q.1, goes q.0 q.1 (d.files g q.0 q.1))
        where
          goes : (q : FilePart) → Has (g, q) l.files → IsFileAfter before (entry_of 0 f) v g q → Has x q.leases
          goes q h (inl (u)) =
              let same : u.0 ≡ listed.0 = same_some u.0 listed.0 (sym (o.one_hand.files.agree i v at g u.0 u.1) ∙ listed.1) in
              subst (Has x) (sym (ap (λ (z : FilePart). z.leases) u.2 ∙ ap (λ (z : FilePart). z.leases) same)) listed.2
          goes q h (inr u) = let b = o.legal.tree.numbered g (ap is_some (o.legal.files g listed.0 listed.1).bytes) in absurd (omega (arith, u.0))
      by (no n) =
          let was : is_some (fin.get before.bytes g) ≡ true = ap is_some (o.legal.files g listed.0 listed.1).bytes in
          (listed.0, replaced_else eqb itself alike v.files l.files o.world.file g (omega arith) (d.other g (omega arith) was) ∙ listed.1, listed.2)
  listed_after x c part.Names y held listed = subst (Has x) (sym (⊎_elim (λ z. ap (λ (u : NamesPart). u.leases) z.1) (λ z. ap (λ (u : NamesPart). u.leases) z.2 ∙ ap (λ (u : NamesPart). u.leases) z.3) (names_case draw))) listed
  listed_after x c (part.Client a) y held listed = tt
  listed_after x c (part.Asked a) y held listed = tt
  listed_after x c part.Store y held listed = tt

  pub leases_after : AreLeasesTrue word.clock (tree_after k.tree longer) next_world.client next_world.file next_world.names
  leases_after = subst (λ t. AreLeasesTrue word.clock t next_world.client next_world.file next_world.names) (sym (push draw)) (record {
    listed = λ c p x is h q. let y = lease_case c p x is h in
        listed_after x c x.part x.fact (held_after' c y.0 x y.1 y.2 q (ℕ_discrete c f.client) (o.leases_true.held c y.0 x y.1 y.2 q)) (o.leases_true.listed c y.0 x y.1 y.2 q);
    true' = λ c p x is h q. let y = lease_case c p x is h in true_after x q x.part refl (o.leases_true.listed c y.0 x y.1 y.2 q) (o.leases_true.true' c y.0 x y.1 y.2 q);
    held = λ c p x is h q. let y = lease_case c p x is h in held_after' c y.0 x y.1 y.2 q (ℕ_discrete c f.client) (o.leases_true.held c y.0 x y.1 y.2 q);
    own = λ c p x is h. let y = lease_case c p x is h in o.leases_true.own c y.0 x y.1 y.2;
    ends = λ c p x is h. let y = lease_case c p x is h in o.leases_true.ends c y.0 x y.1 y.2;
  })
