-- After a draw the committed numbers cover what is acknowledged.
use Rattle.std.proofs.Common.{◌≡◌, ℕ, ◌≤◌, false, eqb, List, [], ◌∷◌, ◌++◌, length, Some, sym, ap, ◌∙◌, subst, ⊎_elim, arith}
use Rattle.ufs_model.specs.PosixTree.{PosixTree}
use Rattle.ufs_model.specs.declared.data.Entry.{Entry}
use Rattle.ufs_model.specs.declared.data.Reply.TheVariants as reply
use Rattle.ufs_hand_laws.specs.Owned.{Has, count}
use Rattle.ufs_crash_laws.specs.Changes.{change_of, changes_of, name_changes}
use Rattle.ufs_hand_laws.specs.Covers.{step_in, SyncsFile, SyncsNames, CoversFile, CoversNames, CoversBirths, IsBornBy}
use Rattle.ufs_hand_laws.specs.Parts.{committed, FilePart, NamesPart, StorePart}
use Rattle.ufs_hand_laws.specs.CommittedNumbers.{IsCommittedNames, AreCommittedNumbers}
use Rattle.ufs_hand_laws.specs.Draws.{new_file}
use Rattle.ufs_hand_laws.proofs.Owning.{count_has, same_some}
use Rattle.ufs_hand_laws.proofs.Keys.{itself, alike}
use Rattle.ufs_hand_laws.proofs.Covering.{changes_front, more_changes, more_names, born_push, covers_file_push, covers_names_push, covers_births_push}
use Rattle.ufs_hand_laws.proofs.Exchange.{names_are}
use Rattle.ufs_hand_laws.proofs.Draw.Cases.{file_case, names_case, store_same}
use Rattle.ufs_hand_laws.proofs.Draw.Setting.{Draw, outcome}

covers_none : (t : PosixTree) (h : List Entry) (g : ℕ) → changes_of g t h ≡ [] → CoversFile t h g 0
covers_none t h g none a b x is done syncs = let l = changes_front t a (x ∷ b) g in let n = ap (λ z. length (changes_of g t z)) is in let z = ap length none in omega arith

no_has : {D : Type 0} (ps : List (ℕ × D)) (g : ℕ) (x : D) → count eqb g ps ≡ 0 → Has (g, x) ps → ⊥
no_has ps g x z h = let c = count_has eqb itself alike g x ps h in absurd (omega arith)

module _ (draw : Draw) where
  open draw use {k, views, i, v, f, l, known, o, at}
  open outcome draw use {e, before, w, next_world, longer, d}

  -- ---- what is committed

  number_same : (g : ℕ) → committed next_world.store g ≡ committed o.world.store g
  number_same g = ap (λ s. committed s g) (store_same draw)

  synced_number : (g : ℕ) → f.reply ≡ reply.Done → SyncsFile before f.client f.op g → length (changes_of g k.tree o.history) ≤ committed o.world.store g
  synced_number g done syncs =
      let x = d.synced done g syncs in
      let there = o.one_hand.files.agree i v at g x.0 x.1 in
      let a = ap length (o.legal.files g x.0 there).changes in let b = o.committed_numbers.known g x.0 there in let c = x.2 in
      omega arith

  synced_names_number : f.reply ≡ reply.Done → SyncsNames before f.client f.op → (length (name_changes k.tree o.history) ≤ o.world.names.known)
  synced_names_number done syncs =
      let x = d.synced_names done syncs in
      let was = names_are views i v w at o.world o.one_hand tt x.0 x.1 in
      let a = ap length o.legal.names.changes in let c = x.2 in
      let b : length o.world.names.changes ≡ length x.0.changes = ap (λ (z : NamesPart). length z.changes) was in
      let z : o.world.names.known ≡ x.0.known = ap (λ (z : NamesPart). z.known) was in
      omega arith

  pub numbers_after : AreCommittedNumbers k longer next_world
  numbers_after = record {
    files = λ g. record {
      made = let a = (o.committed_numbers.files g).made in let b = more_changes k.tree o.history e g in let c = number_same g in omega arith;
      covers = subst (CoversFile k.tree longer g) (sym (number_same g)) (covers_file_push k.tree o.history e g (committed o.world.store g) (o.committed_numbers.files g).covers (synced_number g));
    };
    names = subst (λ s. IsCommittedNames k.tree longer s) (sym (ap (λ (s : StorePart). s.names) (store_same draw))) (record {
      made = let a = o.committed_numbers.names.made in let b = more_names k.tree o.history e in omega arith;
      covers = covers_names_push k.tree o.history e o.world.store.names o.committed_numbers.names.covers (λ done syncs. let a = synced_names_number done syncs in let b = o.committed_numbers.names_known in omega arith);
    });
    births = subst (λ (s : StorePart). CoversBirths k.tree longer s.names) (sym (store_same draw))
        (covers_births_push k.tree o.history e o.world.store.names o.committed_numbers.names.made o.committed_numbers.births
        (λ g done syncs. let x = d.synced_birth done g syncs in o.committed_numbers.born g x.0 (o.one_hand.files.agree i v at g x.0 x.1) x.2));
    after_birth = λ g some. born_at g (o.committed_numbers.after_birth g (let a = number_same g in omega arith));
    known = λ g p is. ⊎_elim
        (λ (x : Has (g, p) l.files × ((q : FilePart) × Has (g, q) v.files × (o.world.file g ≡ Some q) × (p ≡ record q { bytes = p.bytes; changes = q.changes ++ change_of g (step_in before e); blocks = p.blocks; quarantine = p.quarantine; spare = p.spare; loaded = p.loaded }))).
        let a = o.committed_numbers.known g x.1.0 x.1.2 in let b = ap (λ (z : FilePart). z.known) x.1.3 in let c = number_same g in omega arith)
        (⊎_elim
        (λ (x : (g ≡ before.next) × (p ≡ new_file)). let b : p.known ≡ 0 = ap (λ (z : FilePart). z.known) x.1 in omega arith)
        (λ (x : (count eqb g v.files ≡ 0) × (count eqb g l.files ≡ 0) × (o.world.file g ≡ Some p)). let a = o.committed_numbers.known g p x.2 in let c = number_same g in omega arith))
        ((file_case draw) g p is);
    covers = λ g p is. ⊎_elim
        (λ (x : Has (g, p) l.files × ((q : FilePart) × Has (g, q) v.files × (o.world.file g ≡ Some q) × (p ≡ record q { bytes = p.bytes; changes = q.changes ++ change_of g (step_in before e); blocks = p.blocks; quarantine = p.quarantine; spare = p.spare; loaded = p.loaded }))).
        subst (CoversFile k.tree longer g) (sym (ap (λ (z : FilePart). z.known) x.1.3))
        (covers_file_push k.tree o.history e g x.1.0.known (o.committed_numbers.covers g x.1.0 x.1.2)
        (λ done syncs.
        let y = d.synced done g syncs in
        let same : y.0 ≡ x.1.0 = same_some y.0 x.1.0 (sym (o.one_hand.files.agree i v at g y.0 y.1) ∙ x.1.2) in
        let a = ap length (o.legal.files g x.1.0 x.1.2).changes in
        let b : length x.1.0.changes ≤ x.1.0.known = subst (λ (z : FilePart). length z.changes ≤ z.known) same y.2 in
        omega arith)))
        (⊎_elim
        (λ (x : (g ≡ before.next) × (p ≡ new_file)).
        let none = o.legal.unborn g (omega (arith, x.0)) in
        subst (CoversFile k.tree longer g) (sym (ap (λ (z : FilePart). z.known) x.1))
        (covers_file_push k.tree o.history e g 0 (covers_none k.tree o.history g none) (λ done syncs. let z = ap length none in omega arith)))
        (λ (x : (count eqb g v.files ≡ 0) × (count eqb g l.files ≡ 0) × (o.world.file g ≡ Some p)).
        covers_file_push k.tree o.history e g p.known (o.committed_numbers.covers g p x.2)
        (λ done syncs. let y = d.synced done g syncs in absurd (no_has v.files g y.0 x.0 y.1))))
        ((file_case draw) g p is);
    born = λ g p is b. ⊎_elim
        (λ (x : Has (g, p) l.files × ((q : FilePart) × Has (g, q) v.files × (o.world.file g ≡ Some q) × (p ≡ record q { bytes = p.bytes; changes = q.changes ++ change_of g (step_in before e); blocks = p.blocks; quarantine = p.quarantine; spare = p.spare; loaded = p.loaded }))).
        born_at g (o.committed_numbers.born g x.1.0 x.1.2 (sym (ap (λ (z : FilePart). z.born) x.1.3) ∙ b)))
        (⊎_elim
        (λ (x : (g ≡ before.next) × (p ≡ new_file)). let n : p.born ≡ false = ap (λ (z : FilePart). z.born) x.1 in cc)
        (λ (x : (count eqb g v.files ≡ 0) × (count eqb g l.files ≡ 0) × (o.world.file g ≡ Some p)). born_at g (o.committed_numbers.born g p x.2 b)))
        ((file_case draw) g p is);
    names_known = let a = o.committed_numbers.names_known in let b = known_same in let c = ap (λ (s : StorePart). s.names) (store_same draw) in omega arith;
    names_cover = subst (CoversNames k.tree longer) (sym known_same) (covers_names_push k.tree o.history e o.world.names.known o.committed_numbers.names_cover synced_names_number);
    names_born = λ g x. born_at g (o.committed_numbers.names_born g (subst (Has g) born_same x));
  }
    where
      born_at : (g : ℕ) → IsBornBy k.tree o.history g o.world.store.names → IsBornBy k.tree longer g next_world.store.names
      born_at g b = subst (λ (s : StorePart). IsBornBy k.tree longer g s.names) (sym (store_same draw)) (born_push k.tree o.history e g o.world.store.names o.committed_numbers.names.made b)

      known_same : next_world.names.known ≡ o.world.names.known
      known_same = ⊎_elim (λ x. ap (λ (z : NamesPart). z.known) x.1) (λ x. ap (λ (z : NamesPart). z.known) x.2 ∙ ap (λ (z : NamesPart). z.known) x.3) (names_case draw)

      born_same : next_world.names.born ≡ o.world.names.born
      born_same = ⊎_elim (λ x. ap (λ (z : NamesPart). z.born) x.1) (λ x. ap (λ (z : NamesPart). z.born) x.2 ∙ ap (λ (z : NamesPart). z.born) x.3) (names_case draw)
