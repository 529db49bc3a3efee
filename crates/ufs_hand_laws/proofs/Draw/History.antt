-- After a draw the history is legal, and the parts are those of the tree to which it leads.
use Rattle.std.proofs.Common.{◌≡◌, ℕ, ◌≤◌, true, cond, eqb, eq-eqb, ne_eqb, [], ◌∷◌, ◌++◌, Some, None, is_some, sym, ap, ◌∙◌, subst, inl, inr, ⊎_elim, arith, append-nil}
use Rattle.std.specs.FinMap as fin
use native.Mathlib.Decide.{dec_le, ℕ_discrete}
use Rattle.ufs_model.specs.PosixTree.{PosixTree, IsTree, desc_at}
use Rattle.ufs_model.specs.History.{IsLegal}
use Rattle.ufs_model.proofs.Facts.Histories.{legal-push}
use Rattle.ufs_model.specs.declared.data.Excuse.TheVariants as excuse
use Rattle.ufs_model.specs.declared.data.Reply.TheVariants as reply
use Rattle.ufs_hand_laws.specs.Owned.{one, present, Has, count, times}
use Rattle.ufs_crash_laws.specs.Changes.{change_of, changes_of, names_by, name_changes}
use Rattle.ufs_crash_laws.proofs.Facts.Histories.{changes_of-push, name_changes-push}
use Rattle.ufs_hand_laws.specs.Covers.{step_in}
use Rattle.ufs_hand_laws.specs.Parts.{ClientPart, FilePart, NamesPart, View, only_one}
use Rattle.ufs_hand_laws.specs.Legal.{IsOneHistory, FitsFile, FitsNames}
use Rattle.ufs_hand_laws.specs.FaultsOnce.{told}
use Rattle.ufs_hand_laws.specs.Draws.{entry_of, client_after, new_file}
use Rattle.ufs_hand_laws.proofs.Owning.{has_each, replaced_back, replaced_else, replaced_count, total_at}
use Rattle.ufs_hand_laws.proofs.Keys.{itself, alike}
use Rattle.ufs_hand_laws.proofs.Drawing.{tells_new}
use Rattle.ufs_hand_laws.proofs.Exchange.{value_case, names_single, names_are}
use Rattle.ufs_hand_laws.proofs.Draw.Setting.{Draw, outcome, there_or, is_in, push, names_kept, single_clients, other_client, descs_stay, file_stays, unchanged, names_same, names_unchanged, unborn_unchanged, rising, tree_kept}

module _ (draw : Draw) where
  open draw use {k, views, i, v, f, l, o, at, m}
  open outcome draw use {e, before, after, w, next_world, longer, d}

  -- ---- the parts after the entry

  no_fault : (n : ℕ) → f.reply ≡ reply.Excused (excuse.Device n) → told n o.history ≡ 0
  no_fault n is = let a = m.device n is in let b = o.faults_once.device n in let c = o.faults_once.single n in let t = total_at (λ (u : View). times n u.faults) views i v at in omega arith

  pub legal_after : IsLegal k.tree longer
  legal_after = legal-push k.tree o.history e o.legal.legal (record { numbered = sym o.tickets_once.tickets; replied = d.replied }) (tells_new f.reply o.history no_fault)

  clients_after : (c : ℕ) (p : ClientPart) → next_world.client c ≡ Some p → (fd : ℕ) → fin.get p.fds fd ≡ desc_at after c fd
  clients_after c p is fd = ⊎_elim
      (λ x. let y = has_each (client_after e l.fds) c p v.clients x in mine y.0 y.1 y.2 (ℕ_discrete f.client c))
      (λ (x : (count eqb c v.clients ≡ 0) × (count eqb c w.clients ≡ 0) × (o.world.client c ≡ Some p)). o.legal.clients c p x.2 fd ∙ (descs_stay draw) c ((other_client draw) c x.0) fd)
      (replaced_back eqb itself alike v.clients w.clients o.world.client (single_clients draw) c p is)
    where
      mine : (y : ClientPart) → Has (c, y) v.clients → client_after e l.fds c y ≡ p → Dec (f.client ≡ c) → fin.get p.fds fd ≡ desc_at after c fd
      mine y x go (yes s) =
          let q : p.fds ≡ l.fds = ap (λ (z : ClientPart). z.fds) (sym go) ∙ ap (λ b. (cond b (record y { entries = y.entries ++ e ∷ []; fds = l.fds; asked = None }) y).fds) (eq-eqb f.client c s) in
          ap (λ z. fin.get z fd) q ∙ d.fds fd ∙ ap (λ n. desc_at after n fd) s
      mine y x go (no s) =
          let q : y ≡ p = sym (ap (λ b. cond b (record y { entries = y.entries ++ e ∷ []; fds = l.fds; asked = None }) y) (ne_eqb f.client c s)) ∙ go in
          subst (λ (z : ClientPart). fin.get z.fds fd ≡ desc_at after c fd) q ((is_in draw).clients c y x fd ∙ (descs_stay draw) c (λ t. s (sym t)) fd)

  file_fits : (g : ℕ) (p : FilePart) → p.opening ≡ fin.get k.tree.bytes g → p.changes ≡ changes_of g k.tree o.history ++ change_of g (step_in before e) → fin.get after.bytes g ≡ Some p.bytes → FitsFile k.tree longer g p
  file_fits g p a b c = record { opening = a; changes = b ∙ sym (changes_of-push g k.tree o.history e); bytes = ap (λ (t : PosixTree). fin.get t.bytes g) (push draw) ∙ c }

  not_at_start : (g : ℕ) → before.next ≤ g → None ≡ fin.get k.tree.bytes g
  not_at_start g le = ⊎_elim (λ t. let b = o.legal.start.numbered g t in let r = o.legal.next in absurd (omega arith)) (λ n. sym n) (there_or k.tree g)

  files_after : (g : ℕ) (p : FilePart) → next_world.file g ≡ Some p → FitsFile k.tree longer g p
  files_after g p is = ⊎_elim
      (λ x. ⊎_elim
      (λ (y : (q : FilePart) × Has (g, q) v.files × (p ≡ record q { bytes = p.bytes; changes = q.changes ++ change_of g (step_in before (entry_of 0 f)); blocks = p.blocks; quarantine = p.quarantine; spare = p.spare; loaded = p.loaded })).
      let was = o.legal.files g y.0 (o.one_hand.files.agree i v at g y.0 y.1) in
      file_fits g p (ap (λ (z : FilePart). z.opening) y.2 ∙ was.opening) (ap (λ (z : FilePart). z.changes) y.2 ∙ ap (λ c. c ++ change_of g (step_in before e)) was.changes) (d.bytes g p x))
      (λ (y : (g ≡ before.next) × (p ≡ new_file)).
      file_fits g p (ap (λ (z : FilePart). z.opening) y.1 ∙ not_at_start g (omega (arith, y.0)))
      (ap (λ (z : FilePart). z.changes) y.1 ∙ (λ j. sym (o.legal.unborn g (omega (arith, y.0))) j ++ sym ((unborn_unchanged draw) g (omega (arith, y.0))) j))
      (d.bytes g p x))
      (d.files g p x))
      (λ (x : (count eqb g v.files ≡ 0) × (count eqb g l.files ≡ 0) × (o.world.file g ≡ Some p)).
      let was = o.legal.files g p x.2 in
      let there : is_some (fin.get before.bytes g) ≡ true = ap is_some was.bytes in
      file_fits g p was.opening (was.changes ∙ sym (ap (λ c. changes_of g k.tree o.history ++ c) ((unchanged draw) g x.0 there) ∙ append-nil _)) (sym ((file_stays draw) g x.0 there) ∙ was.bytes))
      (replaced_back eqb itself alike v.files l.files o.world.file d.single g p is)

  there_after : (g : ℕ) → present (next_world.file g) ≡ one (is_some (fin.get after.bytes g))
  there_after g = held (dec_le 1 (count eqb g v.files))
    where
      absent : count eqb g v.files ≡ 0 → fin.get before.bytes g ≡ None → Dec (1 ≤ count eqb g l.files) → present (next_world.file g) ≡ one (is_some (fin.get after.bytes g))
      absent z n (yes c) = replaced_count eqb itself alike v.files l.files o.world.file d.single g (omega arith) ∙ d.own g (inr n)
      absent z n (no c) =
          let a : present (next_world.file g) ≡ present (o.world.file g) = ap present (replaced_else eqb itself alike v.files l.files o.world.file g z (omega arith)) in
          let b = o.legal.there g in let t : one (is_some (fin.get before.bytes g)) ≡ 0 = ap (λ x. one (is_some x)) n in let y = d.own g (inr n) in omega arith

      held : Dec (1 ≤ count eqb g v.files) → present (next_world.file g) ≡ one (is_some (fin.get after.bytes g))
      held (yes c) = replaced_count eqb itself alike v.files l.files o.world.file d.single g (omega arith) ∙ d.own g (inl c)
      held (no c) = ⊎_elim
          (λ t. ap present (replaced_else eqb itself alike v.files l.files o.world.file g (omega arith) (d.other g (omega arith) t)) ∙ o.legal.there g ∙ ap (λ x. one (is_some x)) ((file_stays draw) g (omega arith) t))
          (λ n. absent (omega arith) n (dec_le 1 (count eqb g l.files)))
          (there_or before g)

  names_after : FitsNames k.tree longer next_world.names
  names_after = ⊎_elim
      (λ (x : (count only_one tt w.names ≡ 0) × (next_world.names ≡ o.world.names)).
      let z : count only_one tt v.names ≡ 0 = sym (m.names tt) ∙ x.0 in
      let same = (names_same draw) z in
      subst (FitsNames k.tree longer) (sym x.1) (record {
        opening = o.legal.names.opening;
        changes = o.legal.names.changes ∙ sym (name_changes-push k.tree o.history e ∙ ap (λ c. name_changes k.tree o.history ++ c) ((names_unchanged draw) z) ∙ append-nil _);
        paths = o.legal.names.paths ∙ same.0 ∙ sym (ap (λ (t : PosixTree). t.paths) (push draw));
        next = o.legal.names.next ∙ same.1 ∙ sym (ap (λ (t : PosixTree). t.next) (push draw));
      }))
      (λ (x : (q : NamesPart) × Has (tt, q) w.names × (next_world.names ≡ q)).
      let y = d.names tt x.0 x.1 in
      let was : o.world.names ≡ y.0 = names_are views i v w at o.world o.one_hand tt y.0 y.1 in
      subst (FitsNames k.tree longer) (sym x.2) (record {
        opening = ap (λ (z : NamesPart). z.opening) y.2 ∙ ap (λ (z : NamesPart). z.opening) (sym was) ∙ o.legal.names.opening;
        changes = ap (λ (z : NamesPart). z.changes) y.2 ∙ ap (λ c. c ++ names_by (step_in before e)) (ap (λ (z : NamesPart). z.changes) (sym was) ∙ o.legal.names.changes) ∙ sym (name_changes-push k.tree o.history e);
        paths = d.paths tt x.0 x.1 ∙ sym (ap (λ (t : PosixTree). t.paths) (push draw));
        next = d.next tt x.0 x.1 ∙ sym (ap (λ (t : PosixTree). t.next) (push draw));
      }))
      (value_case w.names o.world.names (names_single views i v w at o.world o.one_hand (names_kept draw)))

  pub history_after : IsOneHistory k longer next_world
  history_after = record {
    start = o.legal.start;
    legal = legal_after;
    tree = subst IsTree (sym (push draw)) (tree_kept draw);
    clients = λ c p is fd. clients_after c p is fd ∙ sym (ap (λ (t : PosixTree). desc_at t c fd) (push draw));
    files = files_after;
    there = λ g. there_after g ∙ sym (ap (λ (t : PosixTree). one (is_some (fin.get t.bytes g))) (push draw));
    names = names_after;
    next = let a = o.legal.next in let b = (rising draw) in let c = ap (λ (t : PosixTree). t.next) (push draw) in omega arith;
    unborn = λ g le.
        let b = (rising draw) in let c = ap (λ (t : PosixTree). t.next) (push draw) in
        changes_of-push g k.tree o.history e ∙ (λ j. o.legal.unborn g (omega arith) j ++ (unborn_unchanged draw) g (omega arith) j);
  }
