-- A commit of a file is a remake of its hand's parts.
use Rattle.std.proofs.Common.{◌≡◌, ℕ, eqb, List, [], ◌∷◌, length, Some, unwrap_or, sym, refl, ap, ◌∙◌, subst, inl, inr, ⊎_elim, arith}
use Rattle.std.specs.Prelude.{slice_get}
use Rattle.std.specs.FinMap as fin
use Rattle.std.specs.FinMap.{nat_cmp-IsAntisymmetric}
use Rattle.std.specs.Cmp.{nat_cmp_total}
use Rattle.ufs_model.proofs.Facts.Lookups.{inserted_here, inserted_else}
use Rattle.ufs_hand_laws.specs.Owned.{Has, count, weigh}
use Rattle.ufs_hand_laws.specs.Parts.{Cells, FilePart, NamesPart, StorePart, View, Start, only_one, file_uses, store_uses, committed}
use Rattle.ufs_hand_laws.specs.Explained.{Showing}
use Rattle.ufs_hand_laws.specs.DiskBytes.{is_loaded}
use Rattle.ufs_hand_laws.specs.Marks.{value_after, IsSingle, StoreGoes, NamesGo, RemakesOn, MayRemake}
use Rattle.ufs_hand_laws.specs.Events.{file_committed, committed_part, committing, MayCommitFile}
use Rattle.ufs_hand_laws.proofs.Owning.{same_some, count_has}
use Rattle.ufs_hand_laws.proofs.Keys.{itself, alike}
use Rattle.ufs_hand_laws.proofs.Happening.Staying.{answers_stay, disk_stays, times_append}

module _ (S : Showing) (k : Start) (n : ℕ) (v : View) (g : ℕ) (x : FilePart) (s0 : StorePart) (through : List Cells) (state : Cells) (may : MayCommitFile S k n v g x s0 through state) where
  abbrev commits : View
  commits = committing n g x through state s0 v

  abbrev made : StorePart → StorePart
  made s = file_committed n g x through state s

  mine : (h : ℕ) (z : FilePart) → Has (h, z) v.files → (h ≡ g) × (z ≡ x)
  mine h z a = ⊎_elim (λ (e : (h, z) ≡ (g, x)). (ap (λ (q : ℕ × FilePart). q.0) e, ap (λ (q : ℕ × FilePart). q.1) e)) (λ e. absurd e) (subst (Has {A = ℕ × FilePart} (h, z)) may.file a)

  new : (h : ℕ) (z : FilePart) → Has (h, z) commits.files → (h ≡ g) × (z ≡ committed_part x)
  new h z a = ⊎_elim (λ (e : (h, z) ≡ (g, committed_part x)). (ap (λ (q : ℕ × FilePart). q.0) e, ap (λ (q : ℕ × FilePart). q.1) e)) (λ e. absurd e) a

  there : Has (g, x) v.files
  there = subst (Has {A = ℕ × FilePart} (g, x)) (sym may.file) (inl refl)

  apart : (h : ℕ) → count eqb h v.files ≡ 0 → h ≡ g → ⊥
  apart h z e = let c = count_has eqb itself alike g x v.files there in let d : count eqb h v.files ≡ count eqb g v.files = ap (λ y. count eqb y v.files) e in absurd (omega arith)

  number_here : (s : StorePart) (h : ℕ) → h ≡ g → committed (made s) h ≡ length x.changes
  number_here s h e = ap (λ y. unwrap_or (fin.get (fin.insert s.files g (length x.changes)) y) 0) e ∙ ap (λ o. unwrap_or o 0) (inserted_here nat_cmp_total nat_cmp-IsAntisymmetric s.files g (length x.changes))

  number_else : (s : StorePart) (h : ℕ) → (h ≡ g → ⊥) → committed (made s) h ≡ committed s h
  number_else s h ne = ap (λ o. unwrap_or o 0) (inserted_else nat_cmp_total nat_cmp-IsAntisymmetric s.files g (length x.changes) h ne)

  extents_here : (s : StorePart) (h : ℕ) → h ≡ g → fin.get (made s).extents h ≡ Some x.blocks
  extents_here s h e = ap (fin.get (fin.insert s.extents g x.blocks)) e ∙ inserted_here nat_cmp_total nat_cmp-IsAntisymmetric s.extents g x.blocks

  extents_else : (s : StorePart) (h : ℕ) → (h ≡ g → ⊥) → fin.get (made s).extents h ≡ fin.get s.extents h
  extents_else s h ne = inserted_else nat_cmp_total nat_cmp-IsAntisymmetric s.extents g x.blocks h ne

  module _ (one : IsSingle v) (s t : StorePart) (p q : NamesPart) (store : StoreGoes v commits s t) (names : NamesGo v commits p q) where
    same_store : s ≡ s0
    same_store = store.0 ∙ ap (λ l. value_after l s) may.store

    same_names' : q ≡ p
    same_names' = names.1 ∙ sym names.0

    -- what follows is shown of the store's part as the hand has it
    pub commits_here : RemakesOn S k n v commits s0 (made s0) p p
    commits_here = record {
      kept = record {
        live = λ h z y a b kept bs c ext i.
            let e = new h y b in
            let same : Some x.blocks ≡ Some bs = sym (extents_here s0 h e.0) ∙ ext in
            inl (subst (λ (u : FilePart). Has c u.blocks) (sym e.1) (subst (Has c) (sym (same_some x.blocks bs same)) i));
        away = λ h bs z e. sym (extents_else s0 h (apart h z)) ∙ e;
        dropped = λ h z kept bs c ext i. kept bs c (sym (extents_else s0 h (apart h z)) ∙ ext) i;
        dirs = λ kept b i. kept b i;
      };
      rise = record {
        others = λ h z. number_else s0 h (apart h z);
        made = λ h z a m. let e = mine h z a in let d = number_here s0 h e.0 in let c = ap (λ (u : FilePart). length u.changes) e.1 in (omega arith, omega arith);
        only_born = λ h z a. let e = mine h z a in inr (ap (λ (u : FilePart). u.born) e.1 ∙ may.born);
        names_made = λ m. (omega arith, m);
        known = λ h z y a b m few.
            let e = mine h z a in let c = new h y b in let d = number_here s0 h e.0 in
            let f : y.known ≡ length x.changes = ap (λ (u : FilePart). u.known) c.1 in
            (let u = ap (λ (u : FilePart). length u.changes) e.1 in (omega arith, omega arith));
        born = λ h z y a b e. inl (ap (λ (u : FilePart). u.born) (mine h z a).1 ∙ sym (ap (λ (u : FilePart). u.born) (new h y b).1) ∙ e);
        names_known = λ m _. (omega arith, m);
        names_born = λ h i. inl i;
      };
      disk = λ visible. disk_stays k v commits s0 (made s0) (may.others visible)
          (λ h z y a b place c got out.
          let e = (mine h z a).1 in let f = (new h y b).1 in (
            ap (λ (u : FilePart). slice_get u.blocks place) e ∙ ap (λ (u : FilePart). slice_get u.blocks place) (sym f) ∙ got,
            ap (λ u. is_loaded u place) e ∙ ap (λ u. is_loaded u place) (sym f) ∙ out,
          ))
          (λ h z a place b i o. let e = sym (mine h z a).1 in inr (may.own visible place b (ap (λ (u : FilePart). slice_get u.blocks place) e ∙ i) (ap (λ u. is_loaded u place) e ∙ o)));
      shown = inr (record {
        through = through;
        last = may.last;
        mark = refl;
        past = refl;
        lent = λ h m a. ⊎_elim (λ (e : (h, m) ≡ (g, length x.changes)).
            (x, subst (λ y. Has (y, x) v.files) (sym (ap (λ (q : ℕ × ℕ). q.0) e)) there, (let c = ap (λ (q : ℕ × ℕ). q.1) e in omega arith))) (λ e. absurd e) a;
        lent_names = omega arith;
        inside = λ visible h known had shows d i. may.inside visible h (λ e. had.files g x there (subst (Has {A = ℕ × ℕ} (g, length x.changes)) e (inl refl))) shows d i;
        end = λ visible h known has shows. may.end visible h (has.files g x there) shows;
      });
      answers = answers_stay v commits s0 (made s0) refl refl refl refl refl refl;
    }

    pub commits_on : RemakesOn S k n v commits s t p q
    commits_on = subst (λ (u : StorePart × StorePart × NamesPart). RemakesOn S k n v commits u.0 u.1 p u.2) (λ j. (sym same_store j, sym store.1 j, sym same_names' j)) commits_here

  pub commit_remakes : MayRemake S k n v commits
  commit_remakes = record {
    clients = refl;
    asked = refl;
    clock = refl;
    seen = refl;
    file_names = λ h. ap (count eqb h) (sym may.file);
    pool_names = λ h. refl;
    has_names = λ u. refl;
    has_store = λ u. ap (count only_one u) (sym may.store);
    uses_stay = λ b.
        let a = times_append b s0.unassigned x.quarantine in
        let f : weigh (file_uses b) v.files ≡ weigh (file_uses b) ((g, x) ∷ []) = ap (weigh (file_uses b)) may.file in
        let s : weigh (store_uses b) v.store ≡ weigh (store_uses b) ((tt, s0) ∷ []) = ap (weigh (store_uses b)) may.store in
        omega arith;
    files = λ h y a.
        let e = new h y a in (
          x,
          subst (λ i. Has (i, x) v.files) (sym e.0) there,
          e.1 ∙ (λ j. record x {
            quarantine = sym (ap (λ (u : FilePart). u.quarantine) e.1) j;
            known = sym (ap (λ (u : FilePart). u.known) e.1) j;
            blocks = sym (ap (λ (u : FilePart). u.blocks) e.1) j;
            spare = sym (ap (λ (u : FilePart). u.spare) e.1) j;
            loaded = sym (ap (λ (u : FilePart). u.loaded) e.1) j;
            born = sym (ap (λ (u : FilePart). u.born) e.1) j;
          }),
        );
    names = λ u q a. (q, a, refl);
    on = commits_on;
  }
