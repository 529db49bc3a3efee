-- A store turn that begins is a remake of its hand's parts.
use Rattle.std.proofs.Common.{◌≡◌, ℕ, ◌≤◌, List, [], ◌∷◌, length, sym, refl, ap, ◌∙◌, subst, inl, inr, ⊎_elim, arith}
use Rattle.std.specs.FinMap as fin
use Rattle.ufs_hand_laws.specs.Owned.{Has, count}
use Rattle.ufs_hand_laws.specs.Parts.{FilePart, NamesPart, StorePart, View, Start, only_one, uses, committed}
use Rattle.ufs_hand_laws.specs.Explained.{Showing}
use Rattle.ufs_hand_laws.specs.DiskBytes.{block_on}
use Rattle.ufs_hand_laws.specs.Marks.{value_after, IsSingle, StoreGoes, NamesGo, IsTurn, RemakesOn, MayRemake}
use Rattle.ufs_hand_laws.specs.Events.{IsLent, turn_begun, turning}
use Rattle.ufs_hand_laws.proofs.Happening.Staying.{same_file, names_here, answers_stay, blocks_stay, numbers_stay, disk_stays, same_parts_keep, same_parts_know, same_parts_load}

module _ (S : Showing) (k : Start) (n : ℕ) (v : View) (s0 : StorePart) (has : v.store ≡ (tt, s0) ∷ []) (lent : List (ℕ × ℕ)) (lent_names : ℕ) (l : IsLent v lent lent_names) where
  abbrev turned : View
  turned = turning n lent lent_names s0 v

  module _ (one : IsSingle v) (s t : StorePart) (p q : NamesPart) (store : StoreGoes v turned s t) (names : NamesGo v turned p q) where
    was : s ≡ s0
    was = store.0 ∙ ap (λ l. value_after l s) has

    is : t ≡ turn_begun n lent lent_names s
    is = store.1 ∙ ap (λ z. turn_begun n lent lent_names z) (sym was)

    names_stay : q ≡ p
    names_stay = names.1 ∙ sym names.0

    lent_few : lent_names ≤ length p.changes
    lent_few = ⊎_elim (λ e. omega arith) (λ (x : (u : NamesPart) × Has (tt, u) v.names × (lent_names ≡ length u.changes)). let e = ap (λ (u : NamesPart). length u.changes) (names_here v one p x.0 names.0 x.1) in let c = x.2 in omega arith) l.names

    file_here : (g : ℕ) (x y : FilePart) → Has (g, x) v.files → Has (g, y) v.files → x ≡ y
    file_here = same_file v one

    turns : IsTurn S k n v s t p
    turns = record {
      through = [];
      last = inl (ap (λ (z : StorePart). z.state) is);
      mark = ap (λ (z : StorePart). z.mark) is;
      past = ap (λ (z : StorePart). z.past) is;
      lent = λ g m h. let x = l.files g m (subst (Has (g, m)) (ap (λ (z : StorePart). z.lent) is) h) in (x.0, x.1, (let e = x.2 in omega arith));
      lent_names = let a = ap (λ (z : StorePart). z.lent_names) is in let b = lent_few in omega arith;
      inside = λ visible h known c sh x none. absurd none;
      end = λ visible h known c sh. subst (λ (z : StorePart). S.Shows k.tree h (committed z) z.names z.paths z.state) (sym is) sh;
    }

    pub turn_on : RemakesOn S k n v turned s t p q
    turn_on = record {
      kept = blocks_stay v turned s t p q (same_parts_keep v turned file_here) (λ g bs e. ap (λ (z : StorePart). fin.get z.extents g) (sym is) ∙ e)
          (λ g bs h. subst (λ (u : NamesPart). Has (g, bs) u.dropped) (sym names_stay) h)
          (λ kept b h. subst (λ (u : NamesPart). Has b u.blocks) (sym names_stay) (kept b (subst (λ (z : StorePart). Has b z.dirs) is h)));
      rise = numbers_stay v turned s t p q (λ g. ap (λ z. committed z g) is) (ap (λ (z : StorePart). z.names) is) (same_parts_know v turned file_here)
          (ap (λ (u : NamesPart). u.known) names_stay) (ap (λ (u : NamesPart). u.born) names_stay);
      disk = λ visible. disk_stays k v turned s t (λ b z m. ap (λ (z : StorePart). block_on z.state b) is) (same_parts_load v turned file_here) (λ g x a place b i o. inr (ap (λ (z : StorePart). block_on z.state b) is));
      shown = inr turns;
      answers = answers_stay v turned s t refl refl refl (ap (λ (z : StorePart). z.faults) is) (ap (λ (z : StorePart). z.stop) is) (ap (λ (z : StorePart). z.shortages) is);
    }

  pub turn_remakes : MayRemake S k n v turned
  turn_remakes = record {
    clients = refl;
    asked = refl;
    clock = refl;
    seen = refl;
    file_names = λ g. refl;
    pool_names = λ g. refl;
    has_names = λ u. refl;
    has_store = λ u. ap (count only_one u) (sym has);
    uses_stay = λ b. ap (λ l. uses b (record v { store = l })) (sym has);
    files = λ g y h. (y, h, refl);
    names = λ u q h. (q, h, refl);
    on = turn_on;
  }
