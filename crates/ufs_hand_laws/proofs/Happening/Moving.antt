-- Blocks that move are a remake of their hand's parts.
use Rattle.std.proofs.Common.{◌≡◌, ℕ, List, Some, sym, refl, ap, ◌∙◌, subst, inl, inr, ⊎_elim, arith}
use Rattle.std.specs.FinMap as fin
use Rattle.ufs_hand_laws.specs.Owned.{Has, count}
use Rattle.ufs_hand_laws.specs.Parts.{FilePart, NamesPart, StorePart, View, Start, only_one, committed}
use Rattle.ufs_hand_laws.specs.Explained.{Showing}
use Rattle.ufs_hand_laws.specs.DiskBytes.{block_on}
use Rattle.ufs_hand_laws.specs.Marks.{value_after, IsSingle, StoreGoes, NamesGo, RemakesOn, MayRemake}
use Rattle.ufs_hand_laws.specs.Events.{IsFileMoved, AreNamesMoved, Moved, moved, MayMove}
use Rattle.ufs_hand_laws.proofs.Exchange.{value_case}
use Rattle.ufs_hand_laws.proofs.Happening.Staying.{same_file, names_here, store_here, with_unassigned, answers_stay, quiet, blocks_stay, numbers_stay, disk_stays}

module _ (S : Showing) (k : Start) (n : ℕ) (v : View) (m : Moved) (may : MayMove v m) where
  abbrev w : View
  w = moved n m v

  module _ (one : IsSingle v) (s t : StorePart) (p q : NamesPart) (store : StoreGoes v w s t) (names : NamesGo v w p q) where
    file_moved : (g : ℕ) (x y : FilePart) → Has (g, x) v.files → Has (g, y) m.files → IsFileMoved x y
    file_moved g x y a b = let z = may.files g y b in subst (λ u. IsFileMoved u y) (same_file v one g z.0 x z.1 a) z.2

    store_moved : t ≡ record s { unassigned = t.unassigned }
    store_moved = ⊎_elim
        (λ (x : (count only_one tt m.store ≡ 0) × (value_after m.store s ≡ s)). let e = store.1 ∙ x.1 in e ∙ with_unassigned s s.unassigned t.unassigned (sym (ap (λ (z : StorePart). z.unassigned) e)))
        (λ (x : (u : StorePart) × Has (tt, u) m.store × (value_after m.store s ≡ u)).
        let e = store.1 ∙ x.2 in let z = may.store tt x.0 x.1 in
        subst (λ (u : StorePart). u ≡ record s { unassigned = u.unassigned }) (sym e) (subst (λ (u : StorePart). x.0 ≡ record u { unassigned = x.0.unassigned }) (sym (store_here v one s z.0 store.0 z.1)) z.2))
        (value_case m.store s (let a = one.store in let b = may.has_store tt in omega arith))

    names_moved : AreNamesMoved p q
    names_moved = ⊎_elim
        (λ (x : (count only_one tt m.names ≡ 0) × (value_after m.names p ≡ p)). subst (AreNamesMoved p) (sym (names.1 ∙ x.1)) (record { same = refl; dropped = λ g bs h. h; blocks = λ b h. h }))
        (λ (x : (u : NamesPart) × Has (tt, u) m.names × (value_after m.names p ≡ u)).
        let z = may.names tt x.0 x.1 in
        subst (AreNamesMoved p) (sym (names.1 ∙ x.2)) (subst (λ u. AreNamesMoved u x.0) (sym (names_here v one p z.0 names.0 z.1)) z.2))
        (value_case m.names p (let a = one.names in let b = may.has_names tt in omega arith))

    extents_same : (g : ℕ) (bs : List ℕ) → fin.get t.extents g ≡ Some bs → fin.get s.extents g ≡ Some bs
    extents_same g bs e = ap (λ (x : StorePart). fin.get x.extents g) (sym store_moved) ∙ e

    number_same : (g : ℕ) → committed t g ≡ committed s g
    number_same g = ap (λ x. committed x g) store_moved

    state_same : (b : ℕ) → block_on t.state b ≡ block_on s.state b
    state_same b = ap (λ (x : StorePart). block_on x.state b) store_moved

    pub moves_on : RemakesOn S k n v w s t p q
    moves_on = record {
      kept = blocks_stay v w s t p q (λ g x y a b. (file_moved g x y a b).kept) extents_same names_moved.dropped (λ was b h. names_moved.blocks b (was b (subst (λ (x : StorePart). Has b x.dirs) store_moved h)));
      rise = numbers_stay v w s t p q number_same (ap (λ (x : StorePart). x.names) store_moved)
          (λ g x y a b. let e = (file_moved g x y a b).same in (ap (λ (u : FilePart). u.known) e, ap (λ (u : FilePart). u.born) e)) (ap (λ (u : NamesPart). u.known) names_moved.same) (ap (λ (u : NamesPart). u.born) names_moved.same);
      disk = λ visible. disk_stays k v w s t (λ b z l. state_same b) (λ g x y a b. (file_moved g x y a b).loaded) (λ g x a place b i o. inr (state_same b));
      shown = inl (quiet s t store_moved);
      answers = answers_stay v w s t refl refl refl (ap (λ (x : StorePart). x.faults) store_moved) (ap (λ (x : StorePart). x.stop) store_moved) (ap (λ (x : StorePart). x.shortages) store_moved);
    }

  pub move_remakes : MayRemake S k n v w
  move_remakes = record {
    clients = refl;
    asked = refl;
    clock = refl;
    seen = refl;
    file_names = may.file_names;
    pool_names = may.pool_names;
    has_names = may.has_names;
    has_store = may.has_store;
    uses_stay = may.uses_stay;
    files = λ g y h. let z = may.files g y h in (z.0, z.1, file_same z.0 y z.2.same);
    names = λ u q h. let z = may.names u q h in (z.0, z.1, names_same z.0 q z.2.same);
    on = moves_on;
  }
    where
      file_same : (x y : FilePart) → y ≡ record x { blocks = y.blocks; quarantine = y.quarantine; spare = y.spare; loaded = y.loaded } → y ≡ record x { blocks = y.blocks; quarantine = y.quarantine; spare = y.spare; loaded = y.loaded; born = y.born; known = y.known }
      file_same x y e = e ∙ (λ j. record x { blocks = y.blocks; quarantine = y.quarantine; spare = y.spare; loaded = y.loaded; born = sym (ap (λ (u : FilePart). u.born) e) j; known = sym (ap (λ (u : FilePart). u.known) e) j })

      names_same : (x y : NamesPart) → y ≡ record x { blocks = y.blocks; dropped = y.dropped; spare = y.spare } → y ≡ record x { born = y.born; blocks = y.blocks; dropped = y.dropped; spare = y.spare; known = y.known }
      names_same x y e = e ∙ (λ j. record x { blocks = y.blocks; dropped = y.dropped; spare = y.spare; born = sym (ap (λ (u : NamesPart). u.born) e) j; known = sym (ap (λ (u : NamesPart). u.known) e) j })
