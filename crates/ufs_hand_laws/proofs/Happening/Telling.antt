-- What a file is told of commits is a remake of its hand's parts.
use Rattle.std.proofs.Common.{◌≡◌, ℕ, ◌≤◌, List, sym, refl, ap, ◌∙◌, subst, inl, inr, ⊎_elim, arith}
use Rattle.std.specs.Prelude.{slice_get}
use Rattle.std.specs.FinMap as fin
use Rattle.ufs_hand_laws.specs.Owned.{Has}
use Rattle.ufs_hand_laws.specs.Parts.{FilePart, NamesPart, StorePart, View, Start, committed}
use Rattle.ufs_hand_laws.specs.Explained.{Showing}
use Rattle.ufs_hand_laws.specs.DiskBytes.{block_on, is_loaded}
use Rattle.ufs_hand_laws.specs.Marks.{value_after, IsSingle, StoreGoes, NamesGo, RemakesOn, MayRemake}
use Rattle.ufs_hand_laws.specs.Events.{IsFileTold, told_files, MayTell}
use Rattle.ufs_hand_laws.proofs.Happening.Staying.{same_file, answers_stay, blocks_stay, disk_stays}

module _ (S : Showing) (k : Start) (n : ℕ) (v : View) (s0 : StorePart) (fs : List (ℕ × FilePart)) (may : MayTell v s0 fs) where
  abbrev tells : View
  tells = told_files n fs v

  module _ (one : IsSingle v) (s t : StorePart) (p q : NamesPart) (store : StoreGoes v tells s t) (names : NamesGo v tells p q) where
    still : t ≡ s
    still = store.1 ∙ sym store.0

    known_is : s ≡ s0
    known_is = store.0 ∙ ap (λ l. value_after l s) may.store

    same_names : q ≡ p
    same_names = names.1 ∙ sym names.0

    file_told : (g : ℕ) (x y : FilePart) → Has (g, x) v.files → Has (g, y) fs → IsFileTold s g x y
    file_told g x y a b = let z = may.told g y b in subst (λ u. IsFileTold u g x y) (sym known_is) (subst (λ u. IsFileTold s0 g u y) (same_file v one g z.0 x z.1 a) z.2)

    pub tells_on : RemakesOn S k n v tells s t p q
    tells_on = record {
      kept = blocks_stay v tells s t p q
          (λ g x y a b c h. let e = (file_told g x y a b).0 in ⊎_elim (λ z. inl (subst (Has c) (sym (ap (λ (u : FilePart). u.blocks) e)) z)) (λ z. inr (subst (Has c) (sym (ap (λ (u : FilePart). u.quarantine) e)) z)) h)
          (λ g bs e. ap (λ (z : StorePart). fin.get z.extents g) (sym still) ∙ e) (λ g bs h. subst (λ (u : NamesPart). Has (g, bs) u.dropped) (sym same_names) h)
          (λ kept b h. subst (λ (u : NamesPart). Has b u.blocks) (sym same_names) (kept b (subst (λ (z : StorePart). Has b z.dirs) still h)));
      rise = record {
        others = λ g z. ap (λ z. committed z g) still;
        made = λ g x a m. let e = ap (λ z. committed z g) still in (omega arith, omega arith);
        only_born = λ g x a. inl (ap (λ z. committed z g) still);
        names_made = λ m. let e = ap (λ (z : StorePart). z.names) still in (omega arith, omega arith);
        known = λ g x y a b m _.
            let c = ap (λ z. committed z g) still in
            ⊎_elim (λ (e : y.known ≡ x.known). (le_of x.known y.known (committed s g) (committed t g) m e c)) (λ (e : y.known ≡ committed s g). rise_of x.known y.known (committed s g) (committed t g) m e c) (file_told g x y a b).1;
        born = λ g x y a b e. inl (sym (ap (λ (u : FilePart). u.born) (file_told g x y a b).0) ∙ e);
        names_known = λ m _. let e = ap (λ (u : NamesPart). u.known) same_names in let c = ap (λ (z : StorePart). z.names) still in (omega arith, omega arith);
        names_born = λ g h. inl (subst (λ (u : NamesPart). Has g u.born) same_names h);
      };
      disk = λ told. disk_stays k v tells s t (λ b z m. ap (λ (z : StorePart). block_on z.state b) still)
          (λ g x y a b place c there out. let e = (file_told g x y a b).0 in (ap (λ (u : FilePart). slice_get u.blocks place) (sym e) ∙ there, ap (λ u. is_loaded u place) (sym e) ∙ out))
          (λ g x a place b i o. inr (ap (λ (z : StorePart). block_on z.state b) still));
      shown = inl (record {
        mark = ap (λ (x : StorePart). x.mark) still;
        past = ap (λ (x : StorePart). x.past) still;
        lent = ap (λ (x : StorePart). x.lent) still;
        lent_names = ap (λ (x : StorePart). x.lent_names) still;
        state = ap (λ (x : StorePart). x.state) still;
        paths = ap (λ (x : StorePart). x.paths) still;
        names = ap (λ (x : StorePart). x.names) still;
        files = λ g. ap (λ x. committed x g) still;
      });
      answers = answers_stay v tells s t refl refl refl (ap (λ (z : StorePart). z.faults) still) (ap (λ (z : StorePart). z.stop) still) (ap (λ (z : StorePart). z.shortages) still);
    }
      where
        le_of : (a b c d : ℕ) → a ≤ c → b ≡ a → d ≡ c → (a ≤ b) × (b ≤ d)
        le_of a b c d l e f = (omega arith, omega arith)

        rise_of : (a b c d : ℕ) → a ≤ c → b ≡ c → d ≡ c → (a ≤ b) × (b ≤ d)
        rise_of a b c d l e f = (omega arith, omega arith)

  pub tell_remakes : MayRemake S k n v tells
  tell_remakes = record {
    clients = refl;
    asked = refl;
    clock = refl;
    seen = refl;
    file_names = may.file_names;
    pool_names = λ g. refl;
    has_names = λ u. refl;
    has_store = λ u. refl;
    uses_stay = may.uses_stay;
    files = λ g y h. let z = may.told g y h in (z.0, z.1, file_same z.0 y z.2.0);
    names = λ u q h. (q, h, refl);
    on = tells_on;
  }
    where
      file_same : (x y : FilePart) → y ≡ record x { known = y.known } → y ≡ record x { blocks = y.blocks; quarantine = y.quarantine; spare = y.spare; loaded = y.loaded; born = y.born; known = y.known }
      file_same x y e = e ∙ (λ j. record x {
        blocks = sym (ap (λ (u : FilePart). u.blocks) e) j;
        quarantine = sym (ap (λ (u : FilePart). u.quarantine) e) j;
        spare = sym (ap (λ (u : FilePart). u.spare) e) j;
        loaded = sym (ap (λ (u : FilePart). u.loaded) e) j;
        born = sym (ap (λ (u : FilePart). u.born) e) j;
        known = y.known;
      })
