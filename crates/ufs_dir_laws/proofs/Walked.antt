-- A walk through a table and one through a catalog go on alike.
use Rattle.std.proofs.Common.{◌≡◌, ℕ, List, [], ◌∷◌, Bool, true, false, Option, Some, None, ap, sym, refl, subst, ◌∙◌}
use Rattle.std.specs.Prelude.{◌==◌, if◌then◌else◌, flat_map}
use Rattle.std.specs.Option.{option_map}
use Rattle.ufs_layout.specs.DentryForm.{DentryForm, is_named}
use Rattle.ufs_layout.specs.declared.geometry.Geometry.{Geometry}
use Rattle.ufs_dirs.specs.Directory.{entry_of, has_name}
use Rattle.ufs_dir_tree.specs.DirTable.{DirTable, found_of, step, walk_from, found_at}
use Rattle.ufs_dir_tree.specs.declared.found.Found.TheVariants.{Dir, File}
use Rattle.ufs_dir_tree.proofs.WalkLemmas.{walk_none}
use Rattle.std.proofs.lemmas.Bool.{and_parts}
use Rattle.ufs_image.proofs.Lists.{found-some}
use Rattle.ufs_image.specs.Nodes.{blocks_of}
use Rattle.ufs_image.specs.Catalog.{Catalog, IsInode, slots_in}
use Rattle.ufs_image.specs.Sound.{IsSoundCatalog, FitsDentry}
use Rattle.ufs_image.specs.Walks as cat
use Rattle.ufs_dir_laws.specs.Meets.{found_in, HasSlotsOf}

cat_none : (c : Catalog) (names : List (List ℕ)) → cat.walk_from c None names ≡ None
cat_none c [] = refl
cat_none c (name ∷ names) = cat_none c names

module _ (g : Geometry) (c : Catalog) (t : DirTable) (sound : IsSoundCatalog g c) (has : HasSlotsOf g c t) where
  -- an entry of a directory fits
  fits : (k : ℕ) (name : List ℕ) (d : DentryForm) → IsInode g k → entry_of (slots_in c k) name ≡ Some d → FitsDentry g c d
  fits k name d inside e =
      let there = found-some (has_name name) (slots_in c k) d e in
      sound.fit k there.0 d (record { in_range = inside; there = there.1; named = (and_parts (is_named d) _ there.2).0 })

  -- and names what its inode is
  found_is : (d : DentryForm) → FitsDentry g c d → found_of d ≡ found_in c d.inode
  found_is d fit = ap (λ k. if k == 2 then Dir d.inode else File d.inode) (sym fit.kind)

  -- one step
  steps : (k : ℕ) (name : List ℕ) → IsInode g k → step t (Some (found_in c k)) name ≡ option_map (found_in c) (cat.child_of c k name)
  steps k name inside = by ((c.forms k).kind == 2) refl
    where
      named : (o : Option DentryForm) → entry_of (slots_in c k) name ≡ o → option_map found_of o ≡ option_map (found_in c) (option_map (λ (d : DentryForm). d.inode) o)
      named None e = refl
      named (Some d) e = ap Some (found_is d (fits k name d inside e))

      by : (b : Bool) → ((c.forms k).kind == 2) ≡ b → step t (Some (found_in c k)) name ≡ option_map (found_in c) (cat.child_of c k name)
      by true e =
          ap (λ b. step t (Some (if b then Dir k else File k)) name) e ∙ ap (λ slots. option_map found_of (entry_of slots name)) (has k inside)
          ∙ named (entry_of (slots_in c k) name) refl
      by false e =
          ap (λ b. step t (Some (if b then Dir k else File k)) name) e
          ∙ sym (ap (λ b. option_map (found_in c) (option_map (λ (d : DentryForm). d.inode) (entry_of (if b then flat_map c.slots (blocks_of (c.forms k)) else []) name))) e)

  child_inside : (k : ℕ) (name : List ℕ) (j : ℕ) → IsInode g k → cat.child_of c k name ≡ Some j → IsInode g j
  child_inside k name j inside e = by (entry_of (slots_in c k) name) refl e
    where
      by : (o : Option DentryForm) → entry_of (slots_in c k) name ≡ o → option_map (λ (d : DentryForm). d.inode) (entry_of (slots_in c k) name) ≡ Some j → IsInode g j
      by None at e = let none = ap (option_map (λ (d : DentryForm). d.inode)) at in absurd cc
      by (Some d) at e =
          let same : Some d.inode ≡ Some j = sym (ap (option_map (λ (d : DentryForm). d.inode)) at) ∙ e in
          let number : d.inode ≡ j = cc in
          let fit = fits k name d inside at in
          subst (λ (n : ℕ). IsInode g n) number fit.in_range

  walks : (names : List (List ℕ)) (k : ℕ) → IsInode g k → walk_from t (Some (found_in c k)) names ≡ option_map (found_in c) (cat.walk_from c (Some k) names)
  walks [] k inside = refl
  walks (name ∷ names) k inside = ap (λ o. walk_from t o names) (steps k name inside) ∙ by (cat.child_of c k name) refl (λ j there. walks names j there)
    where
      by : (o : Option ℕ) → cat.child_of c k name ≡ o → ((j : ℕ) → IsInode g j → walk_from t (Some (found_in c j)) names ≡ option_map (found_in c) (cat.walk_from c (Some j) names))
          → walk_from t (option_map (found_in c) (cat.child_of c k name)) names ≡ option_map (found_in c) (cat.walk_from c (cat.child_of c k name) names)
      by None e more = ap (λ o. walk_from t (option_map (found_in c) o) names) e ∙ walk_none t names ∙ sym (ap (option_map (found_in c)) (cat_none c names)) ∙ ap (λ o. option_map (found_in c) (cat.walk_from c o names)) (sym e)
      by (Some j) e more = ap (λ o. walk_from t (option_map (found_in c) o) names) e ∙ more j (child_inside k name j inside e) ∙ ap (λ o. option_map (found_in c) (cat.walk_from c o names)) (sym e)

  pub meets : IsInode g 1 → (names : List (List ℕ)) → found_at t names ≡ option_map (found_in c) (cat.inode_of c names)
  meets first names = ap (λ k. walk_from t (Some (if k == 2 then Dir 1 else File 1)) names) (sym sound.root) ∙ walks names 1 first
