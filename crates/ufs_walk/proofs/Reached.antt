-- The inodes at the places of an image are those that walks from the root meet.
use Rattle.std.proofs.Common.{◌≡◌, ℕ, zero, suc, ◌≤◌, inl, inr, List, [], ◌∷◌, ◌++◌, length, map, Bool, true, false, cond, Some, ap, sym, refl, ◌∙◌, subst, arith}
use Rattle.std.specs.Prelude.{IsTrue, T}
use Rattle.std.specs.FinMap as fin
use Rattle.std.specs.FinMap.{FinMap, find, from_entries, get-from_entries, entries_sorted, get-entries}
use Rattle.std.specs.FinMap.Entries.{same_entries}
use Rattle.std.specs.Ordering.{eq_by_cmp}
use Rattle.std.specs.Cmp.{eq_by_cmp_equiv}
use Rattle.std.specs.List.{AllByRecursion}
use Rattle.std.proofs.lemmas.List.{append-nil}
use Rattle.ufs_base.specs.Images.{Image}
use Rattle.ufs_layout.specs.DentryForm.{DentryForm}
use Rattle.ufs_layout.specs.declared.geometry.Geometry.{Geometry}
use Rattle.ufs_image.specs.Catalog.{Catalog, IsInode, IsCatalogOf}
use Rattle.ufs_image.specs.Changes.{IsReached}
use Rattle.ufs_image.specs.Images.{form_at}
use Rattle.ufs_image.specs.Nodes.{NamedSlot}
use Rattle.ufs_image.specs.Opens.{names_in}
use Rattle.ufs_image.specs.Sound.{IsSoundCatalog, HasDentry}
use Rattle.ufs_image.specs.Walks.{child_of, walk_from, inode_of, joined, path_text, ArePieces}
use Rattle.ufs_image.proofs.Depth.{short, root_in_range}
use Rattle.ufs_image.proofs.Found.{Names, first_step, child-some, child_is, names_inode, names_piece, reached, same_some}
use Rattle.ufs_image.proofs.Listed.{listed, is_listed}
use Rattle.ufs_image.proofs.Lists.{IsIn, in_flat_map, from_flat_map, in_map, from_map}
use Rattle.ufs_image.proofs.Texts.{joined-onto, same_texts}
use Rattle.ufs_model.specs.Order.{path_cmp}
use Rattle.ufs_model.proofs.Facts.Lookups.{tied}
use Rattle.ufs_model.proofs.Facts.Orders.{path_total, path_same}
use Rattle.ufs_walk.proofs.Maps.{all_entries}
use Rattle.ufs_walk.specs.Walked.{Place, place_and_below, places_below, places}

-- a place below a directory with this path
record IsMetBelow (c : Catalog) (path : List ℕ) (inode : ℕ) (p : Place) : Type 0 where
  first : List ℕ
  rest : List (List ℕ)
  text : p.0 ≡ path ++ joined (first ∷ rest)
  pieces : ArePieces (first ∷ rest)
  met : walk_from c (Some inode) (first ∷ rest) ≡ Some p.1

-- a place of the image
pub record IsMetAtPlace (c : Catalog) (p : Place) : Type 0 where
  pub names : List (List ℕ)
  pub text : p.0 ≡ path_text names
  pub pieces : ArePieces names
  pub met : inode_of c names ≡ Some p.1

-- ---- maps

-- what is found is in the list
pub found_in : (q : List ℕ) (v : ℕ) (es : List Place) → find path_cmp q es ≡ Some v → IsIn (q, v) es
found_in q v [] e = cc
found_in q v (x ∷ es) e = by (eq_by_cmp path_cmp q x.0) refl e (found_in q v es)
  where
    by : (b : Bool) → eq_by_cmp path_cmp q x.0 ≡ b → cond b (Some x.1) (find path_cmp q es) ≡ Some v → (find path_cmp q es ≡ Some v → IsIn (q, v) es) → IsIn (q, v) (x ∷ es)
    by true t is more = let key = path_same q x.0 (tied (path_cmp q x.0) t) in let value : x.1 ≡ v = cc in let back = sym value in inl (λ i. (key i, back i))
    by false t is more = inr (more is)

-- what is in the list is found, or another with its path
pub in_found : (q : List ℕ) (v : ℕ) (es : List Place) → IsIn (q, v) es → (w : ℕ) × (find path_cmp q es ≡ Some w)
in_found q v [] is = absurd is
in_found q v (x ∷ es) is = by (eq_by_cmp path_cmp q x.0) refl is (in_found q v es)
  where
    by : (b : Bool) → eq_by_cmp path_cmp q x.0 ≡ b → IsIn (q, v) (x ∷ es) → (IsIn (q, v) es → (w : ℕ) × (find path_cmp q es ≡ Some w)) → (w : ℕ) × (cond (eq_by_cmp path_cmp q x.0) (Some x.1) (find path_cmp q es) ≡ Some w)
    by true t is more = (x.1, ap (λ b. cond b (Some x.1) (find path_cmp q es)) t)
    by false t (inl same) more =
        let self : eq_by_cmp path_cmp q q ≡ true = (eq_by_cmp_equiv path_total).refl q in
        let key : q ≡ x.0 = ap (λ (e : Place). e.0) same in
        let clash : false ≡ true = sym t ∙ sym (ap (eq_by_cmp path_cmp q) key) ∙ self in
        absurd (grind (arith, clash))
    by false t (inr there) more = let rest = more there in (rest.0, ap (λ b. cond b (Some x.1) (find path_cmp q es)) t ∙ rest.1)

true_t : (b : Bool) → IsTrue b → T b
true_t true is = tt
true_t false is = absurd (grind (arith, is))

-- sorted pairs are the entries of the map that they give
pub sorted_entries : (ps : List Place) → IsTrue (fin.is_sorted path_cmp ps) → ps ≡ fin.entries (from_entries {R = path_cmp} ps)
sorted_entries ps sorted = same_entries path_cmp path_total path_same ps (fin.entries (from_entries {R = path_cmp} ps)) (true_t (fin.is_sorted path_cmp ps) sorted) (entries_sorted (from_entries {R = path_cmp} ps))
    (λ q. sym (get-from_entries path_total ps q) ∙ get-entries (from_entries {R = path_cmp} ps) q)

all_in : {X : Type 0} (P : X → Type 0) (xs : List X) → ((x : X) → IsIn x xs → P x) → AllByRecursion P xs
all_in P [] each = tt
all_in P (x ∷ xs) each = (each x (inl refl), all_in P xs (λ y there. each y (inr there)))

in_all : {X : Type 0} (P : X → Type 0) (xs : List X) → AllByRecursion P xs → (x : X) → IsIn x xs → P x
in_all P [] all x there = absurd there
in_all P (y ∷ xs) all x (inl same) = subst P (sym same) all.0
in_all P (y ∷ xs) all x (inr there) = in_all P xs all.1 x there

-- ---- places

module _ (g : Geometry) (image : Image) (c : Catalog) (is : IsCatalogOf g image c) (sound : IsSoundCatalog g c) (some : 1 ≤ g.inodes) where
  in_below : (names : List (List ℕ)) (name : List ℕ) (depth : ℕ) (path : List ℕ) (inode at : ℕ) → IsInode g inode → walk_from c (Some inode) (name ∷ names) ≡ Some at
      → length (name ∷ names) ≤ depth → IsIn {X = Place} (path ++ joined (name ∷ names), at) (places_below depth g image path inode)
  in_below names name zero path inode at in_range e deep = absurd (omega (arith, deep))
  in_below [] name (suc depth) path inode at in_range e deep =
      let named = child-some g c sound inode name at in_range e in
      let slot : NamedSlot = (named.place, named.dentry) in
      in_flat_map (place_and_below (places_below depth g image) path) (names_in image inode (form_at g image inode)) slot (path ++ joined (name ∷ []), at)
      (listed g image c is inode named.place named.dentry named.has)
      (inl (λ i. (path ++ 47 ∷ (append-nil name ∙ sym named.name_is) i, sym named.inode_is i)))
  in_below (next ∷ names) name (suc depth) path inode at in_range e deep =
      let step = first_step c (child_of c inode name) (next ∷ names) at e in
      let named = child-some g c sound inode name step.0 in_range step.1 in
      let on : walk_from c (Some step.0) (next ∷ names) ≡ Some at = ap (λ o. walk_from c o (next ∷ names)) (sym step.1) ∙ e in
      let deeper = in_below names next depth (path ++ 47 ∷ name) step.0 at (names_inode g c sound inode name step.0 named) on (omega (arith, deep)) in
      let slot : NamedSlot = (named.place, named.dentry) in
      let text : (path ++ 47 ∷ name) ++ joined (next ∷ names) ≡ path ++ joined (name ∷ next ∷ names) = joined-onto path name (next ∷ names) in
      let name_back = sym named.name_is in
      let inode_back = sym named.inode_is in
      let moved : IsIn {X = Place} (path ++ joined (name ∷ next ∷ names), at) (places_below depth g image (path ++ 47 ∷ named.dentry.name) named.dentry.inode) =
      subst (λ (x : List ℕ × (List ℕ × ℕ)). IsIn {X = Place} (x.0, at) (places_below depth g image (path ++ 47 ∷ x.1.0) x.1.1)) (λ i. (text i, (name_back i, inode_back i))) deeper in
      in_flat_map (place_and_below (places_below depth g image) path) (names_in image inode (form_at g image inode)) slot (path ++ joined (name ∷ next ∷ names), at)
      (listed g image c is inode named.place named.dentry named.has) (inr moved)

  from_below : (depth : ℕ) (path : List ℕ) (inode : ℕ) (p : Place) → IsInode g inode → IsIn p (places_below depth g image path inode) → IsMetBelow c path inode p
  from_below zero path inode p in_range there = absurd there
  from_below (suc depth) path inode p in_range there =
      let from = from_flat_map (place_and_below (places_below depth g image) path) (names_in image inode (form_at g image inode)) p there in
      let has = is_listed g image c is inode from.0.0 from.0.1 in_range from.1 in
      by from.0.0 from.0.1 has from.2 (from_below depth (path ++ 47 ∷ from.0.1.name) from.0.1.inode p (sound.fit inode from.0.0 from.0.1 has).in_range)
    where
      by : (place : ℕ) (d : DentryForm) → HasDentry g c inode place d → IsIn p (place_and_below (places_below depth g image) path (place, d))
          → (IsIn p (places_below depth g image (path ++ 47 ∷ d.name) d.inode) → IsMetBelow c (path ++ 47 ∷ d.name) d.inode p) → IsMetBelow c path inode p
      by place d has (inl same) more =
          let named : Names g c inode d.name d.inode = record { place = place; dentry = d; has = has; name_is = refl; inode_is = refl } in
          record {
            first = d.name;
            rest = [];
            text = ap (λ (x : Place). x.0) same ∙ ap (λ t. path ++ 47 ∷ t) (sym (append-nil d.name));
            pieces = (names_piece g c sound inode d.name d.inode named, tt);
            met = child_is g c sound inode place d has ∙ ap (λ (x : Place). Some x.1) (sym same);
          }
      by place d has (inr there) more =
          let rest = more there in
          let named : Names g c inode d.name d.inode = record { place = place; dentry = d; has = has; name_is = refl; inode_is = refl } in
          record {
            first = d.name;
            rest = rest.first ∷ rest.rest;
            text = rest.text ∙ joined-onto path d.name (rest.first ∷ rest.rest);
            pieces = (names_piece g c sound inode d.name d.inode named, rest.pieces);
            met = ap (λ o. walk_from c o (rest.first ∷ rest.rest)) (child_is g c sound inode place d has) ∙ rest.met;
          }

  -- what a walk meets is among the places
  pub in_places : (names : List (List ℕ)) (at : ℕ) → inode_of c names ≡ Some at → IsIn {X = Place} (path_text names, at) (places g image)
  in_places [] at e = inl (λ i. (47 ∷ [], sym (same_some 1 at e) i))
  in_places (name ∷ names) at e = let most = short g c sound some (name ∷ names) at e in inr (in_below names name g.inodes [] 1 at (root_in_range g c sound some) e (omega (arith, most)))

  -- and each place is what a walk meets
  pub from_places : (p : Place) → IsIn p (places g image) → IsMetAtPlace c p
  from_places p (inl root) = record { names = []; text = ap (λ (x : Place). x.0) root; pieces = tt; met = ap (λ (x : Place). Some x.1) (sym root) }
  from_places p (inr there) = let met = from_below g.inodes [] 1 p (root_in_range g c sound some) there in record { names = met.first ∷ met.rest; text = met.text; pieces = met.pieces; met = met.met }

  -- ---- the pairs that are told

  module _ (ps : List Place) (sorted : IsTrue (fin.is_sorted path_cmp ps)) (same : from_entries {R = path_cmp} ps ≡ from_entries (places g image)) where
    found_same : (q : List ℕ) → find path_cmp q ps ≡ find path_cmp q (places g image)
    found_same q = sym (get-from_entries path_total ps q) ∙ ap (λ (m : FinMap path_cmp ℕ). fin.get m q) same ∙ get-from_entries path_total (places g image) q

    all_reached : AllByRecursion (λ (p : Place). IsReached c p.1) ps
    all_reached =
        subst (AllByRecursion (λ (p : Place). IsReached c p.1)) (ap (λ (m : FinMap path_cmp ℕ). fin.entries m) (sym same) ∙ sym (sorted_entries ps sorted))
        (all_entries (IsReached c) (places g image) (all_in (λ (p : Place). IsReached c p.1) (places g image) (λ p there. let met = from_places p there in record { names = met.names; met = met.met })))

    pub told_reached : (k : ℕ) → IsIn k (map (λ (p : Place). p.1) ps) → IsReached c k
    told_reached k there =
        let from = from_map (λ (p : Place). p.1) ps k there in
        subst (IsReached c) (sym from.2) (in_all (λ (p : Place). IsReached c p.1) ps all_reached from.0 from.1)

    pub reached_told : (k : ℕ) → IsReached c k → IsIn k (map (λ (p : Place). p.1) ps)
    reached_told k reach =
        let here = in_found (path_text reach.names) k (places g image) (in_places reach.names k reach.met) in
        let at : IsIn {X = Place} (path_text reach.names, here.0) (places g image) = found_in (path_text reach.names) here.0 (places g image) here.1 in
        let met = from_places (path_text reach.names, here.0) at in
        let pieces = (reached g c sound 1 reach.names k (root_in_range g c sound some) reach.met).1 in
        let names : met.names ≡ reach.names = same_texts met.names reach.names met.pieces pieces (sym met.text) in
        let equal : here.0 ≡ k = same_some here.0 k (sym met.met ∙ ap (inode_of c) names ∙ reach.met) in
        let told : IsIn {X = Place} (path_text reach.names, here.0) ps = found_in (path_text reach.names) here.0 ps (found_same (path_text reach.names) ∙ here.1) in
        subst (λ n. IsIn n (map (λ (p : Place). p.1) ps)) equal (in_map (λ (p : Place). p.1) ps (path_text reach.names, here.0) told)
