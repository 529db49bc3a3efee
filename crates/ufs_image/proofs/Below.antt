-- What an image's walk lists below a directory is what walks through its catalog meet.
use Rattle.std.proofs.Common.{◌≡◌, ℕ, zero, suc, ◌≤◌, inl, inr, List, [], ◌∷◌, ◌++◌, length, Some, ap, sym, refl, ◌∙◌, subst, arith}
use Rattle.std.proofs.lemmas.List.{append-nil}
use Rattle.ufs_layout.specs.DentryForm.{DentryForm}
use Rattle.ufs_base.specs.Images.{Image}
use Rattle.ufs_image.specs.Images.{form_at}
use Rattle.ufs_image.specs.Nodes.{NamedSlot}
use Rattle.ufs_image.specs.Opens.{PathEntry, node_bytes, names_in, below, entry_and_below}
use Rattle.ufs_layout.specs.declared.geometry.Geometry.{Geometry}
use Rattle.ufs_image.specs.Catalog.{Catalog, IsInode, IsCatalogOf}
use Rattle.ufs_image.specs.Sound.{IsSoundCatalog, HasDentry}
use Rattle.ufs_image.specs.Walks.{child_of, walk_from, joined, ArePieces, node_of}
use Rattle.ufs_image.proofs.Lists.{IsIn, in_flat_map, from_flat_map}
use Rattle.ufs_image.proofs.Texts.{joined-onto}
use Rattle.ufs_image.proofs.Found.{Names, first_step, child-some, child_is, names_inode, names_piece}
use Rattle.ufs_image.proofs.Listed.{form_is, listed, is_listed}

-- an entry of a walk from this directory, whose path is given
pub record IsMet (image : Image) (c : Catalog) (path : List ℕ) (inode : ℕ) (e : PathEntry) : Type 0 where
  pub first : List ℕ
  pub rest : List (List ℕ)
  pub at : ℕ
  pub text : e.0 ≡ path ++ joined (first ∷ rest)
  pub pieces : ArePieces (first ∷ rest)
  pub met : walk_from c (Some inode) (first ∷ rest) ≡ Some at
  pub node : e.1 ≡ node_of image c at

module _ (g : Geometry) (image : Image) (c : Catalog) (is : IsCatalogOf g image c) (sound : IsSoundCatalog g c) where
  node_there : (inode : ℕ) → IsInode g inode → node_bytes image (form_at g image inode) ≡ node_of image c inode
  node_there inode in_range = ap (node_bytes image) (form_is g image c is inode in_range)

  -- what a walk meets is listed, where the depth is enough
  pub in_below : (names : List (List ℕ)) (name : List ℕ) (depth : ℕ) (path : List ℕ) (inode at : ℕ) → IsInode g inode → walk_from c (Some inode) (name ∷ names) ≡ Some at
      → length (name ∷ names) ≤ depth → IsIn (path ++ joined (name ∷ names), node_of image c at) (below depth g image path inode)
  in_below names name zero path inode at in_range e deep = absurd (omega (arith, deep))
  in_below [] name (suc depth) path inode at in_range e deep =
      let named = child-some g c sound inode name at in_range e in
      let at_range = names_inode g c sound inode name at named in
      let slot : NamedSlot = (named.place, named.dentry) in
      in_flat_map (entry_and_below (below depth g image) g image path) (names_in image inode (form_at g image inode)) slot (path ++ joined (name ∷ []), node_of image c at)
      (listed g image c is inode named.place named.dentry named.has)
      (inl (λ i. (path ++ 47 ∷ (append-nil name ∙ sym named.name_is) i, (sym (node_there at at_range) ∙ ap (λ k. node_bytes image (form_at g image k)) (sym named.inode_is)) i)))
  in_below (next ∷ names) name (suc depth) path inode at in_range e deep =
      let step = first_step c (child_of c inode name) (next ∷ names) at e in
      let named = child-some g c sound inode name step.0 in_range step.1 in
      let on : walk_from c (Some step.0) (next ∷ names) ≡ Some at = ap (λ o. walk_from c o (next ∷ names)) (sym step.1) ∙ e in
      let deeper = in_below names next depth (path ++ 47 ∷ name) step.0 at (names_inode g c sound inode name step.0 named) on (omega (arith, deep)) in
      let slot : NamedSlot = (named.place, named.dentry) in
      let text : (path ++ 47 ∷ name) ++ joined (next ∷ names) ≡ path ++ joined (name ∷ next ∷ names) = joined-onto path name (next ∷ names) in
      let name_back = sym named.name_is in
      let inode_back = sym named.inode_is in
      let moved : IsIn (path ++ joined (name ∷ next ∷ names), node_of image c at) (below depth g image (path ++ 47 ∷ named.dentry.name) named.dentry.inode) = subst (λ (x : List ℕ × (List ℕ × ℕ)). IsIn (x.0, node_of image c at) (below depth g image (path ++ 47 ∷ x.1.0) x.1.1)) (λ i. (text i, (name_back i, inode_back i))) deeper in
      in_flat_map (entry_and_below (below depth g image) g image path) (names_in image inode (form_at g image inode)) slot (path ++ joined (name ∷ next ∷ names), node_of image c at)
      (listed g image c is inode named.place named.dentry named.has) (inr moved)

  -- what is listed is met by a walk
  pub from_below : (depth : ℕ) (path : List ℕ) (inode : ℕ) (e : PathEntry) → IsInode g inode → IsIn e (below depth g image path inode) → IsMet image c path inode e
  from_below zero path inode e in_range there = absurd there
  from_below (suc depth) path inode e in_range there =
      let from = from_flat_map (entry_and_below (below depth g image) g image path) (names_in image inode (form_at g image inode)) e there in
      let has = is_listed g image c is inode from.0.0 from.0.1 in_range from.1 in
      by from.0.0 from.0.1 has from.2 (from_below depth (path ++ 47 ∷ from.0.1.name) from.0.1.inode e (sound.fit inode from.0.0 from.0.1 has).in_range)
    where
      by : (place : ℕ) (d : DentryForm) → HasDentry g c inode place d → IsIn e (entry_and_below (below depth g image) g image path (place, d))
          → (IsIn e (below depth g image (path ++ 47 ∷ d.name) d.inode) → IsMet image c (path ++ 47 ∷ d.name) d.inode e) → IsMet image c path inode e
      by place d has (inl same) more =
          let at_range = (sound.fit inode place d has).in_range in
          let named : Names g c inode d.name d.inode = record { place = place; dentry = d; has = has; name_is = refl; inode_is = refl } in
          record {
            first = d.name;
            rest = [];
            at = d.inode;
            text = ap (λ (x : PathEntry). x.0) same ∙ ap (λ t. path ++ 47 ∷ t) (sym (append-nil d.name));
            pieces = (names_piece g c sound inode d.name d.inode named, tt);
            met = child_is g c sound inode place d has;
            node = ap (λ (x : PathEntry). x.1) same ∙ node_there d.inode at_range;
          }
      by place d has (inr there) more =
          let rest = more there in
          let named : Names g c inode d.name d.inode = record { place = place; dentry = d; has = has; name_is = refl; inode_is = refl } in
          record {
            first = d.name;
            rest = rest.first ∷ rest.rest;
            at = rest.at;
            text = rest.text ∙ joined-onto path d.name (rest.first ∷ rest.rest);
            pieces = (names_piece g c sound inode d.name d.inode named, rest.pieces);
            met = ap (λ o. walk_from c o (rest.first ∷ rest.rest)) (child_is g c sound inode place d has) ∙ rest.met;
            node = rest.node;
          }
