-- The tree of a sound image has at each path what a walk through its catalog meets.
use Rattle.std.proofs.Common.{◌≡◌, ℕ, zero, suc, ◌+◌, ◌≤◌, inl, inr, List, [], ◌∷◌, ◌++◌, Bool, true, false, cond, length, Option, Some, None, ap, sym, refl, ◌∙◌, arith}
use Rattle.std.specs.Prelude.{◌==◌, if◌then◌else◌}
use Rattle.std.specs.Option.{option_map}
use Rattle.std.specs.Ordering.{is_eq, eq_by_cmp}
use Rattle.std.specs.declared.cmp.Ordering.{Ordering}
use Rattle.std.specs.declared.cmp.Ordering.TheVariants.{Less, Equal, Greater}
use Rattle.std.specs.Cmp.{eq_by_cmp_equiv}
use Rattle.std.specs.Cmp.Lexicographic.{nat_list_cmp_total}
use Rattle.std.specs.FinMap as fin
use Rattle.std.specs.FinMap.{IsAntisymmetric, nat_cmp-IsAntisymmetric, slice_cmp-IsAntisymmetric, find, from_entries, get-from_entries}
use Rattle.ufs_base.specs.Images.{Image}
use Rattle.ufs_image.specs.Images.{form_at}
use Rattle.ufs_image.specs.Nodes.{NamedSlot}
use Rattle.ufs_image.specs.Opens.{PathEntry, NodeBytes, node_bytes, file_bytes, path_cmp, names_in, below, entry_and_below, root_entry}
use Rattle.ufs_layout.specs.declared.geometry.Geometry.{Geometry}
use Rattle.ufs_image.specs.Catalog.{Catalog, IsCatalogOf}
use Rattle.ufs_image.specs.Sound.{IsSoundCatalog, HasDentry}
use Rattle.ufs_image.specs.Walks.{step, inode_of, path_text, ArePieces, node_of}
use Rattle.ufs_image.proofs.Lists.{IsIn, flat_map-same}
use Rattle.ufs_image.proofs.Texts.{same_texts}
use Rattle.ufs_image.proofs.Found.{same_some, back, child_is}
use Rattle.ufs_image.proofs.Depth.{short, short_back, root_in_range, met_in_range}
use Rattle.ufs_image.proofs.Listed.{is_listed}
use Rattle.ufs_image.proofs.Below.{in_below, from_below}

-- ---- a map that is made from a list

path_same : IsAntisymmetric path_cmp
path_same = slice_cmp-IsAntisymmetric nat_cmp-IsAntisymmetric

tied : (r : Ordering) → is_eq r ≡ true → r ≡ Equal
tied Less e = cc
tied Equal e = refl
tied Greater e = cc

same_path : (p q : List ℕ) → eq_by_cmp path_cmp p q ≡ true → p ≡ q
same_path p q e = path_same p q (tied _ e)

found_in : {X : Type 0} (q : List ℕ) (v : X) (es : List (List ℕ × X)) → find path_cmp q es ≡ Some v → IsIn (q, v) es
found_in q v [] e = cc
found_in {X} q v (x ∷ es) e = by (eq_by_cmp path_cmp q x.0) refl e (found_in q v es)
  where
    by : (b : Bool) → eq_by_cmp path_cmp q x.0 ≡ b → cond b (Some x.1) (find path_cmp q es) ≡ Some v → (find path_cmp q es ≡ Some v → IsIn (q, v) es) → IsIn (q, v) (x ∷ es)
    by true t is more = let key = same_path q x.0 t in let value : x.1 ≡ v = cc in let back = sym value in inl (λ i. (key i, back i))
    by false t is more = inr (more is)

in_found : {X : Type 0} (q : List ℕ) (v : X) (es : List (List ℕ × X)) → IsIn (q, v) es → (w : X) × (find path_cmp q es ≡ Some w)
in_found q v [] is = absurd is
in_found {X} q v (x ∷ es) is = by (eq_by_cmp path_cmp q x.0) refl is (in_found q v es)
  where
    by : (b : Bool) → eq_by_cmp path_cmp q x.0 ≡ b → IsIn (q, v) (x ∷ es) → (IsIn (q, v) es → (w : X) × (find path_cmp q es ≡ Some w)) → (w : X) × (cond (eq_by_cmp path_cmp q x.0) (Some x.1) (find path_cmp q es) ≡ Some w)
    by true t is more = (x.1, ap (λ b. cond b (Some x.1) (find path_cmp q es)) t)
    by false t (inl same) more =
        let self : eq_by_cmp path_cmp q q ≡ true = (eq_by_cmp_equiv nat_list_cmp_total).refl q in
        let key : q ≡ x.0 = ap (λ (e : List ℕ × X). e.0) same in
        let no : eq_by_cmp path_cmp q x.0 ≡ true = sym (ap (eq_by_cmp path_cmp q) key) ∙ self in
        absurd cc
    by false t (inr there) more = let rest = more there in (rest.0, ap (λ b. cond b (Some x.1) (find path_cmp q es)) t ∙ rest.1)

-- ---- the whole list

-- an entry is what a walk from the root meets
pub record IsStanding (image : Image) (c : Catalog) (e : PathEntry) : Type 0 where
  pub names : List (List ℕ)
  pub at : ℕ
  pub text : e.0 ≡ path_text names
  pub pieces : ArePieces names
  pub met : inode_of c names ≡ Some at
  pub node : e.1 ≡ node_of image c at

abbrev pub listed_from : ℕ → Geometry → Image → List PathEntry
listed_from depth g image = root_entry ∷ below depth g image [] 1

module _ (g : Geometry) (image : Image) (c : Catalog) (is : IsCatalogOf g image c) (sound : IsSoundCatalog g c) (some : 1 ≤ g.inodes) where
  root_node : node_of image c 1 ≡ None
  root_node = ap (λ k. if k == 2 then None else Some (file_bytes image (c.forms 1))) sound.root

  pub in_listed : (names : List (List ℕ)) (at : ℕ) → inode_of c names ≡ Some at → IsIn (path_text names, node_of image c at) (listed_from g.inodes g image)
  in_listed [] at e = let node : node_of image c at ≡ None = sym (ap (node_of image c) (same_some 1 at e)) ∙ root_node in inl (λ i. (47 ∷ [], node i))
  in_listed (name ∷ names) at e = let most = short g c sound some (name ∷ names) at e in inr (in_below g image c is sound names name g.inodes [] 1 at (root_in_range g c sound some) e (omega (arith, most)))

  pub from_listed : (e : PathEntry) → IsIn e (listed_from g.inodes g image) → IsStanding image c e
  from_listed e (inl root) = record {
    names = [];
    at = 1;
    text = ap (λ (x : PathEntry). x.0) root;
    pieces = tt;
    met = refl;
    node = ap (λ (x : PathEntry). x.1) root ∙ sym root_node;
  }
  from_listed e (inr there) =
      let met = from_below g image c is sound g.inodes [] 1 e (root_in_range g c sound some) there in
      record { names = met.first ∷ met.rest; at = met.at; text = met.text; pieces = met.pieces; met = met.met; node = met.node }

  -- ---- the map

  pub stands : (names : List (List ℕ)) → ArePieces names → fin.get {R = path_cmp} (from_entries (listed_from g.inodes g image)) (path_text names) ≡ option_map (node_of image c) (inode_of c names)
  stands names pieces = get-from_entries nat_list_cmp_total (listed_from g.inodes g image) (path_text names) ∙ by (inode_of c names) refl (find path_cmp (path_text names) (listed_from g.inodes g image)) refl
    where
      there : (v : NodeBytes) → find path_cmp (path_text names) (listed_from g.inodes g image) ≡ Some v → (at : ℕ) × (inode_of c names ≡ Some at) × (v ≡ node_of image c at)
      there v e =
          let from = from_listed (path_text names, v) (found_in (path_text names) v (listed_from g.inodes g image) e) in
          let same : from.names ≡ names = same_texts from.names names from.pieces pieces (sym from.text) in
          (from.at, sym (ap (inode_of c) same) ∙ from.met, from.node)

      by : (o : Option ℕ) → inode_of c names ≡ o → (f : Option NodeBytes) → find path_cmp (path_text names) (listed_from g.inodes g image) ≡ f
          → find path_cmp (path_text names) (listed_from g.inodes g image) ≡ option_map (node_of image c) (inode_of c names)
      by None met None e = e ∙ ap (option_map (node_of image c)) (sym met)
      by None met (Some v) e = let at = there v e in let no : None ≡ Some at.0 = sym met ∙ at.1 in absurd cc
      by (Some i) met None e = let here = in_found (path_text names) (node_of image c i) (listed_from g.inodes g image) (in_listed names i met) in let no : None ≡ Some here.0 = sym e ∙ here.1 in absurd cc
      by (Some i) met (Some v) e =
          let at = there v e in
          let same : at.0 ≡ i = same_some at.0 i (sym at.1 ∙ met) in
          e ∙ ap Some (at.2 ∙ ap (node_of image c) same) ∙ ap (option_map (node_of image c)) (sym met)

  -- every path of the tree is one of these
  pub standing : (path : List ℕ) (v : NodeBytes) → fin.get {R = path_cmp} (from_entries (listed_from g.inodes g image)) path ≡ Some v → IsStanding image c (path, v)
  standing path v e = from_listed (path, v) (found_in path v (listed_from g.inodes g image) (sym (get-from_entries nat_list_cmp_total (listed_from g.inodes g image) path) ∙ e))

  -- ---- more depth

  deeper_same : (depth : ℕ) (xs : List (List ℕ)) (path : List ℕ) (inode : ℕ) → back c xs ≡ Some inode → g.inodes ≤ length xs + depth → below (suc depth) g image path inode ≡ below depth g image path inode
  deeper_same zero xs path inode e deep = let less = short_back g c sound some xs inode e in absurd (omega (arith, less, deep))
  deeper_same (suc depth) xs path inode e deep =
      flat_map-same (entry_and_below (below (suc depth) g image) g image path) (entry_and_below (below depth g image) g image path) (names_in image inode (form_at g image inode))
      (λ n there. each n (is_listed g image c is inode n.0 n.1 (met_in_range g c sound some xs inode e) there) (deeper_same depth (n.1.name ∷ xs) (path ++ 47 ∷ n.1.name) n.1.inode))
    where
      each : (n : NamedSlot) → HasDentry g c inode n.0 n.1
          → (back c (n.1.name ∷ xs) ≡ Some n.1.inode → g.inodes ≤ length (n.1.name ∷ xs) + depth → below (suc depth) g image (path ++ 47 ∷ n.1.name) n.1.inode ≡ below depth g image (path ++ 47 ∷ n.1.name) n.1.inode)
          → entry_and_below (below (suc depth) g image) g image path n ≡ entry_and_below (below depth g image) g image path n
      each n has more = ap (λ rest. (path ++ 47 ∷ n.1.name, node_bytes image (form_at g image n.1.inode)) ∷ rest) (more (ap (λ o. step c o n.1.name) e ∙ child_is g c sound inode n.0 n.1 has) (omega (arith, deep)))

  pub any_depth : (more : ℕ) → below (more + g.inodes) g image [] 1 ≡ below g.inodes g image [] 1
  any_depth zero = let same : 0 + g.inodes ≡ g.inodes = omega arith in ap (λ d. below d g image [] 1) same
  any_depth (suc more) =
      let same : suc more + g.inodes ≡ suc (more + g.inodes) = omega arith in
      ap (λ d. below d g image [] 1) same ∙ deeper_same (more + g.inodes) [] [] 1 refl (omega arith) ∙ any_depth more
