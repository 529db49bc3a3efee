-- A part of the names tells the tree's paths.
use Rattle.std.proofs.Common.{◌≡◌, ℕ, ◌≤◌, List, true, Option, Some, None, ap, sym, refl, ◌∙◌, arith}
use Rattle.std.specs.Prelude.{IsSome, is_some, unwrap_or}
use Rattle.std.specs.Option.{option_map}
use Rattle.std.specs.FinMap as map
use Rattle.ufs_image.specs.Walks.{path_text, ArePieces}
use Rattle.ufs_model.specs.Paths.{components, components_refusal}
use Rattle.ufs_model.specs.PosixTree.{PosixTree}
use Rattle.ufs_model.specs.declared.data.Errno.{Errno}
use Rattle.ufs_model.specs.declared.data.Node.{Node}
use Rattle.ufs_model.proofs.Facts.Pieces.{components_of, components_plain}
use Rattle.ufs_dir_tree.specs.DirTable.{found_at}
use Rattle.ufs_dir_tree.specs.declared.found.Found.{Found}
use Rattle.ufs_promise_laws.specs.Numbers.{ArePathsOf, AreNumbersOf}
use Rattle.ufs_name_tree.specs.NameTable.{IsNameTable, node_of, node_at}
use Rattle.ufs_names.specs.NamesPart.{NamesPart, IsNamesPart, unheld, holding_of}
use Rattle.ufs_names.specs.declared.holding.Holding.{Holding}
use Rattle.ufs_names.proofs.FoundNames.{found_names}
use Rattle.ufs_promise_laws.proofs.PathTexts.{whole_text, plain_pieces, pieces_plain}
use Rattle.ufs_promise_laws.specs.PathNumbers.{numbers_of}

none_or_some : {A : Type 0} (a : A) (o : Option A) → o ≡ None → o ≡ Some a → ⊥
none_or_some a o e f = let clash = sym e ∙ f in cc

module _ (n : NamesPart) (t : PosixTree) (table : IsNameTable n.tree) (part : IsNamesPart n t) where
  -- names that no path has
  no_path : (names : List (List ℕ)) (x : Errno) → ArePieces names → components_refusal names ≡ Some x → map.get t.paths (path_text names) ≡ None
  no_path names x pieces refused = by (map.get t.paths (path_text names)) refl
    where
      by : (o : Option Node) → map.get t.paths (path_text names) ≡ o → map.get t.paths (path_text names) ≡ None
      by None e = e
      by (Some w) e =
          let whole = part.tree.namespace.whole (path_text names) (ap is_some e) in
          let parts : components (path_text names) ≡ names = ap components (sym (whole_text names)) ∙ components_of names (pieces_plain names pieces) in
          absurd (none_or_some x (components_refusal names) (ap components_refusal (sym parts) ∙ whole.allowed) refused)

  no_node : (names : List (List ℕ)) (x : Errno) → components_refusal names ≡ Some x → node_at n.tree names ≡ None
  no_node names x refused = by (found_at n.tree.dirs names) refl
    where
      by : (o : Option Found) → found_at n.tree.dirs names ≡ o → node_at n.tree names ≡ None
      by None e = ap (option_map (node_of n.tree)) e
      by (Some f) e = absurd (none_or_some x (components_refusal names) (found_names n.tree.dirs table.table names f e).allowed refused)

  there : (names : List (List ℕ)) → ArePieces names → map.get t.paths (path_text names) ≡ node_at n.tree names
  there names pieces = by (components_refusal names) refl
    where
      by : (o : Option Errno) → components_refusal names ≡ o → map.get t.paths (path_text names) ≡ node_at n.tree names
      by None e = ap (map.get t.paths) (sym (whole_text names)) ∙ part.paths names (pieces_plain names pieces) e
      by (Some x) e = no_path names x pieces e ∙ sym (no_node names x e)

  pub tells : ArePathsOf n.tree t.paths
  tells = record {
    there = there;
    only = λ path node at.
        let whole = part.tree.namespace.whole path (ap is_some at) in
        (components path, plain_pieces (components path) (components_plain path), sym whole.spelled ∙ whole_text (components path));
  }

pub have_numbers : (n : NamesPart) (t : PosixTree) → IsNamesPart n t → AreNumbersOf n.tree (numbers_of n)
have_numbers n t part = record {
  file = λ inode file at. ap (λ (o : Option ℕ). unwrap_or o 0) at;
  inode = λ inode file at. held inode file (map.get n.held file) refl (part.inodes.live inode file at) (part.inodes.own inode file at);
}
  where
    held : (inode file : ℕ) (o : Option Holding) → map.get n.held file ≡ o → IsSome (map.get n.held file) → (holding_of n.held file).inode ≡ inode → option_map (λ (h : Holding). h.inode) (map.get n.held file) ≡ Some inode
    held inode file None e some own = let clash = ap is_some (sym e) in let is : is_some (map.get n.held file) ≡ true = some in absurd cc
    held inode file (Some h) e some own = ap (option_map (λ (x : Holding). x.inode)) e ∙ ap Some (ap (λ (x : Option Holding). (unwrap_or x unheld).inode) (sym e) ∙ own)

pub unborn : (n : NamesPart) (t : PosixTree) → IsNamesPart n t → (file : ℕ) → t.next ≤ file → (numbers_of n).inode file ≡ None
unborn n t part file above = by (map.get n.held file) refl
  where
    by : (o : Option Holding) → map.get n.held file ≡ o → option_map (λ (h : Holding). h.inode) (map.get n.held file) ≡ None
    by None e = ap (option_map (λ (h : Holding). h.inode)) e
    by (Some h) e =
        let has : is_some (map.get t.bytes file) ≡ true = sym (part.told file) ∙ ap is_some e in
        let below = part.tree.numbered file has in
        absurd (omega (arith, below, above))
