-- A file goes on with one name at most.
use Rattle.std.proofs.Common.{◌≡◌, ℕ, ◌⊎◌, inl, inr, List, ◌∷◌, Some, ap, sym, ◌∙◌, arith}
use Rattle.std.specs.FinMap as map
use Rattle.ufs_model.specs.Paths.{whole_path}
use Rattle.ufs_model.specs.PosixTree.{PosixTree, Paths, IsTree}
use Rattle.ufs_model.specs.Directories.{renamed, renamed_path}
use Rattle.ufs_model.specs.declared.data.Node.{Node}
use Rattle.ufs_model.specs.declared.data.Node.TheVariants.{Dir, File}
use Rattle.ufs_model.proofs.Facts.Orders.{path_total, path_same}
use Rattle.ufs_model.proofs.Facts.Lookups.{same_some, one_or_apart, inserted_here, inserted_else, left_was}
use Rattle.ufs_model.proofs.Facts.Live.{held_has}
use Rattle.ufs_model.proofs.Facts.Renames.{MayRename, was}
use Rattle.ufs_names.specs.NamesPart.{IsNamedOnce}

-- what stands now stood, or is what came
pub put_or_stood : (paths : Paths) (path : List ℕ) (w : Node) (q : List ℕ) (n : Node) → map.get (map.insert paths path w) q ≡ Some n → ((q ≡ path) × (w ≡ n)) ⊎ (map.get paths q ≡ Some n)
put_or_stood paths path w q n there = by (one_or_apart path_total path_same q path)
  where
    by : (q ≡ path) ⊎ (q ≡ path → ⊥) → ((q ≡ path) × (w ≡ n)) ⊎ (map.get paths q ≡ Some n)
    by (inl e) = inl (e, same_some w n (sym (inserted_here path_total path_same paths path w) ∙ sym (ap (map.get (map.insert paths path w)) e) ∙ there))
    by (inr not) = inr (sym (inserted_else path_total path_same paths path w q not) ∙ there)

-- no path names a file whose number is still to be given
pub next_unnamed : (t : PosixTree) → IsTree t → (p : List ℕ) → map.get t.paths p ≡ Some (File t.next) → ⊥
next_unnamed t tree p there = let below = tree.numbered t.next (held_has t tree t.next (inl (p, there))) in omega (arith, below)

module _ (paths : Paths) (once : IsNamedOnce paths) where
  pub once_dir : (path : List ℕ) → IsNamedOnce (map.insert paths path Dir)
  once_dir path p q f at at' = once p q f (stood p at) (stood q at')
    where
      by : (r : List ℕ) → ((r ≡ path) × (Dir ≡ File f)) ⊎ (map.get paths r ≡ Some (File f)) → map.get paths r ≡ Some (File f)
      by r (inl e) = let no = e.1 in cc
      by r (inr there) = there

      stood : (r : List ℕ) → map.get (map.insert paths path Dir) r ≡ Some (File f) → map.get paths r ≡ Some (File f)
      stood r there = by r (put_or_stood paths path Dir r (File f) there)

  pub once_file : (path : List ℕ) (g : ℕ) → ((p : List ℕ) → map.get paths p ≡ Some (File g) → ⊥) → IsNamedOnce (map.insert paths path (File g))
  once_file path g unnamed p q f at at' = by (put_or_stood paths path (File g) p (File f) at) (put_or_stood paths path (File g) q (File f) at')
    where
      other : (r : List ℕ) → File g ≡ File f → map.get paths r ≡ Some (File f) → ⊥
      other r e there = unnamed r (there ∙ ap Some (sym e))

      by : ((p ≡ path) × (File g ≡ File f)) ⊎ (map.get paths p ≡ Some (File f)) → ((q ≡ path) × (File g ≡ File f)) ⊎ (map.get paths q ≡ Some (File f)) → p ≡ q
      by (inl a) (inl b) = a.0 ∙ sym b.0
      by (inl a) (inr b) = absurd (other q a.1 b)
      by (inr a) (inl b) = absurd (other p b.1 a)
      by (inr a) (inr b) = once p q f a b

  pub once_gone : (path : List ℕ) → IsNamedOnce (map.remove paths path)
  once_gone path p q f at at' = once p q f (left_was path_total path_same paths path p (File f) at).1 (left_was path_total path_same paths path q (File f) at').1

  pub once_renamed : (f : List ℕ) (fs : List (List ℕ)) (g : List ℕ) (gs : List (List ℕ)) → MayRename paths f fs g gs → IsNamedOnce (renamed paths (whole_path (f ∷ fs)) (whole_path (g ∷ gs)))
  once_renamed f fs g gs may p q h at at' =
      let old = was paths f fs g gs may p (File h) at in
      let old' = was paths f fs g gs may q (File h) at' in
      old.3 ∙ ap (renamed_path (whole_path (f ∷ fs)) (whole_path (g ∷ gs))) (once old.0 old'.0 h old.1 old'.1) ∙ sym old'.3
