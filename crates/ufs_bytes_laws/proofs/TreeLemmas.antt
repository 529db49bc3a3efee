-- Which trees are alike, and how they stay so as their parts change.
use Rattle.std.proofs.Common.{◌≡◌, ◌⊎◌, inl, inr, ℕ, List, Bool, true, false, cond, length, Option, Some, None, ap, sym, refl, ◌∙◌, subst}
use Rattle.std.specs.Prelude.{is_some}
use Rattle.std.specs.Option.{option_map}
use Rattle.std.specs.Cmp.{nat_cmp_total}
use Rattle.std.specs.FinMap as fin
use Rattle.std.specs.FinMap.{nat_cmp-IsAntisymmetric}
use Rattle.ufs_model.specs.PosixTree.{PosixTree, Files, IsTree, is_live}
use Rattle.ufs_model.specs.Posix.{with_fd, with_bytes, forget}
use Rattle.ufs_model.specs.declared.data.Desc.{Desc}
use Rattle.ufs_model.proofs.Facts.Lookups.{one_or_apart, inserted_here, inserted_else}
use Rattle.ufs_bytes_laws.specs.Alike.{AreAlike, HaveSameSizes, size_in}
use Rattle.ufs_bytes_laws.specs.Laws.{EachIsLikeItself, AlikeEitherWay, AlikeThrough, OtherBytesAreAlike, AlikeTrees}
use Rattle.ufs_bytes_laws.proofs.SizeLemmas.{both_some, sizes_put, sizes_gone}

-- ---- an equivalence

pub itself : EachIsLikeItself
itself t = record { paths = refl; sizes = λ f. refl; fds = refl; next = refl }

pub either_way : AlikeEitherWay
either_way t u is = record { paths = sym is.paths; sizes = λ f. sym (is.sizes f); fds = sym is.fds; next = sym is.next }

pub through : AlikeThrough
through t u v is so = record { paths = is.paths ∙ so.paths; sizes = λ f. is.sizes f ∙ so.sizes f; fds = is.fds ∙ so.fds; next = is.next ∙ so.next }

-- ---- the tree with these bytes

abbrev pub with_files : PosixTree → Files → PosixTree
with_files t bytes = record t { bytes = bytes }

-- a tree like another is that one with its own bytes
alike_is : (t u : PosixTree) → AreAlike t u → with_files t u.bytes ≡ u
alike_is t u is = λ i. record { paths = is.paths i; bytes = u.bytes; fds = is.fds i; next = is.next i }

pub with_sizes : (t : PosixTree) (bytes : Files) → HaveSameSizes t.bytes bytes → AreAlike t (with_files t bytes)
with_sizes t bytes same = record { paths = refl; sizes = same; fds = refl; next = refl }

-- so what is to be shown of it is to be shown of the tree with other bytes
pub by_files : (P : PosixTree → Type 0) (t u : PosixTree) → AreAlike t u → P (with_files t u.bytes) → P u
by_files P t u is shown = subst P (alike_is t u is) shown

pub other_bytes : OtherBytesAreAlike
other_bytes t file bytes e = with_sizes t (fin.insert t.bytes file bytes) (λ f. by f (one_or_apart nat_cmp_total nat_cmp-IsAntisymmetric f file))
  where
    by : (f : ℕ) → (f ≡ file) ⊎ (f ≡ file → ⊥) → size_in t.bytes f ≡ size_in (fin.insert t.bytes file bytes) f
    by f (inl is) = ap (size_in t.bytes) is ∙ e ∙ sym (ap (option_map length) (ap (fin.get (fin.insert t.bytes file bytes)) is ∙ inserted_here nat_cmp_total nat_cmp-IsAntisymmetric t.bytes file bytes))
    by f (inr ne) = sym (ap (option_map length) (inserted_else nat_cmp_total nat_cmp-IsAntisymmetric t.bytes file bytes f ne))

tree_with_files : (t : PosixTree) (bytes : Files) → HaveSameSizes t.bytes bytes → IsTree t → IsTree (with_files t bytes)
tree_with_files t bytes same is = record {
  namespace = is.namespace;
  live = λ f. sym (there f) ∙ is.live f;
  numbered = λ f e. is.numbered f (there f ∙ e);
}
  where
    there : (f : ℕ) → is_some (fin.get t.bytes f) ≡ is_some (fin.get bytes f)
    there f = both_some (fin.get t.bytes f) (fin.get bytes f) (same f)

pub trees : AlikeTrees
trees t u is tree = by_files IsTree t u is (tree_with_files t u.bytes is.sizes tree)

-- ---- parts that change

module _ (t u : PosixTree) (is : AreAlike t u) where
  pub put_fd : (client fd : ℕ) (d e : Desc) → d ≡ e → AreAlike (with_fd t client fd d) (with_fd u client fd e)
  put_fd client fd d e same = record { paths = is.paths; sizes = is.sizes; fds = λ i. fin.insert (is.fds i) (client, fd) (same i); next = is.next }

  pub put_bytes : (file : Option ℕ) (v w : List ℕ) → length v ≡ length w → AreAlike (with_bytes t file v) (with_bytes u file w)
  put_bytes None v w e = is
  put_bytes (Some file) v w e = record { paths = is.paths; sizes = sizes_put t.bytes u.bytes is.sizes file v w e; fds = is.fds; next = is.next }

pub choose : (b : Bool) (t t' u u' : PosixTree) → AreAlike t u → AreAlike t' u' → AreAlike (cond b t t') (cond b u u')
choose true t t' u u' is other = is
choose false t t' u u' is other = other

pub forget_both : (t : PosixTree) (bytes : Files) → HaveSameSizes t.bytes bytes → (file : Option ℕ) → AreAlike (forget t file) (forget (with_files t bytes) file)
forget_both t bytes same None = with_sizes t bytes same
forget_both t bytes same (Some file) =
    choose (is_live t.paths t.fds file) t (with_files t (fin.remove t.bytes file)) (with_files t bytes) (with_files t (fin.remove bytes file))
    (with_sizes t bytes same)
    (record { paths = refl; sizes = sizes_gone t.bytes bytes same file; fds = refl; next = refl })
