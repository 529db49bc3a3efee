-- Which files are there behind a request of the names.
use Rattle.std.proofs.Common.{◌≡◌, ◌≢◌, ℕ, ◌+◌, ◌<◌, ◌⊎◌, inl, inr, Bool, true, false, ◌||◌, ◌&&◌, cond, eq-eqb, ne_eqb, Option, Some, None, is_some, ap, sym, refl, ◌∙◌, subst, arith}
use Rattle.std.specs.Prelude.{◌==◌}
use Rattle.std.specs.FinMap as map
use Rattle.std.specs.Ordering.{nat_cmp}
use Rattle.ufs_file.specs.Hand.{FileState}
use Rattle.ufs_files.specs.Files.{Files}
use Rattle.ufs_files.proofs.MapLemmas.{one_or_apart}
use Rattle.ufs_model.specs.Posix.{posix}
use Rattle.ufs_model.specs.PosixTree.{PosixTree}
use Rattle.ufs_model.specs.declared.data.Ask.{Ask}
use Rattle.ufs_model.specs.declared.data.Desc.{Desc}
use Rattle.ufs_model.specs.declared.data.Op.TheVariants as op
use Rattle.ufs_model.specs.declared.data.Reply.{Reply}
use Rattle.ufs_names.specs.Calls.{IsAsked, IsServed, IsTouched, no_bytes}
use Rattle.ufs_names.specs.NamesPart.{NamesPart}
use Rattle.ufs_noted.specs.Noted.{one_file}
use Rattle.ufs_noted.proofs.Maps.{file_else, file_here, is_one}
use Rattle.ufs_noted.proofs.Numbers.{next_then}
use Rattle.ufs_noted.proofs.Reached.{one_touched}

not_some : {A : Type 0} (o : Option A) → is_some o ≡ false → o ≡ None
not_some None e = refl
not_some (Some x) e = absurd cc

none_is : {A : Type 0} (o : Option A) → o ≡ None → is_some o ≡ false
none_is o e = ap is_some e

or_true : (a : Bool) → (a || true) ≡ true
or_true true = refl
or_true false = refl

-- A served request with these files, on a tree.
module _ (x y : NamesPart) (ask : Ask) (files left : Files) (reply : Reply) (desc : Option Desc) (t : PosixTree) (asked : IsAsked t x ask files) (served : IsServed t ask y files left reply desc) where
  abbrev u : PosixTree
  u = (posix t ask.client ask.op).0

  -- a file that wasn't here and isn't new isn't here
  pub none_left : (f : ℕ) → map.get files f ≡ None → f ≢ x.next → map.get left f ≡ None
  none_left f none not =
      not_some (map.get left f)
      (served.go_on.here f ∙ (λ i. ((none_is (map.get files f) none i || not_next i) && is_some (map.get u.bytes f))))
    where
      not_next : (f == t.next) ≡ false
      not_next = ne_eqb f t.next (λ e. not (e ∙ sym asked.part.next))

  -- the new one is here exactly where it has bytes
  pub made_here : is_some (map.get left x.next) ≡ is_some (map.get u.bytes t.next)
  made_here =
      ap (λ (n : ℕ). is_some (map.get left n)) asked.part.next
      ∙ served.go_on.here t.next
      ∙ ap (λ (b : Bool). b && is_some (map.get u.bytes t.next)) (ap (λ (b : Bool). is_some (map.get files t.next) || b) (eq-eqb t.next t.next refl) ∙ or_true (is_some (map.get files t.next)))

  pub next_is : y.next ≡ cond (is_some (map.get left x.next)) (x.next + 1) x.next
  next_is =
      served.goes_on.next
      ∙ next_then t ask.client ask.op served.goes_on.tree
      ∙ (λ i. cond (sym made_here i) (sym asked.part.next i + 1) (sym asked.part.next i))

-- Where no file was lent.
module _ (x y : NamesPart) (ask : Ask) (left : Files) (reply : Reply) (desc : Option Desc) (t : PosixTree) (asked : IsAsked t x ask map.empty) (served : IsServed t ask y map.empty left reply desc) where
  pub made_alone : left ≡ one_file x.next (map.get left x.next)
  made_alone = is_one left x.next (λ f not. none_left x y ask map.empty left reply desc t asked served f (map.get-empty {X = FileState} nat_cmp f) not)

  pub made_young : (s : FileState) → map.get left x.next ≡ Some s → s ≡ no_bytes x.next s.inode
  made_young s here = (served.go_on.born x.next s (map.get-empty {X = FileState} nat_cmp x.next) here).0

-- Where the one that is touched was.
module _ (x y : NamesPart) (ask : Ask) (file : ℕ) (was : FileState) (left : Files) (reply : Reply) (desc : Option Desc) (t : PosixTree) (asked : IsAsked t x ask (one_file file (Some was))) (served : IsServed t ask y (one_file file (Some was)) left reply desc)
    (not_sync : ask.op ≢ op.Sync) (touched : IsTouched t ask file) where
  -- it isn't the next one
  live : file < t.next
  live = (let size = asked.files file was (file_here file (Some was)) in asked.part.tree.numbered file (ap is_some size.here))

  none_made : map.get left x.next ≡ None
  none_made =
      let off : x.next ≢ file = λ e. let n = asked.part.next in let l = live in omega (arith, e, n, l) in
      ap (map.get left) asked.part.next
      ∙ served.untouched t.next (λ reached. off (asked.part.next ∙ one_touched t ask.client ask.op not_sync t.next file reached touched))
      ∙ ap (map.get (one_file file (Some was))) (sym asked.part.next)
      ∙ file_else file (Some was) x.next off

  pub touched_alone : left ≡ one_file file (map.get left file)
  touched_alone = is_one left file (λ f not. at f not (one_or_apart f x.next))
    where
      at : (f : ℕ) → f ≢ file → (f ≡ x.next) ⊎ (f ≢ x.next) → map.get left f ≡ None
      at f not (inl is) = ap (map.get left) is ∙ none_made
      at f not (inr other) = none_left x y ask (one_file file (Some was)) left reply desc t asked served f (file_else file (Some was) f not) other
