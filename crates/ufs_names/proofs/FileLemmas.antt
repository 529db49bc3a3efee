-- The files that are lent go on with the tree: they stay, go, are emptied or are new.
use Rattle.std.proofs.Common.{◌≡◌, ℕ, ◌⊎◌, inl, inr, List, [], Bool, true, false, cond, ◌||◌, ◌&&◌, eqb, Some, None, is_some, ap, refl, sym, subst, arith, ◌∙◌}
use Rattle.std.proofs.lemmas.Bool.{eqb-true, eq-eqb}
use Rattle.std.specs.Cmp.{nat_cmp_total}
use Rattle.std.specs.FinMap as map
use Rattle.std.specs.FinMap.{nat_cmp-IsAntisymmetric}
use Rattle.ufs_file.specs.Hand.{FileState}
use Rattle.ufs_files.specs.Files.{Files, AreSizedAs, IsSizedAs}
use Rattle.ufs_model.specs.PosixTree.{PosixTree, IsTree, is_live}
use Rattle.ufs_model.specs.PosixTree as tree
use Rattle.ufs_model.specs.Posix.{forget}
use Rattle.ufs_model.proofs.Facts.Lookups.{from_some, same_some, there_or_not, inserted_here, inserted_else, removed_here, removed_else}
use Rattle.ufs_names.specs.NamesPart.{NamesPart, is_kept}
use Rattle.ufs_names.specs.Calls.{FilesGoOn, HasNoByte, no_bytes}
use Rattle.ufs_names.specs.Steps.{Settles}
use Rattle.ufs_names.specs.declared.holding.Holding.{Holding}
use Rattle.ufs_names.proofs.LinkLemmas.{number_apart}

-- The files have the sizes of the next tree, and went on to it; and one that changed has other bytes in it, or is one of
-- these.
pub record FilesGoBut (These : ℕ → Type 0) (t u : PosixTree) (fs fs' : Files) : Type 0 where
  pub tree : IsTree t
  pub files : AreSizedAs fs' u
  pub go_on : FilesGoOn t u fs fs'
  pub changed : (f : ℕ) → (map.get fs' f ≡ map.get fs f) ⊎ ((map.get u.bytes f ≡ map.get t.bytes f → ⊥) ⊎ These f)

-- Each that changed has.
abbrev pub FilesGo : PosixTree → PosixTree → Files → Files → Type 0
FilesGo t u fs fs' = FilesGoBut (λ _. ⊥) t u fs fs'

pub but_these : (These : ℕ → Type 0) (t u : PosixTree) (fs fs' : Files) → FilesGo t u fs fs' → FilesGoBut These t u fs fs'
but_these These t u fs fs' go = record { tree = go.tree; files = go.files; go_on = go.go_on; changed = λ f. by f (go.changed f) }
  where
    by : (f : ℕ) → (map.get fs' f ≡ map.get fs f) ⊎ ((map.get u.bytes f ≡ map.get t.bytes f → ⊥) ⊎ ⊥) → (map.get fs' f ≡ map.get fs f) ⊎ ((map.get u.bytes f ≡ map.get t.bytes f → ⊥) ⊎ These f)
    by f (inl same) = inl same
    by f (inr (inl differs)) = inr (inl differs)
    by f (inr (inr never)) = absurd never

-- ---- each file

module _ (These : ℕ → Type 0) (t u : PosixTree) (fs fs' : Files) (f : ℕ) where
  -- it is as it was
  pub record Stays : Type 0 where
    pub hand : map.get fs' f ≡ map.get fs f
    pub bytes : map.get u.bytes f ≡ map.get t.bytes f

  -- it was here, and is no more
  pub record Goes : Type 0 where
    pub was : is_some (map.get fs f) ≡ true
    pub hand : map.get fs' f ≡ None
    pub bytes : map.get u.bytes f ≡ None

  -- it is one of these, was here, and has no byte any more
  pub record Empties : Type 0 where
    pub this : These f
    pub old : FileState
    pub was : map.get fs f ≡ Some old
    pub hand : map.get fs' f ≡ Some (no_bytes f old.inode)
    pub bytes : map.get u.bytes f ≡ Some []

  -- it is new
  pub record Makes : Type 0 where
    pub inode : ℕ
    pub next : f ≡ t.next
    pub hand : map.get fs' f ≡ Some (no_bytes f inode)
    pub bytes : map.get u.bytes f ≡ Some []

  abbrev pub GoesOn : Type 0
  GoesOn = Stays ⊎ (Goes ⊎ (Empties ⊎ Makes))

both : (l a n c : Bool) → l ≡ true → a ≡ true → c ≡ true → l ≡ ((a || n) && c)
both true true n true p q r = refl
both true true n false p q r = cc
both true false n c p q r = cc
both false a n c p q r = cc

new_both : (l a n c : Bool) → l ≡ true → n ≡ true → c ≡ true → l ≡ ((a || n) && c)
new_both true true true true p q r = refl
new_both true false true true p q r = refl
new_both true a true false p q r = cc
new_both true a false c p q r = cc
new_both false a n c p q r = cc

neither : (l a n c : Bool) → l ≡ false → a ≡ false → (n ≡ true → c ≡ false) → l ≡ ((a || n) && c)
neither false false true c p q r = sym (r refl)
neither false false false c p q r = refl
neither false true n c p q r = cc
neither true a n c p q r = cc

dead : (l a n c : Bool) → l ≡ false → c ≡ false → l ≡ ((a || n) && c)
dead false true n false p q = refl
dead false false true false p q = refl
dead false false false false p q = refl
dead false a n true p q = cc
dead true a n c p q = cc

module _ (t u : PosixTree) (is : IsTree t) (fs fs' : Files) (files : AreSizedAs fs t) where
  -- a file that is here has bytes
  has_bytes : (f : ℕ) (s : FileState) → map.get fs f ≡ Some s → (bytes : List ℕ) × (map.get t.bytes f ≡ Some bytes)
  has_bytes f s at = let is = files f s at in (is.bytes, is.here)

  -- the number that is still to be given has none
  pub next_none : map.get t.bytes t.next ≡ None
  next_none = by (there_or_not (map.get t.bytes t.next))
    where
      by : ((v : List ℕ) × (map.get t.bytes t.next ≡ Some v)) ⊎ (map.get t.bytes t.next ≡ None) → map.get t.bytes t.next ≡ None
      by (inl at) = let below = is.numbered t.next (ap is_some at.1) in absurd (omega (arith, below))
      by (inr none) = none

  -- and no file of this number is here
  pub next_absent : map.get fs t.next ≡ None
  next_absent = by (there_or_not (map.get fs t.next))
    where
      by : ((s : FileState) × (map.get fs t.next ≡ Some s)) ⊎ (map.get fs t.next ≡ None) → map.get fs t.next ≡ None
      by (inl at) = let some = has_bytes t.next at.0 at.1 in let none = next_none in let no : Some some.0 ≡ None = sym some.1 ∙ none in cc
      by (inr none) = none

  module _ (These : ℕ → Type 0) (goes : (f : ℕ) → GoesOn These t u fs fs' f) where
    fresh : (f i : ℕ) (r : FileState) → map.get fs' f ≡ Some (no_bytes f i) → map.get u.bytes f ≡ Some [] → map.get fs' f ≡ Some r → IsSizedAs u f r
    fresh f i r hand bytes at =
        subst (λ (s : FileState). IsSizedAs u f s) (same_some (no_bytes f i) r (sym hand ∙ at)) (record { number = refl; bytes = []; here = bytes; size = refl })

    files_now : (f : ℕ) (r : FileState) → map.get fs' f ≡ Some r → GoesOn These t u fs fs' f → IsSizedAs u f r
    files_now f r at (inl s) =
        let is = files f r (sym s.hand ∙ at) in
        record { number = is.number; bytes = is.bytes; here = s.bytes ∙ is.here; size = is.size }
    files_now f r at (inr (inl g)) = let none : Some r ≡ None = sym at ∙ g.hand in cc
    files_now f r at (inr (inr (inl e))) = fresh f e.old.inode r e.hand e.bytes at
    files_now f r at (inr (inr (inr m))) = fresh f m.inode r m.hand m.bytes at

    here_now : (f : ℕ) → GoesOn These t u fs fs' f → is_some (map.get fs' f) ≡ ((is_some (map.get fs f) || eqb f t.next) && is_some (map.get u.bytes f))
    here_now f (inl s) = by (there_or_not (map.get fs f))
      where
        by : ((r : FileState) × (map.get fs f ≡ Some r)) ⊎ (map.get fs f ≡ None) → is_some (map.get fs' f) ≡ ((is_some (map.get fs f) || eqb f t.next) && is_some (map.get u.bytes f))
        by (inl at) = both _ _ _ _ (ap is_some (s.hand ∙ at.1)) (ap is_some at.1) (ap is_some (s.bytes ∙ (has_bytes f at.0 at.1).1))
        by (inr none) = neither _ _ _ _ (ap is_some (s.hand ∙ none)) (ap is_some none) (λ e. ap is_some (s.bytes ∙ ap (map.get t.bytes) (eqb-true f t.next e) ∙ next_none))
    here_now f (inr (inl g)) = dead _ (is_some (map.get fs f)) (eqb f t.next) _ (ap is_some g.hand) (ap is_some g.bytes)
    here_now f (inr (inr (inl e))) = both _ _ _ _ (ap is_some e.hand) (ap is_some e.was) (ap is_some e.bytes)
    here_now f (inr (inr (inr m))) = new_both _ _ _ _ (ap is_some m.hand) (eq-eqb f t.next m.next) (ap is_some m.bytes)

    stays_now : (f : ℕ) (s r : FileState) → map.get fs f ≡ Some s → map.get fs' f ≡ Some r → GoesOn These t u fs fs' f → ((r ≡ s) × (map.get u.bytes f ≡ map.get t.bytes f)) ⊎ HasNoByte u f s.inode r
    stays_now f s r at at' (inl o) = inl (same_some r s (sym at' ∙ o.hand ∙ at), o.bytes)
    stays_now f s r at at' (inr (inl g)) = let none : Some r ≡ None = sym at' ∙ g.hand in cc
    stays_now f s r at at' (inr (inr (inl e))) =
        inr (same_some r (no_bytes f s.inode) (sym at' ∙ e.hand ∙ ap (λ (o : FileState). Some (no_bytes f o.inode)) (same_some e.old s (sym e.was ∙ at))), e.bytes)
    stays_now f s r at at' (inr (inr (inr m))) = let none : Some s ≡ None = sym at ∙ ap (map.get fs) m.next ∙ next_absent in cc

    born_now : (f : ℕ) (r : FileState) → map.get fs f ≡ None → map.get fs' f ≡ Some r → GoesOn These t u fs fs' f → HasNoByte u f r.inode r
    born_now f r none at (inl s) = let no : Some r ≡ None = sym at ∙ s.hand ∙ none in cc
    born_now f r none at (inr (inl g)) = let no : Some r ≡ None = sym at ∙ g.hand in cc
    born_now f r none at (inr (inr (inl e))) = let no : Some e.old ≡ None = sym e.was ∙ none in cc
    born_now f r none at (inr (inr (inr m))) =
        let same : r ≡ no_bytes f m.inode = same_some r (no_bytes f m.inode) (sym at ∙ m.hand) in
        (same ∙ ap (no_bytes f) (sym (ap (λ (s : FileState). s.inode) same)), m.bytes)

    changed_now : (f : ℕ) → GoesOn These t u fs fs' f → (map.get fs' f ≡ map.get fs f) ⊎ ((map.get u.bytes f ≡ map.get t.bytes f → ⊥) ⊎ These f)
    changed_now f (inl s) = inl s.hand
    changed_now f (inr (inl g)) = inr (inl (λ same. by (from_some (map.get fs f) g.was) same))
      where
        by : (s : FileState) × (map.get fs f ≡ Some s) → map.get u.bytes f ≡ map.get t.bytes f → ⊥
        by at same = let some = has_bytes f at.0 at.1 in let no : None ≡ Some some.0 = sym g.bytes ∙ same ∙ some.1 in cc
    changed_now f (inr (inr (inl e))) = inr (inr e.this)
    changed_now f (inr (inr (inr m))) = inr (inl (λ same. let no : Some [] ≡ None = sym m.bytes ∙ same ∙ ap (map.get t.bytes) m.next ∙ next_none in cc))

    others_now : (f : ℕ) → map.get fs f ≡ None → (f ≡ t.next → ⊥) → GoesOn These t u fs fs' f → map.get u.bytes f ≡ map.get t.bytes f
    others_now f none not (inl s) = s.bytes
    others_now f none not (inr (inl g)) = let no : true ≡ false = sym g.was ∙ ap is_some none in cc
    others_now f none not (inr (inr (inl e))) = let no : Some e.old ≡ None = sym e.was ∙ none in cc
    others_now f none not (inr (inr (inr m))) = absurd (not m.next)

    pub files_go : FilesGoBut These t u fs fs'
    files_go = record {
      tree = is;
      files = λ f r at. files_now f r at (goes f);
      go_on = record {
        here = λ f. here_now f (goes f);
        stays = λ f s r at at'. stays_now f s r at at' (goes f);
        born = λ f r none at. born_now f r none at (goes f);
        others = λ f none not. others_now f none not (goes f);
      };
      changed = λ f. changed_now f (goes f);
    }

  -- ---- one file

  -- none changes
  pub files_same : fs' ≡ fs → ((f : ℕ) → map.get u.bytes f ≡ map.get t.bytes f) → FilesGo t u fs fs'
  files_same same bytes = files_go (λ _. ⊥) (λ f. inl (record { hand = ap (λ (m : Files). map.get m f) same; bytes = bytes f }))

  module _ (g : ℕ) where
    -- it goes
    pub files_gone : is_some (map.get fs g) ≡ true → fs' ≡ map.remove fs g → u.bytes ≡ map.remove t.bytes g → FilesGo t u fs fs'
    files_gone was hands bytes = files_go (λ _. ⊥) (λ f. by f (number_apart f g))
      where
        by : (f : ℕ) → (f ≡ g) ⊎ (f ≡ g → ⊥) → GoesOn (λ _. ⊥) t u fs fs' f
        by f (inl e) = inr (inl (record {
          was = ap (λ f. is_some (map.get fs f)) e ∙ was;
          hand = ap (map.get fs') e ∙ ap (λ (m : Files). map.get m g) hands ∙ removed_here nat_cmp_total nat_cmp-IsAntisymmetric fs g;
          bytes = ap (map.get u.bytes) e ∙ ap (λ (m : tree.Files). map.get m g) bytes ∙ removed_here nat_cmp_total nat_cmp-IsAntisymmetric t.bytes g;
        }))
        by f (inr not) = inl (record {
          hand = ap (λ (m : Files). map.get m f) hands ∙ removed_else nat_cmp_total nat_cmp-IsAntisymmetric fs g f not;
          bytes = ap (λ (m : tree.Files). map.get m f) bytes ∙ removed_else nat_cmp_total nat_cmp-IsAntisymmetric t.bytes g f not;
        })

    -- it has no byte any more
    pub files_emptied : (These : ℕ → Type 0) → These g → (s : FileState) → map.get fs g ≡ Some s → fs' ≡ map.insert fs g (no_bytes g s.inode) → u.bytes ≡ map.insert t.bytes g [] → FilesGoBut These t u fs fs'
    files_emptied These this s was hands bytes = files_go These (λ f. by f (number_apart f g))
      where
        by : (f : ℕ) → (f ≡ g) ⊎ (f ≡ g → ⊥) → GoesOn These t u fs fs' f
        by f (inl e) = inr (inr (inl (record {
          this = subst These (sym e) this;
          old = s;
          was = ap (map.get fs) e ∙ was;
          hand = ap (map.get fs') e ∙ ap (λ (m : Files). map.get m g) hands ∙ inserted_here nat_cmp_total nat_cmp-IsAntisymmetric fs g (no_bytes g s.inode) ∙ ap (λ n. Some (no_bytes n s.inode)) (sym e);
          bytes = ap (map.get u.bytes) e ∙ ap (λ (m : tree.Files). map.get m g) bytes ∙ inserted_here nat_cmp_total nat_cmp-IsAntisymmetric t.bytes g [];
        })))
        by f (inr not) = inl (record {
          hand = ap (λ (m : Files). map.get m f) hands ∙ inserted_else nat_cmp_total nat_cmp-IsAntisymmetric fs g (no_bytes g s.inode) f not;
          bytes = ap (λ (m : tree.Files). map.get m f) bytes ∙ inserted_else nat_cmp_total nat_cmp-IsAntisymmetric t.bytes g [] f not;
        })

  -- it is new
  pub files_made : (i : ℕ) → fs' ≡ map.insert fs t.next (no_bytes t.next i) → u.bytes ≡ map.insert t.bytes t.next [] → FilesGo t u fs fs'
  files_made i hands bytes = files_go (λ _. ⊥) (λ f. by f (number_apart f t.next))
    where
      by : (f : ℕ) → (f ≡ t.next) ⊎ (f ≡ t.next → ⊥) → GoesOn (λ _. ⊥) t u fs fs' f
      by f (inl e) = inr (inr (inr (record {
        inode = i;
        next = e;
        hand = ap (map.get fs') e ∙ ap (λ (m : Files). map.get m t.next) hands ∙ inserted_here nat_cmp_total nat_cmp-IsAntisymmetric fs t.next (no_bytes t.next i) ∙ ap (λ n. Some (no_bytes n i)) (sym e);
        bytes = ap (map.get u.bytes) e ∙ ap (λ (m : tree.Files). map.get m t.next) bytes ∙ inserted_here nat_cmp_total nat_cmp-IsAntisymmetric t.bytes t.next [];
      })))
      by f (inr not) = inl (record {
        hand = ap (λ (m : Files). map.get m f) hands ∙ inserted_else nat_cmp_total nat_cmp-IsAntisymmetric fs t.next (no_bytes t.next i) f not;
        bytes = ap (λ (m : tree.Files). map.get m f) bytes ∙ inserted_else nat_cmp_total nat_cmp-IsAntisymmetric t.bytes t.next [] f not;
      })

-- ---- a file goes that nothing keeps any more

-- The tree has the bytes of before, but for the file that is live no more.
pub files_settle : (t : PosixTree) → IsTree t → (fs fs' : Files) → AreSizedAs fs t → (v : PosixTree) → v.bytes ≡ t.bytes → (n new : NamesPart) (g : ℕ) (h : Holding) → Settles n new fs fs' g h
    → is_kept h ≡ is_live v.paths v.fds g → (is_kept h ≡ false → is_some (map.get fs g) ≡ true) → FilesGo t (forget v (Some g)) fs fs'
files_settle t is fs fs' files v same n new g h settles live here = by (is_kept h) (is_live v.paths v.fds g) refl live
  where
    by : (a b : Bool) → is_kept h ≡ a → a ≡ b → FilesGo t (cond {A = PosixTree} b v (record v { bytes = map.remove v.bytes g })) fs fs'
    by true true e alike = files_same t v is fs fs' files (settles.kept e).files (λ f. ap (λ (m : tree.Files). map.get m f) same)
    by false false e alike = files_gone t (record v { bytes = map.remove v.bytes g }) is fs fs' files g (here e) (settles.gone e).files (ap (λ (m : tree.Files). map.remove m g) same)
    by true false e alike = cc
    by false true e alike = cc
