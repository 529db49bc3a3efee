-- The places of files, as the search tree has them.
use Rattle.std.proofs.Common.{◌≡◌, ◌≢◌, ◌+◌, ◌≤◌, arith, length, ℕ, ◌⊎◌, inl, inr, Bool, true, false, cond, List, [], ◌∷◌, Option, Some, None, refl, ap, sym, ◌∙◌, subst}
use Rattle.std.specs.Prelude.{IfSome, IsSome, OnErr, OnOk, Result, Ok, Err}
use Rattle.std.specs.BTreeMap as tree
use Rattle.std.specs.BTreeMap.{BTreeMap}
use Rattle.std.specs.Cmp.{nat_cmp_total, eq_by_cmp_equiv}
use Rattle.std.specs.FinMap as fin
use Rattle.std.specs.FinMap.{nat_cmp-IsAntisymmetric}
use Rattle.std.specs.FinMap.Entries.{find-put, by_order}
use Rattle.std.specs.List.Sorted.{IsStrictlySortedBy}
use Rattle.std.specs.Map.{keys_of, lookup, remove_entry, set_value}
use Rattle.std.specs.Ordering.{nat_cmp, eq_by_cmp, is_eq, match_ordering}
use Rattle.std.specs.declared.cmp.Ordering.TheVariants.{Less, Equal, Greater}
use Rattle.std.proofs.lemmas.Map.{lookup-remove_entry, lookup-set_value}
use Rattle.std.proofs.lemmas.Map.Keys.{IsDistinct-from_sorted}
use Rattle.ufs_calls.proofs.Facts.Maps.{looked}
use Rattle.ufs_file.specs.Hand.{IsOf}
use Rattle.ufs_joint.specs.Cells.{FileCell}
use Rattle.ufs_model.specs.Asks.{file_in}
use Rattle.ufs_model.specs.declared.data.Desc.{Desc}
use Rattle.ufs_model.proofs.Facts.Lookups as lookups
use Rattle.ufs_model.proofs.Facts.Lookups.{same_some, tied}
use Rattle.ufs_worker.specs.Worker.{AreNumbered, Cells, ShelfState, filled, placed}

abbrev pub Entries : Type 0
Entries = List (ℕ × Option FileCell)

-- what is in a place, if there is one
abbrev pub flat : Option (Option FileCell) → Option FileCell
flat None = None
flat (Some o) = o

flat_or : (b : Bool) (o : Option FileCell) (l : Option (Option FileCell)) → flat (cond b (Some o) l) ≡ cond b o (flat l)
flat_or true o l = refl
flat_or false o l = refl

flat_gone : (b : Bool) (l : Option (Option FileCell)) → flat (cond b None l) ≡ cond b None (flat l)
flat_gone true l = refl
flat_gone false l = refl

get-placed : (files : Cells) (f : ℕ) (o : Option FileCell) (g : ℕ) → fin.get (placed files f o) g ≡ cond (eq_by_cmp nat_cmp g f) o (fin.get files g)
get-placed files f None g = fin.get-remove nat_cmp_total files f g
get-placed files f (Some c) g = fin.get-insert nat_cmp_total files f c g

-- what is held of a number is what is in its place
pub get-filled : (es : Entries) (g : ℕ) → fin.get (filled es) g ≡ flat (lookup (eq_by_cmp nat_cmp g) es)
get-filled [] g = fin.get-empty nat_cmp g
get-filled (e ∷ es) g =
    get-placed (filled es) e.0 e.1 g ∙ ap (cond (eq_by_cmp nat_cmp g e.0) e.1) (get-filled es g) ∙ sym (flat_or (eq_by_cmp nat_cmp g e.0) e.1 (lookup (eq_by_cmp nat_cmp g) es))

-- where two lists of places have the same
same_filled : (es : Entries) (files : Cells) → ((g : ℕ) → flat (lookup (eq_by_cmp nat_cmp g) es) ≡ fin.get files g) → filled es ≡ files
same_filled es files same = fin.same_map nat_cmp_total nat_cmp-IsAntisymmetric _ _ (λ g. get-filled es g ∙ same g)

-- a place is written
pub set-filled : (es : Entries) (f : ℕ) (o : Option FileCell) → IsSome (lookup (eq_by_cmp nat_cmp f) es) → filled (set_value (eq_by_cmp nat_cmp f) es o) ≡ placed (filled es) f o
set-filled es f o there = same_filled (set_value (eq_by_cmp nat_cmp f) es o) (placed (filled es) f o) (λ g.
    ap flat (lookup-set_value (eq_by_cmp_equiv nat_cmp_total) (eq_by_cmp nat_cmp f) (λ x y t. ap is_eq (nat_cmp_total.congr f x y (tied _ t))) g o es there
    ∙ ap (λ b. cond b (Some o) (lookup (eq_by_cmp nat_cmp g) es)) ((eq_by_cmp_equiv nat_cmp_total).symm f g))
    ∙ flat_or (eq_by_cmp nat_cmp g f) o (lookup (eq_by_cmp nat_cmp g) es)
    ∙ ap (cond (eq_by_cmp nat_cmp g f) o) (sym (get-filled es g))
    ∙ sym (get-placed (filled es) f o g))

put_entry : (f : ℕ) (o : Option FileCell) (es : Entries) → tree.insert_entry nat_cmp es f o ≡ fin.put nat_cmp f o es
put_entry f o [] = refl
put_entry f o (e ∷ es) =
    elim (nat_cmp f e.0) as (λ r. match_ordering r ((f, o) ∷ e ∷ es) ((e.0, o) ∷ es) (e ∷ tree.insert_entry nat_cmp es f o) ≡ by_order r ((f, o) ∷ e ∷ es) ((e.0, o) ∷ es) (e ∷ fin.put nat_cmp f o es)) [
      | Less ↦ refl
      | Equal ↦ refl
      | Greater ↦ ap (λ rest. e ∷ rest) (put_entry f o es)
    ]

-- a place is made
pub insert-filled : (es : Entries) (f : ℕ) (o : Option FileCell) → filled (tree.insert_entry nat_cmp es f o) ≡ placed (filled es) f o
insert-filled es f o = same_filled (tree.insert_entry nat_cmp es f o) (placed (filled es) f o) (λ g.
    ap flat (ap (lookup (eq_by_cmp nat_cmp g)) (put_entry f o es) ∙ sym (looked nat_cmp g (fin.put nat_cmp f o es)) ∙ find-put nat_cmp nat_cmp_total g f o es ∙ ap (cond (eq_by_cmp nat_cmp g f) (Some o)) (looked nat_cmp g es))
    ∙ flat_or (eq_by_cmp nat_cmp g f) o (lookup (eq_by_cmp nat_cmp g) es)
    ∙ ap (cond (eq_by_cmp nat_cmp g f) o) (sym (get-filled es g))
    ∙ sym (get-placed (filled es) f o g))

-- a place is freed
pub remove-filled : (es : Entries) (f : ℕ) → IsStrictlySortedBy nat_cmp (keys_of es) → filled (remove_entry (eq_by_cmp nat_cmp f) es) ≡ fin.remove (filled es) f
remove-filled es f sorted = same_filled (remove_entry (eq_by_cmp nat_cmp f) es) (fin.remove (filled es) f) (λ g.
    ap flat (lookup-remove_entry (eq_by_cmp_equiv nat_cmp_total) (eq_by_cmp nat_cmp f) (λ x y t. ap is_eq (nat_cmp_total.congr f x y (tied _ t))) g es (IsDistinct-from_sorted nat_cmp _ sorted)
    ∙ ap (λ b. cond b None (lookup (eq_by_cmp nat_cmp g) es)) ((eq_by_cmp_equiv nat_cmp_total).symm f g))
    ∙ flat_gone (eq_by_cmp nat_cmp g f) (lookup (eq_by_cmp nat_cmp g) es)
    ∙ ap (cond (eq_by_cmp nat_cmp g f) None) (sym (get-filled es g))
    ∙ sym (fin.get-remove nat_cmp_total (filled es) f g))

-- ---- each stands under its own number

one_or_other : (f g : ℕ) → (g ≡ f) ⊎ (g ≢ f)
one_or_other f g = lookups.one_or_apart nat_cmp_total nat_cmp-IsAntisymmetric g f

pub none_numbered : AreNumbered fin.empty
none_numbered f c is = absurd (let e = fin.get-empty {X = FileCell} nat_cmp f in cc)

pub numbered_with : (files : Cells) (c : FileCell) (f : ℕ) → AreNumbered files → c.value.file.file ≡ f → AreNumbered (fin.insert files f c)
numbered_with files c f numbered is g d has = by (one_or_other f g)
  where
    by : (g ≡ f) ⊎ (g ≢ f) → d.value.file.file ≡ g
    by (inl e) = ap (λ (x : FileCell). x.value.file.file) (same_some d c (sym has ∙ ap (fin.get (fin.insert files f c)) e ∙ lookups.inserted_here nat_cmp_total nat_cmp-IsAntisymmetric files f c)) ∙ is ∙ sym e
    by (inr not') = numbered g d (sym (lookups.inserted_else nat_cmp_total nat_cmp-IsAntisymmetric files f c g not') ∙ has)

pub numbered_without : (files : Cells) (f : ℕ) → AreNumbered files → AreNumbered (fin.remove files f)
numbered_without files f numbered g d has = by (one_or_other f g)
  where
    by : (g ≡ f) ⊎ (g ≢ f) → d.value.file.file ≡ g
    by (inl e) = absurd (let gone = lookups.removed_here nat_cmp_total nat_cmp-IsAntisymmetric files f in let at = ap (fin.get (fin.remove files f)) e in cc)
    by (inr not') = numbered g d (sym (lookups.removed_else nat_cmp_total nat_cmp-IsAntisymmetric files f g not') ∙ has)

-- ---- the shelf

module _ (a : ShelfState) (letters : List FileCell) (m : BTreeMap ℕ (Option FileCell)) (is : record { files = filled m.entries; letters = letters } ≡ a) (f : ℕ) where
  -- what is held of a number
  pub told : fin.get a.files f ≡ flat (tree.get_by (nat_cmp f) m)
  told = ap (λ (z : ShelfState). fin.get z.files f) (sym is) ∙ get-filled m.entries f

  -- its place is written
  pub written : (es : Entries) (o p : Option FileCell) → Some o ≡ tree.get_by (nat_cmp f) m → es ≡ set_value (tree.is_at (nat_cmp f)) m.entries p → record { files = filled es; letters = letters } ≡ record a { files = placed a.files f p }
  written es o p at put =
      ap (λ (fs : Entries). record { files = filled fs; letters = letters }) put
      ∙ ap (λ (t : Cells). record { files = t; letters = letters }) (set-filled m.entries f p (subst IsSome at refl))
      ∙ ap (λ (z : ShelfState). record z { files = placed z.files f p }) is

-- ---- each stands under its number still

pub numbered_set : (es old : Entries) (f : ℕ) (c : FileCell) → AreNumbered (filled old) → c.value.file.file ≡ f → filled es ≡ placed (filled old) f (Some c) → AreNumbered (filled es)
numbered_set es old f c numbered is same = subst AreNumbered (sym same) (numbered_with (filled old) c f numbered is)

pub numbered_gone : (es old : Entries) (f : ℕ) → AreNumbered (filled old) → filled es ≡ fin.remove (filled old) f → AreNumbered (filled es)
numbered_gone es old f numbered same = subst AreNumbered (sym same) (numbered_without (filled old) f numbered)

-- ---- a place is asked for

pub on_ok : {X E : Type 0} (r : Result X E) {A B : Type 0} → (A → B) → OnOk r A → OnOk r B
on_ok (Ok x) go is = go is
on_ok (Err e) go is = tt

pub on_err : {X E : Type 0} (r : Result X E) {A B : Type 0} → (A → B) → OnErr r A → OnErr r B
on_err (Ok x) go is = tt
on_err (Err e) go is = go is

pub numbered_made : {E : Type 0} (r : Result (Unit {0}) E) (old new : Entries) (c : FileCell) → OnOk r (filled new ≡ fin.insert (filled old) c.value.file.file c) → OnErr r (new ≡ old) → AreNumbered (filled old) → AreNumbered (filled new)
numbered_made (Ok x) old new c made kept numbered = numbered_set new old c.value.file.file c numbered refl made
numbered_made (Err e) old new c made kept numbered = subst (λ (es : Entries). AreNumbered (filled es)) (sym kept) numbered

pub room_made : {E : Type 0} (r : Result (Unit {0}) E) (old new : Entries) (kept cap : ℕ) → OnOk r (length new ≤ length old + 1) → OnErr r (new ≡ old) → kept + (length old + 1) ≤ cap → kept + length new ≤ cap
room_made (Ok x) old new kept cap made same room = omega (arith, made, room)
room_made (Err e) old new kept cap made same room = let n = ap (λ (es : Entries). length es) same in omega (arith, n, room)

-- the descriptor is of the file in the place
pub of_file : (d : Option Desc) (file : ℕ) → file_in d ≡ Some file → IsOf d file
of_file None file is = absurd cc
of_file (Some d) file is = is

pub of_cell : (o : Option FileCell) (d : Option Desc) (file : ℕ) → file_in d ≡ Some file → ((c : FileCell) → o ≡ Some c → c.value.file.file ≡ file) → IfSome o (λ c. IsOf d c.value.file.file)
of_cell None d file is number = tt
of_cell (Some c) d file is number = subst (IsOf d) (sym (number c refl)) (of_file d file is)

pub some_is : {A : Type 0} (o : Option A) → IsSome o → (x : A) × (o ≡ Some x)
some_is None is = absurd cc
some_is (Some x) is = (x, refl)

pub none_of_none : (es : Entries) → length es ≡ 0 → AreNumbered (filled es)
none_of_none [] is = none_numbered
none_of_none (e ∷ es) is = absurd (omega (arith, is))
