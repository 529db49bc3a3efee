-- The places of files, as the search tree has them.
use Rattle.std.proofs.Common.{◌≡◌, ◌≢◌, ℕ, ◌⊎◌, inl, inr, Bool, true, false, cond, List, [], ◌∷◌, Option, Some, None, is_some, refl, ap, sym, ◌∙◌}
use Rattle.std.specs.Prelude.{Err, IsSome, Ok, OnErr, OnOk, Result, not}
use Rattle.std.specs.Result.{is_err}
use Rattle.std.specs.BTreeMap as tree
use Rattle.std.specs.BTreeMap.{BTreeMap}
use Rattle.std.specs.Cmp.{nat_cmp_total}
use Rattle.std.specs.FinMap as fin
use Rattle.std.specs.FinMap.{nat_cmp-IsAntisymmetric}
use Rattle.std.specs.Map.{keys_of, remove_entry}
use Rattle.std.specs.Ordering.{nat_cmp}
use Rattle.ufs_calls.specs.Seen.{keyed, seen}
use Rattle.ufs_calls.proofs.Facts.Maps.{entries-seen, get-seen, insert-seen, remove-seen}
use Rattle.ufs_joint.specs.Cells.{FileCell}
use Rattle.ufs_model.proofs.Facts.Lookups as lookups
use Rattle.ufs_model.proofs.Facts.Lookups.{same_some}
use Rattle.ufs_home.specs.Places.{AreNumbered, Places, file_here, in_place, with_place}

pub one_or_other : (f g : ℕ) → (g ≡ f) ⊎ (g ≢ f)
one_or_other f g = lookups.one_or_apart nat_cmp_total nat_cmp-IsAntisymmetric g f

-- ---- one place changes

pub put_here : (places : Places) (f : ℕ) (o : Option FileCell) → fin.get (fin.insert places f o) f ≡ Some o
put_here places f o = lookups.inserted_here nat_cmp_total nat_cmp-IsAntisymmetric places f o

pub put_else : (places : Places) (f : ℕ) (o : Option FileCell) (g : ℕ) → g ≢ f → fin.get (fin.insert places f o) g ≡ fin.get places g
put_else places f o g not' = lookups.inserted_else nat_cmp_total nat_cmp-IsAntisymmetric places f o g not'

pub same_places : (a b : Places) → ((g : ℕ) → fin.get a g ≡ fin.get b g) → a ≡ b
same_places a b same = fin.same_map nat_cmp_total nat_cmp-IsAntisymmetric a b same

-- the second of two writes stays
pub over : (places : Places) (f : ℕ) (o p : Option FileCell) → fin.insert (fin.insert places f o) f p ≡ fin.insert places f p
over places f o p = same_places _ _ (λ g. by g (one_or_other f g))
  where
    by : (g : ℕ) → (g ≡ f) ⊎ (g ≢ f) → fin.get (fin.insert (fin.insert places f o) f p) g ≡ fin.get (fin.insert places f p) g
    by g (inl e) = ap (fin.get (fin.insert (fin.insert places f o) f p)) e ∙ put_here (fin.insert places f o) f p ∙ sym (put_here places f p) ∙ ap (fin.get (fin.insert places f p)) (sym e)
    by g (inr not') = put_else (fin.insert places f o) f p g not' ∙ put_else places f o g not' ∙ sym (put_else places f p g not')

-- what was taken out is put in again
pub put_again : (places : Places) (f : ℕ) (o p : Option FileCell) → fin.get places f ≡ Some p → fin.insert (fin.insert places f o) f p ≡ places
put_again places f o p at = same_places _ _ (λ g. by g (one_or_other f g))
  where
    by : (g : ℕ) → (g ≡ f) ⊎ (g ≢ f) → fin.get (fin.insert (fin.insert places f o) f p) g ≡ fin.get places g
    by g (inl e) = ap (fin.get (fin.insert (fin.insert places f o) f p)) e ∙ put_here (fin.insert places f o) f p ∙ sym at ∙ ap (fin.get places) (sym e)
    by g (inr not') = put_else (fin.insert places f o) f p g not' ∙ put_else places f o g not'

pub emptied_there : (places : Places) (f : ℕ) → fin.get (fin.insert places f None) f ≡ Some None
emptied_there places f = put_here places f None

-- a file that is here is in its place
pub in_its_place : (o : Option (Option FileCell)) (c : FileCell) → in_place o ≡ Some c → o ≡ Some (Some c)
in_its_place None c is = absurd cc
in_its_place (Some p) c is = ap Some is

pub place_of_here : (o : Option (Option FileCell)) → IsSome (in_place o) → IsSome o
place_of_here None some = some
place_of_here (Some p) some = refl

-- ---- a place is made

pub placed_there : (places : Places) (f : ℕ) → file_here places f ≡ None → fin.get (with_place places f) f ≡ Some None
placed_there places f none = by (fin.get places f) refl
  where
    by : (o : Option (Option FileCell)) → fin.get places f ≡ o → fin.get (with_place places f) f ≡ Some None
    by None is = ap (λ (b : Bool). fin.get (cond b places (fin.insert places f None)) f) (ap is_some is) ∙ put_here places f None
    by (Some o) is = ap (λ (b : Bool). fin.get (cond b places (fin.insert places f None)) f) (ap is_some is) ∙ is ∙ ap Some (ap in_place (sym is) ∙ none)

pub placed_over : (places : Places) (f : ℕ) (p : Option FileCell) → fin.insert (with_place places f) f p ≡ fin.insert places f p
placed_over places f p = by (is_some (fin.get places f))
  where
    by : (b : Bool) → fin.insert (cond b places (fin.insert places f None)) f p ≡ fin.insert places f p
    by true = refl
    by false = over places f None p

pub has_place : (places : Places) (f : ℕ) (b : Bool) → is_some (fin.get places f) ≡ b → cond b places (fin.insert places f None) ≡ with_place places f
has_place places f b is = ap (λ (c : Bool). cond c places (fin.insert places f None)) (sym is)

-- a place that is empty, or isn't there, is empty then
put_same : (places : Places) (f : ℕ) (p : Option FileCell) → fin.get places f ≡ Some p → fin.insert places f p ≡ places
put_same places f p at = same_places _ _ (λ g. by g (one_or_other f g))
  where
    by : (g : ℕ) → (g ≡ f) ⊎ (g ≢ f) → fin.get (fin.insert places f p) g ≡ fin.get places g
    by g (inl e) = ap (fin.get (fin.insert places f p)) e ∙ put_here places f p ∙ sym at ∙ ap (fin.get places) (sym e)
    by g (inr not') = put_else places f p g not'

pub placed_empty : (places : Places) (f : ℕ) → file_here places f ≡ None → with_place places f ≡ fin.insert places f None
placed_empty places f none = by (fin.get places f) refl
  where
    by : (o : Option (Option FileCell)) → fin.get places f ≡ o → with_place places f ≡ fin.insert places f None
    by None is = ap (λ (b : Bool). cond b places (fin.insert places f None)) (ap is_some is)
    by (Some o) is = ap (λ (b : Bool). cond b places (fin.insert places f None)) (ap is_some is) ∙ sym (put_same places f None (is ∙ ap Some (ap in_place (sym is) ∙ none)))

pub placed_away : (places : Places) (f : ℕ) → file_here places f ≡ None → file_here (with_place places f) f ≡ None
placed_away places f none = ap in_place (placed_there places f none)

-- what was made goes again
removed_again : (places : Places) (f : ℕ) (o : Option FileCell) → fin.get places f ≡ None → fin.remove (fin.insert places f o) f ≡ places
removed_again places f o at = same_places _ _ (λ g. by g (one_or_other f g))
  where
    by : (g : ℕ) → (g ≡ f) ⊎ (g ≢ f) → fin.get (fin.remove (fin.insert places f o) f) g ≡ fin.get places g
    by g (inl e) = ap (fin.get (fin.remove (fin.insert places f o) f)) e ∙ lookups.removed_here nat_cmp_total nat_cmp-IsAntisymmetric (fin.insert places f o) f ∙ sym at ∙ ap (fin.get places) (sym e)
    by g (inr not') = lookups.removed_else nat_cmp_total nat_cmp-IsAntisymmetric (fin.insert places f o) f g not' ∙ put_else places f o g not'

pub undone : (places : Places) (f : ℕ) (made : Bool) → made ≡ not (is_some (fin.get places f)) → cond made (fin.remove (with_place places f) f) (with_place places f) ≡ places
undone places f made is = by (fin.get places f) refl
  where
    by : (o : Option (Option FileCell)) → fin.get places f ≡ o → cond made (fin.remove (with_place places f) f) (with_place places f) ≡ places
    by None at =
        let m : made ≡ true = is ∙ ap (λ (o : Option (Option FileCell)). not (is_some o)) at in
        let w : with_place places f ≡ fin.insert places f None = ap (λ (b : Bool). cond b places (fin.insert places f None)) (ap is_some at) in
        (λ i. cond (m i) (fin.remove (w i) f) (w i)) ∙ removed_again places f None at
    by (Some o) at =
        let m : made ≡ false = is ∙ ap (λ (o : Option (Option FileCell)). not (is_some o)) at in
        let w : with_place places f ≡ places = ap (λ (b : Bool). cond b places (fin.insert places f None)) (ap is_some at) in
        (λ i. cond (m i) (fin.remove (w i) f) (w i))

-- ---- each is in the place of its number

here_after : (places : Places) (f : ℕ) (o : Option FileCell) → file_here (fin.insert places f o) f ≡ o
here_after places f o = ap in_place (put_here places f o)

pub numbered_filled : (places : Places) (f : ℕ) (c : FileCell) → AreNumbered places → c.value.file.file ≡ f → AreNumbered (fin.insert places f (Some c))
numbered_filled places f c numbered is g d has = by (one_or_other f g)
  where
    by : (g ≡ f) ⊎ (g ≢ f) → d.value.file.file ≡ g
    by (inl e) = ap (λ (x : FileCell). x.value.file.file) (same_some d c (sym has ∙ ap (file_here (fin.insert places f (Some c))) e ∙ here_after places f (Some c))) ∙ is ∙ sym e
    by (inr not') = numbered g d (sym (ap in_place (put_else places f (Some c) g not')) ∙ has)

pub numbered_emptied : (places : Places) (f : ℕ) → AreNumbered places → AreNumbered (fin.insert places f None)
numbered_emptied places f numbered g d has = by (one_or_other f g)
  where
    by : (g ≡ f) ⊎ (g ≢ f) → d.value.file.file ≡ g
    by (inl e) = absurd (let gone = sym has ∙ ap (file_here (fin.insert places f None)) e ∙ here_after places f None in cc)
    by (inr not') = numbered g d (sym (ap in_place (put_else places f None g not')) ∙ has)

pub numbered_removed : (places : Places) (f : ℕ) → AreNumbered places → AreNumbered (fin.remove places f)
numbered_removed places f numbered g d has = by (one_or_other f g)
  where
    by : (g ≡ f) ⊎ (g ≢ f) → d.value.file.file ≡ g
    by (inl e) = absurd (let gone = sym has ∙ ap (file_here (fin.remove places f)) e ∙ ap in_place (lookups.removed_here nat_cmp_total nat_cmp-IsAntisymmetric places f) in cc)
    by (inr not') = numbered g d (sym (ap in_place (lookups.removed_else nat_cmp_total nat_cmp-IsAntisymmetric places f g not')) ∙ has)

pub numbered_none : AreNumbered fin.empty
numbered_none g d has = absurd (let none = ap in_place (fin.get-empty {X = Option FileCell} nat_cmp g) in let both = sym none ∙ has in cc)

-- ---- the search tree

abbrev pub Tree : Type 0
Tree = BTreeMap ℕ (Option FileCell)

abbrev pub seen_in : Tree → Places
seen_in m = seen nat_cmp (λ k. k) m

module _ (m : Tree) (places : Places) (is : seen_in m ≡ places) (f : ℕ) where
  -- what is in a place
  pub told : fin.get places f ≡ tree.get_by (nat_cmp f) m
  told = ap (λ (p : Places). fin.get p f) (sym is) ∙ get-seen nat_cmp (λ k. k) nat_cmp_total nat_cmp-IsAntisymmetric m f

  -- it is written
  pub written : (n : Tree) (o : Option FileCell) → n.entries ≡ tree.insert_entry nat_cmp m.entries f o → seen_in n ≡ fin.insert places f o
  written n o put = insert-seen nat_cmp (λ k. k) nat_cmp_total nat_cmp-IsAntisymmetric m n f o put ∙ ap (λ (p : Places). fin.insert p f o) is

  -- it goes
  pub freed : (n : Tree) → tree.IsOrdered nat_cmp m → n.entries ≡ remove_entry (tree.is_at (nat_cmp f)) m.entries → seen_in n ≡ fin.remove places f
  freed n sorted put = remove-seen nat_cmp (λ k. k) nat_cmp_total nat_cmp-IsAntisymmetric m n f sorted put ∙ ap (λ (p : Places). fin.remove p f) is

pub unchanged : (m n : Tree) → n.entries ≡ m.entries → seen_in n ≡ seen_in m
unchanged m n same = ap (λ es. fin.from_entries (keyed nat_cmp (λ k. k) es)) same

-- ---- results

pub on_err : {X E A : Type 0} (r : Result X E) → A → OnErr r A
on_err (Ok x) is = tt
on_err (Err e) is = is

pub when_ok : {X E : Type 0} (r : Result X E) {A : Type 0} → is_err r ≡ false → OnOk r A → A
when_ok (Ok x) none is = is
when_ok (Err e) none is = absurd cc

pub when_err : {X E : Type 0} (r : Result X E) {A : Type 0} → is_err r ≡ true → OnErr r A → A
when_err (Ok x) some is = absurd cc
when_err (Err e) some is = is

-- ---- the numbers of all places

pub keys_same : (es : List (ℕ × Option FileCell)) → keys_of es ≡ keys_of (keyed nat_cmp (λ k. k) es)
keys_same [] = refl
keys_same (e ∷ es) = ap (λ ks. e.0 ∷ ks) (keys_same es)

pub numbers_in : (m : Tree) (places : Places) → seen_in m ≡ places → tree.IsOrdered nat_cmp m → tree.keys m ≡ fin.keys places
numbers_in m places is sorted = keys_same m.entries ∙ ap keys_of (sym (entries-seen nat_cmp (λ k. k) nat_cmp_total m sorted)) ∙ ap (λ (p : Places). fin.keys p) is
