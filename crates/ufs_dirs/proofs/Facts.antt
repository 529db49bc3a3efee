-- What is proved of lists of names, for other crates to cite.
use Rattle.std.proofs.Common.{◌≡◌, ℕ, List, [], ◌∷◌, Bool, true, false, cond, ◌||◌, Option, Some, None, is_some, map, ap, sym, refl, ◌∙◌, subst}
use Rattle.std.proofs.lemmas.Cmp.{nat_list_cmp_total}
use Rattle.std.proofs.lemmas.Map.Lookups.{exact_bytes}
use Rattle.std.proofs.lemmas.Map.Text.{is_eq-slice_cmp}
use Rattle.std.proofs.Math.Dec.{T}
use Rattle.std.specs.FinMap.Entries.{find, same_entries}
use Rattle.std.specs.List.{list_any}
use Rattle.std.specs.Ordering.{eq_by_cmp}
use Rattle.std.specs.Str.{bytes_eq}
use Rattle.ufs_layout.specs.DentryForm.{DentryForm}
use Rattle.ufs_dirs.specs.Directory.{name_cmp}
use Rattle.ufs_dirs.specs.Names.{AreNamesIn, names_rise}

abbrev keyed : List (List ℕ) → List (List ℕ × Unit {0})
keyed names = map {B = List ℕ × Unit {0}} (λ name. (name, tt)) names

found_is : (names : List (List ℕ)) (name : List ℕ) → is_some (find name_cmp name (keyed names)) ≡ list_any (bytes_eq name) names
found_is [] name = refl
found_is (x ∷ xs) name = by (eq_by_cmp name_cmp name x) (is_eq-slice_cmp name x) (found_is xs name)
  where
    by : (b : Bool) → b ≡ bytes_eq name x → is_some (find name_cmp name (keyed xs)) ≡ list_any (bytes_eq name) xs → is_some (cond b (Some tt) (find name_cmp name (keyed xs))) ≡ (bytes_eq name x || list_any (bytes_eq name) xs)
    by true same rest = ap (λ b. b || list_any (bytes_eq name) xs) same
    by false same rest = rest ∙ ap (λ b. b || list_any (bytes_eq name) xs) same

one_unit : (o p : Option (Unit {0})) → is_some o ≡ is_some p → o ≡ p
one_unit (Some x) (Some y) e = refl
one_unit (Some x) None e = cc
one_unit None (Some y) e = cc
one_unit None None e = refl

unkeyed : (names : List (List ℕ)) → map (λ (e : List ℕ × Unit {0}). e.0) (keyed names) ≡ names
unkeyed [] = refl
unkeyed (x ∷ xs) = ap (λ rest. x ∷ rest) (unkeyed xs)

-- Rising lists of the same names are one.
pub one_list : (xs ys : List (List ℕ)) → names_rise xs ≡ true → names_rise ys ≡ true → ((name : List ℕ) → list_any (bytes_eq name) xs ≡ list_any (bytes_eq name) ys) → xs ≡ ys
one_list xs ys h k same =
    let keys = same_entries name_cmp nat_list_cmp_total exact_bytes (keyed xs) (keyed ys) (subst T (sym h) tt) (subst T (sym k) tt) (λ name. one_unit _ _ (found_is xs name ∙ same name ∙ sym (found_is ys name))) in
    sym (unkeyed xs) ∙ ap (λ (es : List (List ℕ × Unit {0})). map (λ e. e.0) es) keys ∙ unkeyed ys

pub same_names_in : (slots : List DentryForm) (xs ys : List (List ℕ)) → AreNamesIn slots xs → AreNamesIn slots ys → xs ≡ ys
same_names_in slots xs ys h k = one_list xs ys h.rising k.rising (λ name. h.each name ∙ sym (k.each name))
