-- The rights to files that are here come to one hand.
use Rattle.std.proofs.Common.{◌≡◌, ◌≤◌, ℕ, inl, inr, Bool, true, false, cond, List, [], ◌∷◌, ◌++◌, append_assoc, Option, Some, None, eqb, is_some, ap, sym, refl, ◌∙◌, subst}
use Rattle.std.proofs.lemmas.List.{append-nil}
use Rattle.std.specs.Prelude.{IsSome}
use Rattle.std.specs.FinMap as fin
use Rattle.std.specs.FinMap.{get-entries}
use Rattle.std.specs.Ordering.{eq_by_cmp, nat_cmp}
use Rattle.ufs_calls.specs.Seen.{keyed}
use Rattle.ufs_held.specs.Held.{HasFileAlone}
use Rattle.ufs_held.specs.Together.{HasThemToo, under_numbers}
use Rattle.ufs_joint.specs.Cells.{FileCell, View, both_of}
use Rattle.ufs_hand_laws.specs.Owned.{Has, count}
use Rattle.ufs_hand_laws.specs.Parts.{either}
use Rattle.ufs_hand_laws.proofs.Owning.{append_has}
use Rattle.ufs_home.specs.Lending.{files_among, files_in, one_in}
use Rattle.ufs_home.specs.Places.{AreNumbered, Places, file_here, in_place}
use Rattle.ufs_home.proofs.Lending.{counted_has, number_of, times}
use Rattle.ufs_home.proofs.Shelves.{in_its_place}

-- ---- one more

either_first : (a b : Option ℕ) (fault : ℕ) → a ≡ Some fault → either a b ≡ Some fault
either_first (Some x) b fault is = is
either_first None b fault is = (let none : None ≡ Some fault = is in absurd cc)

pub joined_one : (v : View) (c : FileCell) (right : View) → HasFileAlone c right → right.faults ≡ [] → HasThemToo (c ∷ []) v (both_of v right)
joined_one v c right alone calm = record {
  clients = ap (λ ps. v.clients ++ ps) alone.clients ∙ append-nil v.clients;
  asked = ap (λ ps. v.asked ++ ps) alone.asked ∙ append-nil v.asked;
  files = ap (λ ps. v.files ++ ps) alone.files;
  pools = ap (λ ps. v.pools ++ ps) alone.pools ∙ append-nil v.pools;
  names = ap (λ ps. v.names ++ ps) alone.names ∙ append-nil v.names;
  store = ap (λ ps. v.store ++ ps) alone.store ∙ append-nil v.store;
  faults = ap (λ ps. v.faults ++ ps) calm ∙ append-nil v.faults;
  stop = λ fault told. either_first v.stop right.stop fault told;
}

under_append : (cs ds : List FileCell) → under_numbers (cs ++ ds) ≡ under_numbers cs ++ under_numbers ds
under_append [] ds = refl
under_append (c ∷ cs) ds = ap (λ ps. (c.value.file.file, c) ∷ ps) (under_append cs ds)

pub more_too : (cs ds : List FileCell) (u v w : View) → HasThemToo cs u v → HasThemToo ds v w → HasThemToo (cs ++ ds) u w
more_too cs ds u v w first then = record {
  clients = then.clients ∙ first.clients;
  asked = then.asked ∙ first.asked;
  files = then.files ∙ ap (λ ps. ps ++ under_numbers ds) first.files ∙ append_assoc u.files (under_numbers cs) (under_numbers ds) ∙ ap (λ ps. u.files ++ ps) (sym (under_append cs ds));
  pools = then.pools ∙ first.pools;
  names = then.names ∙ first.names;
  store = then.store ∙ first.store;
  faults = then.faults ∙ first.faults;
  stop = λ fault told. then.stop fault (first.stop fault told);
}

pub among_push : (es : List (ℕ × Option FileCell)) (e : ℕ × Option FileCell) → files_among (es ++ e ∷ []) ≡ files_among es ++ one_in e.1
among_push [] e = append-nil (one_in e.1)
among_push (d ∷ es) e = ap (λ cs. one_in d.1 ++ cs) (among_push es e) ∙ sym (append_assoc (one_in d.1) (files_among es) (one_in e.1))

-- ---- each that is here is among them

pub keyed_same : (es : List (ℕ × Option FileCell)) → keyed nat_cmp (λ k. k) es ≡ es
keyed_same [] = refl
keyed_same (e ∷ es) = ap (λ ds. e ∷ ds) (keyed_same es)

found_among : (es : List (ℕ × Option FileCell)) (f : ℕ) (c : FileCell) → fin.find nat_cmp f es ≡ Some (Some c) → Has c (files_among es)
found_among [] f c found = (let none : None ≡ Some (Some c) = found in absurd cc)
found_among (e ∷ es) f c found = by (eq_by_cmp nat_cmp f e.0) found (found_among es f c)
  where
    here : (o : Option FileCell) → Some o ≡ Some (Some c) → Has c (one_in o ++ files_among es)
    here None at = (let none : ◌≡◌ {A = Option (Option FileCell)} (Some None) (Some (Some c)) = at in absurd cc)
    here (Some d) at = inl (let both : ◌≡◌ {A = Option (Option FileCell)} (Some (Some d)) (Some (Some c)) = at in cc)

    by : (b : Bool) → cond b (Some e.1) (fin.find nat_cmp f es) ≡ Some (Some c) → (fin.find nat_cmp f es ≡ Some (Some c) → Has c (files_among es)) → Has c (one_in e.1 ++ files_among es)
    by true at rest = here e.1 at
    by false at rest = append_has c (one_in e.1) (files_among es) (inr (rest at))

pub all_among : (p : Places) → AreNumbered p → (f : ℕ) → IsSome (file_here p f) → 1 ≤ count eqb f (under_numbers (files_in p))
all_among p numbered f some = by (file_here p f) refl
  where
    by : (o : Option FileCell) → file_here p f ≡ o → 1 ≤ times f (files_in p)
    by None is = (let none : is_some (file_here p f) ≡ false = ap is_some is in let both : true ≡ false = sym some ∙ none in absurd cc)
    by (Some c) is =
        let found : fin.find nat_cmp f (fin.entries p) ≡ Some (Some c) = sym (get-entries p f) ∙ in_its_place (fin.get p f) c is in
        subst (λ (n : ℕ). 1 ≤ times n (files_in p)) (numbered f c is) (counted_has (files_in p) c (found_among (fin.entries p) f c found))
