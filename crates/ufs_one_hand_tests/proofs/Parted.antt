-- The second file is split off, and its hand is joined again.
use Rattle.std.proofs.Common.{◌≡◌, ℕ, ◌+◌, ◌≤◌, ◌⊎◌, Bool, true, false, cond, eqb, eq-eqb, ne_eqb, eqb-true, List, [], ◌∷◌, ◌++◌, Option, Some, None, is_some, refl, ap, sym, ◌∙◌, subst, inl, inr, ⊎_elim, arith, append-nil}
use native.Mathlib.Decide.{ℕ_discrete}
use Rattle.std.specs.Cmp.{nat_cmp_total}
use Rattle.std.specs.FinMap as fin
use Rattle.std.specs.FinMap.{nat_cmp-IsAntisymmetric}
use Rattle.std.specs.Ordering.{nat_cmp}
use Rattle.ufs_model.specs.History.{tree_after}
use Rattle.ufs_model.specs.declared.data.Entry.{Entry}
use Rattle.ufs_model.specs.declared.data.Op.{Op}
use Rattle.ufs_model.specs.declared.data.PartName.TheVariants as part
use Rattle.ufs_model.proofs.Facts.Lookups.{inserted_else, inserted_here}
use Rattle.ufs_one_hand.specs.Apart.{FileViews, HasEachFile, IsHandOfFile}
use Rattle.ufs_one_hand.specs.OneHand.{HasSession, IsFileAt}
use Rattle.ufs_crash_laws.specs.Changes.{changes_of}
use Rattle.ufs_hand_laws.specs.Owned.{Has, count, named, one, only, without}
use Rattle.ufs_hand_laws.specs.Parts.{FilePart, Start, View, both_of, either, given_of, kept_of, later}
use Rattle.ufs_hand_laws.proofs.Owning.{has_append, has_cut, weigh_append, weigh_cut}

-- the hand of the second file alone is apart
abbrev pub only_other : View → FileViews
only_other u = fin.insert fin.empty 1 u

other_here : (u : View) → fin.get (only_other u) 1 ≡ Some u
other_here u = inserted_here nat_cmp_total nat_cmp-IsAntisymmetric fin.empty 1 u

others_none : (u : View) (f : ℕ) → (f ≡ 1 → ⊥) → fin.get (only_other u) f ≡ None
others_none u f ne = inserted_else nat_cmp_total nat_cmp-IsAntisymmetric fin.empty 1 u f ne ∙ fin.get-empty nat_cmp f

one_apart : (u : View) (f : ℕ) → one (is_some (fin.get (only_other u) f)) ≡ one (eqb f 1)
one_apart u f = by (ℕ_discrete f 1)
  where
    by : Dec (f ≡ 1) → one (is_some (fin.get (only_other u) f)) ≡ one (eqb f 1)
    by (yes is) = ap (λ n. one (is_some (fin.get (only_other u) n))) is ∙ ap (λ (o : Option View). one (is_some o)) (other_here u) ∙ ap one (sym (eq-eqb f 1 is))
    by (no ne) = ap (λ (o : Option View). one (is_some o)) (others_none u f ne) ∙ ap one (sym (ne_eqb f 1 ne))

none_apart : (f : ℕ) → one (is_some (fin.get {X = View} {R = nat_cmp} fin.empty f)) ≡ 0
none_apart f = ap (λ (o : Option View). one (is_some o)) (fin.get-empty nat_cmp f)

-- ---- a cut of one name

module _ {K D : Type 0} where
  without_none : (ps : List (K × D)) → without (λ _. false) ps ≡ ps
  without_none [] = refl
  without_none (p ∷ ps) = ap (λ qs. p ∷ qs) (without_none ps)

  only_none : (ps : List (K × D)) → only (λ _. false) ps ≡ []
  only_none [] = refl
  only_none (p ∷ ps) = only_none ps

only_absent : (ps : List (ℕ × FilePart)) → count eqb 1 ps ≡ 0 → only (eqb 1) ps ≡ []
only_absent [] none = refl
only_absent (p ∷ ps) none = by (eqb 1 p.0) none (only_absent ps)
  where
    by : (b : Bool) → one b + count eqb 1 ps ≡ 0 → (count eqb 1 ps ≡ 0 → only (eqb 1) ps ≡ []) → cond b (p ∷ only (eqb 1) ps) (only (eqb 1) ps) ≡ []
    by true z i = absurd (omega arith)
    by false z i = i (omega arith)

only_once : (ps : List (ℕ × FilePart)) → count eqb 1 ps ≡ 1 → (x : FilePart) × (only (eqb 1) ps ≡ (1, x) ∷ [])
only_once [] once = absurd (omega arith)
only_once (p ∷ ps) once = by (eqb 1 p.0) refl once (only_once ps)
  where
    by : (b : Bool) → eqb 1 p.0 ≡ b → one b + count eqb 1 ps ≡ 1 → (count eqb 1 ps ≡ 1 → (x : FilePart) × (only (eqb 1) ps ≡ (1, x) ∷ []))
        → (x : FilePart) × (cond b (p ∷ only (eqb 1) ps) (only (eqb 1) ps) ≡ (1, x) ∷ [])
    by true is z i = (p.1, λ j. (sym (eqb-true 1 p.0 is) j, p.1) ∷ only_absent ps (omega arith) j)
    by false is z i = i (omega arith)

-- ---- the second file is split off

module _ (k : Start) (h : List Entry) (asked : Option (ℕ × Op)) (v : View) (s : HasSession k h asked v) (each : HasEachFile k h v fin.empty) (there : is_some (fin.get (tree_after k.tree h).bytes 1) ≡ true) where
  has_one : count eqb 1 v.files ≡ 1
  has_one = let n = each.here 1 in let z = none_apart 1 in let o = ap one there in omega arith

  pub has_other : 1 ≤ count eqb 1 v.files
  has_other = let n = has_one in omega arith

  given_file : (x : FilePart) × (only (eqb 1) v.files ≡ (1, x) ∷ [])
  given_file = only_once v.files has_one

  left_counts : (f : ℕ) → count eqb f (without (eqb 1) v.files) + one (eqb f 1) ≡ count eqb f v.files
  left_counts f = let c = weigh_cut (eqb 1) (named eqb f) v.files in let g = ap (count eqb f) given_file.1 in omega arith

  -- the first hand keeps all else
  kept_is : record v { files = without (eqb 1) v.files } ≡ kept_of (part.File 1) v
  kept_is = λ i. record v {
    clients = sym (without_none v.clients) i;
    asked = sym (without_none v.asked) i;
    files = without (eqb 1) v.files;
    pools = (s.pools ∙ sym (ap (without (eqb 1)) s.pools)) i;
    names = sym (without_none v.names) i;
    store = sym (without_none v.store) i;
  }

  pub kept_session : HasSession k h asked (kept_of (part.File 1) v)
  kept_session = subst (HasSession k h asked) kept_is (record {
    start = s.start;
    tree = s.tree;
    legal = s.legal;
    all_clients = s.all_clients;
    all_asked = s.all_asked;
    clients = s.clients;
    theirs = s.theirs;
    one_file = λ f. let c = left_counts f in let o = s.one_file f in omega arith;
    files = λ f p has. s.files f p (has_cut (eqb 1) (f, p) v.files (inl has));
    changes = λ f p has. s.changes f p (has_cut (eqb 1) (f, p) v.files (inl has));
    pools = s.pools;
    names = s.names;
    has_names = s.has_names;
    names_at = s.names_at;
    store = s.store;
    has_store = s.has_store;
    store_at = s.store_at;
  })

  abbrev given : View
  given = given_of (part.File 1) v

  given_is : IsHandOfFile k h v.stop 1 given
  given_is =
      let has = has_cut (eqb 1) (1, given_file.0) v.files (inr (subst (Has {A = ℕ × FilePart} (1, given_file.0)) (sym given_file.1) (inl refl))) in
      record {
        part = given_file.0;
        files = given_file.1;
        at = s.files 1 given_file.0 has;
        changes = s.changes 1 given_file.0 has;
        clients = only_none v.clients;
        asked = only_none v.asked;
        pools = ap (only (eqb 1)) s.pools;
        names = only_none v.names;
        store = only_none v.store;
        faults = refl;
        shortages = refl;
        stop = λ n e. e;
      }

  -- which is apart then
  pub kept_each : HasEachFile k h (kept_of (part.File 1) v) (only_other given)
  kept_each = record {
    here = λ f. let c = left_counts f in let n = each.here f in let z = none_apart f in let o = one_apart given f in omega arith;
    apart = λ f u at. by f u at (ℕ_discrete f 1);
  }
    where
      by : (f : ℕ) (u : View) → fin.get (only_other given) f ≡ Some u → Dec (f ≡ 1) → IsHandOfFile k h v.stop f u
      by f u at (yes is) =
          let same : given ≡ u = some_same given u (sym (other_here given) ∙ ap (fin.get (only_other given)) (sym is) ∙ at) in
          subst (λ (p : ℕ × View). IsHandOfFile k h v.stop p.0 p.1) (λ i. (sym is i, same i)) given_is
        where
          some_same : (a b : View) → Some a ≡ Some b → a ≡ b
          some_same a b e = cc
      by f u at (no ne) = let none : None ≡ Some u = sym (others_none given f ne) ∙ at in cc

-- ---- the hand that keeps the first file

pub first_here : (k : Start) (h : List Entry) (v : View) (files : FileViews) → HasEachFile k h v files → is_some (fin.get (tree_after k.tree h).bytes 0) ≡ true → fin.get files 0 ≡ None → 1 ≤ count eqb 0 v.files
first_here k h v files each there none = let n = each.here 0 in let o = ap one there in let z : one (is_some (fin.get files 0)) ≡ 0 = ap (λ (x : Option View). one (is_some x)) none in omega arith

pub first_not_apart : (u : View) → fin.get (only_other u) 0 ≡ None
first_not_apart u = others_none u 0 (λ e. cc)

-- ---- it is joined again

-- a stop that the other knows is the hand's
either_is : (a b : Option ℕ) → ((n : ℕ) → b ≡ Some n → a ≡ Some n) → a ≡ either a b
either_is (Some n) b known = refl
either_is None None known = refl
either_is None (Some n) known = known n refl

module _ (k : Start) (h : List Entry) (asked : Option (ℕ × Op)) (v u : View) (s : HasSession k h asked v) (each : HasEachFile k h v (only_other u)) where
  hand : IsHandOfFile k h v.stop 1 u
  hand = each.apart 1 u (other_here u)

  both_counts : (f : ℕ) → count eqb f (v.files ++ u.files) ≡ one (is_some (fin.get (tree_after k.tree h).bytes f))
  both_counts f = let a = weigh_append (named eqb f) v.files u.files in let g = ap (count eqb f) hand.files in let o = one_apart u f in let n = each.here f in omega arith

  both_is : record v { files = v.files ++ u.files; seen = later v.seen u.seen; clock = later v.clock u.clock } ≡ both_of v u
  both_is = λ i. record {
    clients = more v.clients u.clients hand.clients i;
    asked = more v.asked u.asked hand.asked i;
    files = v.files ++ u.files;
    pools = more v.pools u.pools hand.pools i;
    names = more v.names u.names hand.names i;
    store = more v.store u.store hand.store i;
    seen = later v.seen u.seen;
    clock = later v.clock u.clock;
    faults = more v.faults u.faults hand.faults i;
    stop = either_is v.stop u.stop hand.stop i;
    shortages = more v.shortages u.shortages hand.shortages i;
  }
    where
      more : {A : Type 0} (xs ys : List A) → ys ≡ [] → xs ≡ xs ++ ys
      more xs ys none = sym (ap (λ zs. xs ++ zs) none ∙ append-nil xs)

  file_of_both : (f : ℕ) (p : FilePart) → Has (f, p) (v.files ++ u.files) → Has (f, p) v.files ⊎ ◌≡◌ {A = ℕ × FilePart} (f, p) (1, hand.part)
  file_of_both f p has = ⊎_elim inl (λ x. ⊎_elim inr (λ none. absurd none) (subst (Has {A = ℕ × FilePart} (f, p)) hand.files x)) (has_append (f, p) v.files u.files has)

  pub both_session : HasSession k h asked (both_of v u)
  both_session = subst (HasSession k h asked) both_is (record {
    start = s.start;
    tree = s.tree;
    legal = s.legal;
    all_clients = s.all_clients;
    all_asked = s.all_asked;
    clients = s.clients;
    theirs = s.theirs;
    one_file = λ f. let c = both_counts f in omega arith;
    files = λ f p has. ⊎_elim (λ x. s.files f p x) (λ e. subst (λ (x : ℕ × FilePart). IsFileAt (tree_after k.tree h) x.0 x.1) (sym e) hand.at) (file_of_both f p has);
    changes = λ f p has. ⊎_elim (λ x. s.changes f p x) (λ e. subst (λ (x : ℕ × FilePart). x.1.changes ≡ changes_of x.0 k.tree h) (sym e) hand.changes) (file_of_both f p has);
    pools = s.pools;
    names = s.names;
    has_names = s.has_names;
    names_at = s.names_at;
    store = s.store;
    has_store = s.has_store;
    store_at = s.store_at;
  })

  pub both_each : HasEachFile k h (both_of v u) fin.empty
  both_each = record {
    here = λ f. let c = both_counts f in let z = none_apart f in omega arith;
    apart = λ f w at. let none : None ≡ Some w = sym (fin.get-empty nat_cmp f) ∙ at in cc;
  }
