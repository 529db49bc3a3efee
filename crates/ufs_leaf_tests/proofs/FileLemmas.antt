-- Loads of the files 0, 1 and so on; and a node that was given out.
use Rattle.std.proofs.Common.{◌≡◌, ◌≢◌, ℕ, ◌+◌, ◌<◌, nat_eq, eqb, Bool, true, false, ◌||◌, ◌⊎◌, ⊎_elim, inl, inr, List, [], ◌∷◌, ◌++◌, map, refl, sym, ap, subst, ◌∙◌, true≢false, arith}
use Rattle.std.proofs.lemmas.Bool.Decides.{nat_tests, eqb_tells}
use Rattle.std.proofs.lemmas.Map.Keys.{IsDistinct-push}
use Rattle.std.proofs.lemmas.List.Folds.{list_any-append}
use Rattle.std.specs.List.{IsDistinct, list_any}
use Rattle.std.specs.Ordering.{nat_cmp, eq_by_cmp}
use Rattle.std.specs.Cmp.{nat_cmp_total, unsigned_tied, nat_eq_equiv}
use Rattle.std.specs.FinSet as set
use Rattle.ufs_model.specs.declared.data.Load.{Load}
use Rattle.ufs_load.specs.Laws.{AreOfFiles}

-- each file is below n
abbrev pub AreBelow : List Load → ℕ → Type 0
AreBelow loads n = (q : ℕ) → list_any (eqb q) (map (λ (x : Load). x.file) loads) ≡ true → q < n

pub no_files : (loads : List Load) → loads ≡ [] → AreOfFiles loads
unfolding IsDistinct
no_files loads e = subst AreOfFiles (sym e) tt

pub no_low : (loads : List Load) (n : ℕ) → loads ≡ [] → AreBelow loads n
no_low loads n e q h = absurd (true≢false (sym h ∙ ap (λ (l : List Load). list_any (eqb q) (map (λ (x : Load). x.file) l)) e))

map_push : (loads : List Load) (l : Load) → map (λ (x : Load). x.file) (loads ++ l ∷ []) ≡ map (λ (x : Load). x.file) loads ++ l.file ∷ []
map_push [] l = refl
map_push (x ∷ loads) l = ap (λ t. x.file ∷ t) (map_push loads l)

bool_cases : (b : Bool) → (b ≡ true) ⊎ (b ≡ false)
bool_cases true = inl refl
bool_cases false = inr refl

pub push_files : (loads : List Load) (l : Load) (n : ℕ) → AreOfFiles loads → AreBelow loads n → l.file ≡ n → AreOfFiles (loads ++ l ∷ [])
push_files loads l n d low e =
    subst (IsDistinct nat_eq) (sym (map_push loads l)) (IsDistinct-push nat_eq_equiv (map (λ (x : Load). x.file) loads) l.file d
    (⊎_elim (λ (t : list_any (eqb l.file) (map (λ (x : Load). x.file) loads) ≡ true). let h = low l.file t in absurd (omega arith)) (λ f. f) (bool_cases (list_any (eqb l.file) (map (λ (x : Load). x.file) loads)))))

pub push_low : (loads : List Load) (l : Load) (n : ℕ) → AreBelow loads n → l.file ≡ n → AreBelow (loads ++ l ∷ []) (n + 1)
push_low loads l n low e q h = cases (list_any (eqb q) (map (λ (x : Load). x.file) loads)) refl (sym (ap (list_any (eqb q)) (map_push loads l) ∙ list_any-append (eqb q) (map (λ (x : Load). x.file) loads) (l.file ∷ [])) ∙ h) where
  last : (b : Bool) → nat_eq q l.file ≡ b → (b || false) ≡ true → q < n + 1
  last true t g = let at : q ≡ l.file = grind (arith, nat_tests) in omega arith
  last false t g = absurd (true≢false (sym g))

  cases : (b : Bool) → list_any (eqb q) (map (λ (x : Load). x.file) loads) ≡ b → (b || (nat_eq q l.file || false)) ≡ true → q < n + 1
  cases true t g = let h' = low q t in omega arith
  cases false t g = last (nat_eq q l.file) refl g

pub inserted : (s : set.FinSet nat_cmp) (k : ℕ) → set.contains (set.insert s k) k ≡ true
inserted s k = set.contains-insert nat_cmp_total s k k ∙ ap (λ b. b || set.contains s k) (unsigned_tied k k ∙ (let e : nat_eq k k ≡ true = grind (arith, nat_tests) in e))

pub kept : (s : set.FinSet nat_cmp) (k q : ℕ) → set.contains s q ≡ true → set.contains (set.insert s k) q ≡ true
kept s k q h = set.contains-insert nat_cmp_total s k q ∙ ap (λ b. eq_by_cmp nat_cmp q k || b) h ∙ always (eq_by_cmp nat_cmp q k) where
  always : (b : Bool) → (b || true) ≡ true
  always true = refl
  always false = refl
