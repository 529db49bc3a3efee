-- The pieces of a text between its slashes.
use Rattle.std.proofs.Common.{◌≡◌, ℕ, List, [], ◌∷◌, Bool, true, false, cond, not, ◌&&◌, eqb, length, filter, ap, sym, refl, ◌∙◌, arith}
use Rattle.std.proofs.lemmas.Bool.{cond-true, lt-ltb}
use Rattle.std.specs.List.{list_all, onto_first}
use Rattle.ufs_model.specs.Paths.{components, has_component}
use Rattle.ufs_model.proofs.Facts.Pieces.{is_some_name, pieces, ArePlain, components_of}
use Rattle.ufs_path.specs.Texts.{joined}
use Rattle.ufs_path.proofs.Facts.Joined.{whole_path-joined}

-- ---- names that are joined

pub components-joined : (name : List ℕ) (names : List (List ℕ)) → ArePlain (name ∷ names) → components (joined (name ∷ names)) ≡ name ∷ names
components-joined name names h = ap components (sym (whole_path-joined name names)) ∙ components_of (name ∷ names) h

-- ---- texts without a component

pub some_bytes : (b : ℕ) (p : List ℕ) → is_some_name (b ∷ p) ≡ true
some_bytes b p = lt-ltb 0 (length (b ∷ p)) (omega arith)

onto_some : (b : ℕ) (ps : List (List ℕ)) → has_component (filter is_some_name (onto_first b ps)) ≡ true
onto_some b [] = refl
onto_some b (p ∷ ps) = ap has_component (cond-true (is_some_name (b ∷ p)) _ _ (some_bytes b p))

slashes_alone : (text : List ℕ) → list_all (λ b. eqb b 47) text ≡ not (has_component (components text))
slashes_alone [] = refl
slashes_alone (b ∷ bs) = by (eqb b 47) (slashes_alone bs)
  where
    by : (t : Bool) → list_all (λ b. eqb b 47) bs ≡ not (has_component (components bs)) → (t && list_all (λ b. eqb b 47) bs) ≡ not (has_component (filter is_some_name (cond t ([] ∷ pieces bs) (onto_first b (pieces bs)))))
    by true h = h
    by false h = sym (ap not (onto_some b (pieces bs)))

not_not : (t : Bool) → not (not t) ≡ t
not_not true = refl
not_not false = refl

pub has_component-components : (text : List ℕ) → not (list_all (λ b. eqb b 47) text) ≡ has_component (components text)
has_component-components text = ap not (slashes_alone text) ∙ not_not (has_component (components text))
