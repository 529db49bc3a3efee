-- What stands behind a front of a word.
use Rattle.std.proofs.Common.{◌≡◌, ◌≢◌, ◌++◌, ◌==◌, ◌+◌, ◌<◌, ◌≤◌, ℕ, map, length, drop, get_or, ap, Bool, true, false, cond, Option, List, [], ◌∷◌, Some, None, refl, sym, ap₂, subst, ◌∙◌, eqb-true, eq-eqb}
use Rattle.std.specs.Prelude.{codes}
use Rattle.std.specs.Str.{bytes_eq}
use Rattle.std.proofs.lemmas.Bool.{cond-true, cond-false}
use Rattle.std.proofs.lemmas.List.{drop_all, drop_more}
use Rattle.ufs_words.specs.Values.{attached_or, behind, first_word, option_value}

behind_front : (front rest : List ℕ) → behind front (front ++ rest) ≡ Some rest
behind_front [] rest = refl
behind_front (c ∷ front) rest = cond-true _ _ _ (eq-eqb c c refl) ∙ behind_front front rest

pub behind_is : (front word rest : List ℕ) → word ≡ front ++ rest → Some rest ≡ behind front word
behind_is front word rest e = sym (subst (λ w. behind front w ≡ Some rest) (sym e) (behind_front front rest))

pub behind_none : (front word : List ℕ) → ((rest : List ℕ) → word ≢ front ++ rest) → behind front word ≡ None
behind_none [] word h = absurd (h word refl)
behind_none (c ∷ front) [] h = refl
behind_none (c ∷ front) (b ∷ word) h = at (b == c) refl (λ same. behind_none front word (λ rest is. h rest (ap₂ (λ x xs. x ∷ xs) same is)))
  where
    at : (t : Bool) → (b == c) ≡ t → (b ≡ c → behind front word ≡ None) → cond t (behind front word) None ≡ None
    at true e none = none (eqb-true b c e)
    at false e none = refl

-- ---- the value of an option, a word at a time

module _ {X : Type 0} (f : X → List ℕ) (name : List ℕ) (xs : List X) (i : ℕ) where
  module _ (x : X) (below : i < length xs) (is : x ≡ get_or xs i x) where
    left : drop i xs ≡ x ∷ drop (i + 1) xs
    left = drop_more xs i x below ∙ ap (λ y. y ∷ drop (i + 1) xs) (sym is)

    -- the word is the name
    pub named : bytes_eq (f x) name ≡ true → option_value name (map f (drop i xs)) ≡ first_word (map f (drop (i + 1) xs))
    named same = ap (λ l. option_value name (map f l)) left ∙ cond-true _ _ _ same

    -- it isn't
    pub unnamed : bytes_eq (f x) name ≡ false → option_value name (map f (drop i xs)) ≡ attached_or (behind (name ++ codes "=") (f x)) (option_value name (map f (drop (i + 1) xs)))
    unnamed other = ap (λ l. option_value name (map f l)) left ∙ cond-false _ _ _ other

  -- there is no word more
  pub none_left : length xs ≤ i → option_value name (map f (drop i xs)) ≡ None
  none_left past = ap (λ l. option_value name (map f l)) (drop_all i xs past)
