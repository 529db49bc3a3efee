-- A list in which each of another's stands once or more, in their order.
use Rattle.std.proofs.Common.{◌≡◌, ◌⊎◌, inl, inr, List, [], ◌∷◌, ◌++◌, map, refl, sym, ap, ◌∙◌, subst}
use Rattle.std.proofs.lemmas.List.{append_assoc, append-nil, map-append}
use Rattle.ufs_turns.specs.HeldStore.{AreRepeated}

itself : {A : Type 0} (xs : List A) → AreRepeated xs xs
itself [] = tt
itself (x ∷ xs) = inl (refl, itself xs)

both : {A : Type 0} (xs ys more others : List A) → AreRepeated xs ys → AreRepeated more others → AreRepeated (xs ++ more) (ys ++ others)
both [] [] more others is then = then
both [] (y ∷ ys) more others is then = absurd is
both (x ∷ xs) [] more others is then = absurd is
both (x ∷ xs) (y ∷ ys) more others (inl is) then = inl (is.0, both xs ys more others is.1 then)
both (x ∷ xs) (y ∷ ys) more others (inr is) then = inr (is.0, both (x ∷ xs) ys more others is.1 then)

-- the last may stand once more
last_again : {A : Type 0} (xs ys : List A) (z : A) → AreRepeated (xs ++ z ∷ []) ys → AreRepeated (xs ++ z ∷ []) (ys ++ z ∷ [])
last_again [] [] z is = absurd is
last_again (x ∷ xs) [] z is = absurd is
last_again [] (y ∷ []) z (inl is) = inr (is.0, inl (refl, tt))
last_again [] (y ∷ w ∷ ys) z (inl is) = absurd is.1
last_again [] (y ∷ ys) z (inr is) = inr (is.0, last_again [] ys z is.1)
last_again (x ∷ xs) (y ∷ ys) z (inl is) = inl (is.0, last_again xs ys z is.1)
last_again (x ∷ xs) (y ∷ ys) z (inr is) = inr (is.0, last_again (x ∷ xs) ys z is.1)

-- both have the same last one
same_last : {A : Type 0} (xs ys : List A) (y : A) → AreRepeated xs (ys ++ y ∷ []) → (front : List A) × (xs ≡ front ++ y ∷ [])
same_last [] [] y is = absurd is
same_last [] (w ∷ ys) y is = absurd is
same_last (x ∷ []) [] y (inl is) = ([], ap (λ q. q ∷ []) is.0)
same_last (x ∷ w ∷ xs) [] y (inl is) = absurd is.1
same_last (x ∷ xs) [] y (inr is) = absurd is.1
same_last (x ∷ xs) (w ∷ ys) y (inl is) = (let h = same_last xs ys y is.1 in (x ∷ h.0, ap (λ q. x ∷ q) h.1))
same_last (x ∷ xs) (w ∷ ys) y (inr is) = same_last (x ∷ xs) ys y is.1

-- ---- a list that goes on

-- the one's last stands for the other's where nothing is there, and else what is there ends with the other's
abbrev pub EndsSo : {A : Type 0} → List A → A → A → Type 0
EndsSo {A} more y z = ((more ≡ []) × (z ≡ y)) ⊎ ((front : List A) × (more ≡ front ++ z ∷ []))

-- Both may go on with all of it, and the second with its last once more.
pub goes_on_so : {A : Type 0} (xs ys more : List A) (y z : A) → AreRepeated xs (ys ++ y ∷ []) → EndsSo more y z → AreRepeated (xs ++ more) (((ys ++ y ∷ []) ++ more) ++ z ∷ [])
goes_on_so {A} xs ys more y z is ends =
    let w = whole ends in
    subst (λ (l : List A). AreRepeated l (((ys ++ y ∷ []) ++ more) ++ z ∷ [])) (sym w.1)
    (last_again w.0 ((ys ++ y ∷ []) ++ more) z (subst (λ (l : List A). AreRepeated l ((ys ++ y ∷ []) ++ more)) w.1 (both xs (ys ++ y ∷ []) more more is (itself more))))
  where
    whole : EndsSo more y z → (front : List A) × (xs ++ more ≡ front ++ z ∷ [])
    whole (inl e) = (let h = same_last xs ys y is in (h.0, ap (λ (q : List A). xs ++ q) e.0 ∙ append-nil xs ∙ h.1 ∙ ap (λ (q : A). h.0 ++ q ∷ []) (sym e.1)))
    whole (inr e) = (xs ++ e.0, ap (λ (q : List A). xs ++ q) e.1 ∙ sym (append_assoc xs e.0 (z ∷ [])))

pub ends_mapped : {A B : Type 0} (f : A → B) (more : List A) (y z : A) → EndsSo more y z → EndsSo (map f more) (f y) (f z)
ends_mapped f more y z (inl e) = inl (ap (map f) e.0, ap f e.1)
ends_mapped f more y z (inr e) = inr (map f e.0, ap (map f) e.1 ∙ map-append f e.0 (z ∷ []))

-- ---- what stands behind

abbrev behind : {A : Type 0} → List A → List A
behind [] = []
behind (x ∷ xs) = xs

not_none : {A : Type 0} (xs : List A) (x : A) → [] ≡ xs ++ x ∷ [] → ⊥
not_none [] x e = cc
not_none (y ∷ xs) x e = cc

one_last : {A : Type 0} (xs ys : List A) (x y : A) → xs ++ x ∷ [] ≡ ys ++ y ∷ [] → x ≡ y
unfolding behind
one_last [] [] x y e = cc
one_last [] (w ∷ ys) x y e = absurd (not_none ys y (ap behind e))
one_last (w ∷ xs) [] x y e = absurd (not_none xs x (sym (ap behind e)))
one_last (w ∷ xs) (v ∷ ys) x y e = one_last xs ys x y (ap behind e)

none_or_last : {A : Type 0} (xs : List A) → (xs ≡ []) ⊎ ((front : List A) × (x : A) × (xs ≡ front ++ x ∷ []))
none_or_last [] = inl refl
none_or_last {A} (x ∷ xs) = by (none_or_last xs)
  where
    by : (xs ≡ []) ⊎ ((front : List A) × (y : A) × (xs ≡ front ++ y ∷ [])) → (x ∷ xs ≡ []) ⊎ ((front : List A) × (y : A) × (x ∷ xs ≡ front ++ y ∷ []))
    by (inl none) = inr ([], x, ap (λ (q : List A). x ∷ q) none)
    by (inr h) = inr (x ∷ h.0, h.1, ap (λ (q : List A). x ∷ q) h.2)

pub ends_so : {A : Type 0} (before now more : List A) (y z : A) → now ++ z ∷ [] ≡ (before ++ y ∷ []) ++ more → EndsSo more y z
ends_so {A} before now more y z e = by (none_or_last more)
  where
    by : (more ≡ []) ⊎ ((front : List A) × (x : A) × (more ≡ front ++ x ∷ [])) → EndsSo more y z
    by (inl none) = inl (none, one_last now before z y (e ∙ ap (λ (q : List A). (before ++ y ∷ []) ++ q) none ∙ append-nil (before ++ y ∷ [])))
    by (inr h) =
        let same : z ≡ h.1 = one_last now ((before ++ y ∷ []) ++ h.0) z h.1 (e ∙ ap (λ (q : List A). (before ++ y ∷ []) ++ q) h.2 ∙ sym (append_assoc (before ++ y ∷ []) h.0 (h.1 ∷ []))) in
        inr (h.0, h.2 ∙ ap (λ (q : A). h.0 ++ q ∷ []) (sym same))
