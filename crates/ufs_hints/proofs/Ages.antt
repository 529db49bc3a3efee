-- Renewals and uses of hints.
use Rattle.std.proofs.lemmas.Bool.{eqb-true}
use Rattle.std.proofs.lemmas.Bool.Decides.{eqb_tells}
use Rattle.std.proofs.Common.{◌≡◌, ◌≢◌, ◌<◌, ◌+◌, ℕ, suc, zero, nat_eq, eqb, Bool, true, false, cond, length, take, List, [], ◌∷◌, ◌++◌, Option, Some, None, IsSome, refl, sym, ap, ◌∙◌, subst, ◌⊎◌, inl, inr, arith}
use Rattle.ufs_model.specs.declared.data.Actor.{Actor}
use Rattle.ufs_hints.specs.Hints.{Pairs, hint_of, others, renewed, renewed_as, used, used_as}
use Rattle.ufs_hints.specs.Laws.{NewOneIsKnown, OldestGoes, OthersStay, UsesChangeNone}

-- a number is itself, and no other
same : (n : ℕ) → nat_eq n n ≡ true
same n = elim (eqb_tells n n) [
  | inl hit ↦ hit.0
  | inr miss ↦ absurd (miss.1 refl)
]

apart : (n m : ℕ) → n ≢ m → nat_eq n m ≡ false
apart n m d = elim (eqb_tells n m) [
  | inl hit ↦ absurd (d hit.1)
  | inr miss ↦ miss.0
]

-- the first hint is the file's
first : (file : ℕ) (owner : Actor) (hints : Pairs) → hint_of file ((file, owner) ∷ hints) ≡ Some owner
first file owner hints = ap (λ (b : Bool). cond b (Some owner) (hint_of file hints)) (same file)

-- or of another file
behind : (other file : ℕ) (owner : Actor) (hints : Pairs) → other ≢ file → hint_of other ((file, owner) ∷ hints) ≡ hint_of other hints
behind other file owner hints d = ap (λ (b : Bool). cond b (Some owner) (hint_of other hints)) (apart other file d)

others_stay : (file other : ℕ) (hints : Pairs) → other ≢ file → hint_of other (others file hints) ≡ hint_of other hints
others_stay file other [] d = refl
others_stay file other (h ∷ hints) d = at (others_stay file other hints d) (nat_eq file h.0) refl
  where
    at : hint_of other (others file hints) ≡ hint_of other hints → (b : Bool) → nat_eq file h.0 ≡ b → hint_of other (cond b hints (h ∷ others file hints)) ≡ hint_of other (h ∷ hints)
    at more true e = sym (behind other h.0 h.1 hints (λ (s : other ≡ h.0). d (s ∙ sym (eqb-true file h.0 e))))
    at more false e = ap (λ (o : Option Actor). cond (nat_eq other h.0) (Some h.1) o) more

pub new_one_is_known : NewOneIsKnown
new_one_is_known file owner hints = at (hint_of file hints)
  where
    at : (o : Option Actor) → hint_of file (renewed_as file owner hints o) ≡ Some owner
    at None = first file owner (take 63 hints)
    at (Some old) = first file owner (others file hints)

no_hint : IsSome {T = Actor} None → ⊥
no_hint e = cc

-- the first of a list that isn't longer are all
all_taken : {A : Type 0} (n : ℕ) (xs : List A) → length xs < suc n → take n xs ≡ xs
all_taken zero [] few = refl
all_taken zero (x ∷ xs) few = absurd (omega (arith, few))
all_taken (suc n) [] few = refl
all_taken {A = A} (suc n) (x ∷ xs) few = ap (λ (ys : List A). x ∷ ys) (all_taken n xs (let f : suc (length xs) < suc (suc n) = few in omega (arith, f)))

pub others_stay_all : OthersStay
others_stay_all file owner hints other d room = at (hint_of file hints) room
  where
    at : (o : Option Actor) → IsSome o ⊎ (length hints < 64) → hint_of other (renewed_as file owner hints o) ≡ hint_of other hints
    at (Some old) r = behind other file owner (others file hints) d ∙ others_stay file other hints d
    at None (inl none) = absurd (no_hint none)
    at None (inr few) = behind other file owner (take 63 hints) d ∙ ap (hint_of other) (all_taken 63 hints few)

-- the first of a longer list
front_taken : {A : Type 0} (xs ys : List A) → take (length xs) (xs ++ ys) ≡ xs
front_taken [] ys = refl
front_taken {A = A} (x ∷ xs) ys = ap (λ (zs : List A). x ∷ zs) (front_taken xs ys)

pub oldest_goes : OldestGoes
oldest_goes file owner hints oldest server long none =
    let all = hints ++ (oldest, server) ∷ [] in
    ap (renewed_as file owner all) none ∙ ap (λ (hs : Pairs). (file, owner) ∷ hs) (ap (λ (n : ℕ). take n all) (sym long) ∙ front_taken hints ((oldest, server) ∷ []))

pub uses_change_none : UsesChangeNone
uses_change_none file hints other = at (hint_of file hints) refl (eqb_tells other file)
  where
    at : (o : Option Actor) → hint_of file hints ≡ o → ((nat_eq other file ≡ true) × (other ≡ file)) ⊎ ((nat_eq other file ≡ false) × (other ≢ file)) → hint_of other (used_as file hints o) ≡ hint_of other hints
    at None e tells = refl
    at (Some owner) e (inl hit) = subst (λ (n : ℕ). hint_of n ((file, owner) ∷ others file hints) ≡ hint_of n hints) (sym hit.1) (first file owner (others file hints) ∙ sym e)
    at (Some owner) e (inr miss) = behind other file owner (others file hints) miss.1 ∙ others_stay file other hints miss.1
