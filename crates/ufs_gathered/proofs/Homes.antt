-- The clients are at home, each with its transcript.
use Rattle.std.proofs.Common.{◌≡◌, inl, inr, ⊎_elim, ℕ, zero, suc, ◌+◌, ◌<◌, ◌≤◌, length, List, [], ◌∷◌, ◌++◌, ap, sym, refl, subst, arith}
use Rattle.std.specs.Prelude.{slice_get, unwrap_or}
use Rattle.ufs_caller.specs.Hands.{HasBoth}
use Rattle.ufs_joint.specs.Cells.{View}
use Rattle.ufs_model.specs.declared.data.Entry.{Entry}
use Rattle.ufs_hand_laws.specs.Owned.{Has}
use Rattle.ufs_hand_laws.specs.Parts.{AskedPart, ClientPart}
use Rattle.ufs_hand_laws.proofs.Owning.{append_has, has_append}
use Rattle.ufs_gathered.specs.Gathered.{AreHomeFrom, all_in, clients_in}

-- each of the first ones stands there, with its transcript
pub here_at : (n : ℕ) (lists : List (List Entry)) (hands : List View) → AreHomeFrom n lists hands → (c i : ℕ) → c ≡ n + i → i < length lists → (p : ClientPart) × Has {A = ℕ × ClientPart} (c, p) (clients_in hands) × (p.entries ≡ unwrap_or (slice_get lists i) [])
here_at n [] hands home c i is low = absurd (omega (arith, low))
here_at n (t ∷ lists) [] home c i is low = absurd home
here_at n (t ∷ lists) (v ∷ hands) home c zero is low =
    let h = home.0.1 in
    let number : c ≡ n = omega (arith, is) in (
      h.self,
      subst (λ (ps : List (ℕ × ClientPart)). Has {A = ℕ × ClientPart} (c, h.self) (ps ++ clients_in hands)) (sym h.both.clients) (inl (ap (λ (m : ℕ). (m, h.self)) number)),
      h.entries_are,
    )
here_at n (t ∷ lists) (v ∷ hands) home c (suc i) is low =
    let r = here_at (suc n) lists hands home.1 c i (omega (arith, is)) (omega (arith, low)) in
    (r.0, append_has (c, r.0) v.clients (clients_in hands) (inr r.1), r.2)

-- and nobody else
pub one_of : (n : ℕ) (lists : List (List Entry)) (hands : List View) → AreHomeFrom n lists hands → (c : ℕ) (p : ClientPart) → Has {A = ℕ × ClientPart} (c, p) (clients_in hands) → (n ≤ c) × (c < n + length lists)
one_of n [] [] home c p has = absurd has
one_of n [] (v ∷ hands) home c p has = absurd home
one_of n (t ∷ lists) [] home c p has = absurd home
one_of n (t ∷ lists) (v ∷ hands) home c p has = ⊎_elim first (behind (one_of (suc n) lists hands home.1 c p)) (has_append (c, p) v.clients (clients_in hands) has)
  where
    first : Has {A = ℕ × ClientPart} (c, p) v.clients → (n ≤ c) × (c < n + suc (length lists))
    first there = only (subst (Has {A = ℕ × ClientPart} (c, p)) home.0.1.both.clients there)
      where
        only : Has {A = ℕ × ClientPart} (c, p) ((n, home.0.1.self) ∷ []) → (n ≤ c) × (c < n + suc (length lists))
        only (inl is) = let number : c ≡ n = ap (λ (q : ℕ × ClientPart). q.0) is in (omega (arith, number), omega (arith, number))
        only (inr none) = absurd none

    behind : (Has {A = ℕ × ClientPart} (c, p) (clients_in hands) → (suc n ≤ c) × (c < suc n + length lists)) → Has {A = ℕ × ClientPart} (c, p) (clients_in hands) → (n ≤ c) × (c < n + suc (length lists))
    behind rest there = let r = rest there in let low = r.0 in let high = r.1 in (omega (arith, low), omega (arith, high))

-- their hands have nothing else
pub none_else : {A : Type 0} (part : View → List A) → ((n : ℕ) (self : ClientPart) (before : AskedPart) (v : View) → HasBoth n self before v → part v ≡ []) → (n : ℕ) (lists : List (List Entry)) (hands : List View) → AreHomeFrom n lists hands → all_in part hands ≡ []
none_else part none n [] [] home = refl
none_else part none n [] (v ∷ hands) home = absurd home
none_else part none n (t ∷ lists) [] home = absurd home
none_else part none n (t ∷ lists) (v ∷ hands) home = let h = home.0.1 in (λ i. none n h.self h.before v h.both i ++ none_else part none (suc n) lists hands home.1 i)
