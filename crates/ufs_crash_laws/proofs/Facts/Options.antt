-- What a file may show, place by place, as lists that compute.
use Rattle.std.proofs.Common.{◌≡◌, ◌≤◌, ◌<◌, ℕ, zero, suc, ◌+◌, List, [], ◌∷◌, length, refl, subst, arith}
use Rattle.ufs_crash_laws.specs.FileChanges.{bytes_after, byte_at, MayShow, IsShown}
use Rattle.ufs_crash_laws.specs.Places.{may_show, IsOneOf}
use Rattle.ufs_crash_laws.specs.declared.data.FileChange.{FileChange}
use Rattle.ufs_crash_laws.proofs.Facts.Places.{may_show_listed, listed_may_show}

-- the bytes are as many as the lists, and each is one of its list's
abbrev pub AreOneOfEach : List (List ℕ) → List ℕ → Type 0
AreOneOfEach [] [] = Unit {0}
AreOneOfEach [] (b ∷ bytes) = ⊥
AreOneOfEach (bs ∷ options) [] = ⊥
AreOneOfEach (bs ∷ options) (b ∷ bytes) = IsOneOf bs b × AreOneOfEach options bytes

module _ (opening : List ℕ) (changes : List FileChange) (count : ℕ) where
  -- what so many places from one on may show
  abbrev pub options_from : ℕ → ℕ → List (List ℕ)
  options_from place zero = []
  options_from place (suc n) = may_show opening changes count place ∷ options_from (suc place) n

  -- what each place of the file may show
  abbrev pub options : List (List ℕ)
  options = options_from 0 (length (bytes_after opening changes count))

  one_of_each : (n place : ℕ) (bytes : List ℕ) → length bytes ≡ n → ((k : ℕ) → k < n → MayShow opening changes count (place + k) (byte_at bytes k)) → AreOneOfEach (options_from place n) bytes
  one_of_each zero place [] size each = tt
  one_of_each zero place (b ∷ bytes) size each = absurd (omega arith)
  one_of_each (suc n) place [] size each = absurd (omega arith)
  one_of_each (suc n) place (b ∷ bytes) size each = (
    may_show_listed opening changes count place b (subst (λ p. MayShow opening changes count p b) (omega arith) (each 0 (omega arith))),
    one_of_each n (suc place) bytes (omega arith) (λ k below. subst (λ p. MayShow opening changes count p (byte_at bytes k)) (omega arith) (each (suc k) (omega arith))),
  )

  each_shown : count ≤ length changes → (n place : ℕ) (bytes : List ℕ) → AreOneOfEach (options_from place n) bytes → (length bytes ≡ n) × ((k : ℕ) → k < n → MayShow opening changes count (place + k) (byte_at bytes k))
  each_shown made zero place [] are = (refl, λ k below. absurd (omega arith))
  each_shown made zero place (b ∷ bytes) are = absurd are
  each_shown made (suc n) place [] are = absurd are
  each_shown made (suc n) place (b ∷ bytes) are = by (each_shown made n (suc place) bytes are.1)
    where
      at : ((k : ℕ) → k < n → MayShow opening changes count (suc place + k) (byte_at bytes k)) → (k : ℕ) → k < suc n → MayShow opening changes count (place + k) (byte_at (b ∷ bytes) k)
      at rest zero below = subst (λ p. MayShow opening changes count p b) (omega arith) (listed_may_show opening changes count place b made are.0)
      at rest (suc k) below = subst (λ p. MayShow opening changes count p (byte_at bytes k)) (omega arith) (rest k (omega arith))

      by : (length bytes ≡ n) × ((k : ℕ) → k < n → MayShow opening changes count (suc place + k) (byte_at bytes k)) → (length (b ∷ bytes) ≡ suc n) × ((k : ℕ) → k < suc n → MayShow opening changes count (place + k) (byte_at (b ∷ bytes) k))
      by rest = (omega (arith, rest.0), at rest.1)

  -- A file shows so many of its changes exactly where each byte is one of those that its place may show.
  pub shown_options : (bytes : List ℕ) → IsShown opening changes count bytes → AreOneOfEach (options_from 0 (length (bytes_after opening changes count))) bytes
  shown_options bytes shown =
      one_of_each (length (bytes_after opening changes count)) 0 bytes shown.size
      (λ k below. subst (λ p. MayShow opening changes count p (byte_at bytes k)) (omega arith) (shown.each k (omega (arith, below, shown.size))))

  pub options_shown : count ≤ length changes → (bytes : List ℕ) → AreOneOfEach (options_from 0 (length (bytes_after opening changes count))) bytes → IsShown opening changes count bytes
  options_shown made bytes are =
      let each = each_shown made (length (bytes_after opening changes count)) 0 bytes are in
      record { made = made; size = each.0; each = λ place below. subst (λ p. MayShow opening changes count p (byte_at bytes place)) (omega arith) (each.1 place (omega (arith, below, each.0))) }
