-- Calls leave each content 512 bytes.
use Rattle.std.proofs.Common.{◌≡◌, inl, inr, ⊎_elim, ℕ, ◌+◌, ◌≤◌, ◌<◌, List, [], ◌∷◌, length, sym, ◌∙◌, ap, subst, arith}
use Rattle.std.specs.List.{AllByRecursion}
use Rattle.std.proofs.lemmas.Bool.{cases_eq}
use Rattle.ufs_base.specs.Images.{IsSector}
use Rattle.ufs_disk.specs.Disk.{Cell, State, IsAmong, IsWhole, possible}
use Rattle.ufs_disk.specs.Moments.{Moments, gone_to}
use Rattle.ufs_disk.specs.Calls.{give, settled, written}
use Rattle.ufs_disk.proofs.Images.{if_eq, if_ne, among_append, among_last}
use Rattle.ufs_disk.proofs.Written.{given}

give_whole : (size s : ℕ) (p : List ℕ) (state : State) → s < size → IsSector p → IsWhole size state → IsWhole size (give s p state)
give_whole size s p state fits sector whole = record {
  within = λ k lt bytes among. inside k lt bytes among;
  beyond = λ k ge. ap possible (if_ne k s (given p (state k)) (state k) (omega arith)) ∙ whole.beyond k ge;
}
  where
    inside : (k : ℕ) → k < size → (bytes : List ℕ) → IsAmong (possible (give s p state k)) bytes → IsSector bytes
    inside k lt bytes among = elim (cases_eq k s) [
      | inl is ↦ ⊎_elim (λ old. whole.within k lt bytes old) (λ new. subst IsSector (sym new) sector)
          (among_append (possible (state k)) p bytes (subst (λ (c : Cell). IsAmong (possible c) bytes) (if_eq k s (given p (state k)) (state k) is) among))
      | inr ne ↦ whole.within k lt bytes (subst (λ (c : Cell). IsAmong (possible c) bytes) (if_ne k s (given p (state k)) (state k) ne) among)
    ]

pub written_whole : (ps : List (List ℕ)) (size s : ℕ) (m : Moments) → s + length ps ≤ size → AllByRecursion IsSector ps → IsWhole size m.state → IsWhole size (written s ps m).state
written_whole [] size s m fits each whole = whole
written_whole (p ∷ ps) size s m fits each whole =
    written_whole ps size (s + 1) (gone_to (give s p m.state) m) (omega arith) each.1 (give_whole size s p m.state (omega arith) each.0 whole)

pub settled_whole : (size : ℕ) (state : State) → IsWhole size state → IsWhole size (settled state)
settled_whole size state whole = record {
  within = λ k lt bytes among. ⊎_elim (λ is. subst IsSector (sym is) (whole.within k lt (state k).seen (among_last (state k).older (state k).seen))) (λ none. absurd none) among;
  beyond = λ k ge. ap (λ (b : List ℕ). b ∷ []) (nothing k (subst (λ (l : List (List ℕ)). IsAmong l (state k).seen) (whole.beyond k ge) (among_last (state k).older (state k).seen)));
}
  where
    nothing : (k : ℕ) → IsAmong ([] ∷ []) (state k).seen → (state k).seen ≡ []
    nothing k among = ⊎_elim (λ is. is) (λ none. absurd none) among
