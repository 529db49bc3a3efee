-- What a disk reads already is written there again.
use Rattle.std.proofs.Common.{◌≡◌, inl, inr, ℕ, zero, suc, ◌+◌, ◌<◌, ◌/◌, List, ◌++◌, length, drop, ap, refl, ◌∙◌, subst, arith, sym}
use Rattle.std.proofs.lemmas.Bool.{cases_eq}
use Rattle.std.proofs.lemmas.List.{take_at, drop_at}
use Rattle.ufs_base.specs.Images.{Image}
use Rattle.ufs_disk.specs.Disk.{bytes_from, overwritten, pieces, put, put_all}
use Rattle.ufs_disk.proofs.Images.{put_other, put_same}

own_put : (s : ℕ) (d : Image) → put s (d s) d ≡ d
own_put s d = λ i k. at k i
  where
    at : (k : ℕ) → put s (d s) d k ≡ d k
    at k = elim (cases_eq k s) [
      | inl is ↦ ap (put s (d s) d) is ∙ put_same s (d s) d ∙ ap d (sym is)
      | inr ne ↦ put_other s k (d s) d ne
    ]

own_pieces : (n s : ℕ) (d : Image) → ((i : ℕ) → i < n → length (d (s + i)) ≡ 512) → put_all s (pieces n (bytes_from d s n)) d ≡ d
own_pieces zero s d long = refl
own_pieces (suc n) s d long =
    let here : length (d s) ≡ 512 = subst (λ m. length (d m) ≡ 512) (omega arith) (long 0 (omega arith)) in
    let moved : (k : ℕ) → s + suc k ≡ s + 1 + k = λ k. omega arith in
    ap (λ (p : List ℕ). put_all (s + 1) (pieces n (drop 512 (d s ++ bytes_from d (s + 1) n))) (put s p d)) (take_at (d s) (bytes_from d (s + 1) n) 512 here)
    ∙ ap (λ (b : List ℕ). put_all (s + 1) (pieces n b) (put s (d s) d)) (drop_at (d s) (bytes_from d (s + 1) n) 512 here)
    ∙ ap (λ (e : Image). put_all (s + 1) (pieces n (bytes_from d (s + 1) n)) e) (own_put s d)
    ∙ own_pieces n (s + 1) d (λ k less. subst (λ m. length (d m) ≡ 512) (moved k) (long (suc k) (omega (arith, less))))

pub own_bytes : (s : ℕ) (bytes : List ℕ) (d : Image) → length bytes ≡ 4096 → bytes ≡ bytes_from d s 8 → ((i : ℕ) → i < 8 → length (d (s + i)) ≡ 512) → overwritten s bytes d ≡ d
own_bytes s bytes d sized is long =
    ap (λ n. put_all s (pieces (n / 512) bytes) d) sized ∙ ap (λ (b : List ℕ). put_all s (pieces 8 b) d) is ∙ own_pieces 8 s d long
