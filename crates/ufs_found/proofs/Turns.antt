-- Sectors of a disk, some at a time.
use Rattle.std.proofs.Common.{◌≡◌, ℕ, zero, suc, ◌+◌, ◌*◌, ◌<◌, List, ◌++◌, Option, length, take, drop, ap, sym, ◌∙◌, subst, arith}
use Rattle.std.proofs.lemmas.List.{take_at}
use Rattle.ufs_base.specs.Images.{Image}
use Rattle.ufs_disk.specs.Disk.{bytes_from}
use Rattle.ufs_disk.proofs.Flat.{drop_front}
use Rattle.ufs_base.specs.Choices.{first_of}
use Rattle.ufs_image.specs.Journal.{FoundSector, well_spelled}
use Rattle.ufs_found.specs.Read.{read_from, pieces_from, misspelled}
use Rattle.ufs_found.proofs.Noted.{well_append, misspelled_append, from_same, from_append}

pieces_are : (d : Image) (s n : ℕ) → ((i : ℕ) → i < n → length (d (s + i)) ≡ 512) → (i : ℕ) → i < n → take 512 (drop (512 * i) (bytes_from d s n)) ≡ d (s + i)
pieces_are d s zero long i less = absurd (omega (arith, less))
pieces_are d s (suc n) long zero less =
    let here : length (d s) ≡ 512 = subst (λ m. length (d m) ≡ 512) (omega arith) (long 0 (omega arith)) in
    take_at (d s) (bytes_from d (s + 1) n) 512 here ∙ ap d (omega arith)
pieces_are d s (suc n) long (suc i) less =
    let here : length (d s) ≡ 512 = subst (λ m. length (d m) ≡ 512) (omega arith) (long 0 (omega arith)) in
    let moved : (k : ℕ) → s + suc k ≡ s + 1 + k = λ k. omega arith in
    ap (take 512) (drop_front (d s) (bytes_from d (s + 1) n) (512 * suc i) (512 * i) (omega (arith, here)))
    ∙ pieces_are d (s + 1) n (λ k lt. subst (λ m. length (d m) ≡ 512) (moved k) (long (suc k) (omega (arith, lt)))) i (omega (arith, less))
    ∙ ap d (sym (moved i))

module _ (epoch : ℕ) (d : Image) (a m n : ℕ) (long : (i : ℕ) → i < n → length (d (a + m + i)) ≡ 512) (bytes : List ℕ) (s k j : ℕ) (at : s ≡ a + m) (many : k ≡ n) (much : j ≡ n) (e : Image) (same : e ≡ d) (are : bytes ≡ bytes_from e s k) where
  taken : read_from epoch (pieces_from s bytes) s j ≡ read_from epoch d (a + m) n
  taken =
      let whole : bytes ≡ bytes_from d (a + m) n = are ∙ (λ i. bytes_from (same i) (at i) (many i)) in
      (λ i. read_from epoch (pieces_from (at i) (whole i)) (at i) (much i))
      ∙ from_same epoch (pieces_from (a + m) (bytes_from d (a + m) n)) d (a + m) n
      (λ i less. ap (λ (q : ℕ). take 512 (drop (512 * q) (bytes_from d (a + m) n))) (omega arith) ∙ pieces_are d (a + m) n long i less)

  pub turn_found : (old next : List FoundSector) → old ≡ well_spelled (read_from epoch d a m) → next ≡ old ++ well_spelled (read_from epoch (pieces_from s bytes) s j) → next ≡ well_spelled (read_from epoch d a (m + n))
  turn_found old next so_far one =
      one ∙ (λ i. so_far i ++ well_spelled (taken i)) ∙ sym (well_append (read_from epoch d a m) (read_from epoch d (a + m) n)) ∙ ap well_spelled (sym (from_append epoch d a m n))

  pub turn_off : (old next : Option ℕ) → old ≡ misspelled (read_from epoch d a m) → next ≡ first_of old (misspelled (read_from epoch (pieces_from s bytes) s j)) → next ≡ misspelled (read_from epoch d a (m + n))
  turn_off old next so_far one =
      one ∙ (λ i. first_of (so_far i) (misspelled (taken i))) ∙ sym (misspelled_append (read_from epoch d a m) (read_from epoch d (a + m) n)) ∙ ap misspelled (sym (from_append epoch d a m n))
