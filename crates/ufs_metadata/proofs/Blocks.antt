-- The bytes of a block and its sectors.
use Rattle.std.proofs.Common.{◌≡◌, ℕ, zero, suc, ◌+◌, ◌*◌, ◌<◌, ◌++◌, length, take, drop, refl, ap, sym, ◌∙◌, subst, arith}
use Rattle.std.specs.Prelude.{flat_map}
use Rattle.std.specs.List.{range_with_len}
use Rattle.std.proofs.lemmas.List.{take_at}
use Rattle.ufs_base.specs.Images.{Image}
use Rattle.ufs_disk.specs.Disk.{bytes_from}
use Rattle.ufs_disk.proofs.Flat.{drop_front}

pub from_sectors : (d : Image) (s n : ℕ) → bytes_from d s n ≡ flat_map d (range_with_len s n)
from_sectors d s zero = refl
from_sectors d s (suc n) = ap (λ l. d s ++ l) (from_sectors d (s + 1) n)

pub pieces_are : (d : Image) (s n : ℕ) → ((i : ℕ) → i < n → length (d (s + i)) ≡ 512) → (i : ℕ) → i < n → take 512 (drop (512 * i) (bytes_from d s n)) ≡ d (s + i)
pieces_are d s zero long i less = absurd (omega (arith, less))
pieces_are d s (suc n) long zero less =
    let here : length (d s) ≡ 512 = subst (λ m. length (d m) ≡ 512) (omega arith) (long 0 (omega arith)) in
    take_at (d s) (bytes_from d (s + 1) n) 512 here ∙ ap d (omega arith)
pieces_are d s (suc n) long (suc i) less =
    let here : length (d s) ≡ 512 = subst (λ m. length (d m) ≡ 512) (omega arith) (long 0 (omega arith)) in
    let moved : (k : ℕ) → s + suc k ≡ s + 1 + k = λ k. omega arith in
    ap (take 512) (drop_front (d s) (bytes_from d (s + 1) n) (512 * suc i) (512 * i) (omega (arith, here)))
    ∙ pieces_are d (s + 1) n (λ k lt. subst (λ m. length (d m) ≡ 512) (moved k) (long (suc k) (omega (arith, lt)))) i (omega (arith, less))
    ∙ ap d (sym (moved i))
