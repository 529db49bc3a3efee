-- The orders of the keys of a tree's maps are total, and keys that tie are equal.
use Rattle.std.proofs.Common.{ℕ}
use Rattle.std.specs.Cmp.{IsTotalOrder, nat_cmp_total}
use Rattle.std.specs.Cmp.Lexicographic.{nat_list_cmp_total}
use Rattle.std.specs.FinMap.{IsAntisymmetric, nat_cmp-IsAntisymmetric, slice_cmp-IsAntisymmetric}
use Rattle.std.specs.Ordering.{nat_cmp}
use Rattle.std.proofs.lemmas.Cmp.{then_total, on_total}
use Rattle.std.proofs.lemmas.Map.Lookups.{exact_pairs}
use Rattle.ufs_model.specs.Order.{path_cmp, fd_cmp}

pub path_total : IsTotalOrder path_cmp
path_total = nat_list_cmp_total

pub path_same : IsAntisymmetric path_cmp
path_same = slice_cmp-IsAntisymmetric nat_cmp-IsAntisymmetric

pub fd_total : IsTotalOrder fd_cmp
fd_total = then_total (on_total (λ (k : ℕ × ℕ). k.0) nat_cmp_total) (on_total (λ (k : ℕ × ℕ). k.1) nat_cmp_total)

pub fd_same : IsAntisymmetric fd_cmp
fd_same = exact_pairs nat_cmp nat_cmp nat_cmp-IsAntisymmetric nat_cmp-IsAntisymmetric
