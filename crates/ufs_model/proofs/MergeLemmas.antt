-- Entries that are sorted by ticket rise, where no two have one ticket.
use Rattle.std.proofs.Common.{◌≡◌, ◌<◌, ℕ, List, [], ◌∷◌, eqb, sym, arith, length}
use Rattle.std.proofs.lemmas.Bool.{eqb-true, eq-eqb}
use Rattle.std.proofs.lemmas.List.{length-map, get_or-map}
use Rattle.std.proofs.lemmas.List.Sorted.{IsPermutation-map}
use Rattle.std.proofs.lemmas.Map.Keys.{IsDistinct-IsPermutation, IsStrictlyIncreasing-from_distinct, sorted_from_strictly_increasing, sorted_head, sorted_tail}
use Rattle.std.specs.Cmp.{both_ways, ranked}
use Rattle.std.specs.declared.cmp.Ordering.TheVariants.{Less}
use Rattle.std.specs.List.{AllByRecursion}
use Rattle.std.specs.List.Sorted.{IsPermutation, IsNonDecreasing, IsNonDecreasingBy, IsStrictlySortedBy}
use Rattle.std.specs.Ordering.{nat_cmp}
use Rattle.ufs_model.specs.History.{DoTicketsRise, AreTicketsOnce, tickets_of}
use Rattle.ufs_model.specs.declared.data.Entry.{Entry}

flips : (x y : ℕ) → eqb x y ≡ eqb y x
flips x y = both_ways (eqb x y) (eqb y x) (λ e. eq-eqb y x (sym (eqb-true x y e))) (λ e. eq-eqb x y (sym (eqb-true y x e)))

non_decreasing : (entries : List Entry) → IsNonDecreasingBy (λ e. e.ticket) entries → IsNonDecreasing (tickets_of entries)
non_decreasing [] h i j d first below = absurd (omega arith)
non_decreasing (e ∷ entries) h i j d first below =
    let within : j < length (e ∷ entries) = omega (arith, length-map (e ∷ entries) (λ (e : Entry). e.ticket)) in
    let at_i = get_or-map (λ (e : Entry). e.ticket) (e ∷ entries) i e d (omega arith) in
    let at_j = get_or-map (λ (e : Entry). e.ticket) (e ∷ entries) j e d within in
    omega (arith, h i j e first within, at_i, at_j)

below : (a b : ℕ) → nat_cmp a b ≡ Less → a < b
below a b e = ranked a b Less (sym e)

below_all : (n : ℕ) (entries : List Entry) → AllByRecursion (λ m. nat_cmp n m ≡ Less) (tickets_of entries) → AllByRecursion (λ later. n < later.ticket) entries
below_all n [] all = tt
below_all n (e ∷ entries) all = (below n e.ticket all.0, below_all n entries all.1)

rise : (entries : List Entry) → IsStrictlySortedBy nat_cmp (tickets_of entries) → DoTicketsRise entries
rise [] sorted = tt
rise (e ∷ entries) sorted = (below_all e.ticket entries (sorted_head nat_cmp e.ticket (tickets_of entries) sorted), rise entries (sorted_tail nat_cmp e.ticket (tickets_of entries) sorted))

pub tickets_rise : (before after : List Entry) → AreTicketsOnce before → IsPermutation before after → IsNonDecreasingBy (λ e. e.ticket) after → DoTicketsRise after
tickets_rise before after once moved sorted =
    rise after (sorted_from_strictly_increasing (tickets_of after) (IsStrictlyIncreasing-from_distinct (tickets_of after) (non_decreasing after sorted)
    (IsDistinct-IsPermutation eqb flips (tickets_of before) (tickets_of after) (IsPermutation-map (λ (e : Entry). e.ticket) before after moved) once)))
