-- One leg alone may be picked, and the other is made like it.
use Rattle.std.proofs.Common.{◌≡◌, inl, inr, ◌≤◌, ◌+◌, ℕ, Bool, List, [], ◌∷◌, ◌++◌, length, sym, ◌∙◌, subst}
use Rattle.std.specs.Prelude.{◌&&◌}
use Rattle.std.proofs.lemmas.Bool.{cases_lt}
use Rattle.ufs_disk.specs.Disk.{State, IsAmong, IsImage, IsPartlyWritten, Leaves, possible, sectors_of}
use Rattle.ufs_disk.specs.Moments.{Moments}
use Rattle.ufs_mirror.specs.Calls.{Rests, Wrote}
use Rattle.ufs_mirror.specs.Labelled.{IsLabelled, IsMoment}
use Rattle.ufs_mirror.specs.Pairs.{Pair, Runs, present, state_of, watched}
use Rattle.ufs_mirror.specs.declared.legs.Picks.{Picks}
use Rattle.ufs_mirror.specs.declared.legs.Picks.TheVariants.{First, Second}
use Rattle.ufs_mirror.proofs.Points.{NoMore, inside_is, no_more_left, outside_is}
use Rattle.ufs_mirror.proofs.Runs.{joined, watched_first, watched_second}
use Rattle.ufs_mirror.proofs.Data.{relabelled, rests_first, rests_second, stays_left, stays_written}

-- whatever the second leg has
first_left : (size : ℕ) (a b x y : State) → NoMore size a x
    → Leaves (IsImage (state_of size (record { first = a; second = b; picks = First }))) (state_of size (record { first = x; second = y; picks = First }))
first_left size a b x y fewer image left k = elim (cases_lt k size) [
  | inl lt ↦ subst (λ c. IsAmong (possible c) (image k)) (sym (inside_is size (record { first = a; second = b; picks = First }) k lt))
      (fewer k lt (image k) (subst (λ c. IsAmong (possible c) (image k)) (inside_is size (record { first = x; second = y; picks = First }) k lt) (left k)))
  | inr ge ↦ subst (λ c. IsAmong (possible c) (image k))
      (outside_is size (record { first = x; second = y; picks = First }) k ge ∙ sym (outside_is size (record { first = a; second = b; picks = First }) k ge)) (left k)
]

-- whatever the first leg has
second_left : (size : ℕ) (a b x y : State) → NoMore size b y
    → Leaves (IsImage (state_of size (record { first = a; second = b; picks = Second }))) (state_of size (record { first = x; second = y; picks = Second }))
second_left size a b x y fewer image left k = elim (cases_lt k size) [
  | inl lt ↦ subst (λ c. IsAmong (possible c) (image k)) (sym (inside_is size (record { first = a; second = b; picks = Second }) k lt))
      (fewer k lt (image k) (subst (λ c. IsAmong (possible c) (image k)) (inside_is size (record { first = x; second = y; picks = Second }) k lt) (left k)))
  | inr ge ↦ subst (λ c. IsAmong (possible c) (image k))
      (outside_is size (record { first = x; second = y; picks = Second }) k ge ∙ sym (outside_is size (record { first = a; second = b; picks = Second }) k ge)) (left k)
]

alone_second_left : (size : ℕ) (picks : Picks) → picks ≡ Second → (a b x y : State) → NoMore size b y
    → Leaves (IsImage (state_of size (record { first = a; second = b; picks = picks }))) (state_of size (record { first = x; second = y; picks = picks }))
alone_second_left size picks is a b x y fewer =
    subst (λ p. Leaves (IsImage (state_of size (record { first = a; second = b; picks = p }))) (state_of size (record { first = x; second = y; picks = p }))) (sym is) (second_left size a b x y fewer)

alone_left : (size : ℕ) (picks : Picks) → picks ≡ First → (a b x y : State) → NoMore size a x
    → Leaves (IsImage (state_of size (record { first = a; second = b; picks = picks }))) (state_of size (record { first = x; second = y; picks = picks }))
alone_left size picks is a b x y fewer =
    subst (λ p. Leaves (IsImage (state_of size (record { first = a; second = b; picks = p }))) (state_of size (record { first = x; second = y; picks = p }))) (sym is) (first_left size a b x y fewer)

module _ {E : Type 0} (one other : Bool) (f g : E → Moments) (size n : ℕ) (log log1 : List (E × Picks)) (l l1 : E) (picks picks1 : Picks)
    (labelled : IsLabelled size n (present (record { first = f l; second = g l; picks = picks })))
    (log1_is : log1 ≡ log ++ (l, picks) ∷ []) (picks1_is : picks1 ≡ picks) where
  -- a sector is read, and written on the second leg
  pub copied_second : picks ≡ First → (s : ℕ) (bytes : List ℕ) → s + length (sectors_of bytes) ≤ size → g l1 ≡ g l → Rests one (f l) (f l1)
      → (log2 : List (E × Picks)) (l2 : E) (picks2 : Picks) → log2 ≡ log1 ++ (l1, picks1) ∷ [] → picks2 ≡ picks1 → f l2 ≡ f l1 → (done : Bool) → Wrote other s bytes (g l1) (g l2) done
      → Runs (one && other) (IsMoment size n (IsImage (state_of size (present (record { first = f l; second = g l; picks = picks }))))) (watched f g log l picks) (watched f g log2 l2 picks2)
  copied_second alone s bytes fits same rests log2 l2 picks2 log2_is picks2_is same2 done wrote =
      let R : Pair → Type 0 = IsMoment size n (IsImage (state_of size (present (record { first = f l; second = g l; picks = picks })))) in
      joined (one && other) R _ _ _ (rests_first one other f g size n log log1 l l1 picks picks1 labelled log1_is picks1_is same rests)
      (watched_second one other R f g (IsPartlyWritten s bytes (g l1).state) log1 log2 l1 l2 picks1 picks2 log2_is picks2_is same2 wrote.crash
      (λ y leaves_. let leaves : Leaves (IsPartlyWritten s bytes (g l).state) y = subst (λ (m : Moments). Leaves (IsPartlyWritten s bytes m.state) y) same leaves_ in
      subst (λ p. R (record { first = (f l1).state; second = y; picks = p })) (sym picks1_is) (record {
        leaves = alone_left size picks alone (f l).state (g l).state (f l1).state y (no_more_left size (f l).state (f l1).state rests.crash.after);
        labelled = relabelled size n (f l).state (g l).state (f l1).state y picks (stays_left size (f l).state (f l1).state rests.crash.after) (stays_written size s bytes (g l).state y fits leaves) labelled;
      })))

  -- a sector is read, and written on the first leg
  pub copied_first : picks ≡ Second → (s : ℕ) (bytes : List ℕ) → s + length (sectors_of bytes) ≤ size → f l1 ≡ f l → Rests other (g l) (g l1)
      → (log2 : List (E × Picks)) (l2 : E) (picks2 : Picks) → log2 ≡ log1 ++ (l1, picks1) ∷ [] → picks2 ≡ picks1 → g l2 ≡ g l1 → (done : Bool) → Wrote one s bytes (f l1) (f l2) done
      → Runs (one && other) (IsMoment size n (IsImage (state_of size (present (record { first = f l; second = g l; picks = picks }))))) (watched f g log l picks) (watched f g log2 l2 picks2)
  copied_first alone s bytes fits same rests log2 l2 picks2 log2_is picks2_is same2 done wrote =
      let R : Pair → Type 0 = IsMoment size n (IsImage (state_of size (present (record { first = f l; second = g l; picks = picks })))) in
      joined (one && other) R _ _ _ (rests_second one other f g size n log log1 l l1 picks picks1 labelled log1_is picks1_is same rests)
      (watched_first one other R f g (IsPartlyWritten s bytes (f l1).state) log1 log2 l1 l2 picks1 picks2 log2_is picks2_is same2 wrote.crash
      (λ x leaves_. let leaves : Leaves (IsPartlyWritten s bytes (f l).state) x = subst (λ (m : Moments). Leaves (IsPartlyWritten s bytes m.state) x) same leaves_ in
      subst (λ p. R (record { first = x; second = (g l1).state; picks = p })) (sym picks1_is) (record {
        leaves = alone_second_left size picks alone (f l).state (g l).state x (g l1).state (no_more_left size (g l).state (g l1).state rests.crash.after);
        labelled = relabelled size n (f l).state (g l).state x (g l1).state picks (stays_written size s bytes (f l).state x fits leaves) (stays_left size (g l).state (g l1).state rests.crash.after) labelled;
      })))
