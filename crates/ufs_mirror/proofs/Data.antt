-- What a write, a read or a barrier of the data does to a mirror.
use Rattle.std.proofs.Common.{◌≡◌, ◌≤◌, ◌+◌, ℕ, Bool, List, [], ◌∷◌, ◌++◌, length, sym, subst, arith}
use Rattle.std.specs.Prelude.{◌&&◌}
use Rattle.ufs_base.specs.Images.{Image}
use Rattle.ufs_disk.specs.Disk.{State, IsAmong, IsImage, IsPartlyWritten, Leaves, possible, sectors_of}
use Rattle.ufs_disk.specs.Moments.{Moments}
use Rattle.ufs_disk.proofs.Images.{put_all_above, unmixed}
use Rattle.ufs_mirror.specs.Calls.{Rests, Wrote}
use Rattle.ufs_mirror.specs.Labelled.{IsLabelled, IsMoment}
use Rattle.ufs_mirror.specs.Pairs.{Pair, Pairs, Runs, present, state_of, watched}
use Rattle.ufs_mirror.specs.declared.legs.Picks.{Picks}
use Rattle.ufs_mirror.specs.declared.legs.Picks.TheVariants.{Either}
use Rattle.ufs_mirror.proofs.Points.{no_more_left, no_more_same, point_left, point_outside, state_left, state_mixed}
use Rattle.ufs_mirror.proofs.Runs.{joined, weaker, watched_first, watched_second}
use Rattle.ufs_mirror.proofs.Lone.{either_labelled}

-- the labels say no more than before
abbrev pub LabelStays : ℕ → State → State → Type 0
LabelStays size old new = (bytes : List ℕ) → IsAmong (possible (new size)) bytes → IsAmong (possible (old size)) bytes

pub relabelled : (size n : ℕ) (a b c d : State) (picks : Picks) → LabelStays size a c → LabelStays size b d
    → IsLabelled size n (record { first = a; second = b; picks = picks }) → IsLabelled size n (record { first = c; second = d; picks = picks })
relabelled size n a b c d picks one other is = record {
  begun = is.begun;
  either_first = λ e bytes among. is.either_first e bytes (one bytes among);
  either_second = λ e bytes among. is.either_second e bytes (other bytes among);
  first_picked = λ e bytes among. is.first_picked e bytes (one bytes among);
  second_left = λ e bytes among. is.second_left e bytes (other bytes among);
  second_picked = λ e bytes among. is.second_picked e bytes (other bytes among);
  first_left = λ e bytes among. is.first_left e bytes (one bytes among);
}

-- a greater generation, where either may be picked
pub labelled_more : (size n m : ℕ) (pair : Pair) → pair.picks ≡ Either → n ≤ m → IsLabelled size n pair → IsLabelled size m pair
labelled_more size n m pair either le is =
    either_labelled size m pair either
    (λ bytes among. let l = is.either_first either bytes among in omega (arith, l, le))
    (λ bytes among. let l = is.either_second either bytes among in omega (arith, l, le))

pub stays_written : (size s : ℕ) (bytes : List ℕ) (old new : State) → s + length (sectors_of bytes) ≤ size → Leaves (IsPartlyWritten s bytes old) new → LabelStays size old new
stays_written size s bytes old new fits leaves = point_outside s (sectors_of bytes) old new size (λ d. put_all_above (sectors_of bytes) s size d fits) leaves

pub stays_left : (size : ℕ) (old new : State) → Leaves (IsImage old) new → LabelStays size old new
stays_left size old new leaves = point_left old new leaves size

pub stays_same : (size : ℕ) (state : State) → LabelStays size state state
stays_same size state bytes among = among

module _ {E : Type 0} (one other : Bool) (f g : E → Moments) (size n : ℕ) (log log1 : List (E × Picks)) (l l1 : E) (picks picks1 : Picks)
    (labelled : IsLabelled size n (present (record { first = f l; second = g l; picks = picks })))
    (log1_is : log1 ≡ log ++ (l, picks) ∷ []) (picks1_is : picks1 ≡ picks) where
  abbrev M0 : State
  M0 = state_of size (present (record { first = f l; second = g l; picks = picks }))

  -- a read or a barrier of one leg
  pub rests_first : g l1 ≡ g l → Rests one (f l) (f l1) → Runs (one && other) (IsMoment size n (IsImage M0)) (watched f g log l picks) (watched f g log1 l1 picks1)
  rests_first same rests =
      watched_first one other (IsMoment size n (IsImage M0)) f g (IsImage (f l).state) log log1 l l1 picks picks1 log1_is picks1_is same rests.crash
      (λ x leaves. record {
        leaves = state_left size picks (f l).state (g l).state x (g l).state (no_more_left size (f l).state x leaves) (no_more_same size (g l).state);
        labelled = relabelled size n (f l).state (g l).state x (g l).state picks (stays_left size (f l).state x leaves) (stays_same size (g l).state) labelled;
      })

  pub rests_second : f l1 ≡ f l → Rests other (g l) (g l1) → Runs (one && other) (IsMoment size n (IsImage M0)) (watched f g log l picks) (watched f g log1 l1 picks1)
  rests_second same rests =
      watched_second one other (IsMoment size n (IsImage M0)) f g (IsImage (g l).state) log log1 l l1 picks picks1 log1_is picks1_is same rests.crash
      (λ x leaves. record {
        leaves = state_left size picks (f l).state (g l).state (f l).state x (no_more_same size (f l).state) (no_more_left size (g l).state x leaves);
        labelled = relabelled size n (f l).state (g l).state (f l).state x picks (stays_same size (f l).state) (stays_left size (g l).state x leaves) labelled;
      })

  -- a write of one leg
  module _ (s : ℕ) (bytes : List ℕ) (fits : s + length (sectors_of bytes) ≤ size) where
    abbrev R : Pair → Type 0
    R = IsMoment size n (IsPartlyWritten s bytes M0)

    pub writes_first : (done : Bool) → g l1 ≡ g l → Wrote one s bytes (f l) (f l1) done → Runs (one && other) R (watched f g log l picks) (watched f g log1 l1 picks1)
    writes_first done same wrote =
        watched_first one other R f g (IsPartlyWritten s bytes (f l).state) log log1 l l1 picks picks1 log1_is picks1_is same wrote.crash
        (λ x leaves. record {
          leaves = state_mixed size s (sectors_of bytes) picks (f l).state (g l).state x (g l).state leaves (unmixed s (sectors_of bytes) (g l).state);
          labelled = relabelled size n (f l).state (g l).state x (g l).state picks (stays_written size s bytes (f l).state x fits leaves) (stays_same size (g l).state) labelled;
        })

    pub writes_second : (done : Bool) → f l1 ≡ f l → Wrote other s bytes (g l) (g l1) done → Runs (one && other) R (watched f g log l picks) (watched f g log1 l1 picks1)
    writes_second done same wrote =
        watched_second one other R f g (IsPartlyWritten s bytes (g l).state) log log1 l l1 picks picks1 log1_is picks1_is same wrote.crash
        (λ x leaves. record {
          leaves = state_mixed size s (sectors_of bytes) picks (f l).state (g l).state (f l).state x (unmixed s (sectors_of bytes) (f l).state) leaves;
          labelled = relabelled size n (f l).state (g l).state (f l).state x picks (stays_same size (f l).state) (stays_written size s bytes (g l).state x fits leaves) labelled;
        })

    -- of the one, and then of the other
    pub writes_both : (done done2 : Bool) → g l1 ≡ g l → Wrote one s bytes (f l) (f l1) done → (log2 : List (E × Picks)) (l2 : E) (picks2 : Picks) → log2 ≡ log1 ++ (l1, picks1) ∷ [] → picks2 ≡ picks1
        → f l2 ≡ f l1 → Wrote other s bytes (g l1) (g l2) done2 → Runs (one && other) R (watched f g log l picks) (watched f g log2 l2 picks2)
    writes_both done done2 same wrote log2 l2 picks2 log2_is picks2_is same2 wrote2 =
        joined (one && other) R _ _ _ (writes_first done same wrote)
        (watched_second one other R f g (IsPartlyWritten s bytes (g l1).state) log1 log2 l1 l2 picks1 picks2 log2_is picks2_is same2 wrote2.crash
        (λ x leaves_. let leaves : Leaves (IsPartlyWritten s bytes (g l).state) x = subst (λ (m : Moments). Leaves (IsPartlyWritten s bytes m.state) x) same leaves_ in
        subst (λ p. R (record { first = (f l1).state; second = x; picks = p })) (sym picks1_is) (record {
          leaves = state_mixed size s (sectors_of bytes) picks (f l).state (g l).state (f l1).state x wrote.crash.after leaves;
          labelled = relabelled size n (f l).state (g l).state (f l1).state x picks (stays_written size s bytes (f l).state (f l1).state fits wrote.crash.after) (stays_written size s bytes (g l).state x fits leaves) labelled;
        })))

  pub rests_both : g l1 ≡ g l → Rests one (f l) (f l1) → (log2 : List (E × Picks)) (l2 : E) (picks2 : Picks) → log2 ≡ log1 ++ (l1, picks1) ∷ [] → picks2 ≡ picks1
      → f l2 ≡ f l1 → Rests other (g l1) (g l2) → Runs (one && other) (IsMoment size n (IsImage M0)) (watched f g log l picks) (watched f g log2 l2 picks2)
  rests_both same rests log2 l2 picks2 log2_is picks2_is same2 rests2 =
      joined (one && other) (IsMoment size n (IsImage M0)) _ _ _ (rests_first same rests)
      (watched_second one other (IsMoment size n (IsImage M0)) f g (IsImage (g l1).state) log1 log2 l1 l2 picks1 picks2 log2_is picks2_is same2 rests2.crash
      (λ x leaves_. let leaves : Leaves (IsImage (g l).state) x = subst (λ (m : Moments). Leaves (IsImage m.state) x) same leaves_ in
      subst (λ p. IsMoment size n (IsImage M0) (record { first = (f l1).state; second = x; picks = p })) (sym picks1_is) (record {
        leaves = state_left size picks (f l).state (g l).state (f l1).state x (no_more_left size (f l).state (f l1).state rests.crash.after) (no_more_left size (g l).state x leaves);
        labelled = relabelled size n (f l).state (g l).state (f l1).state x picks (stays_left size (f l).state (f l1).state rests.crash.after) (stays_left size (g l).state x leaves) labelled;
      })))

-- a call of both legs, and then one may be let go
pub goes_on : (keeps : Bool) (size m : ℕ) (P : Image → Type 0) (old mid new : Pairs)
    → Runs keeps (IsMoment size m P) old mid → Runs keeps (IsMoment size m (IsImage (state_of size mid.now))) mid new → Runs keeps (IsMoment size m P) old new
goes_on keeps size m P old mid new front back =
    joined keeps (IsMoment size m P) old mid new front
    (weaker keeps (IsMoment size m (IsImage (state_of size mid.now))) (IsMoment size m P)
    (λ pair is. record { leaves = λ image left. front.after.leaves image (is.leaves image left); labelled = is.labelled }) mid new back)
