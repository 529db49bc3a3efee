-- Two states of a file have one delta.
use Rattle.std.proofs.Common.{◌≡◌, ◌≢◌, ◌∙◌, ◌⊎◌, inl, inr, ◌<◌, zero, suc, ℕ, List, [], ◌∷◌, ◌++◌, Bool, true, false, take, ap, refl, sym, arith}
use Rattle.std.specs.Prelude.{Some, drop, nat_lt, slice_get}
use Rattle.std.proofs.lemmas.List.{append_cancel_left, take-append-drop}
use Rattle.ufs_extent.specs.declared.Run.{Run}
use Rattle.ufs_layout.specs.declared.records.LogRecord.{LogRecord}
use Rattle.ufs_layout.specs.declared.records.LogRecord.TheVariants.{Delta}
use Rattle.ufs_ilog.specs.Deltas.{FileState, IsDelta, IsSharedFront, extents_of}
use Rattle.ufs_store.proofs.SameStates.{same_run}

get_of_take : (xs : List Run) (k n : ℕ) → k < n → slice_get (take n xs) k ≡ slice_get xs k
get_of_take [] k zero less = refl
get_of_take [] k (suc n) less = refl
get_of_take (x ∷ xs) k zero less = absurd (omega (arith, less))
get_of_take (x ∷ xs) zero (suc n) less = refl
get_of_take (x ∷ xs) (suc k) (suc n) less = get_of_take xs k n (omega (arith, less))

no_longer : (one other : List Run) (k n : ℕ) → IsSharedFront one other k → IsSharedFront one other n → k < n → ⊥
no_longer one other k n short long less =
    let in_one = long.in_one in
    let in_other = long.in_other in
    short.longest (omega (arith, less, in_one)) (omega (arith, less, in_other))
    (sym (get_of_take one k n less) ∙ ap (λ (xs : List Run). slice_get xs k) long.same ∙ get_of_take other k n less)

one_front : (one other : List Run) (k n : ℕ) → IsSharedFront one other k → IsSharedFront one other n → k ≡ n
one_front one other k n a b = by (nat_lt k n) refl (nat_lt n k) refl
  where
    by : (x : Bool) → nat_lt k n ≡ x → (y : Bool) → nat_lt n k ≡ y → k ≡ n
    by true e y f = absurd (no_longer one other k n a b (grind (arith, e)))
    by false e true f = absurd (no_longer one other n k b a (grind (arith, f)))
    by false e false f = grind (arith, e, f)

pub one_delta : (inode : ℕ) (before after : FileState) (records others : List LogRecord) → IsDelta inode before after records → IsDelta inode before after others → records ≡ others
one_delta inode before after records others a b =
    let keep = one_front before.runs after.runs a.keep b.keep a.front b.front in
    let given = append_cancel_left (take a.keep before.runs) a.given b.given (a.whole ∙ sym b.whole ∙ ap (λ n. take n before.runs ++ b.given) (sym keep)) in
    a.is ∙ (λ i. Delta inode 1 after.size (keep i) (extents_of (given i)) ∷ []) ∙ sym b.is

-- ---- there is one

same_some : (x y : Run) → Some x ≡ Some y → x ≡ y
same_some x y e = cc

-- the longest front that two lists share
front : (xs ys : List Run) → (n : ℕ) × IsSharedFront xs ys n
front [] ys = (0, record { in_one = omega arith; in_other = omega arith; same = refl; longest = λ less more e. absurd (omega (arith, less)) })
front (x ∷ xs) [] = (0, record { in_one = omega arith; in_other = omega arith; same = refl; longest = λ less more e. absurd (omega (arith, more)) })
front (x ∷ xs) (y ∷ ys) = by (same_run x y) (front xs ys)
  where
    by : (x ≡ y) ⊎ (x ≢ y) → (n : ℕ) × IsSharedFront xs ys n → (n : ℕ) × IsSharedFront (x ∷ xs) (y ∷ ys) n
    by (inl e) rest = (
      suc rest.0,
      (let one = rest.1.in_one in let other = rest.1.in_other in record {
        in_one = omega (arith, one);
        in_other = omega (arith, other);
        same = λ i. e i ∷ rest.1.same i;
        longest = λ less more. rest.1.longest (omega (arith, less)) (omega (arith, more));
      }),
    )
    by (inr not) rest = (0, record { in_one = omega arith; in_other = omega arith; same = refl; longest = λ less more e. not (same_some x y e) })

pub delta_of : (inode : ℕ) (before after : FileState) → (records : List LogRecord) × IsDelta inode before after records
delta_of inode before after = let shared = front before.runs after.runs in (
  Delta inode 1 after.size shared.0 (extents_of (drop shared.0 after.runs)) ∷ [],
  record {
    keep = shared.0;
    given = drop shared.0 after.runs;
    front = shared.1;
    whole = ap (λ (rs : List Run). rs ++ drop shared.0 after.runs) shared.1.same ∙ take-append-drop shared.0 after.runs;
    is = refl;
  },
)
