-- A leg's label gets another generation.
use Rattle.std.proofs.Common.{◌≡◌, ⊎_elim, ◌≤◌, ◌<◌, ◌^◌, ℕ, Bool, IsTrue, List, [], ◌∷◌, ◌++◌, sym, ◌∙◌, ap, subst}
use Rattle.std.specs.Prelude.{◌&&◌}
use Rattle.ufs_base.specs.Images.{Image}
use Rattle.ufs_disk.specs.Disk.{IsImage, IsPartlyWritten, sectors_of}
use Rattle.ufs_disk.specs.Moments.{Moments, reads}
use Rattle.ufs_disk.proofs.Images.{put_all_below, put_one, put_same}
use Rattle.ufs_mirror.specs.Calls.{IsSame, Rests, Wrote}
use Rattle.ufs_mirror.specs.Joined.{FirstMaySay, SecondMaySay, IsCalm}
use Rattle.ufs_mirror.specs.Labels.{generation, label}
use Rattle.ufs_mirror.specs.Labelled.{IsLabelled, IsMoment}
use Rattle.ufs_mirror.specs.Pairs.{Pair, Pairs, Runs, present, state_of, watched}
use Rattle.ufs_mirror.specs.declared.legs.Picks.{Picks}
use Rattle.ufs_mirror.proofs.Data.{goes_on, rests_first, rests_second}
use Rattle.ufs_mirror.proofs.Labels.{generation_label, label_length, says_label}
use Rattle.ufs_mirror.proofs.Opened.{labelled_opens}
use Rattle.ufs_mirror.proofs.Points.{no_more_label, no_more_same, state_left}
use Rattle.ufs_mirror.proofs.Runs.{watched_first, watched_second, weaker}

-- one leg
module _ (keeps : Bool) (size m : ℕ) where
  pub label_reads : (done : Bool) (a b c : Moments) → Wrote keeps size (label m) a b done → reads c ≡ reads b → IsSame size (reads a) (reads c)
  label_reads done a b c wrote rests k lt =
      ap (λ (d : Image). d k) rests ∙ ⊎_elim (λ is. is) (λ is. is ∙ put_all_below (sectors_of (label m)) size k (reads a) lt) (wrote.content k)

  pub label_says : m < 2 ^ 64 → (done : Bool) (a b c : Moments) → IsTrue done → Wrote keeps size (label m) a b done → reads c ≡ reads b → generation (reads c size) ≡ m
  label_says fits done a b c is wrote rests =
      ap generation (ap (λ (d : Image). d size) (rests ∙ wrote.reading is ∙ put_one size (label m) (reads a) (label_length m)) ∙ put_same size (label m) (reads a))
      ∙ generation_label m fits

module _ {E : Type 0} (one other : Bool) (f g : E → Moments) (size n m : ℕ) (fits : m < 2 ^ 64) (log log1 : List (E × Picks)) (l l1 : E) (picks picks1 : Picks)
    (labelled : IsLabelled size n (present (record { first = f l; second = g l; picks = picks })))
    (log1_is : log1 ≡ log ++ (l, picks) ∷ []) (picks1_is : picks1 ≡ picks) where
  abbrev R : Pair → Type 0
  R = IsMoment size n (IsImage (state_of size (present (record { first = f l; second = g l; picks = picks }))))

  says_m : (P : ℕ → Type 0) → P m → P (generation (label m))
  says_m P is = subst P (sym (generation_label m fits)) is

  pub labels_first : FirstMaySay n picks m → (done : Bool) → g l1 ≡ g l → Wrote one size (label m) (f l) (f l1) done → Runs (one && other) R (watched f g log l picks) (watched f g log1 l1 picks1)
  labels_first may done same wrote =
      watched_first one other R f g (IsPartlyWritten size (label m) (f l).state) log log1 l l1 picks picks1 log1_is picks1_is same wrote.crash
      (λ x leaves. record {
        leaves = state_left size picks (f l).state (g l).state x (g l).state (no_more_label size (sectors_of (label m)) (f l).state x leaves) (no_more_same size (g l).state);
        labelled = record {
          begun = labelled.begun;
          either_first = λ e. says_label size (λ k. k ≤ n) (label m) (f l).state x (label_length m) (says_m (λ k. k ≤ n) (may.either e)) leaves (labelled.either_first e);
          either_second = labelled.either_second;
          first_picked = λ e. says_label size (λ k. n ≤ k) (label m) (f l).state x (label_length m) (says_m (λ k. n ≤ k) (may.first e)) leaves (labelled.first_picked e);
          second_left = labelled.second_left;
          second_picked = labelled.second_picked;
          first_left = λ e. says_label size (λ k. k < n) (label m) (f l).state x (label_length m) (says_m (λ k. k < n) (may.second e)) leaves (labelled.first_left e);
        };
      })

  pub labels_second : SecondMaySay n picks m → (done : Bool) → f l1 ≡ f l → Wrote other size (label m) (g l) (g l1) done → Runs (one && other) R (watched f g log l picks) (watched f g log1 l1 picks1)
  labels_second may done same wrote =
      watched_second one other R f g (IsPartlyWritten size (label m) (g l).state) log log1 l l1 picks picks1 log1_is picks1_is same wrote.crash
      (λ x leaves. record {
        leaves = state_left size picks (f l).state (g l).state (f l).state x (no_more_same size (f l).state) (no_more_label size (sectors_of (label m)) (g l).state x leaves);
        labelled = record {
          begun = labelled.begun;
          either_first = labelled.either_first;
          either_second = λ e. says_label size (λ k. k ≤ n) (label m) (g l).state x (label_length m) (says_m (λ k. k ≤ n) (may.either e)) leaves (labelled.either_second e);
          first_picked = labelled.first_picked;
          second_left = λ e. says_label size (λ k. k ≤ n) (label m) (g l).state x (label_length m) (says_m (λ k. k ≤ n) (may.first e)) leaves (labelled.second_left e);
          second_picked = λ e. says_label size (λ k. n ≤ k) (label m) (g l).state x (label_length m) (says_m (λ k. n ≤ k) (may.second e)) leaves (labelled.second_picked e);
          first_left = labelled.first_left;
        };
      })

  -- and then it waits
  module _ (log2 : List (E × Picks)) (l2 : E) (picks2 : Picks) (log2_is : log2 ≡ log1 ++ (l1, picks1) ∷ []) (picks2_is : picks2 ≡ picks1) (done : Bool) where
    pub labelled_first : FirstMaySay n picks m → g l1 ≡ g l → Wrote one size (label m) (f l) (f l1) done → g l2 ≡ g l1 → Rests one (f l1) (f l2)
        → Runs (one && other) R (watched f g log l picks) (watched f g log2 l2 picks2)
    labelled_first may same wrote same2 rests =
        let front = labels_first may done same wrote in
        goes_on (one && other) size n (IsImage (state_of size (present (record { first = f l; second = g l; picks = picks })))) _ _ _ front
        (rests_first one other f g size n log1 log2 l1 l2 picks1 picks2 front.after.labelled log2_is picks2_is same2 rests)

    pub labelled_second : SecondMaySay n picks m → f l1 ≡ f l → Wrote other size (label m) (g l) (g l1) done → f l2 ≡ f l1 → Rests other (g l1) (g l2)
        → Runs (one && other) R (watched f g log l picks) (watched f g log2 l2 picks2)
    labelled_second may same wrote same2 rests =
        let front = labels_second may done same wrote in
        goes_on (one && other) size n (IsImage (state_of size (present (record { first = f l; second = g l; picks = picks })))) _ _ _ front
        (rests_second one other f g size n log1 log2 l1 l2 picks1 picks2 front.after.labelled log2_is picks2_is same2 rests)

-- the labels are as they must be
pub calm_run : (keeps : Bool) (size n : ℕ) (P : Image → Type 0) (old new : Pairs) → Runs keeps (IsMoment size n P) old new → Runs keeps (IsCalm size P) old new
calm_run keeps size n P old new run =
    weaker keeps (IsMoment size n P) (IsCalm size P) (λ pair is. record { leaves = is.leaves; opens = labelled_opens size n pair is.labelled }) old new run
