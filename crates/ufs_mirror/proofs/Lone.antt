-- One leg goes on alone: its next label is for good before.
use Rattle.std.proofs.Common.{◌≡◌, ⊎_elim, ◌≤◌, ◌<◌, ◌+◌, ◌-◌, ◌^◌, ℕ, Bool, IsTrue, List, [], ◌∷◌, ◌++◌, sym, ◌∙◌, ap, subst, arith}
use Rattle.std.specs.Prelude.{◌&&◌}
use Rattle.ufs_base.specs.Images.{Image}
use Rattle.ufs_disk.specs.Disk.{State, IsImage, IsSettled, Leaves, put, put_all, sectors_of, seen, overwritten}
use Rattle.ufs_disk.specs.Moments.{Moments, reads}
use Rattle.ufs_disk.proofs.Images.{put_all_below, put_same, put_one}
use Rattle.ufs_mirror.specs.Calls.{IsSame, Rests, Wrote}
use Rattle.ufs_mirror.specs.Labels.{generation, label}
use Rattle.ufs_mirror.specs.Labelled.{IsLabelled, IsMoment, Says}
use Rattle.ufs_mirror.specs.Pairs.{Pair, Runs, present, state_of, watched}
use Rattle.ufs_mirror.specs.declared.legs.Picks.{Picks}
use Rattle.ufs_mirror.specs.declared.legs.Picks.TheVariants.{Either, First, Second}
use Rattle.ufs_mirror.proofs.Labels.{generation_label, label_length, says_label, says_left, says_settled}
use Rattle.ufs_mirror.proofs.Points.{NoMore, no_more_label, no_more_left, no_more_same, state_first, state_left, state_second}
use Rattle.ufs_mirror.proofs.Runs.{joined, watched_first, watched_second, watched_told}

abbrev pub kind : Picks → ℕ
kind Either = 0
kind First = 1
kind Second = 2

pub either_not_first : (picks : Picks) → picks ≡ Either → picks ≡ First → ⊥
either_not_first picks either is = let e : 0 ≡ 1 = ap kind (sym either ∙ is) in omega (arith, e)

pub either_not_second : (picks : Picks) → picks ≡ Either → picks ≡ Second → ⊥
either_not_second picks either is = let e : 0 ≡ 2 = ap kind (sym either ∙ is) in omega (arith, e)

pub first_not_second : First ≡ Second → ⊥
first_not_second is = let e : 1 ≡ 2 = ap kind is in omega (arith, e)

pub first_not_either : First ≡ Either → ⊥
first_not_either is = let e : 1 ≡ 0 = ap kind is in omega (arith, e)

pub second_not_either : Second ≡ Either → ⊥
second_not_either is = let e : 2 ≡ 0 = ap kind is in omega (arith, e)

pub either_labelled : (size n : ℕ) (pair : Pair) → pair.picks ≡ Either → Says size (λ m. m ≤ n) pair.first → Says size (λ m. m ≤ n) pair.second → IsLabelled size n pair
either_labelled size n pair either one other = record {
  begun = λ ne. absurd (ne either);
  either_first = λ _. one;
  either_second = λ _. other;
  first_picked = λ is. absurd (either_not_first pair.picks either is);
  second_left = λ is. absurd (either_not_first pair.picks either is);
  second_picked = λ is. absurd (either_not_second pair.picks either is);
  first_left = λ is. absurd (either_not_second pair.picks either is);
}

pub first_labelled : (size n : ℕ) (a b : State) → 0 < n → Says size (λ m. n ≤ m) a → Says size (λ m. m ≤ n) b → IsLabelled size n (record { first = a; second = b; picks = First })
first_labelled size n a b begun one other = record {
  begun = λ _. begun;
  either_first = λ is. absurd (first_not_either is);
  either_second = λ is. absurd (first_not_either is);
  first_picked = λ _. one;
  second_left = λ _. other;
  second_picked = λ is. absurd (first_not_second is);
  first_left = λ is. absurd (first_not_second is);
}

pub second_labelled : (size n : ℕ) (a b : State) → 0 < n → Says size (λ m. m < n) a → Says size (λ m. n ≤ m) b → IsLabelled size n (record { first = a; second = b; picks = Second })
second_labelled size n a b begun one other = record {
  begun = λ _. begun;
  either_first = λ is. absurd (second_not_either is);
  either_second = λ is. absurd (second_not_either is);
  first_picked = λ is. absurd (first_not_second (sym is));
  second_left = λ is. absurd (first_not_second (sym is));
  second_picked = λ _. other;
  first_left = λ _. one;
}

more : (size n : ℕ) (state : State) → Says size (λ m. m ≤ n) state → Says size (λ m. m ≤ n + 1) state
more size n state says bytes among = let le = says bytes among in omega (arith, le)

below : (size n : ℕ) (state : State) → Says size (λ m. m ≤ n) state → Says size (λ m. m < n + 1) state
below size n state says bytes among = let le = says bytes among in omega (arith, le)

-- one leg: its label is written, and then it waits
module _ (keeps : Bool) (size n : ℕ) (fits : n < 2 ^ 64 - 1) where
  next_label : generation (label (n + 1)) ≡ n + 1
  next_label = generation_label (n + 1) (omega arith)

  pub wrote_no_more : (done : Bool) (a b : Moments) → Wrote keeps size (label (n + 1)) a b done → (x : State) → Leaves (IsImage b.state) x → NoMore size a.state x
  wrote_no_more done a b wrote x leaves k lt bytes among =
      no_more_label size (sectors_of (label (n + 1))) a.state b.state wrote.crash.after k lt bytes (no_more_left size b.state x leaves k lt bytes among)

  says_next : (a x : State) → Leaves (Rattle.ufs_disk.specs.Disk.IsPartlyWritten size (label (n + 1)) a) x → Says size (λ m. m ≤ n) a → Says size (λ m. m ≤ n + 1) x
  says_next a x leaves says =
      says_label size (λ m. m ≤ n + 1) (label (n + 1)) a x (label_length (n + 1)) (omega (arith, next_label)) leaves (more size n a says)

  pub same_wrote : (done : Bool) (a b : Moments) → Wrote keeps size (label (n + 1)) a b done → IsSame size (reads a) (reads b)
  same_wrote done a b wrote k lt = ⊎_elim (λ is. is) (λ is. is ∙ put_all_below (sectors_of (label (n + 1))) size k (reads a) lt) (wrote.content k)

  pub same_after : (done : Bool) (a b c : Moments) → Wrote keeps size (label (n + 1)) a b done → Rests keeps b c → IsSame size (reads a) (reads c)
  same_after done a b c wrote rests k lt = ap (λ (d : Image). d k) rests.content ∙ same_wrote done a b wrote k lt

  pub says_after : (done : Bool) (a b c : Moments) → IsTrue done → Wrote keeps size (label (n + 1)) a b done → Rests keeps b c → IsSettled c.state → Says size (λ m. n + 1 ≤ m) c.state
  says_after done a b c is wrote rests settled =
      let here : seen c.state size ≡ label (n + 1) =
      ap (λ (d : Image). d size) (rests.content ∙ wrote.reading is ∙ put_one size (label (n + 1)) (reads a) (label_length (n + 1))) ∙ put_same size (label (n + 1)) (reads a) in
      let same : generation (seen c.state size) ≡ n + 1 = ap generation here ∙ next_label in
      says_settled size (λ m. n + 1 ≤ m) c.state settled (omega (arith, same))

module _ {E : Type 0} (one other : Bool) (f g : E → Moments) (size n : ℕ) (fits : n < 2 ^ 64 - 1) (log log1 : List (E × Picks)) (l l1 : E) (picks picks1 : Picks) (either : picks ≡ Either)
    (labelled : IsLabelled size n (present (record { first = f l; second = g l; picks = picks })))
    (log1_is : log1 ≡ log ++ (l, picks) ∷ []) (picks1_is : picks1 ≡ picks) where
  abbrev R : Pair → Type 0
  R = IsMoment size (n + 1) (IsImage (state_of size (present (record { first = f l; second = g l; picks = picks }))))

  -- the first leg's
  module _ (done : Bool) (same1 : g l1 ≡ g l) (wrote : Wrote one size (label (n + 1)) (f l) (f l1) done) where
    pub first_wrote : Runs (one && other) R (watched f g log l picks) (watched f g log1 l1 picks1)
    first_wrote =
        watched_first one other R f g (Rattle.ufs_disk.specs.Disk.IsPartlyWritten size (label (n + 1)) (f l).state) log log1 l l1 picks picks1 log1_is picks1_is same1 wrote.crash
        (λ x leaves. record {
          leaves = state_left size picks (f l).state (g l).state x (g l).state (no_more_label size (sectors_of (label (n + 1))) (f l).state x leaves) (no_more_same size (g l).state);
          labelled = either_labelled size (n + 1) _ either (says_next one size n fits (f l).state x leaves (labelled.either_first either)) (more size n (g l).state (labelled.either_second either));
        })

    module _ (log2 : List (E × Picks)) (l2 : E) (picks2 : Picks) (log2_is : log2 ≡ log1 ++ (l1, picks1) ∷ []) (picks2_is : picks2 ≡ picks1) (same2 : g l2 ≡ g l1) (rests : Rests one (f l1) (f l2)) where
      pub first_waited : Runs (one && other) R (watched f g log l picks) (watched f g log2 l2 picks2)
      first_waited =
          joined (one && other) R _ _ _ first_wrote
          (watched_first one other R f g (IsImage (f l1).state) log1 log2 l1 l2 picks1 picks2 log2_is picks2_is same2 rests.crash
          (λ x leaves. subst R (λ i. record { first = x; second = (sym same1 i).state; picks = sym picks1_is i }) (record {
            leaves = state_left size picks (f l).state (g l).state x (g l).state (wrote_no_more one size n fits done (f l) (f l1) wrote x leaves) (no_more_same size (g l).state);
            labelled = either_labelled size (n + 1) _ either
                (says_left size (λ m. m ≤ n + 1) (f l1).state x leaves (says_next one size n fits (f l).state (f l1).state wrote.crash.after (labelled.either_first either)))
                (more size n (g l).state (labelled.either_second either));
          })))

      module _ (log3 : List (E × Picks)) (l3 : E) (is : IsTrue done) (settled : IsSettled (f l2).state) (log3_is : log3 ≡ log2 ++ (l2, picks2) ∷ []) (same3 : l3 ≡ l2) where
        pub first_told : Runs (one && other) R (watched f g log l picks) (watched f g log3 l3 First)
        first_told =
            let so_far = first_waited in
            let either2 : picks2 ≡ Either = picks2_is ∙ picks1_is ∙ either in
            let g_same : g l ≡ g l2 = sym (same2 ∙ same1) in
            let before : R (record { first = (f l2).state; second = (g l2).state; picks = picks2 }) = so_far.after in
            joined (one && other) R _ _ _ so_far
            (watched_told one other R f g log2 log3 l2 l3 picks2 First log3_is same3 before
            (record {
              leaves = state_first size _ (f l2).state (g l2).state
                  (subst (λ p. Leaves (IsImage (state_of size (present (record { first = f l; second = g l; picks = picks })))) (state_of size (record { first = (f l2).state; second = (g l2).state; picks = p }))) either2 before.leaves);
              labelled = first_labelled size (n + 1) (f l2).state (g l2).state (omega arith)
                  (says_after one size n fits done (f l) (f l1) (f l2) is wrote rests settled)
                  (before.labelled.either_second either2);
            }))

        pub first_alone : (picks3 : Picks) → picks3 ≡ First → Runs (one && other) R (watched f g log l picks) (watched f g log3 l3 picks3)
        first_alone picks3 picks3_is = subst (λ p. Runs (one && other) R (watched f g log l picks) (watched f g log3 l3 p)) (sym picks3_is) first_told

  -- the second leg's
  module _ (done : Bool) (same1 : f l1 ≡ f l) (wrote : Wrote other size (label (n + 1)) (g l) (g l1) done) where
    pub second_wrote : Runs (one && other) R (watched f g log l picks) (watched f g log1 l1 picks1)
    second_wrote =
        watched_second one other R f g (Rattle.ufs_disk.specs.Disk.IsPartlyWritten size (label (n + 1)) (g l).state) log log1 l l1 picks picks1 log1_is picks1_is same1 wrote.crash
        (λ x leaves. record {
          leaves = state_left size picks (f l).state (g l).state (f l).state x (no_more_same size (f l).state) (no_more_label size (sectors_of (label (n + 1))) (g l).state x leaves);
          labelled = either_labelled size (n + 1) _ either (more size n (f l).state (labelled.either_first either)) (says_next other size n fits (g l).state x leaves (labelled.either_second either));
        })

    module _ (log2 : List (E × Picks)) (l2 : E) (picks2 : Picks) (log2_is : log2 ≡ log1 ++ (l1, picks1) ∷ []) (picks2_is : picks2 ≡ picks1) (same2 : f l2 ≡ f l1) (rests : Rests other (g l1) (g l2)) where
      pub second_waited : Runs (one && other) R (watched f g log l picks) (watched f g log2 l2 picks2)
      second_waited =
          joined (one && other) R _ _ _ second_wrote
          (watched_second one other R f g (IsImage (g l1).state) log1 log2 l1 l2 picks1 picks2 log2_is picks2_is same2 rests.crash
          (λ x leaves. subst R (λ i. record { first = (sym same1 i).state; second = x; picks = sym picks1_is i }) (record {
            leaves = state_left size picks (f l).state (g l).state (f l).state x (no_more_same size (f l).state) (wrote_no_more other size n fits done (g l) (g l1) wrote x leaves);
            labelled = either_labelled size (n + 1) _ either
                (more size n (f l).state (labelled.either_first either))
                (says_left size (λ m. m ≤ n + 1) (g l1).state x leaves (says_next other size n fits (g l).state (g l1).state wrote.crash.after (labelled.either_second either)));
          })))

      module _ (log3 : List (E × Picks)) (l3 : E) (is : IsTrue done) (settled : IsSettled (g l2).state) (log3_is : log3 ≡ log2 ++ (l2, picks2) ∷ []) (same3 : l3 ≡ l2) where
        pub second_told : Runs (one && other) R (watched f g log l picks) (watched f g log3 l3 Second)
        second_told =
            let so_far = second_waited in
            let either2 : picks2 ≡ Either = picks2_is ∙ picks1_is ∙ either in
            let before : R (record { first = (f l2).state; second = (g l2).state; picks = picks2 }) = so_far.after in
            let first_says : Says size (λ m. m < n + 1) (f l2).state =
            subst (λ (m : Moments). Says size (λ k. k < n + 1) m.state) (sym (same2 ∙ same1)) (below size n (f l).state (labelled.either_first either)) in
            joined (one && other) R _ _ _ so_far
            (watched_told one other R f g log2 log3 l2 l3 picks2 Second log3_is same3 before
            (record {
              leaves = state_second size _ (f l2).state (g l2).state
                  (subst (λ p. Leaves (IsImage (state_of size (present (record { first = f l; second = g l; picks = picks })))) (state_of size (record { first = (f l2).state; second = (g l2).state; picks = p }))) either2 before.leaves);
              labelled = second_labelled size (n + 1) (f l2).state (g l2).state (omega arith) first_says
                  (says_after other size n fits done (g l) (g l1) (g l2) is wrote rests settled);
            }))

        pub second_alone : (picks3 : Picks) → picks3 ≡ Second → Runs (one && other) R (watched f g log l picks) (watched f g log3 l3 picks3)
        second_alone picks3 picks3_is = subst (λ p. Runs (one && other) R (watched f g log l picks) (watched f g log3 l3 p)) (sym picks3_is) second_told
