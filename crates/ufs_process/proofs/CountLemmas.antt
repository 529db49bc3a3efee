-- How the counts of two legs go on over a call of their mirror.
use Rattle.std.proofs.Common.{◌≡◌, ◌≤◌, ◌+◌, ◌-◌, ◌^◌, ℕ, Bool, true, false, IsTrue, refl, sym, ◌∙◌, ap, subst, arith}
use Rattle.std.specs.Prelude.{Result, Ok, Err, OnErr, OnOk, min}
use Rattle.ufs_base.specs.Faults.{HasCause, raised}
use Rattle.ufs_mirror.specs.Failing.{FailedAll, HaveGrown, LetsGo}
use Rattle.ufs_mirror.specs.Ready.{AreLive}
use Rattle.ufs_mirror.proofs.Counting.{grown_on, grown_raised, grown_same}
use Rattle.ufs_mirror.specs.declared.legs.Picks.{Picks}
use Rattle.ufs_mirror.specs.declared.legs.Picks.TheVariants.{Either, First, Second}
use Rattle.ufs_process.specs.Counts.{HasFailed, HaveCounted}

-- it stays so
failed_on : (before mid now : ℕ) → HasFailed before mid → min mid (2 ^ 64 - 1) ≤ now → HasFailed before now
failed_on before mid now failed grown =
    let f : min (before + 1) (2 ^ 64 - 1) ≤ mid = failed in
    let is : min (before + 1) (2 ^ 64 - 1) ≤ now = omega (arith, f, grown) in
    is

-- it fails now
fails_now : (before mid now : ℕ) → min before (2 ^ 64 - 1) ≤ mid → now ≡ raised mid → HasFailed before now
fails_now before mid now grown rose =
    let r : now ≡ min (mid + 1) (2 ^ 64 - 1) = rose in
    let is : min (before + 1) (2 ^ 64 - 1) ≤ now = omega (arith, grown, r) in
    is

rises : (before now : ℕ) → now ≡ raised before → HasFailed before now
rises before now is =
    let r : now ≡ min (before + 1) (2 ^ 64 - 1) = is in
    let at : min (before + 1) (2 ^ 64 - 1) ≤ now = omega (arith, r) in
    at

-- which leg may be picked, as a number
abbrev number : Picks → ℕ
number Either = 0
number First = 1
number Second = 2

apart : (m n : ℕ) → (m ≡ n → ⊥) → (p q : Picks) → p ≡ q → number p ≡ m → number q ≡ n → ⊥
apart m n differ p q is at at' = differ (sym at ∙ ap number is ∙ at')

module _ (one other : ℕ) (picks picks_now : Picks) (stopped stopped_now : Bool) (faults faults_now a a1 b b1 : ℕ) (old : HaveCounted one other picks stopped faults a b) (grown : HaveGrown a a1 b b1) where
  all_grown : HaveGrown one a1 other b1
  all_grown = (grown_on one a a1 old.grown.0 grown.0, grown_on other b b1 old.grown.1 grown.1)

  both_on : HasFailed one a × HasFailed other b → HasFailed one a1 × HasFailed other b1
  both_on both = (failed_on one a a1 both.0 grown.0, failed_on other b b1 both.1 grown.1)

  -- each leg that was live failed
  both_failed : (p : Picks) → picks ≡ p → FailedAll picks a a1 b b1 → HasFailed one a1 × HasFailed other b1
  both_failed Either is all = (fails_now one a a1 old.grown.0 (all.first_failed (λ at. apart 0 2 (λ e. omega (arith, e)) Either Second (sym is ∙ at) refl refl)), fails_now other b b1 old.grown.1 (all.second_failed (λ at. apart 0 1 (λ e. omega (arith, e)) Either First (sym is ∙ at) refl refl)))
  both_failed First is all = (fails_now one a a1 old.grown.0 (all.first_failed (λ at. apart 1 2 (λ e. omega (arith, e)) First Second (sym is ∙ at) refl refl)), failed_on other b b1 (old.second_gone is) grown.1)
  both_failed Second is all = (failed_on one a a1 (old.first_gone is) grown.0, fails_now other b b1 old.grown.1 (all.second_failed (λ at. apart 2 1 (λ e. omega (arith, e)) Second First (sym is ∙ at) refl refl)))

  -- a call that failed
  fault_leaves : HasFailed one a1 × HasFailed other b1 → HaveCounted one other picks_now stopped_now faults_now a1 b1
  fault_leaves both = record { first_gone = λ _. both.0; second_gone = λ _. both.1; stops = λ _. both; failed = λ _. both; grown = all_grown }

  failed_call : (stopped ≡ false → FailedAll picks a a1 b b1) → HaveCounted one other picks_now stopped_now faults_now a1 b1
  failed_call all = fault_leaves (by stopped refl)
    where
      by : (s : Bool) → stopped ≡ s → HasFailed one a1 × HasFailed other b1
      by true is = both_on (old.stops (subst IsTrue (sym is) refl))
      by false is = both_failed picks refl (all is)

  -- a read that passed
  passed_read : faults_now ≡ faults → stopped_now ≡ stopped → picks_now ≡ picks → HaveCounted one other picks_now stopped_now faults_now a1 b1
  passed_read same stays live = record {
    first_gone = λ is. failed_on one a a1 (old.first_gone (sym live ∙ is)) grown.0;
    second_gone = λ is. failed_on other b b1 (old.second_gone (sym live ∙ is)) grown.1;
    stops = λ is. both_on (old.stops (subst IsTrue stays is));
    failed = λ some. both_on (old.failed (λ none. some (same ∙ none)));
    grown = all_grown;
  }

  -- a write or a barrier that passed
  passed_write : faults_now ≡ faults → stopped_now ≡ false → LetsGo picks_now picks a a1 b b1 → HaveCounted one other picks_now stopped_now faults_now a1 b1
  passed_write same going lets = record {
    first_gone = λ is. first_goes picks refl is;
    second_gone = λ is. second_goes picks refl is;
    stops = λ is. absurd (let no : true ≡ false = sym is ∙ going in cc);
    failed = λ some. both_on (old.failed (λ none. some (same ∙ none)));
    grown = all_grown;
  }
    where
      first_goes : (p : Picks) → picks ≡ p → picks_now ≡ Second → HasFailed one a1
      first_goes Either was is = fails_now one a a1 old.grown.0 (lets.first_gone was is)
      first_goes First was is = absurd (apart 1 2 (λ e. omega (arith, e)) First Second (sym (lets.first_stays was) ∙ is) refl refl)
      first_goes Second was is = failed_on one a a1 (old.first_gone was) grown.0

      second_goes : (p : Picks) → picks ≡ p → picks_now ≡ First → HasFailed other b1
      second_goes Either was is = fails_now other b b1 old.grown.1 (lets.second_gone was is)
      second_goes First was is = failed_on other b b1 (old.second_gone was) grown.1
      second_goes Second was is = absurd (apart 2 1 (λ e. omega (arith, e)) Second First (sym (lets.second_stays was) ∙ is) refl refl)

  pub read_counted : {T E : Type 0} (r : Result T E) → HasCause faults faults_now r → OnErr r (stopped ≡ false → FailedAll picks a a1 b b1) → stopped_now ≡ stopped → picks_now ≡ picks
      → HaveCounted one other picks_now stopped_now faults_now a1 b1
  read_counted (Ok x) cause failed stays live = passed_read cause.passed stays live
  read_counted (Err e) cause failed stays live = failed_call failed

  pub write_counted : {T E : Type 0} (r : Result T E) → HasCause faults faults_now r → OnErr r (stopped ≡ false → FailedAll picks a a1 b b1) → OnOk r ((stopped_now ≡ false) × LetsGo picks_now picks a a1 b b1)
      → HaveCounted one other picks_now stopped_now faults_now a1 b1
  write_counted (Ok x) cause failed live = passed_write cause.passed live.0 live.1
  write_counted (Err e) cause failed live = failed_call failed

-- as a mirror begins
pub begun_counted : (one other a b : ℕ) (picks : Picks) (stopped : Bool) (faults : ℕ) → faults ≡ 0 → stopped ≡ false → AreLive picks one a other b → HaveCounted one other picks stopped faults a b
begun_counted one other a b Either stopped faults none going live = record {
  first_gone = λ is. absurd (apart 0 2 (λ e. omega (arith, e)) Either Second is refl refl);
  second_gone = λ is. absurd (apart 0 1 (λ e. omega (arith, e)) Either First is refl refl);
  stops = λ is. absurd (let no : true ≡ false = sym is ∙ going in cc);
  failed = λ some. absurd (some none);
  grown = (grown_same one a live.0, grown_same other b live.1);
}
begun_counted one other a b First stopped faults none going live = record {
  first_gone = λ is. absurd (apart 1 2 (λ e. omega (arith, e)) First Second is refl refl);
  second_gone = λ is. rises other b live.1;
  stops = λ is. absurd (let no : true ≡ false = sym is ∙ going in cc);
  failed = λ some. absurd (some none);
  grown = (grown_same one a live.0, grown_raised other b live.1);
}
begun_counted one other a b Second stopped faults none going live = record {
  first_gone = λ is. rises one a live.0;
  second_gone = λ is. absurd (apart 2 1 (λ e. omega (arith, e)) Second First is refl refl);
  stops = λ is. absurd (let no : true ≡ false = sym is ∙ going in cc);
  failed = λ some. absurd (some none);
  grown = (grown_raised one a live.0, grown_same other b live.1);
}

-- one that was made, and one that was opened, of legs that came with these counts
pub made_counted : (one other a b fa fb : ℕ) (picks : Picks) (stopped : Bool) (faults : ℕ) → one ≡ fa → other ≡ fb → faults ≡ 0 → stopped ≡ false → picks ≡ Either → a ≡ fa → b ≡ fb → HaveCounted one other picks stopped faults a b
made_counted one other a b fa fb picks stopped faults one_is other_is none going either a_is b_is =
    subst (λ p. HaveCounted one other p stopped faults a b) (sym either) (begun_counted one other a b Either stopped faults none going (a_is ∙ sym one_is, b_is ∙ sym other_is))

pub opened_counted : (one other a b fa fb : ℕ) (picks : Picks) (stopped : Bool) (faults : ℕ) → one ≡ fa → other ≡ fb → faults ≡ 0 → stopped ≡ false → AreLive picks fa a fb b → HaveCounted one other picks stopped faults a b
opened_counted one other a b fa fb picks stopped faults one_is other_is none going live =
    begun_counted one other a b picks stopped faults none going (subst (λ n. AreLive picks n a other b) (sym one_is) (subst (λ n. AreLive picks fa a n b) (sym other_is) live))
