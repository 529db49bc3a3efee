-- Rounds, as far as they have come.
use Rattle.std.proofs.Common.{◌≡◌, ℕ, ◌+◌, ◌*◌, ◌≤◌, inl, inr, Bool, true, false, List, [], ◌++◌, append_assoc, Option, None, Some, Ok, Err, refl, ap, sym, ◌∙◌, true≢false, arith}
use Rattle.std.specs.Prelude.{◌||◌}
use Rattle.ufs_base.specs.declared.lack.Lack.{Lack}
use Rattle.ufs_caller.specs.Callers.{Caller}
use Rattle.ufs_joint.specs.Cells.{Start}
use Rattle.ufs_msg.specs.There.{worker_count}
use Rattle.ufs_owner.specs.Owners.{count_out}
use Rattle.ufs_rounds.specs.Moves.{first_lack, unrested}
use Rattle.ufs_rounds.specs.Rest.{EndsQuietly, HasCalled, HasSettled, IsOnlyHeard, IsQuietRound, IsWhy, NobodyAsked, rounds_for}
use Rattle.ufs_rounds.specs.Rounds.{MakesRound}
use Rattle.ufs_rounds.specs.Steps.{AreStepsWhere, Step, lack_told, moves_in}
use Rattle.ufs_rounds.specs.Turns.{GlobalState}
use Rattle.ufs_rounds.specs.declared.moves.RoundEnd.{RoundEnd}
use Rattle.ufs_rounds.specs.declared.rounds.Unfinished.TheVariants as unfinished
use Rattle.ufs_rounds.proofs.Asking.{nobody_same, nobody_self, nobody_then, quiet_later}
use Rattle.ufs_rounds.proofs.StepLemmas.{has_moved, moves_then, where_then}

-- how many rounds of the last two brought nothing
abbrev pub gap : Bool → Bool → ℕ
gap true before = 0
gap false true = 1
gap false false = 2

-- In the last round nobody did anything.
pub record EndsOnce (workers : ℕ) (clients : List Caller) (rounds : List Step) (lack : Option Lack) : Type 0 where
  pub start : List Step
  pub last : List Step
  pub are : rounds ≡ start ++ last
  pub quiet : IsQuietRound workers clients last
  pub told : lack ≡ lack_told last

-- So many rounds were made.
pub record RoundsMade {N : Type 0} (k : Start) (called : Option Lack) (made : ℕ) (s t : GlobalState N) (before : Bool) (last : RoundEnd) : Type 0 where
  pub rounds : List Step
  pub steps : AreStepsWhere k IsOnlyHeard rounds s t
  pub asked : NobodyAsked s.clients t.clients
  pub count : made ≤ 2 * moves_in rounds + gap last.moved before
  pub once : last.moved ≡ false → EndsOnce (worker_count k) t.clients rounds last.lack
  pub twice : before ≡ false → last.moved ≡ false → EndsQuietly (worker_count k) t.clients called rounds (first_lack called last.lack)

-- a round more
counted : (made old new sum : ℕ) (before last moved : Bool) → made ≤ 2 * old + gap last before → (before ≡ false → last ≡ false → ⊥) → (moved ≡ true → 1 ≤ new) → sum ≡ old + new → made + 1 ≤ 2 * sum + gap moved last
counted made old new sum before last true low going some is = by last before low going (some refl)
  where
    by : (last before : Bool) → made ≤ 2 * old + gap last before → (before ≡ false → last ≡ false → ⊥) → 1 ≤ new → made + 1 ≤ 2 * sum + 0
    by true before l on one = omega (arith, l, is, one)
    by false true l on one = omega (arith, l, is, one)
    by false false l on one = absurd (on refl refl)
counted made old new sum before true false low going some is = omega (arith, low, is)
counted made old new sum true false false low going some is = omega (arith, low, is)
counted made old new sum false false false low going some is = absurd (going refl refl)

module _ {N : Type 0} (k : Start) (called : Option Lack) (made : ℕ) (s t u : GlobalState N) (before : Bool) (last end : RoundEnd) (r : RoundsMade k called made s t before last) (m : MakesRound k t u end) where
  quiet_now : end.moved ≡ false → IsQuietRound (worker_count k) u.clients m.steps
  quiet_now still = record { turns = m.turns; quiet = sym m.moved ∙ still }

  once_now : end.moved ≡ false → EndsOnce (worker_count k) u.clients (r.rounds ++ m.steps) end.lack
  once_now still = record { start = r.rounds; last = m.steps; are = refl; quiet = quiet_now still; told = m.lack }

  twice_now : last.moved ≡ false → end.moved ≡ false → EndsQuietly (worker_count k) u.clients called (r.rounds ++ m.steps) (first_lack called end.lack)
  twice_now stood still =
      let one = r.once stood in
      record {
        before = one.start;
        first = one.last;
        last = m.steps;
        are = (λ i. one.are i ++ m.steps) ∙ append_assoc one.start one.last m.steps;
        first_quiet = quiet_later (worker_count k) t.clients u.clients m.asked one.last one.quiet;
        last_quiet = quiet_now still;
        told = ap (first_lack called) m.lack;
      }

  pub next_round : (before ≡ false → last.moved ≡ false → ⊥) → RoundsMade k called (made + 1) s u last.moved end
  next_round going = record {
    rounds = r.rounds ++ m.steps;
    steps = where_then k IsOnlyHeard r.rounds m.steps s t u r.steps m.lead;
    asked = nobody_then s.clients t.clients u.clients r.asked m.asked;
    count = counted made (moves_in r.rounds) (moves_in m.steps) (moves_in (r.rounds ++ m.steps)) before last.moved end.moved r.count going (λ moved. has_moved m.steps (sym m.moved ∙ moved)) (moves_then r.rounds m.steps);
    once = once_now;
    twice = twice_now;
  }

-- why they came to no rest
pub why_quiet : (workers files : ℕ) (clients : List Caller) (called : Option Lack) (rounds : List Step) (lack : Option Lack) → EndsQuietly workers clients called rounds lack → IsWhy workers files clients called rounds (unrested lack)
why_quiet workers files clients called rounds None is = inl is
why_quiet workers files clients called rounds (Some what) is = is

few_gap : (moved before : Bool) → gap moved before ≤ 2
few_gap true before = omega arith
few_gap false true = omega arith
few_gap false false = omega arith

pub why_long : (files made : ℕ) (rounds : List Step) (moved before : Bool) → rounds_for files ≤ made → made ≤ 2 * moves_in rounds + gap moved before → rounds_for files ≤ 2 * moves_in rounds + 2
why_long files made rounds moved before all low = let few = few_gap moved before in omega (arith, all, low, few)

-- whether one of the last two rounds brought something
pub going_on : (before last : Bool) → (before || last) ≡ true → before ≡ false → last ≡ false → ⊥
going_on before last some none still = true≢false (sym some ∙ (λ i. none i || still i))

pub both_quiet : (before last : Bool) → (before || last) ≡ false → (before ≡ false) × (last ≡ false)
both_quiet true last none = absurd (true≢false none)
both_quiet false last none = (refl, none)

-- ---- the whole

module _ {N : Type 0} (k : Start) (s u : GlobalState N) (called : Option Lack) (c : HasCalled k s u called) where
  -- before the first round
  pub none_made : (last : RoundEnd) → last.moved ≡ true → RoundsMade k called 0 u u true last
  none_made last going = record {
    rounds = [];
    steps = refl;
    asked = nobody_self u.clients;
    count = omega arith;
    once = λ still. absurd (true≢false (sym going ∙ still));
    twice = λ stood still. absurd (true≢false stood);
  }

  module _ (made : ℕ) (t : GlobalState N) (before : Bool) (last : RoundEnd) (r : RoundsMade k called made u t before last) where
    pub settled_asked : u.clients ≡ s.clients → NobodyAsked s.clients t.clients
    settled_asked same = nobody_then s.clients u.clients t.clients (nobody_same s.clients u.clients same) r.asked

    pub settled_well : HasSettled k s t (Ok tt)
    settled_well = record { called = u; lack = called; calls = c; rounds = r.rounds; steps = r.steps; why = tt }

    pub settled_quiet : before ≡ false → last.moved ≡ false → HasSettled k s t (Err (unrested (first_lack called last.lack)))
    settled_quiet stood still = record {
      called = u;
      lack = called;
      calls = c;
      rounds = r.rounds;
      steps = r.steps;
      why = why_quiet (worker_count k) (count_out s.primary.stock.home.owners) t.clients called r.rounds (first_lack called last.lack) (r.twice stood still);
    }

    pub settled_long : rounds_for (count_out s.primary.stock.home.owners) ≤ made → HasSettled k s t (Err unfinished.Stuck)
    settled_long all = record {
      called = u;
      lack = called;
      calls = c;
      rounds = r.rounds;
      steps = r.steps;
      why = inr (why_long (count_out s.primary.stock.home.owners) made r.rounds last.moved before all r.count);
    }
