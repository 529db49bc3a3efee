-- Steps, one after the other, and what they tell.
use Rattle.std.proofs.Common.{◌≡◌, ℕ, suc, ◌+◌, ◌≤◌, inl, inr, Bool, true, false, List, [], ◌∷◌, ◌++◌, length, map, Option, None, Some, refl, sym, ◌∙◌, subst, true≢false, arith}
use Rattle.std.proofs.lemmas.List.{map-append}
use Rattle.std.specs.Prelude.{◌||◌}
use Rattle.ufs_base.specs.declared.lack.Lack.{Lack}
use Rattle.ufs_hand_laws.specs.Owned.{one}
use Rattle.ufs_joint.specs.Cells.{Start}
use Rattle.ufs_model.specs.declared.data.Actor.{Actor}
use Rattle.ufs_primary.specs.OfAtPrimary.{Ordered}
use Rattle.ufs_rounds.specs.Moves.{first_lack, is_called}
use Rattle.ufs_rounds.specs.Steps.{AreCalls, AreSteps, AreStepsWhere, CallOf, HadTurn, IsStep, Step, TurnOf, calls_in, does_move, lack_of, lack_told, moves_in, some_moved, who_in}
use Rattle.ufs_rounds.specs.Turns.{GlobalState}

module _ {N : Type 0} (k : Start) (may : Step → GlobalState N → Type 0) where
  pub where_then : (ms ns : List Step) (s u t : GlobalState N) → AreStepsWhere k may ms s u → AreStepsWhere k may ns u t → AreStepsWhere k may (ms ++ ns) s t
  where_then [] ns s u t a b = subst (λ (v : GlobalState N). AreStepsWhere k may ns v t) a b
  where_then (m ∷ ms) ns s u t a b = (a.0, a.1, a.2, where_then ms ns a.0 u t a.3 b)

  pub one_where : (m : Step) (s t : GlobalState N) → may m s → IsStep k m s t → AreStepsWhere k may (m ∷ []) s t
  one_where m s t allowed is = (t, allowed, is, refl)

  -- where they may be made they may be made elsewhere
  pub where_too : (more : Step → GlobalState N → Type 0) → ((m : Step) (s : GlobalState N) → may m s → more m s) → (ms : List Step) (s t : GlobalState N) → AreStepsWhere k may ms s t → AreStepsWhere k more ms s t
  where_too more leads [] s t a = a
  where_too more leads (m ∷ ms) s t a = (a.0, leads m s a.1, a.2, where_too more leads ms a.0 t a.3)

module _ {N : Type 0} (k : Start) where
  pub steps_then : (ms ns : List Step) (s u t : GlobalState N) → AreSteps k ms s u → AreSteps k ns u t → AreSteps k (ms ++ ns) s t
  steps_then ms ns s u t a b = where_then k (λ m v. Unit {0}) ms ns s u t a b

  pub one_step : (m : Step) (s t : GlobalState N) → IsStep k m s t → AreSteps k (m ∷ []) s t
  one_step m s t is = one_where k (λ n v. Unit {0}) m s t tt is

-- ---- what they tell

or_then : (a b c : Bool) → ((a || b) || c) ≡ (a || (b || c))
or_then true b c = refl
or_then false b c = refl

pub or_false : (a : Bool) → (a || false) ≡ a
or_false true = refl
or_false false = refl

first_then : (a b c : Option Lack) → first_lack (first_lack a b) c ≡ first_lack a (first_lack b c)
first_then None b c = refl
first_then (Some x) b c = refl

pub first_none : (a : Option Lack) → first_lack a None ≡ a
first_none None = refl
first_none (Some x) = refl

pub moved_then : (ms ns : List Step) → some_moved (ms ++ ns) ≡ (some_moved ms || some_moved ns)
moved_then [] ns = refl
moved_then (m ∷ ms) ns = (λ i. does_move m || moved_then ms ns i) ∙ sym (or_then (does_move m) (some_moved ms) (some_moved ns))

pub told_then : (ms ns : List Step) → lack_told (ms ++ ns) ≡ first_lack (lack_told ms) (lack_told ns)
told_then [] ns = refl
told_then (m ∷ ms) ns = (λ i. first_lack (lack_of m) (told_then ms ns i)) ∙ sym (first_then (lack_of m) (lack_told ms) (lack_told ns))

-- what was noted of both
pub moved_more : (was mid is : Bool) (ms ns : List Step) → mid ≡ (was || some_moved ms) → is ≡ (mid || some_moved ns) → is ≡ (was || some_moved (ms ++ ns))
moved_more was mid is ms ns a b = b ∙ (λ i. a i || some_moved ns) ∙ or_then was (some_moved ms) (some_moved ns) ∙ (λ i. was || sym (moved_then ms ns) i)

pub told_more : (was mid is : Option Lack) (ms ns : List Step) → mid ≡ first_lack was (lack_told ms) → is ≡ first_lack mid (lack_told ns) → is ≡ first_lack was (lack_told (ms ++ ns))
told_more was mid is ms ns a b = b ∙ (λ i. first_lack (a i) (lack_told ns)) ∙ first_then was (lack_told ms) (lack_told ns) ∙ (λ i. first_lack was (sym (told_then ms ns) i))

pub moves_then : (ms ns : List Step) → moves_in (ms ++ ns) ≡ moves_in ms + moves_in ns
moves_then [] ns = omega arith
moves_then (m ∷ ms) ns = let rest = moves_then ms ns in omega (arith, rest)

pub calls_then : (ms : List Step) (file : ℕ) (o : Ordered) → calls_in (ms ++ CallOf file o ∷ []) ≡ calls_in ms + one (is_called o)
calls_then [] file o = omega arith
calls_then (TurnOf who t ∷ ms) file o = calls_then ms file o
calls_then (CallOf n p ∷ ms) file o = let rest = calls_then ms file o in omega (arith, rest)

pub le_one : (b : Bool) → one b ≤ 1
le_one true = omega arith
le_one false = omega arith

one_moved : (b r : Bool) (n : ℕ) → (r ≡ true → 1 ≤ n) → (b || r) ≡ true → 1 ≤ one b + n
one_moved true r n h e = omega arith
one_moved false r n h e = let low = h e in omega (arith, low)

pub has_moved : (ms : List Step) → some_moved ms ≡ true → 1 ≤ moves_in ms
has_moved [] e = absurd (true≢false (sym e))
has_moved (m ∷ ms) e = one_moved (does_move m) (some_moved ms) (moves_in ms) (has_moved ms) e

pub had_before : (who : Actor) (ms ns : List Step) → HadTurn who ms → HadTurn who (ms ++ ns)
had_before who [] ns h = absurd h
had_before who (m ∷ ms) ns (inl e) = inl e
had_before who (m ∷ ms) ns (inr h) = inr (had_before who ms ns h)

pub had_behind : (who : Actor) (ms ns : List Step) → HadTurn who ns → HadTurn who (ms ++ ns)
had_behind who [] ns h = h
had_behind who (m ∷ ms) ns h = inr (had_behind who ms ns h)

-- the next file is called
pub calls_next : (first file : ℕ) (ms : List Step) (o : Ordered) → file ≡ first + length ms → AreCalls first ms → AreCalls first (ms ++ CallOf file o ∷ [])
calls_next first file [] o is calls = (omega (arith, is), tt)
calls_next first file (TurnOf who t ∷ ms) o is calls = absurd calls
calls_next first file (CallOf n p ∷ ms) o is calls = (calls.0, calls_next (suc first) file ms o (omega (arith, is)) calls.1)

-- the actors of one more turn
pub turns_next : (ms : List Step) (m : Step) (actors : List Actor) (who : Actor) → who_in m ≡ Some who → map who_in ms ≡ map {B = Option Actor} Some actors
    → map who_in (ms ++ m ∷ []) ≡ map {B = Option Actor} Some (actors ++ who ∷ [])
turns_next ms m actors who is all = map-append who_in ms (m ∷ []) ∙ (λ i. all i ++ is i ∷ []) ∙ sym (map-append {B = Option Actor} Some actors (who ∷ []))
