-- No hand is ahead of the word.
use Rattle.std.specs.Prelude.{ℕ, ◌≤◌, ◌≡◌, List}
use mathlib.Core.Option.{some}
use lib.ListN.{get_elem?}
use Rattle.ufs_hand_laws.specs.Parts.{View, World, Word}

pub record ClockTrue (word : Word) (views : List View) (clock : ℕ) : Type 0 where
  pub word_is : clock ≡ word.clock
  pub seen : (i : ℕ) (v : View) → get_elem? views i ≡ some v → (v.seen ≤ word.tickets) × (v.clock ≤ word.clock)

abbrev pub IsClockTrue : Word → List View → World → Type 0
IsClockTrue word views G = ClockTrue word views G.names.clock
