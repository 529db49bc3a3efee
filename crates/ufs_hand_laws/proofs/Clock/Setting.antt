-- A look, and a tick by the hand with the names.
use Rattle.std.proofs.Common.{◌≡◌, ℕ, ◌+◌, List, [], ◌∷◌, sym, refl, subst, inl}
use mathlib.Core.Option.{some}
use lib.ListN.{get_elem?}
use Rattle.ufs_hand_laws.specs.Owned.{Has}
use Rattle.ufs_hand_laws.specs.Parts.{NamesPart, View, World, Word, Start}
use Rattle.ufs_hand_laws.specs.Sound.{IsSound}
use Rattle.ufs_hand_laws.specs.Explained.{Showing}
use Rattle.ufs_hand_laws.specs.Clock.{at_clock, ticked}
use Rattle.ufs_hand_laws.proofs.Exchange.{names_are}

-- what a look is made of
pub record Look : Type 1 where
  pub S : Showing
  pub k : Start
  pub word : Word
  pub views : List View
  pub i : ℕ
  pub v : View
  pub o : IsSound S k word views
  pub at : get_elem? views i ≡ some v

-- and a tick
pub record Tick : Type 1 where
  pub look : Look
  pub by : ℕ
  pub n : NamesPart
  pub has : look.v.names ≡ (tt, n) ∷ []

pub record Ticks (tick : Tick) : Type 0 where
  pub w : View
  pub later : Word
  pub next : World

abbrev pub ticks : (tick : Tick) → Ticks tick
ticks tick = record {
  w = ticked tick.look.word tick.by tick.n tick.look.v;
  later = record { tickets = tick.look.word.tickets; clock = tick.look.word.clock + tick.by };
  next = record (tick.look.o.world) { names = at_clock (tick.look.word.clock + tick.by) tick.look.o.world.names };
}

pub was : (S : Showing) (k : Start) (word : Word) (views : List View) (i : ℕ) (v : View) (o : IsSound S k word views) (at : get_elem? views i ≡ some v) (by : ℕ) (n : NamesPart) (has : v.names ≡ (tt, n) ∷ []) → o.world.names ≡ n
was S k word views i v o at by n has = names_are views i v (ticked word by n v) at o.world o.one_hand tt n (subst (Has (tt, n)) (sym has) (inl refl))
