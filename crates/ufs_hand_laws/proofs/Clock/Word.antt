-- After a look and a tick no hand is ahead of the word.
use Rattle.std.proofs.Common.{◌+◌, ◌≤◌, set, refl, arith}
use Rattle.ufs_hand_laws.specs.Parts.{View}
use Rattle.ufs_hand_laws.specs.Clock.{looked}
use Rattle.ufs_hand_laws.proofs.Owning.{all_set}
use Rattle.ufs_hand_laws.specs.ClockTrue.{IsClockTrue}
use Rattle.ufs_hand_laws.proofs.Clock.Setting.{Look, Tick, ticks}

module _ (look : Look) where
  open look use {S, k, word, views, i, v, o, at}

  pub look_clock : IsClockTrue word (set views i (looked word v)) o.world
  look_clock = record { word_is = o.clock.word_is; seen = all_set (λ (u : View). (u.seen ≤ word.tickets) × (u.clock ≤ word.clock)) views i (looked word v) o.clock.seen (omega arith, omega arith) }

module _ (tick : Tick) where
  open tick use {look, by, n, has}
  open tick.look use {S, k, word, views, i, v, o, at}
  open ticks tick use {w, later, next}

  pub tick_clock : IsClockTrue later (set views i w) next
  tick_clock = record {
    word_is = refl;
    seen = all_set (λ (u : View). (u.seen ≤ word.tickets) × (u.clock ≤ word.clock + by)) views i w (λ j u x. let a = o.clock.seen j u x in (a.0, omega (arith, a.1))) (omega arith, omega arith);
  }
