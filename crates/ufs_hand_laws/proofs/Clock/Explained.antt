-- After a tick each state of the disk is explained.
use Rattle.ufs_hand_laws.specs.Explained.{AreStatesExplained}
use Rattle.ufs_hand_laws.specs.Visible.{IsDiskVisible}
use Rattle.ufs_hand_laws.proofs.Clock.Setting.{Tick, ticks}

module _ (tick : Tick) where
  open tick use {look, by, n, has}
  open tick.look use {S, k, word, views, i, v, o, at}
  open ticks tick use {w, later, next}

  pub tick_explained : IsDiskVisible k → AreStatesExplained S k later o.history next.store
  tick_explained = λ visible. let z = o.explained visible in record { marked = z.marked; lent = z.lent; lent_names = z.lent_names; now = z.now; ended = z.ended; joined = z.joined; past = z.past }
