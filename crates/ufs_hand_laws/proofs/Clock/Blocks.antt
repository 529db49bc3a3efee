-- After a look and a tick no block is in two parts.
use Rattle.std.proofs.Common.{◌≡◌, ℕ, set, sym, refl, ap, ◌∙◌}
use Rattle.ufs_hand_laws.specs.Parts.{uses}
use Rattle.ufs_hand_laws.specs.Clock.{looked}
use Rattle.ufs_hand_laws.proofs.Owning.{change_total}
use Rattle.ufs_hand_laws.specs.BlocksApart.{AreBlocksApart}
use Rattle.ufs_hand_laws.specs.CommittedHeld.{IsCommittedHeld}
use Rattle.ufs_hand_laws.proofs.Clock.Setting.{Look, Tick, ticks}

module _ (look : Look) where
  open look use {S, k, word, views, i, v, o, at}

  pub look_apart : AreBlocksApart k (set views i (looked word v))
  look_apart = record { same = λ b. change_total (uses b) views i v (looked word v) at refl ∙ o.blocks_apart.same b; once = o.blocks_apart.once }

module _ (tick : Tick) where
  open tick use {look, by, n, has}
  open tick.look use {S, k, word, views, i, v, o, at}
  open ticks tick use {w, later, next}

  uses_same : (b : ℕ) → uses b w ≡ uses b v
  uses_same b = ap (λ l. uses b (record v { names = l })) (sym has)

  pub tick_apart : AreBlocksApart k (set views i w)
  tick_apart = record { same = λ b. change_total (uses b) views i v w at (uses_same b) ∙ o.blocks_apart.same b; once = o.blocks_apart.once }

  pub tick_held : IsCommittedHeld k o.history next
  tick_held = let z = o.committed_held in record { live = z.live; dropped = z.dropped; numbered = z.numbered; dirs = z.dirs }
