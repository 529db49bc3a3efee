-- After a look and a tick each part is in one hand.
use Rattle.std.proofs.Common.{◌+◌, eqb, set, Some, sym, refl, ap, subst}
use Rattle.ufs_hand_laws.specs.Owned.{count, Held}
use Rattle.ufs_hand_laws.specs.Parts.{View, only_one}
use Rattle.ufs_hand_laws.specs.Clock.{looked, at_clock}
use Rattle.ufs_hand_laws.proofs.Owning.{same_holds}
use Rattle.ufs_hand_laws.proofs.Exchange.{one_exchanged}
use Rattle.ufs_hand_laws.specs.OneHand.{IsHeld}
use Rattle.ufs_hand_laws.proofs.Clock.Setting.{Look, Tick, ticks, was}

module _ (look : Look) where
  open look use {S, k, word, views, i, v, o, at}

  pub look_hands : IsHeld (set views i (looked word v)) o.world
  look_hands = record {
    clients = same_holds eqb (λ (u : View). u.clients) o.world.client views i v (looked word v) at refl o.one_hand.clients;
    asked = same_holds eqb (λ (u : View). u.asked) o.world.asked views i v (looked word v) at refl o.one_hand.asked;
    files = same_holds eqb (λ (u : View). u.files) o.world.file views i v (looked word v) at refl o.one_hand.files;
    pools = same_holds eqb (λ (u : View). u.pools) o.world.pool views i v (looked word v) at refl o.one_hand.pools;
    names = same_holds only_one (λ (u : View). u.names) (λ _. Some o.world.names) views i v (looked word v) at refl o.one_hand.names;
    store = same_holds only_one (λ (u : View). u.store) (λ _. Some o.world.store) views i v (looked word v) at refl o.one_hand.store;
  }

module _ (tick : Tick) where
  open tick use {look, by, n, has}
  open tick.look use {S, k, word, views, i, v, o, at}
  open ticks tick use {w, later, next}

  names_held : Held only_one (λ (u : View). u.names) (set views i w) (λ _. Some next.names)
  names_held = subst (λ z. Held only_one (λ (u : View). u.names) (set views i w) (λ _. Some z)) (ap (at_clock (word.clock + by)) (sym (was S k word views i v o at by n has)))
      (one_exchanged views i v w at o.world o.one_hand (λ (u : View). u.names) o.world.names o.one_hand.names (λ u. ap (count only_one u) (sym has)))

  pub tick_hands : IsHeld (set views i w) next
  tick_hands = record {
    clients = same_holds eqb (λ (u : View). u.clients) o.world.client views i v w at refl o.one_hand.clients;
    asked = same_holds eqb (λ (u : View). u.asked) o.world.asked views i v w at refl o.one_hand.asked;
    files = same_holds eqb (λ (u : View). u.files) o.world.file views i v w at refl o.one_hand.files;
    pools = same_holds eqb (λ (u : View). u.pools) o.world.pool views i v w at refl o.one_hand.pools;
    names = names_held;
    store = same_holds only_one (λ (u : View). u.store) (λ _. Some o.world.store) views i v w at refl o.one_hand.store;
  }
