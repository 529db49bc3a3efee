-- After a look and a tick each fault excuses one entry.
use Rattle.std.proofs.Common.{◌≡◌, ℕ, set, Some, refl, arith}
use Rattle.ufs_hand_laws.specs.Owned.{Has, times}
use Rattle.ufs_hand_laws.specs.Parts.{Shortage, View}
use Rattle.ufs_hand_laws.specs.Clock.{looked}
use Rattle.ufs_hand_laws.proofs.Owning.{all_set, change_total}
use Rattle.ufs_hand_laws.specs.FaultsOnce.{AreFaultsOnce}
use Rattle.ufs_hand_laws.proofs.Clock.Setting.{Look, Tick, ticks}

module _ (look : Look) where
  open look use {S, k, word, views, i, v, o, at}

  pub look_faults : AreFaultsOnce (set views i (looked word v)) o.history o.world.store
  look_faults = record {
    single = o.faults_once.single;
    device = λ n. let a = change_total (λ (u : View). times n u.faults) views i v (looked word v) at refl in let b = o.faults_once.device n in omega arith;
    stops = all_set (λ (u : View). (n : ℕ) → u.stop ≡ Some n → o.world.store.stop ≡ Some n) views i (looked word v) o.faults_once.stops (o.faults_once.stops i v at);
    stopped = o.faults_once.stopped;
    shortages = all_set (λ (u : View). (x : Shortage) → Has x u.shortages → Has x o.world.store.shortages) views i (looked word v) o.faults_once.shortages (o.faults_once.shortages i v at);
    short = o.faults_once.short;
  }

module _ (tick : Tick) where
  open tick use {look, by, n, has}
  open tick.look use {S, k, word, views, i, v, o, at}
  open ticks tick use {w, later, next}

  pub tick_faults : AreFaultsOnce (set views i w) o.history next.store
  tick_faults = record {
    single = o.faults_once.single;
    device = λ n. let a = change_total (λ (u : View). times n u.faults) views i v w at refl in let b = o.faults_once.device n in omega arith;
    stops = all_set (λ (u : View). (n : ℕ) → u.stop ≡ Some n → o.world.store.stop ≡ Some n) views i w o.faults_once.stops (o.faults_once.stops i v at);
    stopped = o.faults_once.stopped;
    shortages = all_set (λ (u : View). (x : Shortage) → Has x u.shortages → Has x o.world.store.shortages) views i w o.faults_once.shortages (o.faults_once.shortages i v at);
    short = o.faults_once.short;
  }
