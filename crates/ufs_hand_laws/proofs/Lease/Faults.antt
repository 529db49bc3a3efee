-- After a change of leases each fault excuses one entry.
use Rattle.std.proofs.Common.{◌≡◌, ℕ, set, Some, refl, arith}
use Rattle.ufs_hand_laws.specs.Owned.{Has, times}
use Rattle.ufs_hand_laws.specs.Parts.{Shortage, View}
use Rattle.ufs_hand_laws.proofs.Owning.{all_set, change_total}
use Rattle.ufs_hand_laws.specs.FaultsOnce.{AreFaultsOnce}
use Rattle.ufs_hand_laws.proofs.Lease.Setting.{LeaseStep, leasing}

module _ (step : LeaseStep) where
  open step use {S, k, word, views, i, v, o, at, go}
  open leasing step use {w, next, client_was, file_was, names_were, client_present, file_present}

  pub faults_next : AreFaultsOnce (set views i w) o.history next.store
  faults_next = record {
    single = o.faults_once.single;
    device = λ n. let a = change_total (λ (u : View). times n u.faults) views i v w at refl in let b = o.faults_once.device n in omega arith;
    stops = all_set (λ (u : View). (n : ℕ) → u.stop ≡ Some n → o.world.store.stop ≡ Some n) views i w o.faults_once.stops (o.faults_once.stops i v at);
    stopped = o.faults_once.stopped;
    shortages = all_set (λ (u : View). (x : Shortage) → Has x u.shortages → Has x o.world.store.shortages) views i w o.faults_once.shortages (o.faults_once.shortages i v at);
    short = o.faults_once.short;
  }
