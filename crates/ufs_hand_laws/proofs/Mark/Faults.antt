-- After a mark each fault excuses one entry.
use Rattle.std.proofs.Common.{◌≡◌, ℕ, set, Some, ⊎_elim, arith}
use Rattle.ufs_hand_laws.specs.Owned.{Has, times}
use Rattle.ufs_hand_laws.specs.Parts.{Shortage, View}
use Rattle.ufs_hand_laws.specs.FaultsOnce.{AreFaultsOnce}
use Rattle.ufs_hand_laws.proofs.Owning.{total_set, total_at, all_set}
use Rattle.ufs_hand_laws.proofs.Mark.Setting.{Mark, remaking}

module _ (mark : Mark) where
  open mark use {keeps, S, k, word, views, i, v, w, o, at, m}
  open remaking mark use {remade, single_files, r, names_are_kept, file_case, file_present}

  pub faults_remade : AreFaultsOnce (set views i w) o.history remade.store
  faults_remade = record {
    single = r.answers.single o.faults_once.single;
    device = λ n. let a = total_set (λ (u : View). times n u.faults) views i v w at in let b = r.answers.faults n in let c = o.faults_once.device n in let d = total_at (λ (u : View). times n u.faults) views i v at in omega arith;
    stops = all_set (λ (u : View). (n : ℕ) → u.stop ≡ Some n → remade.store.stop ≡ Some n) views i w (λ j u x n e. r.answers.stopped n (o.faults_once.stops j u x n e))
        (λ n e. ⊎_elim (λ z. r.answers.stopped n (o.faults_once.stops i v at n z)) (λ z. z) (r.answers.stops n e));
    stopped = λ x n h e. r.answers.stopped n (o.faults_once.stopped x n h e);
    shortages = all_set (λ (u : View). (x : Shortage) → Has x u.shortages → Has x remade.store.shortages) views i w (λ j u x z e. r.answers.short z (o.faults_once.shortages j u x z e))
        (λ z e. ⊎_elim (λ y. r.answers.short z (o.faults_once.shortages i v at z y)) (λ y. y) (r.answers.shortages z e));
    short = λ x need had h e. let z = o.faults_once.short x need had h e in (z.0, r.answers.short z.0 z.1, z.2);
  }
