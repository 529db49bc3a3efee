-- How far the end of a session raises the numbers of its store.
use Rattle.std.proofs.Common.{◌≡◌, ◌+◌, ◌≤◌, ℕ, Bool, true, false, List, Option, None, Result, Ok, Err, length, ap, ◌∙◌, arith}
use Rattle.std.specs.Prelude.{OnOk}
use Rattle.ufs_brink.specs.declared.closing.CloseFault.{CloseFault}
use Rattle.ufs_brink.proofs.ClosedNumbers.{has_superblock, is_used, next_here}
use Rattle.ufs_base.specs.Images.{Image}
use Rattle.ufs_base.specs.declared.memory.Memory.{Memory}
use Rattle.ufs_disk.specs.Moments.{Moments, reads}
use Rattle.ufs_image.specs.Volume.{superblock_of}
use Rattle.ufs_joint.specs.Cells.{Start}
use Rattle.ufs_layout.specs.declared.superblock.Super.{Super}
use Rattle.ufs_ledger.specs.Ledger.{Ledger}
use Rattle.ufs_model.specs.declared.data.Entry.{Entry}
use Rattle.ufs_recovery.specs.Recovered.{IsRecovered}
use Rattle.ufs_store.specs.Ledgers.{HasLedger}
use Rattle.ufs_store.specs.State.{StoreState}
use Rattle.ufs_turns.specs.Lent.{HasGoneBy, Tally}
use Rattle.ufs_gathered.specs.Finished.{ClosesBy, EndsBy, HasFinished}

-- what a store counts
abbrev pub tally_of : StoreState → Tally
tally_of s = record { faults = s.faults; epoch = s.superblock.epoch; number = s.journal.number }

-- A recovery of its image raises the epoch by one, and the next commit number no higher than the store's.
module _ (s : StoreState) (l : Ledger) (has : HasLedger s l) (behind : Image) (is : IsRecovered (reads s.moments) behind) where
  epoch_then : (superblock_of behind).epoch ≡ s.superblock.epoch + 1
  epoch_then = ap (λ (h : Super). h.epoch) is.superblock ∙ ap (λ (h : Super). h.epoch + 1) (has_superblock s l has)

  number_then : (superblock_of behind).next ≤ s.journal.number
  number_then =
      let next = next_here s l has in
      is.least s.journal.number next.some next.known (λ k ranged. let kept = is.numbers k ranged in let less = next.inodes k ranged in omega (arith, kept, less)) next.logged

module _ (k : Start) (origin : Moments) (keeps : Bool) (tickets : ℕ) (lists : List (List Entry)) (bytes : Result ℕ Memory) (sectors faults : ℕ) (now : Moments) (ended : Result (Unit {0}) CloseFault)
    (fin : HasFinished k origin keeps tickets lists bytes sectors faults now ended) (t : Tally) (told : Option ℕ) (n : ℕ) where
  -- by the commits of so many files and of the names, and by a recovery
  pub raised_by : HasGoneBy told (1 + n) (1 + n) t (tally_of fin.store) → length fin.files ≡ n → k.is_visible ≡ true → OnOk ended (ClosesBy t.epoch t.number k.geometry.inodes (reads now))
  raised_by ran same seen = by ended fin.ends (fin.recovered seen)
    where
      by : (r : Result (Unit {0}) CloseFault) → EndsBy fin.all fin.store.stop fin.store.faults faults r
          → OnOk r ((superblock_of (reads fin.store.moments)).clean ≡ false → IsRecovered (reads fin.store.moments) (reads now)) → OnOk r (ClosesBy t.epoch t.number k.geometry.inodes (reads now))
      by (Err fault) ends recovered = tt
      by (Ok x) ends recovered =
          let s = fin.store in
          let going : s.stop ≡ None = ends.1 in
          let l = fin.session.ledger seen going in
          let is = recovered (is_used s l.0 l.1) in
          let up = epoch_then s l.0 l.1 (reads now) is in
          let next = number_then s l.0 l.1 (reads now) is in
          let few = fin.session.few in
          let low : t.epoch ≤ s.superblock.epoch = ran.epoch in
          let high : s.superblock.epoch ≤ t.epoch + (1 + n) = ran.epoch_most in
          let most : s.journal.number ≤ t.number + (1 + n) = ran.number_most in
          record {
            epoch = omega (arith, low, up);
            epoch_most = omega (arith, high, up, few, same);
            number_most = omega (arith, most, next, few, same);
          }
