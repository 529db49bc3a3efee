use Rattle.std.proofs.Common.{◌≡◌, ◌≤◌, ◌-◌, ◌<◌, ◌&&◌, ℕ, IsTrue, length}
use Rattle.ufs_disk.specs.Disk.{IsImage, IsSettled}
use Rattle.ufs_disk.specs.Moments.{reads}
use Rattle.ufs_mirror.specs.Labelled.{IsLabelled, IsMoment}
use Rattle.ufs_mirror.specs.Pairs.{Runs, state_of, watched}
use Rattle.ufs_mirror.proofs.legs.Legs.copy_all_to_second.Given as goal

abbrev pub invariant-loop-sector : goal.invariant-loop-sector
invariant-loop-sector g l =
    let old = l.fn.self in
    let was = watched (λ x. g.A.Disk.moments x.first) (λ x. g.B.Disk.moments x.second) old.log.items old.both old.picks in
    record {
      within : l.sector ≤ l.sectors;
      long : length l.bytes ≡ 4096;
      picks : l.self.picks ≡ old.picks;
      first_sized : g.A.Disk.size l.self.both.first ≡ g.A.Disk.size old.both.first;
      second_sized : g.B.Disk.size l.self.both.second ≡ g.B.Disk.size old.both.second;
      reading : IsTrue g.A.Disk.visible → reads (g.A.Disk.moments l.self.both.first) ≡ reads (g.A.Disk.moments old.both.first);
      calm : IsTrue g.A.Disk.visible → IsSettled (g.A.Disk.moments old.both.first).state → IsSettled (g.A.Disk.moments l.self.both.first).state;
      copied : IsTrue g.A.Disk.visible → IsTrue g.B.Disk.visible → (k : ℕ) → k < l.sector → reads (g.A.Disk.moments l.self.both.first) k ≡ reads (g.B.Disk.moments l.self.both.second) k;
      first_count : g.A.Disk.faults l.self.both.first ≡ g.A.Disk.faults old.both.first;
      second_count : g.B.Disk.faults l.self.both.second ≡ g.B.Disk.faults old.both.second;
      runs : (number : ℕ) → IsTrue g.A.Disk.visible → IsTrue g.B.Disk.visible → IsLabelled l.sectors number was.now
          → Runs (g.A.Disk.keeps && g.B.Disk.keeps) (IsMoment l.sectors number (IsImage (state_of l.sectors was.now))) was
          (watched (λ x. g.A.Disk.moments x.first) (λ x. g.B.Disk.moments x.second) l.self.log.items l.self.both l.self.picks);
    }

abbrev pub decreases-loop-sector : goal.decreases-loop-sector
decreases-loop-sector g l = l.sectors - l.sector
