use Rattle.std.proofs.Common.{◌≡◌, ℕ, [], Some}
use Rattle.std.specs.Prelude.{IsTrue}
use Rattle.ufs_disk.specs.Moments.{LeavesOnly}
use Rattle.ufs_ledger.specs.Ledger.{IsLeftBy, Ledger}
use Rattle.ufs_store.specs.Ledgers.{HasLedger}
use Rattle.ufs_file_commits.specs.Writes.{MayWriteAll, with_writes, writes_before, writes_of}
use Rattle.ufs_file_commits.proofs.writes.write_dirty.Given as goal

abbrev pub invariant-loop-place : goal.invariant-loop-place
invariant-loop-place g l = record {
  passed : g.D.Door.store l.door ≡ record (g.D.Door.store l.fn.door) { moments = (g.D.Door.store l.door).moments; unsettled = (g.D.Door.store l.door).unsettled };
  crash : IsTrue g.D.Door.visible → (m : Ledger) → HasLedger (g.D.Door.store l.fn.door) m → MayWriteAll m (writes_of l.fn.hand)
      → LeavesOnly g.D.Door.keeps (IsLeftBy (g.D.Door.store l.fn.door).sectors (with_writes (writes_of l.fn.hand) m)) (g.D.Door.store l.fn.door).moments (g.D.Door.store l.door).moments;
  has : IsTrue g.D.Door.visible → (m : Ledger) → HasLedger (g.D.Door.store l.fn.door) m → MayWriteAll m (writes_of l.fn.hand) → HasLedger (g.D.Door.store l.door) (with_writes (writes_before l.fn.hand l.place) m);
  nothing : writes_before l.fn.hand l.place ≡ [] → g.D.Door.store l.door ≡ g.D.Door.store l.fn.door;
  still : (fault : ℕ) → (g.D.Door.store l.fn.door).stop ≡ Some fault → g.D.Door.store l.door ≡ g.D.Door.store l.fn.door;
}
