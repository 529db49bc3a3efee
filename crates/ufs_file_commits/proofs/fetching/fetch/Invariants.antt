use Rattle.std.proofs.Common.{◌≡◌, ◌<◌, ℕ, Some, length, true}
use Rattle.std.specs.Prelude.{slice_get}
use Rattle.ufs_file.specs.Hand.{HasNeeded, IsNeeded}
use Rattle.ufs_file_commits.specs.Fetching.{HasFetched}
use Rattle.ufs_file_commits.proofs.fetching.fetch.Given as goal

abbrev pub invariant-loop-place : goal.invariant-loop-place
invariant-loop-place g l = record {
  fetched : HasFetched g.D.Door.visible g.D.Door.keeps (g.D.Door.store l.fn.door) (g.D.Door.store l.door) l.fn.hand l.hand;
  there : (k : ℕ) → IsNeeded (length l.fn.hand.content.bytes) l.fn.desc l.fn.op k → k < l.place → slice_get l.hand.content.there k ≡ Some true;
  faults : (g.D.Door.store l.door).faults ≡ (g.D.Door.store l.fn.door).faults;
  nothing : HasNeeded l.fn.hand.content l.fn.desc l.fn.op → (l.hand ≡ l.fn.hand) × (g.D.Door.store l.door ≡ g.D.Door.store l.fn.door);
}
