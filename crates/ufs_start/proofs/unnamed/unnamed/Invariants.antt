use Rattle.std.proofs.Common.{◌≡◌, ℕ, ◌<◌, ◌≤◌, false}
use Rattle.ufs_start.specs.Numbers.{is_unnamed_in}
use Rattle.ufs_start.proofs.unnamed.unnamed.Given as goal

abbrev pub invariant-loop-inode : goal.invariant-loop-inode
invariant-loop-inode l = (k : ℕ) → 1 ≤ k → k < l.inode → is_unnamed_in l.forms l.files k ≡ false
