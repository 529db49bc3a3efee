use Rattle.std.proofs.Common.{◌≡◌, ◌*◌, ◌++◌, length, take, drop, flat_map}
use Rattle.ufs_layout.specs.DentryForm.{dentry_bytes}
use Rattle.ufs_dirs.proofs.codec.put_slots.Given as goal

abbrev pub invariant-loop-k : goal.invariant-loop-k
invariant-loop-k l = record {
  written : l.buf ≡ flat_map dentry_bytes (take l.k l.slots) ++ drop (64 * l.k) l.fn.buf;
  sized : length (flat_map dentry_bytes (take l.k l.slots)) ≡ 64 * l.k;
}
