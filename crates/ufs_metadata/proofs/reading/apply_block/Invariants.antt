use Rattle.std.proofs.Common.{◌*◌}
use Rattle.ufs_metadata.proofs.Pieces.{IsApplied}
use Rattle.ufs_metadata.proofs.reading.apply_block.Given as goal

abbrev pub invariant-loop-i : goal.invariant-loop-i
invariant-loop-i l = IsApplied l.overlay (8 * l.block) l.i l.fn.buf l.buf
