use Rattle.std.proofs.Common.{◌≡◌, length, filter, take}
use Rattle.ufs_path.specs.Texts.{joined, ends_from}
use Rattle.ufs_model.proofs.Facts.Pieces.{pieces, is_some_name}
use Rattle.ufs_path.proofs.read.kept.Given as goal

abbrev pub invariant-loop-piece : goal.invariant-loop-piece
invariant-loop-piece l = record {
  bytes : l.bytes.items ≡ joined (filter is_some_name (take (length l.yielded) (pieces l.path)));
  ends : l.ends.items ≡ ends_from 0 (filter is_some_name (take (length l.yielded) (pieces l.path)));
}
