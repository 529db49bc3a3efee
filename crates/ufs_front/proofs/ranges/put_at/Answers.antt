use Rattle.std.proofs.Common.{ℕ, ◌+◌, length, ap, arith}
use Rattle.ufs_front.specs.Padded.{padded_length}
use Rattle.ufs_front.proofs.ranges.put_at.Goals as goal

pub overwrite-requires : goal.overwrite-requires
overwrite-requires c =
    let value = ap (length {A = ℕ}) c.deref_mut.ensures.value in
    let items = ap (length {A = ℕ}) c.pad.ensures.items in
    omega (arith, value, items, padded_length (c.args.at + length c.args.bytes.now) c.args.held.now.items)
