use Rattle.std.proofs.Common.{◌+◌, ◌*◌, false, ◌∙◌, arith}
use Rattle.std.specs.Prelude.{slice_index_or}
use Rattle.std.specs.Option.{option_map}
use Rattle.ufs_damage.specs.Meaning.{meaning}
use Rattle.ufs_damage.specs.Taken.{bit_damage, bit_of}
use Rattle.ufs_damage.proofs.Lists.{told_range}
use Rattle.ufs_damage.proofs.bitmap.push_bits.Goals as goal

pub loop-k-preserved : goal.loop-k-preserved
loop-k-preserved c =
    told_range (λ k. bit_damage (bit_of c.args.bytes.now k) (slice_index_or c.args.taken.now (4096 * c.args.sector + k) false) (4096 * c.args.sector + k)) 0 c.loop-k.k c.loop-k.k c.args.list.now c.loop-k.list c.push_some.new.self (option_map meaning c.bit_damage.result) (omega arith) c.loop-k.invariant
    (c.bit_damage.ensures ∙ (λ t. bit_damage (c.bit_of.ensures t) (c.is_taken.ensures t) (4096 * c.args.sector + c.loop-k.k))) c.in_ok-push_some.ensures
