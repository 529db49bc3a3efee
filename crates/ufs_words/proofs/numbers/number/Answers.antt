use Rattle.std.proofs.Common.{arith}
use Rattle.ufs_words.proofs.NumberLemmas.{ten_pow_le}
use Rattle.ufs_words.proofs.numbers.number.Goals as goal

pub overflow_mul-value : goal.overflow_mul-value
overflow_mul-value c = omega (arith, ten_pow_le c.loop-b.b-index (omega arith))

pub overflow_add-value : goal.overflow_add-value
overflow_add-value c = omega (arith, ten_pow_le c.loop-b.b-index (omega arith))
