use Rattle.std.proofs.Common.{◌≡◌, drop, map, string_bytes}
use Rattle.ufs_words.specs.Values.{option_value}
use Rattle.ufs_words.proofs.values.option_value.Given as goal

abbrev pub invariant-loop-i : goal.invariant-loop-i
invariant-loop-i l = option_value l.name (map string_bytes l.words) ≡ option_value l.name (map string_bytes (drop l.i l.words))
