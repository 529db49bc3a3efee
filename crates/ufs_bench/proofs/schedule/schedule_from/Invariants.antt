use Rattle.std.proofs.Common.{◌≡◌, map}
use Rattle.ufs_bench.specs.Generator.{after_words, next_words}
use Rattle.ufs_bench.specs.Schedule.{schedule_word}
use Rattle.ufs_bench.proofs.schedule.schedule_from.Given as goal

abbrev pub invariant-loop-made : goal.invariant-loop-made
invariant-loop-made l = record {
  rng : l.rng ≡ after_words l._made l.initial.rng;
  list : l.words.items ≡ map schedule_word (next_words l._made l.initial.rng);
}
