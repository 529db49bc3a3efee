use Rattle.std.proofs.Common.{◌*◌}
use Rattle.ufs_bench.specs.Generator.{after_words, generator_of}
use Rattle.ufs_bench.specs.Workload.{client_count, words_each}
use Rattle.ufs_bench.proofs.ScheduleLemmas.{schedule_from_length}
use Rattle.ufs_bench.proofs.laws.a_schedule_has_two_hundred_thousand_words.Goals as goal

pub returns : goal.returns
returns c = λ seed. schedule_from_length (after_words (client_count * words_each) (generator_of seed))
