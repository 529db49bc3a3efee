use Rattle.std.proofs.Common.{◌*◌, ap, map, sym}
use Rattle.ufs_bench.specs.Generator.{generator_of}
use Rattle.ufs_bench.specs.Schedule.{schedule_length, schedule_word}
use Rattle.ufs_bench.specs.Workload.{client_count, words_each, workload}
use Rattle.ufs_bench.proofs.GeneratorLemmas.{front_words, later_words}
use Rattle.ufs_bench.proofs.laws.the_schedule_takes_the_words_behind_those_of_the_clients.Goals as goal

pub returns-clause-clients : goal.returns-clause-clients
returns-clause-clients c = λ seed. ap workload (sym (front_words (client_count * words_each) schedule_length (generator_of seed)))

pub returns-clause-schedule : goal.returns-clause-schedule
returns-clause-schedule c = λ seed. ap (map schedule_word) (sym (later_words (client_count * words_each) schedule_length (generator_of seed)))
