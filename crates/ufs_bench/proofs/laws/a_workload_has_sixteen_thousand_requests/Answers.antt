use Rattle.ufs_bench.specs.Generator.{words_of}
use Rattle.ufs_bench.specs.Workload.{client_count}
use Rattle.ufs_bench.specs.Generator.{generator_of}
use Rattle.ufs_bench.proofs.CountLemmas.{clients_length}
use Rattle.ufs_bench.proofs.GeneratorLemmas.{length_words}
use Rattle.ufs_bench.proofs.laws.a_workload_has_sixteen_thousand_requests.Goals as goal

pub returns : goal.returns
returns c = λ seed. clients_length client_count 0 (words_of seed 15960) (length_words 15960 (generator_of seed))
