use Rattle.std.proofs.Common.{◌≡◌, ◌++◌, ◌-◌, ◌*◌, length}
use Rattle.ufs_bench.specs.Generator.{after_words, next_words}
use Rattle.ufs_bench.specs.Workload.{client_count, clients_from, words_each, workload}
use Rattle.ufs_bench.proofs.clients.clients_of.Given as goal

abbrev pub invariant-loop-client : goal.invariant-loop-client
invariant-loop-client l = record {
  whole : workload (next_words (client_count * words_each) l.initial.rng) ≡ l.clients ++ clients_from (8 - l.client) l.client (next_words ((8 - l.client) * words_each) l.rng);
  rng : l.rng ≡ after_words (l.client * words_each) l.initial.rng;
  count : length l.clients ≡ l.client;
}
