use Rattle.std.proofs.Common.{◌≡◌}
use Rattle.ufs_bench.specs.Generator.{after_words}
use Rattle.ufs_bench.proofs.WorkloadLemmas.{made}
use Rattle.ufs_bench.proofs.clients.requests_of.Given as goal

abbrev pub invariant-loop-made : goal.invariant-loop-made
invariant-loop-made l = record {
  rng : l.rng ≡ after_words l._made l.initial.rng;
  list : l.requests ≡ made l.fn.client l._made l.initial.rng;
}
