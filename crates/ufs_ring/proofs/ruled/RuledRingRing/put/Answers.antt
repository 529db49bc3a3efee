use Rattle.crossbeam_queue.specs.Passes.{view, ruled_capacity}
use Rattle.ufs_ring.proofs.RuleLemmas.{puts, sees}
use Rattle.ufs_ring.proofs.ruled.RuledRingRing.put.Goals as goal

pub push_as-requires-clause-rule : goal.push_as-requires-clause-rule
push_as-requires-clause-rule g c =
    let s = c.self.inside in
    (puts (ruled_capacity s.queue.now) s.pass.id (view s.pass) c.args.item, sees s.pass.id (view s.pass))
