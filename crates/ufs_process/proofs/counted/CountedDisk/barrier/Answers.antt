use Rattle.std.specs.Prelude.{◌&&◌}
use Rattle.std.proofs.Math.Logic.{∥∥₁_map}
use Rattle.ufs_mirror.proofs.Following.{follows_on}
use Rattle.ufs_process.proofs.CountLemmas.{write_counted}
use Rattle.ufs_process.proofs.counted.CountedDisk.barrier.Goals as goal

pub invariant_of-self : goal.invariant_of-self
invariant_of-self g c = record {
  counts = write_counted g.N.Origin.first g.N.Origin.second _ _ _ _ _ _ _ _ _ _ c.args.self.now.counts c.barrier.ensures.counts c.barrier.result c.barrier.ensures.cause c.barrier.ensures.failed c.barrier.ensures.live;
  follows = ∥∥₁_map c.args.self.now.follows (λ run va vb. follows_on (g.A.Disk.keeps && g.B.Disk.keeps) g.N.Origin.pairs _ _ (run va vb) (c.barrier.ensures.noted va vb));
}
