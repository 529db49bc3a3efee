use Rattle.std.specs.Prelude.{◌&&◌}
use Rattle.std.proofs.Math.Logic.{∥∥₁_map}
use Rattle.ufs_mirror.proofs.Following.{follows_on}
use Rattle.ufs_process.proofs.CountLemmas.{read_counted}
use Rattle.ufs_process.proofs.counted.CountedDisk.read.Goals as goal

pub invariant_of-self : goal.invariant_of-self
invariant_of-self g c = record {
  counts = read_counted g.N.Origin.first g.N.Origin.second _ _ _ _ _ _ _ _ _ _ c.args.self.now.counts c.read.ensures.counts c.read.result c.read.ensures.cause c.read.ensures.failed c.read.ensures.live.0 c.read.ensures.live.1;
  follows = ∥∥₁_map c.args.self.now.follows (λ run va vb. follows_on (g.A.Disk.keeps && g.B.Disk.keeps) g.N.Origin.pairs _ _ (run va vb) (c.read.ensures.noted va vb));
}
