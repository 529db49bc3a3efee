use Rattle.std.proofs.Common.{◌&&◌, subst, sym}
use Rattle.std.proofs.lemmas.Grind.{merely}
use Rattle.ufs_mirror.specs.Pairs.{Follows, watched}
use Rattle.ufs_mirror.proofs.Following.{follows_none}
use Rattle.ufs_process.proofs.counted.Counted.new.Goals as goal

pub invariant_of-result : goal.invariant_of-result
invariant_of-result g c = record {
  counts = c.requires.counted;
  follows = merely (λ va vb.
      let pairs = watched (λ l. g.A.Disk.moments l.first) (λ l. g.B.Disk.moments l.second) c.args.mirror.legs.log.items c.args.mirror.legs.both c.args.mirror.legs.picks in
      subst (λ p. Follows (g.A.Disk.keeps && g.B.Disk.keeps) p pairs) (sym c.requires.begins) (follows_none (g.A.Disk.keeps && g.B.Disk.keeps) pairs));
}
