use Rattle.ufs_mirror.specs.Pairs.{watched}
use Rattle.ufs_process.proofs.top.make.Given as goal

abbrev pub ghosts-serve : goal.ghosts-serve
ghosts-serve g a = record {
  first = g.N.Counts.first;
  second = g.N.Counts.second;
  pairs = watched (λ l. g.A.Disk.moments l.first) (λ l. g.B.Disk.moments l.second) a.mirror.legs.log.items a.mirror.legs.both a.mirror.legs.picks;
}
