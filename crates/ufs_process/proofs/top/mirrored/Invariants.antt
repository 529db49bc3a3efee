use Rattle.ufs_process.proofs.top.mirrored.Given as goal

abbrev pub ghosts-make : goal.ghosts-make
ghosts-make g a = record { first = g.A.Disk.faults a.first; second = g.B.Disk.faults a.second }

abbrev pub ghosts-open : goal.ghosts-open
ghosts-open g a = record { first = g.A.Disk.faults a.first; second = g.B.Disk.faults a.second }
