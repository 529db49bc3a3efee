use Rattle.ufs_fds.proofs.HoldLemmas.{NoneBelow}
use Rattle.ufs_fds.proofs.table.FdTable.has_other.Given as goal

abbrev pub invariant-loop-other : goal.invariant-loop-other
invariant-loop-other l = NoneBelow l.self l.fd l.file l.other
