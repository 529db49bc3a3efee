use Rattle.ufs_load.proofs.LoadLemmas.{zeros}
use Rattle.ufs_load.proofs.totals.no_totals.Goals as goal

pub returns : goal.returns
returns c w = zeros 256 w
