use Rattle.ufs_names.proofs.NotedLemmas.{beside}
use Rattle.ufs_names.proofs.laws.notes_are_beside.Goals as goal

pub returns : goal.returns
returns c = beside
