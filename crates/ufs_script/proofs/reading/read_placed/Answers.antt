use Rattle.ufs_script.proofs.KnownLemmas.{placed_known}
use Rattle.ufs_script.proofs.reading.read_placed.Goals as goal

pub returns-clause-known : goal.returns-clause-known
returns-clause-known g c = placed_known c.as_slice.result.now c.in_ok-placed.placed c.in_ok-placed.ensures.ok
