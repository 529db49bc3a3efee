use Rattle.ufs_promise_laws.proofs.Reading.{on_disk_reads}
use Rattle.ufs_promise_laws.proofs.laws.read_law.Goals as goal

pub returns : goal.returns
returns c = on_disk_reads
