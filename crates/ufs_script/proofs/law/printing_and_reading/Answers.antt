use Rattle.ufs_script.proofs.PrintedLemmas.{script_back}
use Rattle.ufs_script.proofs.law.printing_and_reading.Goals as goal

pub returns : goal.returns
returns c = script_back
