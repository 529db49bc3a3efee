use Rattle.ufs_bytes_laws.proofs.StepLemmas.{refusals, steps, asks}
use Rattle.ufs_bytes_laws.proofs.ExcuseLemmas.{excuses}
use Rattle.ufs_bytes_laws.proofs.ReplyLemmas.{replies}
use Rattle.ufs_bytes_laws.proofs.PartLemmas.{touched}
use Rattle.ufs_bytes_laws.proofs.a_request_looks_at_no_bytes.Goals as goal

pub returns-clause-refusals : goal.returns-clause-refusals
returns-clause-refusals c = refusals

pub returns-clause-steps : goal.returns-clause-steps
returns-clause-steps c = steps

pub returns-clause-asks : goal.returns-clause-asks
returns-clause-asks c = asks

pub returns-clause-excuses : goal.returns-clause-excuses
returns-clause-excuses c = excuses

pub returns-clause-replies : goal.returns-clause-replies
returns-clause-replies c = replies

pub returns-clause-touched : goal.returns-clause-touched
returns-clause-touched c = touched
