use Rattle.ufs_bytes_laws.proofs.FileLemmas.{file_steps, file_refusals}
use Rattle.ufs_bytes_laws.proofs.a_file_call_looks_at_no_bytes.Goals as goal

pub returns-clause-steps : goal.returns-clause-steps
returns-clause-steps c = file_steps

pub returns-clause-refusals : goal.returns-clause-refusals
returns-clause-refusals c = file_refusals
