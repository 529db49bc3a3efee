use Rattle.ufs_dealt.proofs.First.{clients_are_idle, clients_leave_rest, first_files_are_here, first_files_are_low, first_is_apart, live_files_are_there, others_stay_idle, pools_are_there, take_part}
use Rattle.ufs_dealt.proofs.laws.dealt_law.Goals as goal

pub returns-clause-counts : goal.returns-clause-counts
returns-clause-counts c = take_part

pub returns-clause-clients : goal.returns-clause-clients
returns-clause-clients c = clients_are_idle

pub returns-clause-rest : goal.returns-clause-rest
returns-clause-rest c = clients_leave_rest

pub returns-clause-others : goal.returns-clause-others
returns-clause-others c = others_stay_idle

pub returns-clause-pools : goal.returns-clause-pools
returns-clause-pools c = pools_are_there

pub returns-clause-apart : goal.returns-clause-apart
returns-clause-apart c = first_is_apart

pub returns-clause-files : goal.returns-clause-files
returns-clause-files c = first_files_are_here

pub returns-clause-low : goal.returns-clause-low
returns-clause-low c = first_files_are_low

pub returns-clause-there : goal.returns-clause-there
returns-clause-there c = live_files_are_there
