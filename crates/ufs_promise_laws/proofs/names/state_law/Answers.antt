use Rattle.ufs_promise_laws.proofs.Sounded.{has_state, has_names}
use Rattle.ufs_promise_laws.proofs.FreshZeros.{zeros_state}
use Rattle.ufs_promise_laws.proofs.Sized.{spelled_slots}
use Rattle.ufs_promise_laws.proofs.FileForms.{file_state}
use Rattle.ufs_promise_laws.proofs.names.state_law.Goals as goal

pub returns-clause-sound : goal.returns-clause-sound
returns-clause-sound c cat t zeroed sound of sized zeros = (has_state c.args.geometry.now cat t zeroed sound of sized zeros, has_names c.args.geometry.now cat t zeroed sound of sized zeros)

pub returns-clause-zeros : goal.returns-clause-zeros
returns-clause-zeros c s d block has lies unheld = zeros_state c.args.geometry.now s d block has lies unheld

pub returns-clause-slots : goal.returns-clause-slots
returns-clause-slots c whole these image cat spells covers dir is block place has = spelled_slots c.args.geometry.now whole these image cat spells covers dir is block place has

pub returns-clause-file : goal.returns-clause-file
returns-clause-file c cat s inode form has may off = file_state c.args.geometry.now cat s inode form has may off
