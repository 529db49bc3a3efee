use Rattle.ufs_ledger.proofs.Forms.{forms_may_commit, ledgers_are_sound}
use Rattle.ufs_ledger.proofs.laws.form_law.Goals as goal

pub returns-clause-sound : goal.returns-clause-sound
returns-clause-sound c = ledgers_are_sound

pub returns-clause-may : goal.returns-clause-may
returns-clause-may c = forms_may_commit
