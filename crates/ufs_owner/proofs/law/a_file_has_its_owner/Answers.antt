use Rattle.ufs_owner.proofs.OwnerFacts.{has_owner, has_note, owner_keeps_waiting}
use Rattle.ufs_owner.proofs.law.a_file_has_its_owner.Goals as goal

pub returns-clause-owner : goal.returns-clause-owner
returns-clause-owner c = has_owner

pub returns-clause-note : goal.returns-clause-note
returns-clause-note c = has_note

pub returns-clause-waiting : goal.returns-clause-waiting
returns-clause-waiting c = owner_keeps_waiting
