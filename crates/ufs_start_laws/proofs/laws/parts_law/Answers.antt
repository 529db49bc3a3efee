use Rattle.ufs_start_laws.proofs.Begun.{begins_sound, whole_have_none}
use Rattle.ufs_start_laws.proofs.laws.parts_law.Goals as goal

pub returns-clause-sound : goal.returns-clause-sound
returns-clause-sound c sectors disk v n files free orphaned is are = begins_sound sectors disk v n files free orphaned is are

pub returns-clause-whole : goal.returns-clause-whole
returns-clause-whole c = whole_have_none
