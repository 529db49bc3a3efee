use Rattle.ufs_bitmap.proofs.TakingLemmas.{apart_none}
use Rattle.ufs_file.proofs.hand.FileHand.make.Goals as goal

pub returns-clause-apart : goal.returns-clause-apart
returns-clause-apart c pool = apart_none pool c.in_ok-make.field-0 c.in_ok-make.ensures
