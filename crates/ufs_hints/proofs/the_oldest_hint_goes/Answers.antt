use Rattle.ufs_hints.proofs.Ages.{new_one_is_known, oldest_goes, others_stay_all, uses_change_none}
use Rattle.ufs_hints.proofs.the_oldest_hint_goes.Goals as goal

pub returns-clause-known : goal.returns-clause-known
returns-clause-known c = new_one_is_known

pub returns-clause-oldest : goal.returns-clause-oldest
returns-clause-oldest c = oldest_goes

pub returns-clause-others : goal.returns-clause-others
returns-clause-others c = others_stay_all

pub returns-clause-uses : goal.returns-clause-uses
returns-clause-uses c = uses_change_none
