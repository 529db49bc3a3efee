use Rattle.ufs_hand_laws.proofs.Refused.{draws_need, splits_leave_none, sent_not_drawn, syncs_need, closes_need}
use Rattle.ufs_hand_laws.proofs.laws.a_step_needs_its_parts.Goals as goal

pub returns-clause-draws : goal.returns-clause-draws
returns-clause-draws g c = draws_need

pub returns-clause-splits : goal.returns-clause-splits
returns-clause-splits g c = splits_leave_none

pub returns-clause-sent : goal.returns-clause-sent
returns-clause-sent g c = sent_not_drawn

pub returns-clause-syncs : goal.returns-clause-syncs
returns-clause-syncs g c = syncs_need g.P.Promise.shows

pub returns-clause-closes : goal.returns-clause-closes
returns-clause-closes g c = closes_need
