use Rattle.std.proofs.Common.{ap, ◌∙◌}
use Rattle.ufs_crash_laws.specs.Changes.{asks_commit}
use Rattle.ufs_msg.specs.Requests.{Asked}
use Rattle.ufs_at_primary.proofs.room.measure_with.Goals as goal

pub new-requires : goal.new-requires
new-requires g c = c.into_parts-hand.ensures.asked

pub returns-clause-request : goal.returns-clause-request
returns-clause-request g c = c.new.ensures ∙ c.into_parts-hand.ensures.same

pub returns-clause-none : goal.returns-clause-none
returns-clause-none g c = λ commits. c.wanted_with-held.ensures.none (ap (λ (q : Asked). asks_commit q.ask.op) c.into_parts-hand.ensures.same ∙ commits)
