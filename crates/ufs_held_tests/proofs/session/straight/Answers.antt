use Rattle.std.proofs.Common.{◌∙◌}
use Rattle.ufs_held_tests.proofs.session.straight.Goals as goal

pub returns-clause-held : goal.returns-clause-held
returns-clause-held g c = c.commit_twice-first.ensures.held ∙ c.sync_none-entry.ensures.held

pub returns-clause-clients : goal.returns-clause-clients
returns-clause-clients g c = c.commit_twice-first.ensures.clients ∙ c.checkpoint_if-made.ensures.clients

pub returns-clause-pools : goal.returns-clause-pools
returns-clause-pools g c = c.commit_twice-first.ensures.pools ∙ c.checkpoint_if-made.ensures.pools
