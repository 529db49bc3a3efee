use Rattle.std.proofs.Common.{◌∙◌}
use Rattle.ufs_rounds.proofs.dealing.deal_client.Goals as goal

pub returns-clause-left : goal.returns-clause-left
returns-clause-left g c = c.client_hand-own.ensures.kept ∙ c.dealt_law.ensures.rest c.args.hand.now c.args.number

pub returns-clause-client : goal.returns-clause-client
returns-clause-client g c = (c.client_hand-own.result.seen, c.new.ensures)
