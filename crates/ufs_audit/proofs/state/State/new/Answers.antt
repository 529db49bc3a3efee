use Rattle.std.proofs.Common.{sym}
use Rattle.ufs_audit.proofs.StepLemmas.{begun}
use Rattle.ufs_audit.proofs.state.State.new.Goals as goal

pub returns : goal.returns
returns c = begun c.args.tree c.args.clients.now c.in_ok-counts.counts.items c.new.result.keys c.in_ok-counts.ensures c.new.ensures.empty
