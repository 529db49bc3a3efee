use Rattle.std.proofs.Common.{subst}
use Rattle.ufs_msg.specs.Requests.{Asked}
use Rattle.ufs_at_primary.specs.Kinds.{IsKind}
use Rattle.ufs_at_primary.proofs.kinds.kind_asked.Goals as goal

pub returns-clause-kind : goal.returns-clause-kind
returns-clause-kind g c = subst (λ (q : Asked). IsKind q.ask c.kind_of-kind.result) c.into_parts-hand.ensures.same c.kind_of-kind.ensures
