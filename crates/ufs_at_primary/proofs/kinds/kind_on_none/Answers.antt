use Rattle.std.proofs.Common.{ap, ◌∙◌}
use Rattle.ufs_crash_laws.specs.Changes.{asks_commit}
use Rattle.ufs_serving.proofs.Asked.{none_committed}
use Rattle.ufs_at_primary.proofs.kinds.kind_on_none.Goals as goal

pub returns-in-Fsync : goal.returns-in-Fsync
returns-in-Fsync c = λ ask same none. record { fsync = (_, same ∙ c.in-Fsync.is); none = none }

pub returns-in_default : goal.returns-in_default
returns-in_default c = λ ask same none. record { kind = λ _. none; no_commit = ap asks_commit same ∙ none_committed c.args.op.now c.requires c.in_default.not-Fsync }
