use Rattle.std.proofs.Common.{ap, sym, ◌∙◌}
use Rattle.ufs_model.specs.FileCalls.{is_on_file}
use Rattle.ufs_crash_laws.specs.Changes.{asks_commit}
use Rattle.ufs_at_primary.proofs.Beside.{beside_none}
use Rattle.ufs_at_primary.proofs.kinds.kind_beside.Goals as goal

pub returns-in-Sync : goal.returns-in-Sync
returns-in-Sync c = λ ask same. same ∙ c.in-Sync.is

pub returns-in_default : goal.returns-in_default
returns-in_default c = λ ask same. record {
  kind = λ yes. (let both = sym yes ∙ ap is_on_file same ∙ c.requires in absurd cc);
  no_commit = ap asks_commit same ∙ beside_none c.args.op.now c.requires c.in_default.not-Sync;
}
