use Rattle.std.proofs.Common.{ap, ◌∙◌}
use Rattle.std.specs.Prelude.{◌+◌, ◌*◌}
use Rattle.ufs_found.proofs.OffLemmas.{behind_in}
use Rattle.ufs_found.proofs.off.is_behind.Goals as goal

pub returns : goal.returns
returns c = c.has_commit_before.ensures ∙ behind_in (λ b. b.now) c.args.f.now c.place.result c.place-2.result (c.place.ensures.value ∙ ap (λ t. t * 65536 + 0) c.txn.ensures) c.place-2.ensures.value c.args.commits.now c.between.result.now c.between.ensures
