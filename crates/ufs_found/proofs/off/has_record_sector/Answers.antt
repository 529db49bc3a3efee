use Rattle.std.proofs.Common.{ap, ◌∙◌}
use Rattle.std.specs.Prelude.{◌+◌, ◌*◌}
use Rattle.ufs_found.proofs.OffLemmas.{record_in}
use Rattle.ufs_found.proofs.off.has_record_sector.Goals as goal

pub returns : goal.returns
returns c = c.has_record.ensures ∙ record_in (λ b. b.now) c.args.f.now c.args.index c.place-at.result (c.place-at.ensures.value ∙ ap (λ t. t * 65536 + c.args.index) c.txn.ensures) c.args.places.now c.between.result.now c.between.ensures
