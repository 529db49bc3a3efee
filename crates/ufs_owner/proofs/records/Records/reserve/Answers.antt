use Rattle.std.proofs.Common.{ap, ◌∙◌}
use Rattle.ufs_owner.proofs.PlaceLemmas.{files_of-reordered}
use Rattle.ufs_owner.proofs.records.Records.reserve.Goals as goal

pub returns-in_err-reserve-2-clause-files : goal.returns-in_err-reserve-2-clause-files
returns-in_err-reserve-2-clause-files c =
    files_of-reordered c.self.inside.places c.reserve.new.self c.self.inside.records c.reserve-2.new.self c.in_ok-reserve.ensures.entries.2 (ap (λ r. r.slots) c.in_err-reserve-2.ensures.rest_kept)
    ∙ ap (λ k. k.files) c.self.view_is

pub returns-clause-files : goal.returns-clause-files
returns-clause-files c =
    files_of-reordered c.self.inside.places c.reserve.new.self c.self.inside.records c.reserve-2.new.self c.in_ok-reserve.ensures.entries.2 (ap (λ r. r.slots) c.in_ok-reserve-2.ensures.rest_kept)
    ∙ ap (λ k. k.files) c.self.view_is
