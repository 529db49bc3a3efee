use Rattle.std.proofs.Common.{ap, sym, ◌∙◌, ◌≤◌}
use Rattle.std.specs.FinMap as fin
use Rattle.slab.specs.Slab.{slab_len}
use Rattle.ufs_owner.proofs.PlaceLemmas.{files_of-remove, ArePlaced-remove}
use Rattle.ufs_owner.proofs.ChangeLemmas.{has_place, fits_after}
use Rattle.ufs_owner.proofs.records.Records.remove.Goals as goal

pub unreachable-requires : goal.unreachable-requires
unreachable-requires c = has_place c.self.inside.places c.self.inside.records _ c.args.file (ap (λ k. k.files) c.self.view_is) c.requires (sym c.in_default.ensures.value)

pub invariant_of-self : goal.invariant_of-self
invariant_of-self c =
    let here = sym c.in-Some.ensures.value in
    let fits : slab_len c.try_remove-record.new.self ≤ c.try_remove-record.new.self.capacity = fits_after c.self.inside.records c.try_remove-record.new.self c.try_remove-record.result c.try_remove-record.ensures.len c.try_remove-record.ensures.absent c.try_remove-record.ensures.capacity c.self.invariant.within in
    ArePlaced-remove c.self.inside.places c.remove.new.self c.self.inside.records c.try_remove-record.new.self c.args.file c.in-Some.place c.try_remove-record.ensures.updates c.self.invariant here c.in-Some.ensures.updates.0 fits

pub returns-clause-files : goal.returns-clause-files
returns-clause-files c =
    files_of-remove c.self.inside.places c.remove.new.self c.self.inside.records c.try_remove-record.new.self c.args.file c.in-Some.place c.try_remove-record.ensures.updates c.self.invariant (sym c.in-Some.ensures.value) c.in-Some.ensures.updates.0
    ∙ ap (λ k. fin.remove k.files c.args.file) c.self.view_is
