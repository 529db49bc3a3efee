use Rattle.std.proofs.Common.{rules, ap, ◌∙◌, refl, ◌≤◌}
use Rattle.std.specs.FinMap as fin
use Rattle.ufs_owner.specs.declared.records.Record.{Record}
use Rattle.slab.specs.Slab.{slab_len}
use Rattle.ufs_owner.proofs.PlaceLemmas.{files_of-insert, ArePlaced-insert}
use Rattle.ufs_owner.proofs.records.Records.insert.Goals as goal

pub invariant_of-self : goal.invariant_of-self
invariant_of-self c =
    let r : Record = record { file = c.args.file; standing = c.args.standing } in
    let fits : slab_len c.insert_reserved-place.new.self ≤ c.insert_reserved-place.new.self.capacity = search rules in
    ArePlaced-insert c.self.inside.places c.insert.new.self c.self.inside.records c.insert_reserved-place.new.self c.args.file c.insert_reserved-place.result r
    c.insert_reserved-place.ensures.updates c.self.invariant c.insert_reserved-place.ensures.was_vacant refl c.in-Ok.ensures.updates.0 fits

pub returns-clause-files : goal.returns-clause-files
returns-clause-files c =
    let r : Record = record { file = c.args.file; standing = c.args.standing } in
    files_of-insert c.self.inside.places c.insert.new.self c.self.inside.records c.insert_reserved-place.new.self c.args.file c.insert_reserved-place.result r
    c.insert_reserved-place.ensures.updates c.self.invariant c.insert_reserved-place.ensures.was_vacant c.in-Ok.ensures.updates.0
    ∙ ap (λ k. fin.insert k.files c.args.file c.args.standing) c.self.view_is
