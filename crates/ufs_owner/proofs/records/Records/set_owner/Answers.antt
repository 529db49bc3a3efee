use Rattle.std.proofs.Common.{rules, ap, sym, ◌∙◌, refl, ◌≤◌}
use Rattle.std.specs.FinMap as fin
use Rattle.slab.specs.Slab.{slab_len}
use Rattle.ufs_owner.specs.Changed.{owned}
use Rattle.ufs_owner.specs.declared.owner.Standing.{Standing}
use Rattle.ufs_owner.specs.declared.records.Record.{Record}
use Rattle.ufs_owner.specs.Owners.{standing_at}
use Rattle.ufs_owner.proofs.ChangeLemmas.{has_place, some_record, ArePlaced-changed, files_of-changed}
use Rattle.ufs_owner.proofs.records.Records.set_owner.Goals as goal

pub unreachable-requires : goal.unreachable-requires
unreachable-requires c = has_place c.self.inside.places c.self.inside.records _ c.args.file (ap (λ k. k.files) c.self.view_is) c.requires (sym c.in_default.ensures)

pub set_owner_at-requires : goal.set_owner_at-requires
set_owner_at-requires c = some_record c.self.inside.places c.self.inside.records c.self.invariant c.args.file c.in-Some.place (sym c.in-Some.ensures)

pub invariant_of-self : goal.invariant_of-self
invariant_of-self c =
    let fits : slab_len c.set_owner_at.new.records ≤ c.set_owner_at.new.records.capacity = search rules in
    ArePlaced-changed c.self.inside.places c.self.inside.records c.self.invariant c.args.file c.in-Some.place (sym c.in-Some.ensures) c.set_owner_at.new.records fits
    (λ (r : Record). owned r c.args.owner c.args.note) (λ r. refl) c.set_owner_at.ensures.updates

pub returns-clause-files : goal.returns-clause-files
returns-clause-files c =
    let fits : slab_len c.set_owner_at.new.records ≤ c.set_owner_at.new.records.capacity = search rules in
    files_of-changed c.self.inside.places c.self.inside.records c.self.invariant c.args.file c.in-Some.place (sym c.in-Some.ensures) c.set_owner_at.new.records fits
    (λ (r : Record). owned r c.args.owner c.args.note) (λ r. refl) (λ (s : Standing). record s { owner = c.args.owner; note = c.args.note }) (λ r. refl) c.set_owner_at.ensures.updates
    ∙ ap (λ k. fin.insert k.files c.args.file ((λ (s : Standing). record s { owner = c.args.owner; note = c.args.note }) (standing_at k.files c.args.file))) c.self.view_is
