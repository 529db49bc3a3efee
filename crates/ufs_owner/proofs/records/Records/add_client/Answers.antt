use Rattle.std.proofs.Common.{rules, ℕ, ap, sym, ◌∙◌, refl, ◌≤◌, ◌++◌, ◌∷◌, []}
use Rattle.std.specs.FinMap as fin
use Rattle.std.proofs.lemmas.Result.{on_ok_weaker}
use Rattle.slab.specs.Slab.{slab_len}
use Rattle.ufs_owner.specs.Changed.{awaited}
use Rattle.ufs_owner.specs.declared.owner.Standing.{Standing}
use Rattle.ufs_owner.specs.declared.records.Record.{Record}
use Rattle.ufs_owner.specs.Owners.{standing_at}
use Rattle.ufs_owner.proofs.ChangeLemmas.{has_place, some_record, ArePlaced-either, files_of-changed}
use Rattle.ufs_owner.proofs.records.Records.add_client.Goals as goal

pub unreachable-requires : goal.unreachable-requires
unreachable-requires c = has_place c.self.inside.places c.self.inside.records _ c.args.file (ap (λ k. k.files) c.self.view_is) c.requires (sym c.in_default.ensures)

pub add_client_at-requires : goal.add_client_at-requires
add_client_at-requires c = some_record c.self.inside.places c.self.inside.records c.self.invariant c.args.file c.in-Some.place (sym c.in-Some.ensures)

abbrev more : ℕ → Record → Record
more client r = awaited r (r.standing.waiting ++ client ∷ [])

abbrev longer : ℕ → Standing → Standing
longer client s = record s { waiting = s.waiting ++ client ∷ [] }

pub invariant_of-self : goal.invariant_of-self
invariant_of-self c =
    let fits : slab_len c.add_client_at.new.records ≤ c.add_client_at.new.records.capacity = search rules in
    ArePlaced-either c.self.inside.places c.self.inside.records c.self.invariant c.args.file c.in-Some.place (sym c.in-Some.ensures) c.add_client_at.new.records fits
    (more c.args.client) (λ r. refl) c.add_client_at.result c.add_client_at.ensures.updates c.add_client_at.ensures.err

pub returns-clause-ok : goal.returns-clause-ok
returns-clause-ok c =
    let fits : slab_len c.add_client_at.new.records ≤ c.add_client_at.new.records.capacity = search rules in
    on_ok_weaker c.add_client_at.result (λ u. files_of-changed c.self.inside.places c.self.inside.records c.self.invariant c.args.file c.in-Some.place (sym c.in-Some.ensures) c.add_client_at.new.records fits
    (more c.args.client) (λ r. refl) (longer c.args.client) (λ r. refl) u
    ∙ ap (λ k. fin.insert k.files c.args.file (longer c.args.client (standing_at k.files c.args.file))) c.self.view_is) c.add_client_at.ensures.updates
