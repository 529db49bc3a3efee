use Rattle.std.proofs.Common.{ap, sym, ◌∙◌}
use Rattle.std.specs.FinMap as fin
use Rattle.ufs_owner.proofs.PlaceLemmas.{has_record, found, not_found}
use Rattle.ufs_owner.proofs.records.Records.get.Goals as goal

pub returns-in_default : goal.returns-in_default
returns-in_default c = sym (sym (ap (λ k. fin.get k.files c.args.file) c.self.view_is) ∙ not_found c.self.inside.places c.self.inside.records c.args.file (sym c.in_default.ensures))

pub unreachable-requires : goal.unreachable-requires
unreachable-requires c = has_record c.self.inside.places c.self.inside.records c.self.invariant c.args.file c.in-Some.place (sym c.in-Some.ensures) (sym c.in-None.ensures)

pub returns : goal.returns
returns c = sym (sym (ap (λ k. fin.get k.files c.args.file) c.self.view_is) ∙ found c.self.inside.places c.self.inside.records c.args.file c.in-Some.place _ (sym c.in-Some.ensures) (sym c.in-Some-get.ensures))
