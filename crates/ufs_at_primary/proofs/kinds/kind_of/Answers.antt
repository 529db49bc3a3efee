use Rattle.std.proofs.Common.{refl, sym, ◌∙◌}
use Rattle.ufs_at_primary.proofs.kinds.kind_of.Goals as goal

pub kind_beside-requires : goal.kind_beside-requires
kind_beside-requires c = sym c.is_on_file.ensures ∙ c.if-not-is_on_file.true

pub returns-then-not-is_on_file : goal.returns-then-not-is_on_file
returns-then-not-is_on_file c = c.kind_beside.ensures c.args.ask.now refl

pub returns-in-Some : goal.returns-in-Some
returns-in-Some c = (record { kind = sym c.is_on_file.ensures ∙ c.if-not-is_on_file.false; of = sym c.in-Some.ensures }, sym c.is_by_hint.ensures)

pub kind_on_none-requires : goal.kind_on_none-requires
kind_on_none-requires c = sym c.is_on_file.ensures ∙ c.if-not-is_on_file.false

pub returns-in-None : goal.returns-in-None
returns-in-None c = c.kind_on_none.ensures c.args.ask.now refl (sym c.in-None.ensures)
