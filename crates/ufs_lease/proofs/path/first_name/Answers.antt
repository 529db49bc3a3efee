use Rattle.std.proofs.Common.{sym, ◌∙◌, ◌<◌, length, take, drop, ◌-◌, refl, rules}
use Rattle.std.proofs.lemmas.Bool.{eqb-true}
use Rattle.ufs_lease.proofs.NameLemmas.{no_name, a_name}
use Rattle.ufs_lease.proofs.path.first_name.Goals as goal

pub returns-then-is_empty-clause-none : goal.returns-then-is_empty-clause-none
returns-then-is_empty-clause-none c = no_name c.args.text.now c.slashes.result c.slashes.ensures.count (eqb-true _ _ (sym c.is_empty.ensures ∙ c.if-is_empty.true))

pub returns-clause-some : goal.returns-clause-some
returns-clause-some c =
    let some : 0 < length (take (length c.args.text.now - c.slashes.result) (drop c.slashes.result c.args.text.now)) = search rules in
    a_name c.args.text.now _ c.slashes.result c.name_len-end.result c.slashes.ensures.count refl c.name_len-end.ensures.count some
