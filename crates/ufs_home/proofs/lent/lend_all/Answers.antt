use Rattle.std.proofs.Common.{ap, eqb, ◌∙◌}
use Rattle.std.specs.List.{list_any}
use Rattle.ufs_home.proofs.Lending.{all_lent, among_all, counted_has}
use Rattle.ufs_home.proofs.lent.lend_all.Goals as goal

pub lend_each-requires-clause-all : goal.lend_each-requires-clause-all
lend_each-requires-clause-all g c = λ f some. ap (list_any (eqb f)) c.in_ok-numbers.ensures ∙ among_all c.args.shelf.now f some

pub put_back_all-requires : goal.put_back_all-requires
put_back_all-requires g c = let lent = c.lend_each.ensures.lent in lent.away

pub returns-in-Ok-clause-all : goal.returns-in-Ok-clause-all
returns-in-Ok-clause-all g c = λ f some. all_lent c.args.shelf.now c.lend_each.new.shelf c.lend_each.new.files.items c.lend_each.ensures.lent c.in-Ok.ensures.none f some

pub returns-in-Ok-clause-low : goal.returns-in-Ok-clause-low
returns-in-Ok-clause-low g c = λ x has.
    let lent = c.lend_each.ensures.lent in
    let away = lent.away in
    away.low x.value.file.file (counted_has c.lend_each.new.files.items x has)

pub returns-in-Err-clause-kept : goal.returns-in-Err-clause-kept
returns-in-Err-clause-kept g c = let lent = c.lend_each.ensures.lent in c.put_back_all.ensures ∙ lent.back
