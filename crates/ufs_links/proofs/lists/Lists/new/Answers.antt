use Rattle.ufs_links.specs.declared.pointers.Pointers.{Pointers}
use Rattle.ufs_links.proofs.StandLemmas.{none_stand, stands_again, lists_are}
use Rattle.ufs_links.proofs.lists.Lists.new.Goals as goal

pub invariant_of-result : goal.invariant_of-result
invariant_of-result c =
    let p : Pointers = record { places = c.new.result; ends = c.new-2.result } in
    stands_again p _ (none_stand p c.new.ensures.items c.new-2.ensures.items)

pub returns-clause-lists : goal.returns-clause-lists
returns-clause-lists c =
    let p : Pointers = record { places = c.new.result; ends = c.new-2.result } in
    lists_are p _ (none_stand p c.new.ensures.items c.new-2.ensures.items)
