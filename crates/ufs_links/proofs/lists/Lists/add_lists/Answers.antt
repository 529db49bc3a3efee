use Rattle.std.proofs.Common.{is_ok}
use Rattle.ufs_links.proofs.StandLemmas.{more_lists, stands_for, stands_again, lists_are}
use Rattle.ufs_links.proofs.lists.Lists.add_lists.Goals as goal

pub invariant_of-self : goal.invariant_of-self
invariant_of-self c =
    let p = c.self.inside.pointers in
    let v = c.args.self.now in
    stands_again c.add_ends.new.self _
    (more_lists p c.add_ends.new.self v.lists c.args.count (is_ok c.add_ends.result) (stands_for p v c.self.view_is c.self.invariant) c.add_ends.ensures.places c.add_ends.ensures.ends c.add_ends.ensures.count)

pub returns-clause-lists : goal.returns-clause-lists
returns-clause-lists c =
    let p = c.self.inside.pointers in
    let v = c.args.self.now in
    lists_are c.add_ends.new.self _
    (more_lists p c.add_ends.new.self v.lists c.args.count (is_ok c.add_ends.result) (stands_for p v c.self.view_is c.self.invariant) c.add_ends.ensures.places c.add_ends.ensures.ends c.add_ends.ensures.count)
