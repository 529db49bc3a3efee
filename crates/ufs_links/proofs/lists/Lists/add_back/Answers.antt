use Rattle.ufs_links.proofs.StandLemmas.{back_placed, joins_back, stands_for, stands_again, view_again}
use Rattle.ufs_links.proofs.lists.Lists.add_back.Goals as goal

pub join-requires-clause-before : goal.join-requires-clause-before
join-requires-clause-before c =
    let p = c.self.inside.pointers in
    let v = c.args.self.now in
    back_placed p v.lists (stands_for p v c.self.view_is c.self.invariant) c.args.list c.before-back.result c.requires.list c.before-back.ensures

pub invariant_of-self : goal.invariant_of-self
invariant_of-self c =
    let p = c.self.inside.pointers in
    let v = c.args.self.now in
    stands_again c.join.new.self _
    (joins_back p v.lists (stands_for p v c.self.view_is c.self.invariant) c.join.new.self c.args.list c.args.node c.before-back.result c.requires.list c.requires.off c.before-back.ensures c.join.ensures)

pub returns : goal.returns
returns c =
    let p = c.self.inside.pointers in
    let v = c.args.self.now in
    view_again p c.join.new.self v _ c.self.view_is c.join.ensures.sizes
    (joins_back p v.lists (stands_for p v c.self.view_is c.self.invariant) c.join.new.self c.args.list c.args.node c.before-back.result c.requires.list c.requires.off c.before-back.ensures c.join.ensures)
