use Rattle.ufs_links.proofs.StandLemmas.{front_placed, joins_front, stands_for, stands_again, view_again}
use Rattle.ufs_links.proofs.lists.Lists.add_front.Goals as goal

pub join-requires-clause-after : goal.join-requires-clause-after
join-requires-clause-after c =
    let p = c.self.inside.pointers in
    let v = c.args.self.now in
    front_placed p v.lists (stands_for p v c.self.view_is c.self.invariant) c.args.list c.after-front.result c.requires.list c.after-front.ensures

pub invariant_of-self : goal.invariant_of-self
invariant_of-self c =
    let p = c.self.inside.pointers in
    let v = c.args.self.now in
    stands_again c.join.new.self _
    (joins_front p v.lists (stands_for p v c.self.view_is c.self.invariant) c.join.new.self c.args.list c.args.node c.after-front.result c.requires.list c.requires.off c.after-front.ensures c.join.ensures)

pub returns : goal.returns
returns c =
    let p = c.self.inside.pointers in
    let v = c.args.self.now in
    view_again p c.join.new.self v _ c.self.view_is c.join.ensures.sizes
    (joins_front p v.lists (stands_for p v c.self.view_is c.self.invariant) c.join.new.self c.args.list c.args.node c.after-front.result c.requires.list c.requires.off c.after-front.ensures c.join.ensures)
