use Rattle.ufs_links.proofs.StandLemmas.{read_place, before_placed, after_placed, parts, stands_for, stands_again, view_again}
use Rattle.ufs_links.proofs.lists.Lists.remove.Goals as goal

pub part-requires-clause-before : goal.part-requires-clause-before
part-requires-clause-before c =
    let p = c.self.inside.pointers in
    let v = c.args.self.now in
    let s = stands_for p v c.self.view_is c.self.invariant in
    before_placed p v.lists s c.args.node c.in-Some.place (read_place p v.lists s c.args.node c.requires c.index.result.now c.in-Some.place c.index.ensures c.in-Some.is)

pub part-requires-clause-after : goal.part-requires-clause-after
part-requires-clause-after c =
    let p = c.self.inside.pointers in
    let v = c.args.self.now in
    let s = stands_for p v c.self.view_is c.self.invariant in
    after_placed p v.lists s c.args.node c.in-Some.place (read_place p v.lists s c.args.node c.requires c.index.result.now c.in-Some.place c.index.ensures c.in-Some.is)

pub invariant_of-self : goal.invariant_of-self
invariant_of-self c =
    let p = c.self.inside.pointers in
    let v = c.args.self.now in
    let s = stands_for p v c.self.view_is c.self.invariant in
    let there = read_place p v.lists s c.args.node c.requires c.index.result.now c.in-Some.place c.index.ensures c.in-Some.is in
    stands_again c.part.new.self _ (parts p v.lists s c.args.node c.in-Some.place there c.part.new.self c.part.ensures)

pub returns : goal.returns
returns c =
    let p = c.self.inside.pointers in
    let v = c.args.self.now in
    let s = stands_for p v c.self.view_is c.self.invariant in
    let there = read_place p v.lists s c.args.node c.requires c.index.result.now c.in-Some.place c.index.ensures c.in-Some.is in
    view_again p c.part.new.self v _ c.self.view_is c.part.ensures.sizes (parts p v.lists s c.args.node c.in-Some.place there c.part.new.self c.part.ensures)
