use Rattle.ufs_links.proofs.StandLemmas.{read_place, next_answer, stands_for}
use Rattle.ufs_links.proofs.lists.Lists.next.Goals as goal

pub returns : goal.returns
returns c =
    let p = c.self.inside.pointers in
    let v = c.args.self.now in
    let s = stands_for p v c.self.view_is c.self.invariant in
    let there = read_place p v.lists s c.args.node c.requires c.index.result.now c.in-Some.place c.index.ensures c.in-Some.is in
    λ l h. next_answer p v.lists s c.args.node c.in-Some.place there l h
