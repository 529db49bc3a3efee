use Rattle.ufs_links.proofs.StandLemmas.{stands_for, list_tells}
use Rattle.ufs_links.proofs.lists.Lists.list_of.Goals as goal

pub returns-clause-on : goal.returns-clause-on
returns-clause-on c =
    let p = c.self.inside.pointers in
    let v = c.args.self.now in
    (list_tells p v.lists (stands_for p v c.self.view_is c.self.invariant) c.args.node c.list_of.result c.list_of.ensures).0

pub returns-clause-off : goal.returns-clause-off
returns-clause-off c =
    let p = c.self.inside.pointers in
    let v = c.args.self.now in
    (list_tells p v.lists (stands_for p v c.self.view_is c.self.invariant) c.args.node c.list_of.result c.list_of.ensures).1
