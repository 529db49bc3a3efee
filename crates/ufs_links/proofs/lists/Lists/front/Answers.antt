use Rattle.std.proofs.Common.{◌∙◌}
use Rattle.ufs_links.proofs.StandLemmas.{stands_for, front_answer}
use Rattle.ufs_links.proofs.lists.Lists.front.Goals as goal

pub returns-clause-front : goal.returns-clause-front
returns-clause-front c =
    let p = c.self.inside.pointers in
    let v = c.args.self.now in
    c.after.ensures ∙ front_answer p v.lists (stands_for p v c.self.view_is c.self.invariant) c.args.list c.requires

pub returns-clause-apart : goal.returns-clause-apart
returns-clause-apart c =
    let p = c.self.inside.pointers in
    let v = c.args.self.now in
    (stands_for p v c.self.view_is c.self.invariant).apart c.args.list
