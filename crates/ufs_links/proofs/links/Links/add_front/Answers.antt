use Rattle.std.proofs.Common.{◌∙◌, ap, arith}
use Rattle.std.specs.FinSet as set
use Rattle.ufs_links.specs.Linked.{Linked}
use Rattle.ufs_links.proofs.KeptLemmas.{given_tells, given_front, kept_first, kept_second}
use Rattle.ufs_links.proofs.links.Links.add_front.Goals as goal

pub add_front-requires-clause-node : goal.add_front-requires-clause-node
add_front-requires-clause-node c =
    let t = given_tells c.self.inside.used c.self.inside.released.items c.args.node (ap (λ (v : Linked). set.contains v.given c.args.node) c.self.view_is ∙ c.requires.given) in
    let up = c.self.invariant.used in
    let room = c.self.invariant.first_room in
    omega (arith, t.0)

pub invariant_of-self : goal.invariant_of-self
invariant_of-self c =
    let l = c.self.inside in
    kept_first l c.add_front.new.self _ c.self.invariant c.add_front.ensures
    (given_front l.used l.released.items l.first.lists c.args.list c.args.node c.self.invariant.first (ap (λ (v : Linked). set.contains v.given c.args.node) c.self.view_is ∙ c.requires.given))

pub add_front-requires-in-Second-clause-node : goal.add_front-requires-in-Second-clause-node
add_front-requires-in-Second-clause-node c =
    let t = given_tells c.self.inside.used c.self.inside.released.items c.args.node (ap (λ (v : Linked). set.contains v.given c.args.node) c.self.view_is ∙ c.requires.given) in
    let up = c.self.invariant.used in
    let room = c.self.invariant.second_room in
    omega (arith, t.0)

pub invariant_of-self-in-Second : goal.invariant_of-self-in-Second
invariant_of-self-in-Second c =
    let l = c.self.inside in
    kept_second l c.add_front-in-Second.new.self _ c.self.invariant c.add_front-in-Second.ensures
    (given_front l.used l.released.items l.second.lists c.args.list c.args.node c.self.invariant.second (ap (λ (v : Linked). set.contains v.given c.args.node) c.self.view_is ∙ c.requires.given))
