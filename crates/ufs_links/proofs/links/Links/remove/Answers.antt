use Rattle.ufs_links.proofs.KeptLemmas.{given_without, kept_first, kept_second}
use Rattle.ufs_links.proofs.links.Links.remove.Goals as goal

pub invariant_of-self : goal.invariant_of-self
invariant_of-self c =
    let l = c.self.inside in
    kept_first l c.remove.new.self _ c.self.invariant c.remove.ensures (given_without l.used l.released.items l.first.lists c.args.node c.self.invariant.first)

pub invariant_of-self-in-Second : goal.invariant_of-self-in-Second
invariant_of-self-in-Second c =
    let l = c.self.inside in
    kept_second l c.remove-in-Second.new.self _ c.self.invariant c.remove-in-Second.ensures (given_without l.used l.released.items l.second.lists c.args.node c.self.invariant.second)
