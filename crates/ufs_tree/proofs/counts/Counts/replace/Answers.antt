use Rattle.std.specs.BTreeMap.{is_at}
use Rattle.std.specs.Ordering.{eq_by_cmp}
use Rattle.ufs_tree.proofs.HolderLemmas.{others_keep}
use Rattle.ufs_tree.proofs.counts.Counts.replace.Goals as goal

pub returns-clause-others : goal.returns-clause-others
returns-clause-others g c =
    others_keep (eq_by_cmp g.K.Ord.cmp) (is_at (g.Q.Comparable.compare c.args.key)) c.args.self.now (record { entries = c.get_mut.follows.lender c.args.count }) ((c.get_mut.follows.holds c.args.count).3 c.requires).3
