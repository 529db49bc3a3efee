use Rattle.std.specs.BTreeMap.{is_at}
use Rattle.std.specs.Ordering.{eq_by_cmp}
use Rattle.ufs_tree.proofs.HolderLemmas.{others_keep}
use Rattle.ufs_tree.proofs.counts.Counts.lower.Goals as goal

pub returns-then-count-le1-clause-others : goal.returns-then-count-le1-clause-others
returns-then-count-le1-clause-others g c =
    others_keep (eq_by_cmp g.K.Ord.cmp) (is_at (g.Q.Comparable.compare c.args.key)) c.args.self.now (record { entries = c.remove-number.new.self }) c.remove-number.ensures.updates.3
