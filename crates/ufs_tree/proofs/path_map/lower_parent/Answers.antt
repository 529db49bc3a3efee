use Rattle.std.proofs.Common.{◌-◌, ap, cond, sym, ◌∙◌}
use Rattle.ufs_tree.specs.Counted.{dir_count}
use Rattle.ufs_tree.proofs.CountedLemmas.{entry_above}
use Rattle.ufs_tree.proofs.HolderLemmas.{dir_less}
use Rattle.ufs_tree.proofs.path_map.lower_parent.Goals as goal

pub returns : goal.returns
returns c d =
    dir_less c.args.entries.now c.lower.new.self c.parent.result.now c.lower.ensures.less c.lower.ensures.others d
    ∙ ap (λ b. dir_count c.args.entries.now d - cond b 1 0) (entry_above c.args.path.now c.parent.result.now d c.parent.ensures (sym c.is_root.ensures ∙ c.if-is_root.false))
