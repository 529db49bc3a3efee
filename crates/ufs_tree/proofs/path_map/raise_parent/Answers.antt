use Rattle.std.proofs.Common.{rules, ◌≡◌, ◌+◌, ap, cond, sym, ◌∙◌}
use Rattle.ufs_tree.specs.Counted.{dir_count}
use Rattle.ufs_tree.proofs.CountedLemmas.{entry_above}
use Rattle.ufs_tree.proofs.HolderLemmas.{dir_more}
use Rattle.ufs_tree.proofs.path_map.raise_parent.Goals as goal

pub returns-clause-ok : goal.returns-clause-ok
returns-clause-ok c d =
    let copied : c.in_ok-dir.dir.items ≡ c.parent.result.now = search rules in
    dir_more c.args.entries.now c.raise.new.self c.in_ok-dir.dir.items c.in_ok-raise.ensures.more c.in_ok-raise.ensures.others d
    ∙ ap (λ b. dir_count c.args.entries.now d + cond b 1 0) (entry_above c.args.path.now c.in_ok-dir.dir.items d (copied ∙ c.parent.ensures) (sym c.is_root.ensures ∙ c.if-is_root.false))
