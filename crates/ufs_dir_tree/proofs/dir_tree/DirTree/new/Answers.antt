use Rattle.std.proofs.Common.{◌+◌, ap, sym, ◌∙◌, arith}
use Rattle.ufs_bitmap.specs.Space.{Space}
use Rattle.ufs_dir_tree.specs.DirTable.{DirTable}
use Rattle.ufs_dir_tree.proofs.FirstLemmas.{first_is_table, nothing_else, nothing_apart}
use Rattle.ufs_dir_tree.proofs.dir_tree.DirTree.new.Goals as goal

pub invariant_of-result : goal.invariant_of-result
invariant_of-result c =
    let t : DirTable = record { dirs = c.in_ok-dirs.dirs.items; free = c.in_ok-free.free.free } in
    let counted = c.in_ok-dirs.ensures.counted in
    let free = c.in_ok-free.ensures in
    (first_is_table t c.in_ok-dirs.ensures.bare (c.args.inodes + 1) (omega (arith, c.requires.some)) counted (ap (λ (s : Space). s.free) free), ap (λ (s : Space). s.first) free, ap (λ (s : Space). s.blocks) free ∙ sym counted, omega (arith, counted, c.requires.few))

pub returns-clause-others : goal.returns-clause-others
returns-clause-others c names below =
    let t : DirTable = record { dirs = c.in_ok-dirs.dirs.items; free = c.in_ok-free.free.free } in
    nothing_else t c.in_ok-dirs.ensures.bare names below

pub returns-clause-apart : goal.returns-clause-apart
returns-clause-apart c pool =
    let t : DirTable = record { dirs = c.in_ok-dirs.dirs.items; free = c.in_ok-free.free.free } in
    nothing_apart t c.in_ok-dirs.ensures.bare pool
