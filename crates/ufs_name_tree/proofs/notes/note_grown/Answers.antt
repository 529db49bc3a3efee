use Rattle.std.proofs.Common.{ℕ, List, length, ap, arith}
use Rattle.ufs_dir_tree.specs.DirTable.{dir_at}
use Rattle.ufs_name_tree.proofs.ExtentLemmas.{few_blocks}
use Rattle.ufs_name_tree.proofs.notes.note_grown.Goals as goal

pub dir_record-requires-clause-count : goal.dir_record-requires-clause-count
dir_record-requires-clause-count c =
    let read = c.blocks-then-is_some.ensures in
    omega (arith, ap (λ (bs : List ℕ). length bs) read.blocks, few_blocks (dir_at c.args.dirs.now c.args.dir) read.whole)
