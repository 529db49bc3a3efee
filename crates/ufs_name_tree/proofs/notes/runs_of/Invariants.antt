use Rattle.std.proofs.Common.{◌≡◌, take}
use Rattle.ufs_dir_tree.specs.Space.{extents_of}
use Rattle.ufs_name_tree.proofs.notes.runs_of.Given as goal

abbrev pub invariant-loop-block : goal.invariant-loop-block
invariant-loop-block l = l.runs ≡ extents_of (take l.block-index l.blocks)
