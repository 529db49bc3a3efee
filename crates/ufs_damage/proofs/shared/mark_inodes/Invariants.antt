use Rattle.std.proofs.Common.{[], take}
use Rattle.ufs_image.specs.Damage.{holders}
use Rattle.ufs_damage.specs.Kinds.{nodes_in}
use Rattle.ufs_damage.specs.Marks.{AreMarks}
use Rattle.ufs_damage.proofs.shared.mark_inodes.Given as goal

abbrev pub invariant-loop-k : goal.invariant-loop-k
invariant-loop-k l = AreMarks l.initial.marks (λ k. []) → AreMarks l.marks (holders (nodes_in l.geometry (take l.k l.forms)))
