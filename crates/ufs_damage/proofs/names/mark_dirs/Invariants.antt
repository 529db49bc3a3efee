use Rattle.std.proofs.Common.{[], take}
use Rattle.ufs_damage.specs.Marks.{AreMarks, naming}
use Rattle.ufs_damage.proofs.names.mark_dirs.Given as goal

abbrev pub invariant-loop-dir : goal.invariant-loop-dir
invariant-loop-dir l = AreMarks l.initial.marks (λ k. []) → AreMarks l.marks (naming (take l.dir-index l.dirs))
