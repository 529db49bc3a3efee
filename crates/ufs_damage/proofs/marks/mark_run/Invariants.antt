use Rattle.std.proofs.Common.{ℕ, List}
use Rattle.std.specs.List.{range_with_len}
use Rattle.ufs_damage.specs.Marks.{AreMarks, all_more}
use Rattle.ufs_damage.proofs.marks.mark_run.Given as goal

abbrev pub invariant-loop-k : goal.invariant-loop-k
invariant-loop-k l = (holders : ℕ → List ℕ) → AreMarks l.initial.marks holders → AreMarks l.marks (all_more holders l.holder (range_with_len l.start l.k))
