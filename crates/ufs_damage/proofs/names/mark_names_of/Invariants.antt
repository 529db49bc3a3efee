use Rattle.std.proofs.Common.{ℕ, List, ◌++◌, take}
use Rattle.ufs_damage.specs.Marks.{AreMarks, slots_naming}
use Rattle.ufs_damage.proofs.names.mark_names_of.Given as goal

abbrev pub invariant-loop-slot : goal.invariant-loop-slot
invariant-loop-slot l = (held : ℕ → List ℕ) → AreMarks l.initial.marks held → AreMarks l.marks (λ k. held k ++ slots_naming l.dir (take l.slot-index l.slots) k)
