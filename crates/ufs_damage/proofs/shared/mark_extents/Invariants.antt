use Rattle.std.proofs.Common.{ℕ, List, flat_map, take}
use Rattle.std.specs.List.{range_with_len}
use Rattle.ufs_layout.specs.declared.inode.Extent.{Extent}
use Rattle.ufs_damage.specs.Marks.{AreMarks, all_more}
use Rattle.ufs_damage.proofs.shared.mark_extents.Given as goal

abbrev pub invariant-loop-extent : goal.invariant-loop-extent
invariant-loop-extent l = (holders : ℕ → List ℕ) → AreMarks l.initial.marks holders → AreMarks l.marks (all_more holders l.inode (flat_map (λ (e : Extent). range_with_len e.start e.length) (take l.extent-index l.extents)))
