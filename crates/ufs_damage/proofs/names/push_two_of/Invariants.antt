use Rattle.std.proofs.Common.{List, ◌≡◌, ◌++◌}
use Rattle.std.specs.List.{range_with_len, filter_map}
use Rattle.ufs_base.specs.Choices.{some_if}
use Rattle.ufs_image.specs.Nodes.{Dir}
use Rattle.ufs_image.specs.Damage.{TwoNames, has_two_names}
use Rattle.ufs_damage.specs.Marks.{AreMarks, naming}
use Rattle.ufs_damage.proofs.names.push_two_of.Given as goal

abbrev pub invariant-loop-k : goal.invariant-loop-k
invariant-loop-k l = (dirs : List Dir) → AreMarks l.marks (naming dirs) → l.list ≡ l.fn.list ++ filter_map (λ i. some_if (has_two_names dirs i) (TwoNames i)) (range_with_len 1 l.k)
