-- How far a server raises the numbers of a store.
use Rattle.std.specs.Prelude.{ℕ, ◌+◌}
use Rattle.ufs_layout.specs.declared.geometry.Geometry.{Geometry}

-- By this at most the epoch and the next commit number rise where everything is committed: by one for each file, of which there are
-- no more than inodes, and by one for the names.
abbrev pub most_committed : Geometry → ℕ
most_committed g = g.inodes + 2

-- By this at most a request raises them: everything may be committed, a checkpoint made, and the names be committed before and
-- behind.
abbrev pub most_raised : Geometry → ℕ
most_raised g = most_committed g + 3
