use Rattle.std.proofs.Common.{◌≡◌, ◌+◌, ◌≤◌, ◌++◌, length, map}
use Rattle.std.specs.Vec.{vec_capacity, vec_len}
use Rattle.ufs_loads.specs.Loads.{entry_load}
use Rattle.ufs_loads.proofs.loads.list_all.Given as goal

-- what is listed and what is left are all, and there is room for what is left
abbrev pub invariant-loop-file : goal.invariant-loop-file
invariant-loop-file l = record {
  listed : l.loads.items ++ map entry_load l.file-iterator ≡ map entry_load l.noted.entries;
  room : vec_len l.loads + length l.file-iterator ≤ vec_capacity l.loads;
}
