use Rattle.std.proofs.Common.{ℕ, List, ◌≡◌, ◌++◌, take}
use Rattle.std.specs.List.{filter_map, enumerate_from}
use Rattle.ufs_damage.specs.Kinds.{earlier_damage, is_known}
use Rattle.ufs_damage.specs.Known.{is_among}
use Rattle.ufs_damage.proofs.names.push_twice_of.Given as goal

abbrev pub invariant-loop-place : goal.invariant-loop-place
invariant-loop-place l = record {
  known : (other : List ℕ) → is_among l.known.keys other ≡ is_known (take l.place l.slots) other;
  told : l.list ≡ l.fn.list ++ filter_map (earlier_damage l.slots l.dir) (enumerate_from 0 (take l.place l.slots));
}
