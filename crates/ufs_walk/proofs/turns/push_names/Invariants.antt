use Rattle.std.proofs.Common.{◌≡◌, ℕ, ◌-◌, ◌++◌, List, length, take}
use Rattle.std.specs.Prelude.{flat_map}
use Rattle.std.specs.BTreeMap.{BTreeMap}
use Rattle.std.specs.List.{enumerate_from}
use Rattle.ufs_image.specs.Nodes.{Dir, names_of}
use Rattle.ufs_walk.specs.Waits.{below_in, left}
use Rattle.ufs_walk.specs.Walked.{place_and_below}
use Rattle.ufs_walk.proofs.turns.push_names.Given as goal

abbrev pub invariant-loop-back : goal.invariant-loop-back
invariant-loop-back l = (dirs : List Dir) (index : BTreeMap ℕ ℕ)
    → flat_map (place_and_below (below_in l.depth dirs index) l.path) (names_of (record { inode = 0; slots = enumerate_from 0 (take (length l.slots - l.back) l.slots) })) ++ left dirs index l.waiting.items
    ≡ flat_map (place_and_below (below_in l.depth dirs index) l.path) (names_of (record { inode = 0; slots = enumerate_from 0 l.slots })) ++ left dirs index l.fn.waiting.items
