use Rattle.std.proofs.Common.{◌≡◌, ◌++◌, take, flat_map, map, filter}
use Rattle.ufs_image.specs.Nodes.{Dir, NamedSlot, names_of}
use Rattle.ufs_image.specs.Damage.{NameTwice, is_name_twice}
use Rattle.ufs_damage.proofs.names.push_twice.Given as goal

abbrev pub invariant-loop-dir : goal.invariant-loop-dir
invariant-loop-dir l = l.list ≡ l.fn.list ++ flat_map (λ (d : Dir). map (λ (n : NamedSlot). NameTwice d.inode n.0) (filter (is_name_twice d) (names_of d))) (take l.dir-index l.dirs)
