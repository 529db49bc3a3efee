use Rattle.ufs_promise_laws.proofs.Parted.{is_part}
use Rattle.ufs_promise_laws.proofs.trees.names_part_law.Goals as goal

pub returns : goal.returns
returns c image v cat t n is tree has once closed of = is_part c.args.sectors image v cat t n is tree has once closed of
