use Rattle.std.proofs.Common.{arith}
use Rattle.ufs_dir_laws.proofs.Walked.{meets}
use Rattle.ufs_dir_laws.proofs.walks_meet_law.Goals as goal

pub returns : goal.returns
returns c cat t sound has names = meets c.args.geometry.now cat t sound has (record { from_one = omega arith; within = omega (arith, c.requires.least_inodes) }) names
