use Rattle.std.proofs.Common.{[]}
use Rattle.ufs_extent.specs.Runs.{blocks_of}
use Rattle.ufs_bitmap.proofs.OwnerLemmas.{owners_are_apart, owners_stay_apart}
use Rattle.ufs_file_tests.proofs.two_files.first_gets.Goals as goal

pub applied-requires-clause-apart : goal.applied-requires-clause-apart
applied-requires-clause-apart c = owners_are_apart c.args.pool.now [] (blocks_of c.args.first.now.extents) (blocks_of c.args.second.now.extents) c.requires.apart

pub returns-clause-apart : goal.returns-clause-apart
returns-clause-apart c =
    owners_stay_apart c.args.pool.now c.applied.new.pool [] (blocks_of c.args.first.now.extents) (blocks_of c.applied.new.file.extents) (blocks_of c.args.second.now.extents)
    c.requires.apart c.applied.ensures.apart c.applied.ensures.together
