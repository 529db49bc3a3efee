use Rattle.ufs_promise_laws.proofs.Files.{stays_all, bare_all, unset_all, stands_on}
use Rattle.ufs_promise_laws.proofs.NumberedNames.{number_paths}
use Rattle.ufs_promise_laws.proofs.names.files_law.Goals as goal
use Rattle.std.proofs.Common.{inl, arith}

pub returns-clause-others : goal.returns-clause-others
returns-clause-others c cat s xs number inode off = stays_all c.args.geometry.now number cat cat s xs inode off

pub returns-clause-born : goal.returns-clause-born
returns-clause-born c cat s xs number inode older may on file = bare_all c.args.geometry.now number cat older cat s xs inode may (inl on) file

pub returns-clause-unset : goal.returns-clause-unset
returns-clause-unset c cat s xs number inode place block has older may off at file = unset_all c.args.geometry.now number cat older cat s xs inode place block has may off at file

pub returns-clause-stands : goal.returns-clause-stands
returns-clause-stands c blocks s d xs number start history names more files n m kept go = stands_on c.args.geometry.now blocks s d xs number start history names more files n m kept go

pub returns-clause-paths : goal.returns-clause-paths
returns-clause-paths c cat s n paths m has names same table told numbers =
    number_paths c.args.geometry.now (record { from_one = omega arith; within = omega (arith, c.requires.least_inodes) }) cat s n paths m has names same table told numbers
