use Rattle.ufs_promise_laws.proofs.Commits.{leads, may_commit, rises}
use Rattle.ufs_promise_laws.proofs.Sounded.{is_sound}
use Rattle.ufs_promise_laws.proofs.Joined.{joined}
use Rattle.std.proofs.Common.{arith}
use Rattle.ufs_dir_laws.proofs.Walked.{meets}
use Rattle.ufs_promise_laws.proofs.names.change_law.Goals as goal

pub returns-clause-told : goal.returns-clause-told
returns-clause-told c cat s xs number has older may = leads c.args.geometry.now cat s xs number has older may

pub returns-clause-sound : goal.returns-clause-sound
returns-clause-sound c cat s has names = is_sound c.args.geometry.now cat s has names

pub returns-clause-may : goal.returns-clause-may
returns-clause-may c s d xs number has covers zeroed older below may names = may_commit c.args.geometry.now c.requires s d xs number has covers zeroed older below may names

pub returns-clause-numbers : goal.returns-clause-numbers
returns-clause-numbers c cat t older = rises c.args.geometry.now cat t older

pub returns-clause-joined : goal.returns-clause-joined
returns-clause-joined c s xs ys = joined c.args.geometry.now s xs ys

pub returns-clause-walks : goal.returns-clause-walks
returns-clause-walks c cat s has names walk =
    meets c.args.geometry.now cat s.table (is_sound c.args.geometry.now cat s has names) has.table.slots (record { from_one = omega arith; within = omega (arith, c.requires.least_inodes) }) walk
