use Rattle.std.proofs.Common.{length}
use Rattle.ufs_gathered.proofs.Cleaned.{alone_again, held_by, known_by, lends_bare, numbers_by}
use Rattle.ufs_gathered.proofs.finishing.commit_straight.Goals as goal

pub commit_all-done-requires-clause-bare : goal.commit_all-done-requires-clause-bare
commit_all-done-requires-clause-bare g c = lends_bare c.args.pools.now c.requires.alone

pub returns-clause-there : goal.returns-clause-there
returns-clause-there g c = let e = c.commit_all-done.ensures in held_by _ c.commit_all-done.result _ _ _ _ _ _ e.names e.short

pub returns-clause-numbers : goal.returns-clause-numbers
returns-clause-numbers g c file = let e = c.commit_all-done.ensures in numbers_by _ c.commit_all-done.result _ _ _ _ (length c.args.files.now) _ _ e.files e.short file

pub returns-clause-alone : goal.returns-clause-alone
returns-clause-alone g c = let e = c.commit_all-done.ensures in alone_again c.args.pools.now c.commit_all-done.new.guest c.requires.alone e.bare e.beside

pub returns-clause-known : goal.returns-clause-known
returns-clause-known g c = let e = c.commit_all-done.ensures in known_by _ c.commit_all-done.result _ _ _ _ e.names e.files
