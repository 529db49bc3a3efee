use Rattle.ufs_start.proofs.used.end_without.Goals as goal

pub returns-in-Lack-clause-lack : goal.returns-in-Lack-clause-lack
returns-in-Lack-clause-lack c = c.requires.lack c.in-Lack.lack c.in-Lack.is
